-- The cells over a node that a move cuts: where the node is near its plan, those from a height up.
use Rattle.std.proofs.Common.{ℕ, ◌≡◌, ◌↔◌, ℤ, pos, ◌+ℤ◌, ◌-ℤ◌, ◌≤ℤ◌, ◌<ℤ◌, List, [], ◌∷◌, ◌++◌, ⊎_elim, sym, ap, ◌∙◌, subst, arith}
use Rattle.std.proofs.lemmas.Int.{by_lt_z}
use Rattle.std.proofs.lemmas.List.Elements.{Contains-push, Contains-push_cases, Contains-append_left}
use Rattle.std.specs.Int.{int_min}
use Rattle.sn_outline.specs.Job.{Job}
use Rattle.sn_geom.proofs.Ring.{sums}
use Rattle.sn_geom.specs.declared.units.Pt.{Pt}
use Rattle.sn_geom.specs.declared.units.Pt3.{Pt3}
use Rattle.sn_geom.specs.declared.units.Cell.{Cell}
use Rattle.sn_geom.specs.Sweep.{Near, IsHorizontalOrVertical, plan}
use Rattle.sn_geom.specs.SweepLaws.{TouchByHeightAndPlan}
use Rattle.sn_raster.specs.Grid.{IsGridOf, Grid, Node, IsInWindow, place}
use Rattle.sn_raster.proofs.Marks.{in_own_window}
use Rattle.sn_raster.specs.Heights.{node_of, low_end, HeightMap, HasCell, Pass, IsCutBy, StandsFor}
use Rattle.sn_raster.proofs.HeightMaps.{cell}

-- the cells that a pass cuts
pub cut_iff : TouchByHeightAndPlan → (pitch : ℕ) (pass : Pass) (c : Cell) → IsHorizontalOrVertical pass.from pass.to
    → IsCutBy pitch pass c ↔ (((int_min pass.from.z pass.to.z +ℤ pos pass.body.e) ≤ℤ c.z) × Near pass.body.d (plan pass.from) (plan pass.to) (place pitch (node_of c)))
cut_iff law pitch pass c straight =
    let iff = law pass.body.d pass.from pass.to (record (low_end pitch c) { z = c.z -ℤ pos pass.body.e }) straight in
    ((λ cut. let tests = iff.0 cut in (omega (arith, sums, tests.0), tests.1)), (λ (high, near). iff.1 (omega (arith, sums, high), near)))

-- the node that is tested is that under the cell
pub near_node : (pitch d : ℕ) (a b : Pt3) (c : Cell) (n : Node) (p q r : Pt) → p ≡ plan a → q ≡ plan b → r ≡ place pitch n → node_of c ≡ n
    → Near d p q r ↔ Near d (plan a) (plan b) (place pitch (node_of c))
near_node pitch d a b c n p q r e f h is =
    let same : r ≡ place pitch (node_of c) = h ∙ ap (place pitch) (sym is) in
    let P : Pt → Type 0 = λ x. Near d x q r in
    let Q : Pt → Type 0 = λ x. Near d (plan a) x r in
    let R : Pt → Type 0 = λ x. Near d (plan a) (plan b) x in
    ((λ near. subst R same (subst Q f (subst P e near))), (λ near. subst P (sym e) (subst Q (sym f) (subst R (sym same) near))))

-- the cells over one node, by their heights
pub over_node : (old new : HeightMap) (n : Node) (to : ℤ) (c : Cell)
    → ((z : ℤ) → HasCell new (cell n.i n.j z) ↔ (HasCell old (cell n.i n.j z) × (z <ℤ to))) → node_of c ≡ n
    → HasCell new c ↔ (HasCell old c × (c.z <ℤ to))
over_node old new n to c over is =
    let P : Node → Type 0 = λ m. HasCell new (cell m.i m.j c.z) ↔ (HasCell old (cell m.i m.j c.z) × (c.z <ℤ to)) in
    subst P (sym is) (over c.z)

-- over a node that is near the move the cells from that height up are taken away
pub cut_near : TouchByHeightAndPlan → (pitch : ℕ) (pass : Pass) (old new : HeightMap) (to : ℤ) (c : Cell) → IsHorizontalOrVertical pass.from pass.to
    → to ≡ int_min pass.from.z pass.to.z +ℤ pos pass.body.e → Near pass.body.d (plan pass.from) (plan pass.to) (place pitch (node_of c))
    → HasCell new c ↔ (HasCell old c × (c.z <ℤ to)) → HasCell new c ↔ (HasCell old c × ¬ IsCutBy pitch pass c)
cut_near law pitch pass old new to c straight is near over =
    let iff = cut_iff law pitch pass c straight in (
      λ has. let kept = over.0 has in (kept.0, λ cut. let tests = iff.0 cut in omega (arith, sums, is, kept.1, tests.0)),
      λ (has, uncut). over.1 (has, by_lt_z c.z to (λ below. below) (λ high. absurd (uncut (iff.1 (omega (arith, sums, is, high), near))))),
    )

-- over a node that is not near the move no cell is cut
pub cut_far : TouchByHeightAndPlan → (pitch : ℕ) (pass : Pass) (old : HeightMap) (c : Cell) → IsHorizontalOrVertical pass.from pass.to
    → ¬ Near pass.body.d (plan pass.from) (plan pass.to) (place pitch (node_of c)) → HasCell old c ↔ (HasCell old c × ¬ IsCutBy pitch pass c)
cut_far law pitch pass old c straight far = ((λ has. (has, λ cut. far ((cut_iff law pitch pass c straight).0 cut).1)), (λ both. both.0))

-- the cells that are left of some after a pass
abbrev pub IsKept : HeightMap → ℕ → Pass → Cell → Type 0
IsKept map pitch pass c = HasCell map c × ¬ IsCutBy pitch pass c

pub kept_in_window : (map : HeightMap) (g : Grid) (pass : Pass) → map.grid ≡ g → (c : Cell) → IsKept map g.pitch pass c → IsInWindow g (node_of c)
kept_in_window map g pass same c kept = in_own_window g map.grid (node_of c) (sym same) kept.0.in_window

-- the material after one pass more
pub material_after : (old new : HeightMap) (pass : Pass) → new.grid ≡ old.grid → ((c : Cell) → HasCell new c ↔ IsKept old old.grid.pitch pass c)
    → (job : Job) (passes : List Pass) → StandsFor old job passes → StandsFor new job (passes ++ pass ∷ [])
material_after old new pass same cells job passes stands =
    let G : Grid → Type 0 = λ g. IsGridOf g job in
    let cut : (c : Cell) → IsCutBy old.grid.pitch pass c ↔ IsCutBy job.pitch pass c = λ c.
    let P : ℕ → Type 0 = λ pitch. IsCutBy pitch pass c in
    ((λ h. subst P stands.grid.pitch h), (λ h. subst P (sym stands.grid.pitch) h)) in
    record {
      grid = subst G (sym same) stands.grid;
      cells = λ c. (
        λ has.
            let kept = (cells c).0 has in
            let before = (stands.cells c).0 kept.0 in
            record {
              raw = before.raw;
              uncut = λ other among.
                  ⊎_elim (λ earlier. before.uncut other earlier)
                  (λ (last : pass ≡ other). let P : Pass → Type 0 = λ p. ¬ IsCutBy job.pitch p c in subst P last (λ h. kept.1 ((cut c).1 h)))
                  (Contains-push_cases passes pass other among);
            },
        λ material. (cells c).1 ((stands.cells c).1 (record { raw = material.raw; uncut = λ other among. material.uncut other (Contains-append_left passes (pass ∷ []) other among) }), λ h. material.uncut pass (Contains-push passes pass) ((cut c).0 h)),
      );
    }

-- over a node that is not near the move the cells are left
pub kept_far : TouchByHeightAndPlan → (map : HeightMap) (g : Grid) (pass : Pass) (c : Cell) (p q : Pt) → map.grid ≡ g → IsHorizontalOrVertical pass.from pass.to → p ≡ plan pass.from → q ≡ plan pass.to
    → (IsInWindow g (node_of c) → ¬ Near pass.body.d p q (place g.pitch (node_of c))) → HasCell map c ↔ IsKept map g.pitch pass c
kept_far law map g pass c p q same straight e f far = (
  λ has.
      let P : Pt → Type 0 = λ x. Near pass.body.d x q (place g.pitch (node_of c)) in
      let Q : Pt → Type 0 = λ x. Near pass.body.d (plan pass.from) x (place g.pitch (node_of c)) in
      (has, λ cut. far (in_own_window g map.grid (node_of c) (sym same) has.in_window) (subst P (sym e) (subst Q (sym f) ((cut_iff law g.pitch pass c straight).0 cut).1))),
  λ both. both.0,
)
