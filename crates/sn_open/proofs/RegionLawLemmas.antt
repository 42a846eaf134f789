-- The laws of regions.
use Rattle.std.proofs.Common.{ℕ, zero, suc, ◌≡◌, ◌*◌, ◌↔◌, ◌⊎◌, inl, inr, ⊎_elim, List, [], ◌∷◌, ◌++◌, refl, sym, ap, subst, arith}
use Rattle.std.specs.Prelude.{Contains}
use Rattle.std.proofs.lemmas.Int.{ints}
use Rattle.sn_geom.proofs.Ring.{sums}
use Rattle.sn_geom.proofs.Discs.{disc_of_nothing, disc_has_centre}
use Rattle.sn_geom.specs.declared.units.Cell.{Cell}
use Rattle.sn_geom.specs.declared.units.Pt.{Pt}
use Rattle.sn_geom.specs.Sweep.{Disc, Near}
use Rattle.sn_outline.specs.Job.{Job}
use Rattle.sn_outline.specs.declared.job.StepJob.{StepJob}
use Rattle.sn_outline.specs.Outline.{NearTrail}
use Rattle.sn_raster.specs.Grid.{Node, place}
use Rattle.sn_raster.specs.Heights.{node_of}
use Rattle.sn_open.specs.Region.{InAllowed, IsStepOf, HasLeastSide, HasLeastUnder, InBlock, IsRequiredBy, IsRequiredHeight, IsRequiredCell}
use Rattle.sn_open.specs.RegionLaws.{IsWithinTwo, IsBetween, FollowerOpensItsWay, RoundedFitsDiscs, OneStepIsRequired, LeastAllowancesCount}

-- Trails.

first_is : (a b : Pt) (more others : List Pt) → a ∷ more ≡ b ∷ others → a ≡ b
first_is a b more others e = cc

later_are : (a b : Pt) (more others : List Pt) → a ∷ more ≡ b ∷ others → more ≡ others
later_are a b more others e = cc

not_empty : (before : List Pt) (a : Pt) (after : List Pt) → [] ≡ before ++ a ∷ after → ⊥
not_empty [] a after e = cc
not_empty (b ∷ bs) a after e = cc

trail_parts : (width : ℕ) (a b p : Pt) (more : List Pt) → NearTrail (a ∷ b ∷ more) width p → Near width a b p ⊎ NearTrail (b ∷ more) width p
trail_parts width a b p more ([], c, d, after, e, near) =
    let second = first_is b d more after (later_are a c (b ∷ more) (d ∷ after) e) in
    let from_first = subst (λ q. Near width q d p) (sym (first_is a c (b ∷ more) (d ∷ after) e)) near in
    inl (subst (λ q. Near width a q p) (sym second) from_first)
trail_parts width a b p more (first ∷ before, c, d, after, e, near) =
    inr (before, c, d, after, later_are a first (b ∷ more) (before ++ c ∷ d ∷ after) e, near)

trail_whole : (width : ℕ) (a b p : Pt) (more : List Pt) → Near width a b p ⊎ NearTrail (b ∷ more) width p → NearTrail (a ∷ b ∷ more) width p
trail_whole width a b p more (inl near) = ([], a, b, more, refl, near)
trail_whole width a b p more (inr (before, c, d, after, e, near)) = (a ∷ before, c, d, after, ap (λ ps. a ∷ ps) e, near)

one_point : (width : ℕ) (a p : Pt) → ¬ NearTrail (a ∷ []) width p
one_point width a p ([], c, d, after, e, near) = not_empty [] d after (later_are a c [] (d ∷ after) e)
one_point width a p (first ∷ before, c, d, after, e, near) = not_empty before c (d ∷ after) (later_are a first [] (before ++ c ∷ d ∷ after) e)

one_segment : (width : ℕ) (a b p : Pt) → NearTrail (a ∷ b ∷ []) width p → Near width a b p
one_segment width a b p near = ⊎_elim (λ first. first) (λ later. absurd (one_point width b p later)) (trail_parts width a b p [] near)

pub follower_opens_its_way : FollowerOpensItsWay
follower_opens_its_way job step a b width n = (
  λ opened. (opened.raw, one_segment step.body.d a b (place job.pitch n) opened.reached),
  λ (raw, near). record { raw = raw; reached = trail_whole step.body.d a b (place job.pitch n) [] (inl near) },
)

-- Cells that have to be cut.

same_place_allowed : (job : Job) (step : StepJob) (q n : Node) → place job.pitch n ≡ place job.pitch q → InAllowed job step q → InAllowed job step n
same_place_allowed job step q n same allowed m near = allowed m (subst (λ p. Disc (2 * step.side) p (place job.pitch m)) same near)

pub rounded_fits_discs : RoundedFitsDiscs
rounded_fits_discs job step q = (
  λ (centre, inside, all). all q inside,
  λ none (centre, inside, all). let (m, near, other) = none centre in other (all m near),
  λ sharp allowed. (
    q,
    disc_has_centre step.corner (place job.pitch q),
    λ n near. same_place_allowed job step q n
        (disc_of_nothing (place job.pitch q) (place job.pitch n) (subst (λ d. Disc d (place job.pitch q) (place job.pitch n)) sharp near)) allowed,
  ),
)

pub to_block : (n m : Node) → IsWithinTwo n m → InBlock n m
to_block n m (left, right, front, back) = record { columns = omega (arith, ints, sums); rows = omega (arith, ints, sums) }

from_block : (n m : Node) → InBlock n m → IsWithinTwo n m
from_block n m block =
    let columns = block.columns in
    let rows = block.rows in
    (omega (arith, ints, sums), omega (arith, ints, sums), omega (arith, ints, sums), omega (arith, ints, sums))

-- where one step alone has the least side allowance, and one the least bottom allowance
required_between : (job : Job) (feature : ℕ) (side under : StepJob) (c : Cell)
    → HasLeastSide job feature side → ((s : StepJob) → HasLeastSide job feature s → s ≡ side)
    → HasLeastUnder job feature under → ((s : StepJob) → HasLeastUnder job feature s → s ≡ under)
    → IsRequiredCell job feature c ↔ IsBetween job side under c
required_between job feature side under c least_side only_side least_under only_under = (
  λ required.
      let (s, least, by_s) = required.node in
      let by = subst (λ t. IsRequiredBy job t (node_of c)) (only_side s least) by_s in
      let height = subst (λ t. IsRequiredHeight t c.z) (only_under required.deepest required.least) required.height in
      (required.raw, (λ m beside raw. by.block m (to_block (node_of c) m beside) raw), height.above, height.below),
  λ (raw, block, above, below).
      record {
        raw = raw;
        node = (side, least_side, record { raw = raw.node; block = λ m near. block m (from_block (node_of c) m near) });
        deepest = under;
        least = least_under;
        height = record { above = above; below = below };
      },
)

pub one_step_is_required : OneStepIsRequired
one_step_is_required job feature step c (executed, cuts, only) =
    let of_feature : IsStepOf job feature step = record { executed = executed; cuts = cuts } in
    required_between job feature step step c
    (record { of_feature = of_feature; least = λ other of. let e = ap (λ s. s.side) (only other of.executed of.cuts) in omega arith })
    (λ s least. only s least.of_feature.executed least.of_feature.cuts)
    (record { of_feature = of_feature; least = λ other of. let e = ap (λ s. s.under) (only other of.executed of.cuts) in omega arith })
    (λ s least. only s least.of_feature.executed least.of_feature.cuts)

one_of_two : (a b s : StepJob) → Contains (a ∷ b ∷ []) s → (s ≡ a) ⊎ (s ≡ b)
one_of_two a b s (zero, below, is) = inl (sym is)
one_of_two a b s (suc zero, below, is) = inr (sym is)
one_of_two a b s (suc (suc k), below, is) = absurd (omega arith)

pub least_allowances_count : LeastAllowancesCount
least_allowances_count job feature a b c steps cuts_a cuts_b side under =
    let which : (s : StepJob) → IsStepOf job feature s → (s ≡ a) ⊎ (s ≡ b) = (λ s of. one_of_two a b s (subst (λ all. Contains all s) steps of.executed)) in
    let of_a : IsStepOf job feature a = record { executed = subst (λ all. Contains all a) (sym steps) (0, omega arith, refl); cuts = cuts_a } in
    let of_b : IsStepOf job feature b = record { executed = subst (λ all. Contains all b) (sym steps) (1, omega arith, refl); cuts = cuts_b } in
    required_between job feature a b c
    (record {
      of_feature = of_a;
      least = λ other of. ⊎_elim (λ e. let f = ap (λ s. s.side) e in omega arith) (λ e. let f = ap (λ s. s.side) e in omega arith) (which other of);
    })
    (λ s least. ⊎_elim (λ e. e) (λ e. let f = ap (λ s. s.side) e in let h = least.least a of_a in absurd (omega arith)) (which s least.of_feature))
    (record {
      of_feature = of_b;
      least = λ other of. ⊎_elim (λ e. let f = ap (λ s. s.under) e in omega arith) (λ e. let f = ap (λ s. s.under) e in omega arith) (which other of);
    })
    (λ s least. ⊎_elim (λ e. let f = ap (λ s. s.under) e in let h = least.least b of_b in absurd (omega arith)) (λ e. e) (which s least.of_feature))
