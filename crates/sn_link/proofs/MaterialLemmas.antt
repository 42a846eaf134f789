-- How high material stands, and what moves cut of it.
use Rattle.std.proofs.Common.{ℕ, ◌≡◌, ◌<◌, ◌≤◌, inl, inr, ⊎_elim, ℤ, pos, negsuc, ◌+ℤ◌, ◌≤ℤ◌, ◌<ℤ◌, List, [], ◌∷◌, ◌++◌, refl, append_assoc, append-nil, w32, to_z, of_z, sym, ap, ◌∙◌, subst, arith}
use lib.Signed.{mag}
use Rattle.std.proofs.lemmas.Int.{ints, to_z-of_z}
use Rattle.sn_geom.proofs.Ring.{sums}
use Rattle.sn_geom.specs.Length.{IsLength}
use Rattle.sn_geom.specs.declared.limits.TheConstants.{LEAST_PITCH}
use Rattle.sn_geom.specs.Tip.{tip_after}
use Rattle.sn_geom.specs.declared.tip.Tip.{Tip}
use Rattle.sn_geom.specs.declared.tip.Tip.TheVariants.{Unknown, Height, At}
use Rattle.sn_geom.specs.declared.units.Body.{Body}
use Rattle.sn_outline.specs.Job.{Job}
use Rattle.sn_outline.specs.declared.job.StepJob.{StepJob}
use Rattle.sn_raster.specs.Grid.{Grid, Node, IsGrid, IsInRaw, IsInWindow}
use Rattle.sn_raster.specs.GridLaws.{RawNodesAreTheJobs}
use Rattle.sn_raster.specs.Heights.{node_of, HeightMap, IsTopOfCells, Pass, StandsFor}
use Rattle.sn_raster.specs.Plane.{Plane, Has}
use Rattle.sn_open.specs.Planes.{AreAllowed, CellSet}
use Rattle.sn_link.specs.declared.moves.Move.{Move}
use Rattle.sn_link.specs.declared.moves.Move.TheVariants.{Rapid, Feed}
use Rattle.sn_link.specs.Moves.{end_of, AreStraight, tip_after_moves}
use Rattle.sn_link.specs.Plan.{IsHighest, passes_by}

-- a number that was passed on as one of 32 bits
pub small : (z : ℤ) → mag z < 2147483648 → to_z w32 (of_z w32 z) ≡ z
small (pos n) h = to_z-of_z w32 (pos n) (record { sfits = omega arith })
small (negsuc n) h = to_z-of_z w32 (negsuc n) (record { sfits = omega arith })

-- The height over allowed nodes.

-- an area of raw nodes
abbrev pub InRawOf : Grid → Plane → Node → Type 0
InRawOf g area n = IsInRaw g n × Has area n

bottom_length : (bottom top : ℤ) → top ≡ bottom → IsLength bottom → IsLength top
bottom_length bottom top e h = subst IsLength (sym e) h

cell_length : (low high z bottom raw top : ℤ) → z +ℤ pos 1 ≡ top → low ≤ℤ z → z <ℤ high → bottom ≡ low → raw ≡ high → IsLength bottom → IsLength raw → IsLength top
cell_length low high z bottom raw top e from below b r h k = omega (arith, ints, sums)

-- such a height is a length
pub top_length : (job : Job) (passes : List Pass) (map : HeightMap) (area : Plane) (top : ℤ) → IsGrid map.grid → StandsFor map job passes
    → IsTopOfCells map (InRawOf map.grid area) top → IsLength top
top_length job passes map area top rule stands is =
    ⊎_elim (λ e. bottom_length map.grid.bottom top e rule.heights.0)
    (λ (c, inside, has, e).
    let left = (stands.cells c).0 has in
    cell_length job.low.z job.high.z c.z map.grid.bottom map.grid.top top e left.raw.above left.raw.below stands.grid.heights.0 stands.grid.heights.1 rule.heights.0 rule.heights.1)
    is.reached

some_pitch : (pitch same : ℕ) → LEAST_PITCH ≤ pitch → pitch ≡ same → 0 < same
some_pitch pitch same h e = omega arith

pub top_is_highest : RawNodesAreTheJobs → (job : Job) (step : StepJob) (passes : List Pass) (map : HeightMap) (cells : CellSet) (top : ℤ) → IsGrid map.grid
    → cells.plane.grid ≡ map.grid → StandsFor map job passes → AreAllowed cells job step → IsTopOfCells map (InRawOf map.grid cells.plane) top
    → IsHighest job step passes top
top_is_highest raw job step passes map cells top rule same stands are is =
    let some = some_pitch map.grid.pitch job.pitch rule.pitch.at_least stands.grid.pitch in
    record {
      bounds = λ c left allowed.
          let has = (stands.cells c).1 left in
          is.none_above c
          ((raw map.grid job (node_of c) some stands.grid).1 left.raw.node, (are.nodes (node_of c) (subst (λ (g : Grid). IsInWindow g (node_of c)) (sym same) has.in_window)).1 allowed)
          has;
      reached = ⊎_elim (λ e. inl (e ∙ stands.grid.heights.0))
          (λ (c, inside, has, e).
          inr (c, (stands.cells c).0 has, (are.nodes (node_of c) (subst (λ (g : Grid). IsInWindow g (node_of c)) (sym same) has.in_window)).0 inside.1, sym e)) is.reached;
    }

-- What moves cut.

-- passes are cut after others of the heights before
abbrev pub Cuts : HeightMap → List Pass → HeightMap → Type 0
Cuts before more after = (job : Job) (passes : List Pass) → StandsFor before job passes → StandsFor after job (passes ++ more)

-- moves from a tip are made up to those left, which are made from the tip at: what is cut so far, and what then is cut
pub record IsCutTo (body : Body) (tip : Tip) (moves : List Move) (before after : HeightMap) (at : Tip) (left : List Move) : Type 0 where
  pub grid : after.grid ≡ before.grid
  pub straight : AreStraight at left
  pub end : tip_after_moves tip moves ≡ tip_after_moves at left
  pub made : List Pass
  pub cut : Cuts before made after
  pub passes : passes_by body tip moves ≡ made ++ passes_by body at left

-- a list with nothing at its end, or before it
with_none : (before : HeightMap) → Cuts before [] before
with_none before job passes stands = rw append-nil stands

pub none_cut : (body : Body) (tip : Tip) (moves : List Move) (before : HeightMap) → AreStraight tip moves
    → IsCutTo body tip moves before before tip moves
none_cut body tip moves before straight = record {
  grid = refl;
  straight = straight;
  end = refl;
  made = [];
  cut = with_none before;
  passes = refl;
}

first_pass : (body : Body) (at : Tip) (move : Move) (left : List Move)
    → passes_by body at (move ∷ left) ≡ passes_by body at (move ∷ []) ++ passes_by body (tip_after at (end_of move)) left
first_pass body at (Rapid p) left = refl
first_pass body Unknown (Feed p) left = refl
first_pass body (Height z) (Feed p) left = refl
first_pass body (At from) (Feed p) left = refl

both_cut : (before now after : HeightMap) (some more : List Pass) → Cuts before some now → Cuts now more after → Cuts before (some ++ more) after
both_cut before now after some more p q job passes stands = rw (← append_assoc) (q job (passes ++ some) (p job passes stands))

pub one_cut : (body : Body) (tip : Tip) (moves : List Move) (before now after : HeightMap) (at next : Tip) (move : Move) (left : List Move)
    → IsCutTo body tip moves before now at (move ∷ left) → after.grid ≡ now.grid → Cuts now (passes_by body at (move ∷ [])) after
    → next ≡ tip_after at (end_of move) → IsCutTo body tip moves before after next left
one_cut body tip moves before now after at next move left so_far same cut is = rw is (record {
  grid = same ∙ so_far.grid;
  straight = so_far.straight.1;
  end = so_far.end;
  made = so_far.made ++ passes_by body at (move ∷ []);
  cut = both_cut before now after so_far.made (passes_by body at (move ∷ [])) so_far.cut cut;
  passes = so_far.passes ∙ ap (λ ps. so_far.made ++ ps) (first_pass body at move left) ∙ sym (append_assoc so_far.made _ _);
})

pub all_cut : (body : Body) (tip : Tip) (moves : List Move) (before after : HeightMap) (at : Tip) → IsCutTo body tip moves before after at []
    → Cuts before (passes_by body tip moves) after
all_cut body tip moves before after at all = rw (all.passes, append-nil) all.cut
