-- The laws of larger tools and greater allowances, of openings and required nodes, and of the first cell that no step opens.
use Rattle.std.proofs.Common.{ℕ, ◌≡◌, ◌*◌, ◌≤◌, ⊎_elim, subst, arith}
use Rattle.std.proofs.lemmas.Nat.{mul-le}
use Rattle.sn_geom.specs.declared.units.Pt.{Pt}
use Rattle.sn_geom.specs.Sweep.{Disc}
use Rattle.sn_outline.specs.Job.{Job}
use Rattle.sn_outline.specs.declared.job.StepJob.{StepJob}
use Rattle.sn_outline.specs.declared.job.Way.{Way}
use Rattle.sn_outline.specs.declared.job.Way.TheVariants as way
use Rattle.sn_outline.specs.declared.outline.Outline.{Outline}
use Rattle.sn_outline.specs.declared.outline.Shape.{Shape}
use Rattle.sn_outline.specs.declared.outline.Shape.TheVariants.{Rect, Circle, Polygon, Trail}
use Rattle.sn_raster.specs.Grid.{Node, place, InDisc}
use Rattle.sn_open.specs.Region.{KeepsSide, InAllowed, IsFreeCentre, IsFollowed, IsDrilledAtCentre, InRounded}
use Rattle.sn_open.specs.Reach.{IsUnreached}
use Rattle.sn_open.specs.ReachLaws.{LargerToolsHaveLessRoom, GreaterSidesAllowLess, OpeningsAreAllowed, RequiredBlocksAreRounded, FirstUnreachedIsFirst, FirstUnreachedIsOne}
use Rattle.sn_open.proofs.CellLemmas.{one_first_cell}
use Rattle.sn_open.proofs.RegionLawLemmas.{to_block}

-- Larger discs.

in_larger : (d d' : ℕ) (p q : Pt) → d ≤ d' → Disc d p q → Disc d' p q
in_larger d d' p q more disc =
    let close = disc.close in
    let h = mul-le d d d' d' more more in
    record { close = omega (arith, close, h) }

pub larger_tools_have_less_room : LargerToolsHaveLessRoom
larger_tools_have_less_room job step d c more free n near = free n (in_larger step.body.d d (place job.pitch c) (place job.pitch n) more near)

twice : (a b : ℕ) → a ≤ b → 2 * a ≤ 2 * b
twice a b more = omega (arith, more)

pub greater_sides_allow_less : GreaterSidesAllowLess
greater_sides_allow_less job step side q more allowed n near =
    allowed n (in_larger (2 * step.side) (2 * side) (place job.pitch q) (place job.pitch n) (twice step.side side more) near)

-- Openings.

drilled_is_allowed : (job : Job) (step : StepJob) (shape : Shape) (n : Node) → IsDrilledAtCentre job step shape n → InAllowed job step n
drilled_is_allowed job step (Rect low high) n drilled = absurd drilled
drilled_is_allowed job step (Circle centre d) n drilled = drilled.free n drilled.under
drilled_is_allowed job step (Polygon points) n drilled = absurd drilled
drilled_is_allowed job step (Trail points width) n drilled = absurd drilled

-- the nodes that a step reaches in a way
abbrev ReachedIn : Job → StepJob → Node → Way → Type 0
ReachedIn job step n w = elim w [
  | way.Clear ↦ (c : Node) × IsFreeCentre job step c × InDisc job.pitch step.body.d (place job.pitch c) n
  | way.Trail ↦ IsFollowed job step step.outline.shape n
  | way.Drill ↦ IsDrilledAtCentre job step step.outline.shape n
]

cleared_is_allowed : (job : Job) (step : StepJob) (n : Node) → ReachedIn job step n way.Clear → InAllowed job step n
cleared_is_allowed job step n (c, free, near) = free n near

pub openings_are_allowed : OpeningsAreAllowed
openings_are_allowed job step n ways opening = (
  opening.raw,
  ⊎_elim (λ (clear : step.way ≡ way.Clear). cleared_is_allowed job step n (subst (λ w. ReachedIn job step n w) clear opening.reached))
      (λ (drill : step.way ≡ way.Drill). drilled_is_allowed job step step.outline.shape n (subst (λ w. ReachedIn job step n w) drill opening.reached)) ways,
)

-- Required nodes.

-- the rounded nodes by what they stand on of a step
abbrev RoundedBy : Job → Node → ℕ → Outline → ℕ → Type 0
RoundedBy job q corner outline side =
    (c : Node) × InDisc job.pitch corner (place job.pitch c) q × ((n : Node) → InDisc job.pitch corner (place job.pitch c) n → KeepsSide job outline side n)

-- steps with the same of these have the same rounded nodes
rounded_alike : (job : Job) (s t : StepJob) (q : Node) → s.corner ≡ t.corner → s.outline ≡ t.outline → s.side ≡ t.side → InRounded job s q → InRounded job t q
rounded_alike job s t q corner outline side rounded =
    let a : RoundedBy job q t.corner s.outline s.side = subst (λ k. RoundedBy job q k s.outline s.side) corner rounded in
    let b : RoundedBy job q t.corner t.outline s.side = subst (λ o. RoundedBy job q t.corner o s.side) outline a in
    subst (λ k. RoundedBy job q t.corner t.outline k) side b

one_least : (a b : ℕ) → a ≤ b → b ≤ a → a ≡ b
one_least a b less more = omega (arith, less, more)

rounded_is_allowed : (job : Job) (step : StepJob) (q : Node) → InRounded job step q → InAllowed job step q
rounded_is_allowed job step q (c, near, all) = all q near

pub required_blocks_are_rounded : RequiredBlocksAreRounded
required_blocks_are_rounded job feature step n m rule least (s, least_s, required) beside raw =
    let of = least.of_feature in
    let of_s = least_s.of_feature in
    let alike = rule.features s step of_s.executed of.executed (both_cut s.feature step.feature feature of_s.cuts of.cuts) in
    let rounded = rounded_alike job s step m alike.corner alike.outline (one_least s.side step.side (least_s.least step of) (least.least s of_s)) (required.block m (to_block n m beside) raw) in
    (rounded, rounded_is_allowed job step m rounded)
  where
    both_cut : (a b f : ℕ) → a ≡ f → b ≡ f → a ≡ b
    both_cut a b f p q = omega (arith, p, q)

-- The first unreached cell.

pub first_unreached_is_first : FirstUnreachedIsFirst
first_unreached_is_first job feature c f =
    let cell = f.cell in (
      cell.holds.required,
      λ step of opening full. cell.holds.unreached (step, of, record { node = opening; height = full }),
      λ other required before none.
          cell.first other (record { required = required; unreached = λ (step, of, opened). none step of opened.node opened.height }) before,
    )

pub first_unreached_is_one : FirstUnreachedIsOne
first_unreached_is_one job feature c other f g = one_first_cell (IsUnreached job feature) c other f.cell g.cell
