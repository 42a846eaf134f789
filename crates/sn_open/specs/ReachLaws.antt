-- Laws of larger tools, greater allowances, openings and required nodes, and of the first cell that no step opens.
use Rattle.std.specs.Prelude.{◌≡◌, ◌⊎◌, ◌≤◌, ◌≤ℤ◌, ℕ}
use Rattle.sn_geom.specs.declared.units.Cell.{Cell}
use Rattle.sn_outline.specs.Job.{Job}
use Rattle.sn_outline.specs.JobRule.{IsJob}
use Rattle.sn_outline.specs.declared.job.StepJob.{StepJob}
use Rattle.sn_outline.specs.declared.job.Way.TheVariants as way
use Rattle.sn_raster.specs.Grid.{Node, IsRawNode}
use Rattle.sn_raster.specs.Heights.{node_of, IsBefore}
use Rattle.sn_open.specs.Region.{InAllowed, IsFreeCentre, IsOpening, IsStepOf, HasLeastSide, InRounded, IsRequiredNode, IsRequiredCell}
use Rattle.sn_open.specs.RegionLaws.{IsWithinTwo}
use Rattle.sn_open.specs.Reach.{full_width_from, IsFirstUnreached}

abbrev pub with_diameter : StepJob → ℕ → StepJob
with_diameter step d = record step { body = record { d = d; e = step.body.e } }

-- where a larger tool has room, so has a smaller one
abbrev pub LargerToolsHaveLessRoom : Type 0
LargerToolsHaveLessRoom =
    (job : Job) (step : StepJob) (d : ℕ) (c : Node) → step.body.d ≤ d → IsFreeCentre job (with_diameter step d) c → IsFreeCentre job step c

abbrev pub with_side : StepJob → ℕ → StepJob
with_side step side = record step { side = side }

-- where a step may cut with a greater side allowance, it may with a smaller one
abbrev pub GreaterSidesAllowLess : Type 0
GreaterSidesAllowLess =
    (job : Job) (step : StepJob) (side : ℕ) (n : Node) → step.side ≤ side → InAllowed job (with_side step side) n → InAllowed job step n

-- a step that clears or drills opens raw nodes alone over which it may cut
abbrev pub OpeningsAreAllowed : Type 0
OpeningsAreAllowed =
    (job : Job) (step : StepJob) (n : Node) → (step.way ≡ way.Clear) ⊎ (step.way ≡ way.Drill) → IsOpening job step n
    → IsRawNode job n × InAllowed job step n

-- the raw nodes at most two columns and two rows from a required node are rounded nodes of each step of the feature with
-- the least side allowance, and such a step may cut over them
abbrev pub RequiredBlocksAreRounded : Type 0
RequiredBlocksAreRounded =
    (job : Job) (feature : ℕ) (step : StepJob) (n m : Node) → IsJob job → HasLeastSide job feature step → IsRequiredNode job feature n
    → IsWithinTwo n m → IsRawNode job m → InRounded job step m × InAllowed job step m

-- The first unreached cell of a feature is required; where a step of the feature opens its node, it does so from a greater
-- height up; and no required cell before it is one that no step opens.
abbrev pub FirstUnreachedIsFirst : Type 0
FirstUnreachedIsFirst =
    (job : Job) (feature : ℕ) (c : Cell) → IsFirstUnreached job feature c
    → IsRequiredCell job feature c
    × ((step : StepJob) → IsStepOf job feature step → IsOpening job step (node_of c) → ¬ (full_width_from step ≤ℤ c.z))
    × ((other : Cell) → IsRequiredCell job feature other → IsBefore other c
    → ¬ ((step : StepJob) → IsStepOf job feature step → IsOpening job step (node_of other) → ¬ (full_width_from step ≤ℤ other.z)))

-- a feature has one first unreached cell at most
abbrev pub FirstUnreachedIsOne : Type 0
FirstUnreachedIsOne = (job : Job) (feature : ℕ) (c other : Cell) → IsFirstUnreached job feature c → IsFirstUnreached job feature other → c ≡ other
