-- PRIVATE (only the functions of this crate and of sn_flow cite these words): what the parts of a step keep of the rule of jobs.
use Rattle.std.specs.Prelude.{ℕ, ◌≤◌, ◌*◌, IfSome}
use Rattle.sn_geom.specs.declared.limits.TheConstants.{REACH}
use Rattle.sn_outline.specs.JobRule.{IsProper}
use Rattle.sn_feature.specs.declared.parts.StepParts.{StepParts}
use Rattle.sn_feature.specs.Step.{step_with}

-- the parts make a proper step with each tool number and each corner diameter within its limit
abbrev pub AreProper : StepParts → Type 0
AreProper p = (tool corner : ℕ) → corner ≤ 2 * REACH → IsProper (step_with p tool corner)

-- a corner diameter that is given is within its limit
abbrev pub HasCorner : StepParts → Type 0
HasCorner p = IfSome p.corner (λ corner. corner ≤ 2 * REACH)
