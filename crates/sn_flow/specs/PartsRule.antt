-- PRIVATE: what the parts of executed steps keep, from which the rule of jobs follows.
use Rattle.std.specs.Prelude.{◌≡◌, ◌≤◌, ℕ, ℤ, List, length, Ok}
use Rattle.std.specs.List.{Contains}
use Rattle.sn_model.specs.ModelContent.{ModelContent}
use Rattle.sn_frame.specs.Frame.{Transform}
use Rattle.sn_outline.specs.declared.limits.TheConstants.{MOST_STEPS}
use Rattle.sn_feature.specs.declared.parts.StepParts.{StepParts}
use Rattle.sn_feature.specs.StepRule.{AreProper, HasCorner}
use Rattle.sn_feature.specs.StepLaws.{IsSamePlace}
use Rattle.sn_flow.specs.JobOf.{all_parts}

pub record KeepPartsRule (parts : List StepParts) : Type 0 where
  pub few : length parts ≤ MOST_STEPS
  pub proper : (p : StepParts) → Contains parts p → AreProper p
  pub corner : (p : StepParts) → Contains parts p → HasCorner p
  pub body : (p q : StepParts) → Contains parts p → Contains parts q → p.tool ≡ q.tool → p.body ≡ q.body
  pub place : (p q : StepParts) → Contains parts p → Contains parts q → p.feature ≡ q.feature → IsSamePlace p q

-- the parts of these steps, each proper
pub record AreSteps (m : ModelContent) (frame : Transform) (raw_top : ℤ) (steps : List ℕ) (parts : List StepParts) : Type 0 where
  pub all : all_parts m frame raw_top steps ≡ Ok parts
  pub proper : (p : StepParts) → Contains parts p → AreProper p
  pub corner : (p : StepParts) → Contains parts p → HasCorner p

-- the parts of few steps keep that rule
abbrev pub PartsKeepRule : Type 0
PartsKeepRule =
    (m : ModelContent) (frame : Transform) (raw_top : ℤ) (steps : List ℕ) (parts : List StepParts) →
    length steps ≤ MOST_STEPS → AreSteps m frame raw_top steps parts → KeepPartsRule parts
