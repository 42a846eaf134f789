-- MEANING: reachable jobs, the first cell that no step reaches, and the first feature that the grid is too coarse for
-- (this project's own).
use Rattle.std.specs.Prelude.{◌≡◌, ℕ, ℤ, pos, ◌+ℤ◌, ◌≤ℤ◌, List, [], ◌∷◌, ◌++◌}
use Rattle.std.specs.List.{All}
use Rattle.sn_geom.specs.declared.units.Cell.{Cell}
use Rattle.sn_outline.specs.declared.job.StepJob.{StepJob}
use Rattle.sn_outline.specs.Job.{Job, tip_floor}
use Rattle.sn_raster.specs.Grid.{Node}
use Rattle.sn_raster.specs.Heights.{node_of, IsFirst}
use Rattle.sn_open.specs.Region.{IsOpening, IsStepOf, IsRequiredNode, IsRequiredCell}

-- the height from which a step cuts with its whole diameter
abbrev pub full_width_from : StepJob → ℤ
full_width_from step = tip_floor step +ℤ pos step.body.e

-- the cells that a step opens: those over its opening from that height up
pub record IsOpenCell (job : Job) (step : StepJob) (c : Cell) : Type 0 where
  pub node : IsOpening job step (node_of c)
  pub height : full_width_from step ≤ℤ c.z

-- a step of the feature opens the cell
abbrev pub IsReachedCell : Job → ℕ → Cell → Type 0
IsReachedCell job feature c = (step : StepJob) × IsStepOf job feature step × IsOpenCell job step c

-- a cell of the feature that has to be cut, and that no step of the feature opens
pub record IsUnreached (job : Job) (feature : ℕ) (c : Cell) : Type 0 where
  pub required : IsRequiredCell job feature c
  pub unreached : ¬ IsReachedCell job feature c

-- each cell of the feature that has to be cut is opened by a step of it
abbrev pub IsReachedFeature : Job → ℕ → Type 0
IsReachedFeature job feature = (c : Cell) → IsRequiredCell job feature c → IsReachedCell job feature c

-- each feature is reached
abbrev pub IsReachable : Job → Type 0
IsReachable job = (feature : ℕ) → IsReachedFeature job feature

-- the feature is executed
abbrev pub IsExecuted : Job → ℕ → Type 0
IsExecuted job feature = (step : StepJob) × IsStepOf job feature step

-- a step of the feature is executed before any of the other
abbrev pub IsExecutedBefore : Job → ℕ → ℕ → Type 0
IsExecutedBefore job feature other =
    (front : List StepJob) × (step : StepJob) × (back : List StepJob) × (job.steps ≡ front ++ step ∷ back) × (step.feature ≡ feature)
    × All (λ s. ¬ (s.feature ≡ other)) (front ++ step ∷ [])

-- the first unreached cell of a feature, where the features that are executed before it are reached
pub record IsFirstUnreached (job : Job) (feature : ℕ) (c : Cell) : Type 0 where
  pub cell : IsFirst (IsUnreached job feature) c
  pub earlier : (other : ℕ) → IsExecutedBefore job other feature → IsReachedFeature job other

-- the feature has a node that has to be cut
abbrev pub HasRequired : Job → ℕ → Type 0
HasRequired job feature = (n : Node) × IsRequiredNode job feature n

-- the first executed feature without a node that has to be cut
pub record IsFirstSmall (job : Job) (feature : ℕ) : Type 0 where
  pub executed : IsExecuted job feature
  pub small : ¬ HasRequired job feature
  pub earlier : (other : ℕ) → IsExecutedBefore job other feature → HasRequired job other
