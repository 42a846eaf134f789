-- PRIVATE: the search for cells that no step opens, at one height of a feature.
use Rattle.std.specs.Prelude.{◌≡◌, ℕ, ℤ, pos, ◌+ℤ◌, ◌≤ℤ◌, Contains}
use Rattle.std.specs.Int.{int_min, int_max}
use Rattle.sn_outline.specs.declared.job.StepJob.{StepJob}
use Rattle.sn_outline.specs.Job.{Job}
use Rattle.sn_raster.specs.Grid.{Grid, Nodes}
use Rattle.sn_open.specs.Region.{IsOpening}
use Rattle.sn_open.specs.Reach.{full_width_from}

-- the step is one of the feature, and cuts with its whole diameter at the height
abbrev pub IsFullAt : ℕ → ℤ → StepJob → Type 0
IsFullAt feature z step = (step.feature ≡ feature) × (full_width_from step ≤ℤ z)

-- the nodes that such a step opens
abbrev pub OpensAt : Job → ℕ → ℤ → StepJob → Nodes
OpensAt job feature z step n = IsFullAt feature z step × IsOpening job step n

-- the nodes that an executed step of the feature opens at the height
abbrev pub IsOpenedAt : Job → ℕ → ℤ → Nodes
IsOpenedAt job feature z n = (step : StepJob) × Contains job.steps step × OpensAt job feature z step n

-- the heights of a feature that has to be cut, in the raw box: from the first of these to below the second
abbrev pub lowest_of_heights : StepJob → Grid → ℤ
lowest_of_heights step g = int_max (step.floor +ℤ pos step.under) g.bottom

abbrev pub above_heights : StepJob → Grid → ℤ
above_heights step g = int_min step.top g.top
