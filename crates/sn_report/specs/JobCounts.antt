-- MEANING: the counts of a job: those of the steps of its plan, and the nodes of its window (this project's own).
use Rattle.std.specs.Prelude.{◌≡◌, List, [], ◌∷◌, None}
use Rattle.sn_geom.specs.declared.tip.Tip.TheVariants.{Unknown}
use Rattle.sn_outline.specs.Job.{Job}
use Rattle.sn_outline.specs.declared.job.StepJob.{StepJob}
use Rattle.sn_raster.specs.Grid.{first_column, last_column, first_row, last_row, places}
use Rattle.sn_link.specs.Counts.{AreCountedPlans, moves_of}
use Rattle.sn_link.specs.Plan.{IsPlan, with_moves}
use Rattle.sn_link.specs.declared.planner.PlannedStep.{PlannedStep}
use Rattle.sn_report.specs.declared.counts.CountRow.{CountRow}
use Rattle.sn_report.specs.declared.counts.Counts.{Counts}

-- the row of a step
abbrev pub row_of : StepJob → PlannedStep → CountRow
row_of step planned = record {
  ws = step.ws;
  tool = step.tool;
  strokes = planned.strokes;
  layers = planned.layers;
  lifts = planned.lifts;
  cells = planned.cells;
}

-- the rows of the steps, in their order
abbrev pub count_rows : List StepJob → List PlannedStep → List CountRow
count_rows [] plans = []
count_rows (step ∷ steps) [] = []
count_rows (step ∷ steps) (planned ∷ plans) = row_of step planned ∷ count_rows steps plans

-- The counts of a job.
pub record AreCountsOf (job : Job) (counts : Counts) : Type 0 where
  pub across : counts.across ≡ places (first_column job) (last_column job)
  pub up : counts.up ≡ places (first_row job) (last_row job)
  pub steps : List PlannedStep
  pub plan : IsPlan job (with_moves job.steps (moves_of steps))
  pub counted : AreCountedPlans job [] None Unknown job.steps steps
  pub rows : counts.rows ≡ count_rows job.steps steps
