use Rattle.std.proofs.Common.{List, ap, ◌∙◌}
use Rattle.sn_outline.specs.declared.job.StepJob.{StepJob}
use Rattle.sn_raster.specs.Grid.{places}
use Rattle.sn_report.specs.JobCounts.{count_rows}
use Rattle.sn_report.proofs.job_rows.job_counts.Goals as goal

pub returns : goal.returns
returns c =
    let grid = c.requires.grid in
    record {
      across = c.columns_of.ensures.value ∙ (λ i. places (grid.columns.0 i) (grid.columns.1 i));
      up = c.rows_of.ensures.value ∙ (λ i. places (grid.rows.0 i) (grid.rows.1 i));
      steps = c.args.plans.now;
      plan = c.requires.plan;
      counted = c.requires.counted;
      rows = c.in_ok-rows.ensures ∙ ap (λ (steps : List StepJob). count_rows steps c.args.plans.now) c.steps.ensures;
    }
