use Rattle.std.proofs.Common.{◌∙◌, w32}
use Rattle.std.proofs.lemmas.Int.{to_z-of_z}
use Rattle.sn_raster.proofs.segments.clear_row.Goals as goal

pub returns-clause-others : goal.returns-clause-others
returns-clause-others c = λ n off. c.set_run.ensures.others n (λ run. off (run.row ∙ to_z-of_z w32 c.args.j c.ranges.j))
