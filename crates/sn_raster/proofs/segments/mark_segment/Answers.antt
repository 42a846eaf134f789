use Rattle.std.proofs.Common.{◌∙◌, w32, sym}
use Rattle.std.proofs.lemmas.Int.{to_z-of_z}
use Rattle.sn_raster.proofs.Axis.{kept}
use Rattle.sn_raster.proofs.Rows.{lt_from}
use Rattle.sn_raster.proofs.SegmentRows.{or_none, past_rows}
use Rattle.sn_raster.proofs.segments.mark_segment.Goals as goal

pub returns-then-rows-j-clause-row : goal.returns-then-rows-j-clause-row
returns-then-rows-j-clause-row c = λ n on window.
    let rows = c.rows_near-rows.result in
    or_none (λ near. past_rows c.args.j _ rows.last _ n.j (to_z-of_z w32 c.args.j c.ranges.j) (kept rows.last rows.last_in) (lt_from _ _ c.if-rows-j.true) on (c.rows_near-rows.ensures.all n window near).1)

pub returns-clause-row : goal.returns-clause-row
returns-clause-row c = λ n on window. c.mark_columns.ensures.row n (on ∙ sym (to_z-of_z w32 c.args.j c.ranges.j)) window

pub returns-clause-others : goal.returns-clause-others
returns-clause-others c = λ n off. c.mark_columns.ensures.others n (λ on. off (on ∙ to_z-of_z w32 c.args.j c.ranges.j))
