use Rattle.std.proofs.Common.{◌≡◌, [], ◌∷◌, ◌∙◌, sym}
use Rattle.sn_model.proofs.RowLemmas.{one_part, row_from}
use Rattle.sn_model.proofs.model.instance_row.Goals as goal

pub returns : goal.returns
returns c =
    let i = c.args.instance.now in
    let e = c.entity-item.result in
    let one : i.parts ≡ e ∷ [] = sym c.as_slice.ensures ∙ one_part c.as_slice.result.now e c.in-len1.len_at_least c.in-len1.len_below c.entity-item.is in
    row_from i e c.as_slice-2.result.now c.row_of.result one c.as_slice-2.ensures c.row_of.ensures.found c.row_of.ensures.only
