use Rattle.std.proofs.Common.{sym, ◌∙◌}
use Rattle.sn_model.specs.ModelContent.{row_of_number}
use Rattle.sn_refs.proofs.WithinLemmas.{three_within}
use Rattle.sn_refs.proofs.checked.Checked.triple.Goals as goal

pub returns-clause-limits : goal.returns-clause-limits
returns-clause-limits c = three_within c.fields.result.now c.fields.ensures.limits c.args.k (row_of_number c.args.n c.args.self.now) c.in-Some.three c.fields.ensures.row (sym c.triple.ensures ∙ c.in-Some.is)
