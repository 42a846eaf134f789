use Rattle.std.proofs.Common.{◌≡◌, Some, sym, ◌∙◌, rules}
use Rattle.sn_entity.specs.Given.{num_at}
use Rattle.sn_model.specs.ModelContent.{row_of_number}
use Rattle.sn_refs.proofs.WithinLemmas.{number_within}
use Rattle.sn_refs.proofs.checked.Checked.num.Goals as goal

pub returns-clause-limits : goal.returns-clause-limits
returns-clause-limits c = number_within c.fields.result.now c.fields.ensures.limits c.args.k (row_of_number c.args.n c.args.self.now) _ c.fields.ensures.row (let at : num_at c.fields.result.now.values c.args.k ≡ Some c.in-Some.number = sym c.num.ensures ∙ c.in-Some.is in search (rules, at))
