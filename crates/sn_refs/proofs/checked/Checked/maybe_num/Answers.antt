use Rattle.sn_model.specs.ModelContent.{row_of_number}
use Rattle.sn_refs.proofs.WithinLemmas.{maybe_within, maybe_read}
use Rattle.sn_refs.proofs.checked.Checked.maybe_num.Goals as goal

pub returns-clause-limits : goal.returns-clause-limits
returns-clause-limits c = maybe_within c.fields.result.now c.fields.ensures.limits c.args.k (row_of_number c.args.n c.args.self.now) c.num.result c.fields.ensures.row c.num.ensures

pub returns-clause-kind : goal.returns-clause-kind
returns-clause-kind c = maybe_read c.fields.result.now c.fields.ensures.shape c.args.k (row_of_number c.args.n c.args.self.now) c.fields.ensures.row c.num.result c.num.ensures
