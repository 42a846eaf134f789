use Rattle.std.proofs.Common.{◌≡◌, Some, ap, subst, sym}
use Rattle.std.proofs.Math.Logic.{∥∥₁_elim}
use Rattle.sn_entity.specs.declared.value.Fields.{Fields}
use Rattle.sn_model.specs.declared.model.Entry.TheVariants.{Typed}
use Rattle.sn_model.specs.ModelContent.{ModelContent, entry_of}
use Rattle.sn_refs.specs.Reference.{IsReached, fields_from}
use Rattle.sn_refs.proofs.ModelLemmas.{entry_from_fields, shown_is_of_its_row}
use Rattle.sn_refs.proofs.checked.Checked.fields.Goals as goal

pub unreachable-requires : goal.unreachable-requires
unreachable-requires c =
    ∥∥₁_elim c.self.invariant.sound (λ x y. absurd x)
    (λ s. let reached : IsReached c.self.inside.model c.args.n = subst (λ (m : ModelContent). IsReached m c.args.n) (sym c.self.view_is) c.requires in
    let typed : (f : Fields) × (entry_of c.args.n c.self.inside.model ≡ Some (Typed f)) = s.shown c.args.n reached in
    let given : fields_from (entry_of c.args.n c.self.inside.model) ≡ Some typed.0 = ap fields_from typed.1 in
    cc (c.in-None.ensures))

pub returns-clause-row : goal.returns-clause-row
returns-clause-row c = (shown_is_of_its_row c.self.inside.model c.args.self.now c.args.n c.in-Some.fields.now c.kept_by_row.ensures c.self.invariant.model c.self.view_is c.in-Some.ensures).0

pub returns-clause-shape : goal.returns-clause-shape
returns-clause-shape c = (shown_is_of_its_row c.self.inside.model c.args.self.now c.args.n c.in-Some.fields.now c.kept_by_row.ensures c.self.invariant.model c.self.view_is c.in-Some.ensures).1

pub returns-clause-limits : goal.returns-clause-limits
returns-clause-limits c =
    let m = c.self.inside.model in
    c.kept_within_limits.ensures m c.args.n c.in-Some.fields.now c.self.invariant.model (entry_from_fields (entry_of c.args.n m) c.in-Some.fields.now (c.in-Some.ensures))
