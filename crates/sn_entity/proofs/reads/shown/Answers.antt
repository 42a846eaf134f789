use Rattle.std.proofs.Common.{◌≡◌, ℕ, ◌≤◌, length, sym, ap, subst, ◌∙◌, arith}
use Rattle.std.proofs.lemmas.Result.{err_from_is_err_and}
use Rattle.sn_entity.specs.Table.{wanted, last_place}
use Rattle.sn_entity.specs.Reads.{IsRising, StopsAt}
use Rattle.sn_entity.proofs.FaultLemmas.{fault_from_stop}
use Rattle.sn_entity.proofs.RowsRise.{row_rises}
use Rattle.sn_entity.proofs.reads.shown.Goals as goal

enough_of : (x y got len : ℕ) → x ≡ y → got ≡ len → x ≤ got → y ≤ len
enough_of x y got len a b h = omega arith

pub values_of-requires : goal.values_of-requires
values_of-requires c =
    let w : c.wanted-wanted.result ≡ wanted c.args.id = c.wanted-wanted.ensures ∙ ap (last_place 0) c.requires in
    let enough : wanted c.args.id ≤ length c.args.entity.now.params = enough_of _ _ _ _ w c.len-got.ensures c.if-got-wanted.false in
    subst (IsRising 0 (length c.args.entity.now.params)) (sym c.requires) (row_rises c.args.id (length c.args.entity.now.params) enough)

pub returns-in_err-values-clause-refused : goal.returns-in_err-values-clause-refused
returns-in_err-values-clause-refused c =
    let p = err_from_is_err_and c.from_residual.result c.from_residual.ensures.1 in
    let w : c.wanted-wanted.result ≡ wanted c.args.id = c.wanted-wanted.ensures ∙ ap (last_place 0) c.requires in
    let enough : wanted c.args.id ≤ length c.args.entity.now.params = enough_of _ _ _ _ w c.len-got.ensures c.if-got-wanted.false in
    let why = c.in_err-values.field-0.0 in
    rw (p.1, p.2)
    (λ other. fault_from_stop c.args.number c.args.entity.now c.args.id why enough
    (subst (λ rs. StopsAt c.args.number c.args.entity.now rs why) c.requires (c.in_err-values.ensures.refused other)) other)
