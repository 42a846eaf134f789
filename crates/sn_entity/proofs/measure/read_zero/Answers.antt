use Rattle.std.proofs.Common.{◌≡◌, ◌∙◌, ap}
use Rattle.std.proofs.lemmas.Result.{err_from_is_err_and}
use Rattle.sn_geom.specs.Decimal.{IsNumber, IsNumberText}
use Rattle.sn_entity.proofs.RefusalLemmas.{refused_as}
use Rattle.sn_entity.proofs.measure.read_zero.Goals as goal

pub returns-in_err-decimal-clause-refused : goal.returns-in_err-decimal-clause-refused
returns-in_err-decimal-clause-refused c =
    let p = err_from_is_err_and c.from_residual.result c.from_residual.ensures.1 in
    rw (p.1, p.2)
    (refused_as (IsNumberText c.args.text.now) _ (IsNumber c.args.text.now) _
    (λ n. n) (λ n. n) (λ d zero. (d, zero.0)) c.in_err-decimal.field-0.0 c.in_err-decimal.ensures.refused)

pub returns-else-decimal-eq0-clause-refused : goal.returns-else-decimal-eq0-clause-refused
returns-else-decimal-eq0-clause-refused c =
    let number : IsNumber c.args.text.now c.in_ok-decimal.decimal = c.in_ok-decimal.ensures.found in (
      (number.0, number.1),
      λ d zero.
          let e = c.decimal_of.ensures.every d zero.0 in
          let same : c.in_ok-decimal.decimal ≡ d = cc (e, c.in_ok-decimal.was) in
          let digits : c.decimal.inside.digits ≡ d.digits = ap (λ v. v.digits) c.decimal.view_is ∙ ap (λ v. v.digits) same in
          c.if-decimal-eq0.false (digits ∙ zero.1),
    )
