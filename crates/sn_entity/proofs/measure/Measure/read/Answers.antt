use Rattle.std.proofs.Common.{◌≡◌, rules, ap}
use Rattle.std.proofs.lemmas.Int.{to_z-of_z}
use Rattle.std.proofs.lemmas.Result.{err_from_is_err_and}
use mir.Val.{SFits}
use mir.Syntax.{w32}
use Rattle.sn_geom.specs.Decimal.{IsNumber, IsNumberText, ScalesTo}
use Rattle.sn_entity.specs.Measure.{Measures}
use Rattle.sn_entity.proofs.RefusalLemmas.{refused_as}
use Rattle.sn_entity.proofs.MeasureLemmas.{IsNumberText-from_number, size-rounded, SFits-from_size, not_measured}
use Rattle.sn_entity.proofs.measure.Measure.read.Goals as goal

pub returns-in_err-decimal-clause-refused : goal.returns-in_err-decimal-clause-refused
returns-in_err-decimal-clause-refused c =
    let p = err_from_is_err_and c.from_residual.result c.from_residual.ensures.1 in
    rw (p.1, p.2)
    (refused_as (IsNumberText c.args.text.now) _ (IsNumber c.args.text.now) (Measures c.args.self.now c.args.text.now)
    (λ n. n) (λ n. n) (λ z m. (m.decimal, m.number)) c.in_err-decimal.field-0.0 c.in_err-decimal.ensures.refused)

pub returns-in_default-clause-refused : goal.returns-in_default-clause-refused
returns-in_default-clause-refused c =
    let number : IsNumber c.args.text.now c.in_ok-decimal.decimal = c.in_ok-decimal.ensures.found in (
      IsNumberText-from_number c.args.text.now c.in_ok-decimal.decimal number,
      λ z h.
          let e = c.decimal_of.ensures.every h.decimal h.number in
          let d : h.decimal ≡ c.in_ok-decimal.decimal = cc (e, c.in_ok-decimal.was) in
          let factor : c.self.inside.factor ≡ c.args.self.now.factor = ap (λ m. m.factor) c.self.view_is in
          let scales : ScalesTo c.in_ok-decimal.decimal c.self.inside.factor h.rounded = rw (← d, factor) h.scales in
          c.in_default.not-Ok h.rounded (c.scaled.ensures.every h.rounded scales (size-rounded c.args.self.now c.args.text.now z c.requires h)),
    )

pub returns-then-is_within-clause-found : goal.returns-then-is_within-clause-found
returns-then-is_within-clause-found c =
    let number : IsNumber c.args.text.now c.in_ok-decimal.decimal = c.in_ok-decimal.ensures.found in
    let fits : SFits w32 c.in-Ok.rounded = SFits-from_size _ c.in-Ok.ensures.within in
    let fits' : SFits w32 c.value_of-value.result = search rules in
    let s = simp to_z-of_z at c.value_of-value.ensures in
    let w = simp to_z-of_z at c.is_within.ensures in
    let factor : c.self.inside.factor ≡ c.args.self.now.factor = ap (λ m. m.factor) c.self.view_is in
    simp to_z-of_z (record {
      decimal = c.in_ok-decimal.decimal;
      rounded = c.in-Ok.rounded;
      number = number;
      scales = rw (← factor) c.in-Ok.ensures.value;
      value = s;
      within = w.0 c.if-is_within.true;
    })

pub returns-else-is_within-clause-refused : goal.returns-else-is_within-clause-refused
returns-else-is_within-clause-refused c =
    let number : IsNumber c.args.text.now c.in_ok-decimal.decimal = c.in_ok-decimal.ensures.found in
    let fits : SFits w32 c.in-Ok.rounded = SFits-from_size _ c.in-Ok.ensures.within in
    let fits' : SFits w32 c.value_of-value.result = search rules in
    let s = simp to_z-of_z at c.value_of-value.ensures in
    let w = simp to_z-of_z at c.is_within.ensures in (
      IsNumberText-from_number c.args.text.now c.in_ok-decimal.decimal number,
      λ z h.
          let e = c.decimal_of.ensures.every h.decimal h.number in
          let d : h.decimal ≡ c.in_ok-decimal.decimal = cc (e, c.in_ok-decimal.was) in
          let factor : c.self.inside.factor ≡ c.args.self.now.factor = ap (λ m. m.factor) c.self.view_is in
          let scales : ScalesTo c.in_ok-decimal.decimal c.self.inside.factor h.rounded = rw (← d, factor) h.scales in
          let found = c.scaled.ensures.every h.rounded scales (size-rounded c.args.self.now c.args.text.now z c.requires h) in
          not_measured c.args.self.now c.args.text.now c.in-Ok.rounded c.value_of-value.result c.is_within.result s w c.if-is_within.false z h (cc (found, c.in-Ok.is)),
    )
