use Rattle.std.proofs.Common.{◌++◌, length, replicate, decimal, ◌-◌, ap, ◌∙◌, sym, arith, append_assoc, length-append}
use Rattle.std.proofs.lemmas.Fmt.{length-decimal-le}
use Rattle.std.proofs.lemmas.List.{length-replicate}
use Rattle.sn_geom.specs.declared.limits.TheConstants.{DECIMALS}
use Rattle.sn_gwrite.proofs.Digits.{last_digits-padded}
use Rattle.sn_gwrite.proofs.text.Text.push_decimals.Goals as goal

-- src/text.rt:82:20
pub overflow_sub-digits : goal.overflow_sub-digits
overflow_sub-digits c =
    rw c.format-digits.ensures.text (length-decimal-le DECIMALS c.args.n (omega arith) (omega arith) (omega arith))

-- src/text.rt:83:9
pub push_str-requires : goal.push_str-requires
push_str-requires c =
    let short = rw (← c.format-digits.ensures.text) at (length-decimal-le DECIMALS c.args.n (omega arith) (omega arith) (omega arith)) in
    record { room = simp (c.push_zeros.ensures, length-append, length-replicate) (omega arith) }

-- src/text.rt:77:5
pub returns-clause-text : goal.returns-clause-text
returns-clause-text c =
    let digits = last_digits-padded DECIMALS c.args.n (omega arith) (omega arith) (omega arith) in
    let padded = rw c.format-digits.ensures.text at c.push_zeros.ensures in
    rw (c.push_str.ensures, c.format-digits.ensures.text, padded) (
    append_assoc c.args.self.now (replicate (DECIMALS - length (decimal c.args.n)) 48) (decimal c.args.n)
    ∙ ap (λ tail. c.args.self.now ++ tail) (sym digits)
    )
