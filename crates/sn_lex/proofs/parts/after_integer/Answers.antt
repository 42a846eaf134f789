use Rattle.std.proofs.Common.{◌<◌, List, ℕ, length, subst, sym, ◌∙◌, arith}
use Rattle.std.proofs.lemmas.Bool.{eqb-true, eqb-false}
use Rattle.std.specs.Char.{is_ascii_digit}
use Rattle.sn_lex.specs.Split.{SplitsRun}
use Rattle.sn_lex.proofs.Numbers.{leaves_integer, no_integer}
use Rattle.sn_lex.proofs.parts.after_integer.Goals as goal

pub returns-then-is_empty : goal.returns-then-is_empty
returns-then-is_empty c =
    let digits = c.split_digits.result.0.now in
    let splits = subst (λ (l : List ℕ). SplitsRun is_ascii_digit l digits c.split_digits.result.1.now) c.unsigned.ensures c.split_digits.ensures in
    no_integer _ _ _ splits (eqb-true _ _ (sym c.is_empty.ensures ∙ c.if-is_empty.true))

pub returns-else-is_empty : goal.returns-else-is_empty
returns-else-is_empty c =
    let digits = c.split_digits.result.0.now in
    let splits = subst (λ (l : List ℕ). SplitsRun is_ascii_digit l digits c.split_digits.result.1.now) c.unsigned.ensures c.split_digits.ensures in
    let some : 0 < length digits = omega (arith, eqb-false _ _ (sym c.is_empty.ensures ∙ c.if-is_empty.false)) in
    leaves_integer _ _ _ splits some
