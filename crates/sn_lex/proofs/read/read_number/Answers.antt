use Rattle.std.proofs.Common.{subst, List, ℕ}
use Rattle.std.specs.Char.{is_ascii_digit}
use Rattle.sn_lex.specs.Split.{LeavesInteger, SplitsRun}
use Rattle.sn_lex.proofs.NumberReads.{reads_integer, reads_plain_real, reads_scaled_real, broken_real, no_number}
use Rattle.sn_lex.proofs.read.read_number.Goals as goal

pub returns-in_err-after : goal.returns-in_err-after
returns-in_err-after c = rw c.from_residual.ensures (no_number _ c.requires c.in_err-after.ensures)

pub returns-in_default : goal.returns-in_default
returns-in_default c = reads_integer _ _ c.in_ok-after.ensures c.in_default.ensures

pub returns-in_default-after_byte : goal.returns-in_default-after_byte
returns-in_default-after_byte c =
    let whole = subst (λ (l : List ℕ). LeavesInteger c.args.bytes.now l) c.in-Some.ensures c.in_ok-after.ensures in
    reads_plain_real _ _ _ _ whole c.split_digits.ensures c.in_default-after_byte.ensures

pub returns-in_err-after-2 : goal.returns-in_err-after-2
returns-in_err-after-2 c =
    let whole = subst (λ (l : List ℕ). LeavesInteger c.args.bytes.now l) c.in-Some.ensures c.in_ok-after.ensures in
    let digits = c.split_digits.result.0.now in
    let fraction = subst (λ (l : List ℕ). SplitsRun is_ascii_digit c.in-Some.fraction.now digits l) c.in-Some-after_byte.ensures c.split_digits.ensures in
    rw c.from_residual-in_err-after-2.ensures (broken_real _ _ _ _ whole fraction c.in_err-after-2.ensures)

pub returns : goal.returns
returns c =
    let whole = subst (λ (l : List ℕ). LeavesInteger c.args.bytes.now l) c.in-Some.ensures c.in_ok-after.ensures in
    let digits = c.split_digits.result.0.now in
    let fraction = subst (λ (l : List ℕ). SplitsRun is_ascii_digit c.in-Some.fraction.now digits l) c.in-Some-after_byte.ensures c.split_digits.ensures in
    reads_scaled_real _ _ _ _ _ whole fraction c.in_ok-after-2.ensures
