use Rattle.std.proofs.Common.{◌∷◌, ℕ, List, subst, sym, ◌∙◌}
use Rattle.sn_lex.specs.Character.{is_hex_digit}
use Rattle.sn_lex.specs.Split.{ReadsToken, ReadsFault, SplitsRun}
use Rattle.sn_lex.specs.declared.token.Token.TheVariants.{Binary}
use Rattle.sn_lex.specs.declared.token.LexFault.TheVariants.{BadByte}
use Rattle.sn_lex.proofs.Quoted.{reads_binary, no_binary_at_end, no_binary_digit, no_binary_end}
use Rattle.sn_lex.proofs.read.read_binary.Goals as goal

pub returns-in_err-first : goal.returns-in_err-first
returns-in_err-first c = rw c.from_residual.ensures (no_binary_at_end _ c.in_err-first.ensures.cases)

pub returns-then-not-is_unused_count : goal.returns-then-not-is_unused_count
returns-then-not-is_unused_count c = subst (λ (l : List ℕ). ReadsFault (34 ∷ l) (BadByte 0)) (sym c.in_ok-first.ensures.cases.0) (no_binary_digit c.in_ok-first.first.now _ (sym c.is_unused_count.ensures ∙ c.if-not-is_unused_count.true))

pub returns-in_err-after : goal.returns-in_err-after
returns-in_err-after c =
    let fault = no_binary_end c.in_ok-first.first.now _ _ _ c.split_hex_digits.ensures c.in_err-after.ensures in
    rw c.from_residual-in_err-after.ensures (subst (λ (l : List ℕ). ReadsFault (34 ∷ l) (BadByte 0)) (sym c.in_ok-first.ensures.cases.0) fault)

pub returns : goal.returns
returns c =
    let run = c.split_hex_digits.result.0.now in
    let splits = subst (λ (l : List ℕ). SplitsRun is_hex_digit c.in_ok-first.digits.now run l) c.in_ok-after.ensures c.split_hex_digits.ensures in
    let found = reads_binary c.in_ok-first.first.now _ _ _ (sym c.is_unused_count.ensures ∙ c.if-not-is_unused_count.false) splits in
    subst (λ (l : List ℕ). ReadsToken (34 ∷ l) Binary c.in_ok-after.after.now) (sym c.in_ok-first.ensures.cases.0) found
