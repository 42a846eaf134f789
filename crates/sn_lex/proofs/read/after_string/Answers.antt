use Rattle.std.proofs.Common.{◌≡◌, ◌∷◌, ℕ, ◌∙◌, ap, arith}
use Rattle.sn_lex.proofs.Quoted.{string_byte, string_pair}
use Rattle.sn_lex.proofs.read.after_string.Goals as goal

pub loop-first-preserved-then-first-ne39 : goal.loop-first-preserved-then-first-ne39
loop-first-preserved-then-first-ne39 c = string_byte _ c.loop-first.invariant.0 _ c.in-Some.first.now _ c.loop-first.invariant.1 c.in-Some.ensures.cases.0 (λ same. omega arith)

pub loop-first-preserved : goal.loop-first-preserved
loop-first-preserved c =
    let quote : c.in-Some.first.now ≡ 39 = omega arith in
    let next = c.in-Some.ensures.cases.0 ∙ ap (λ (k : ℕ). k ∷ c.in-Some.after.now) quote in
    string_pair _ c.loop-first.invariant.0 _ _ _ c.loop-first.invariant.1 next c.in-Some-after_byte.ensures
