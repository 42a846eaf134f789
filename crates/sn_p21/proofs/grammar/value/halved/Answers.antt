use Rattle.std.proofs.Common.{◌++◌, ◌∷◌, [], ◌+◌, ℕ, List, drop, get_or, sym, ap, ◌∙◌, append_assoc, arith}
use Rattle.sn_p21.specs.Reader.{halved}
use Rattle.sn_p21.proofs.ValueLemmas.{halved_at}
use Rattle.sn_p21.proofs.grammar.value.halved.Goals as goal

pub loop-at-preserved : goal.loop-at-preserved
loop-at-preserved c =
    let bs = c.args.bytes.now in
    let at = c.loop-at.at in
    let rest = halved (drop (at + c.width-at.result) bs) in
    let h = halved_at bs at (omega arith) ∙ ap (λ n. get_or bs at 0 ∷ halved (drop (at + n) bs)) (sym c.width-at.ensures.width) in
    ap (λ (v : List ℕ). v ++ rest) c.in_ok-push.ensures.items ∙ append_assoc c.loop-at.value.items (get_or bs at 0 ∷ []) rest ∙ ap (λ (v : List ℕ). c.loop-at.value.items ++ v) (sym h) ∙ c.loop-at.invariant
