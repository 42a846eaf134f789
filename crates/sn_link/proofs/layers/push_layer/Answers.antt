use Rattle.std.proofs.Common.{◌≡◌, ◌+◌, suc, ◌∷◌, [], drop, sym, ap, ◌∙◌, subst, drop-cons, arith}
use Rattle.std.proofs.Math.ListN.{drop_of_length-le}
use Rattle.sn_link.proofs.LayeringLemmas.{IsAlong, goes_along, ends_along}
use Rattle.sn_link.proofs.layers.push_layer.Goals as goal

pub loop-next-preserved : goal.loop-next-preserved
loop-next-preserved c =
    let rest = c.in-Some.rest.now in
    let k = c.loop-next.next-index in
    let next = c.next-item.result in
    let one_on : suc k ≡ k + 1 = omega arith in
    let split : drop k rest ≡ next ∷ drop (k + 1) rest =
    drop-cons rest k next c.loop-next-test.true ∙ ap (λ s. s ∷ drop (suc k) rest) (sym c.next-item.is) ∙ ap (λ m. next ∷ drop m rest) one_on in
    goes_along c.args.allowed.now c.args.step.now c.args.layer.now c.args.strokes.now c.loop-next.stroke next (drop (k + 1) rest)
    c.args.moves.now c.loop-next.moves c.push_feed.new.moves c.push_link.new.moves c.in_ok-push_feed.ensures c.in_ok-push_link.ensures
    (subst (λ l. IsAlong c.args.allowed.now c.args.step.now c.args.layer.now c.args.strokes.now c.loop-next.stroke l c.args.moves.now c.loop-next.moves) split c.loop-next.invariant)

pub returns : goal.returns
returns c =
    let rest = c.in-Some.rest.now in
    let end : drop c.loop-next.next-index rest ≡ [] = drop_of_length-le rest c.loop-next-test.false in
    ends_along c.args.allowed.now c.args.step.now c.args.layer.now c.args.strokes.now c.loop-next.stroke
    c.args.moves.now c.loop-next.moves c.push_feed-2.new.moves c.push_lift.new.moves c.in_ok-push_feed-2.ensures c.in_ok-push_lift.ensures
    (subst (λ l. IsAlong c.args.allowed.now c.args.step.now c.args.layer.now c.args.strokes.now c.loop-next.stroke l c.args.moves.now c.loop-next.moves) end c.loop-next.invariant)
