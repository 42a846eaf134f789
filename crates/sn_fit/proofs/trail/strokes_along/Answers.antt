use Rattle.std.proofs.Common.{◌≡◌, ◌+◌, suc, ◌∷◌, drop, sym, ap, ◌∙◌, drop-cons, arith}
use Rattle.std.proofs.Math.ListN.{drop_of_length-le}
use Rattle.sn_fit.proofs.FitLemmas.{starts_along, goes_along, ends_along}
use Rattle.sn_fit.proofs.trail.strokes_along.Goals as goal

pub loop-to-init : goal.loop-to-init
loop-to-init c = starts_along c.args.points.now _ c.in-Some.rest.now c.new-strokes.result c.in-Some.ensures.cases.0 c.new-strokes.ensures

pub loop-to-preserved : goal.loop-to-preserved
loop-to-preserved c =
    let rest = c.in-Some.rest.now in
    let k = c.loop-to.to-index in
    let to = c.to-item.result in
    let one_on : suc k ≡ k + 1 = omega arith in
    let split : drop k rest ≡ to ∷ drop (k + 1) rest =
    drop-cons rest k to c.loop-to-test.true ∙ ap (λ p. p ∷ drop (suc k) rest) (sym c.to-item.is) ∙ ap (λ m. to ∷ drop m rest) one_on in
    goes_along c.args.points.now c.loop-to.from to (drop k rest) (drop (k + 1) rest) c.loop-to.strokes c.push.new.self split c.in_ok-push.ensures.ok c.loop-to.invariant

pub returns : goal.returns
returns c =
    ends_along c.args.points.now c.loop-to.from (drop c.loop-to.to-index c.in-Some.rest.now) c.loop-to.strokes
    (drop_of_length-le c.in-Some.rest.now c.loop-to-test.false) c.loop-to.invariant
