use Rattle.std.proofs.Common.{◌≡◌, ◌+◌, suc, ◌∷◌, [], drop, ◌↔◌, sym, ap, ◌∙◌, subst, refl, drop-cons, arith}
use Rattle.std.proofs.Math.ListN.{drop_of_length-le}
use Rattle.sn_raster.specs.Grid.{Node}
use Rattle.sn_open.proofs.OpeningLemmas.{HasOrNear, next_segment, last_segment}
use Rattle.sn_open.proofs.opening.add_trail.Goals as goal

pub loop-to-init : goal.loop-to-init
loop-to-init c =
    let plane = c.args.plane.now in
    record {
      grid = refl;
      trail = λ n. subst (λ ps. HasOrNear plane plane.grid ps c.args.d n ↔ HasOrNear plane plane.grid c.args.points.now c.args.d n) c.in-Some.ensures.cases.0 ((λ h. h), (λ h. h));
    }

pub loop-to-preserved : goal.loop-to-preserved
loop-to-preserved c =
    let start = c.args.plane.now in
    let before = c.loop-to.invariant in
    let rest = c.in-Some.rest.now in
    let k = c.loop-to.to-index in
    let to = c.to-item.result in
    let next : suc k ≡ k + 1 = omega arith in
    let split : drop k rest ≡ to ∷ drop (k + 1) rest =
    drop-cons rest k to c.loop-to-test.true ∙ ap (λ p. p ∷ drop (suc k) rest) (sym c.to-item.is) ∙ ap (λ m. to ∷ drop m rest) next in
    record {
      grid = c.add_near.ensures.grid ∙ before.grid;
      trail = next_segment c.shapes.ensures.trail start.grid c.args.d c.loop-to.from c.to-item.result (drop (c.loop-to.to-index + 1) rest) c.args.points.now start c.loop-to.plane c.add_near.new.plane before.grid
          (subst (λ ps. (n : Node) → HasOrNear c.loop-to.plane start.grid (c.loop-to.from ∷ ps) c.args.d n ↔ HasOrNear start start.grid c.args.points.now c.args.d n) split before.trail)
          c.add_near.ensures.nodes;
    }

pub returns-clause-nodes : goal.returns-clause-nodes
returns-clause-nodes c =
    let start = c.args.plane.now in
    let before = c.loop-to.invariant in
    let rest = c.in-Some.rest.now in
    let end : drop c.loop-to.to-index rest ≡ [] = drop_of_length-le rest c.loop-to-test.false in
    last_segment c.shapes.ensures.trail start.grid c.args.d c.loop-to.from c.args.points.now start c.loop-to.plane
    (subst (λ ps. (n : Node) → HasOrNear c.loop-to.plane start.grid (c.loop-to.from ∷ ps) c.args.d n ↔ HasOrNear start start.grid c.args.points.now c.args.d n) end before.trail)
