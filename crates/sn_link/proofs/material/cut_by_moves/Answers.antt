use Rattle.std.proofs.Common.{◌≡◌, ◌+◌, suc, ◌∷◌, [], drop, sym, ap, ◌∙◌, subst, drop-cons, arith}
use Rattle.std.proofs.Math.ListN.{drop_of_length-le}
use Rattle.sn_geom.specs.Tip.{tip_after}
use Rattle.sn_link.proofs.MaterialLemmas.{IsCutTo, none_cut, one_cut, all_cut}
use Rattle.sn_link.proofs.material.cut_by_moves.Goals as goal

pub loop-to-init : goal.loop-to-init
loop-to-init c = none_cut c.args.body.now c.args.tip c.args.moves.now c.args.heights.now c.requires.straight

pub loop-to-preserved : goal.loop-to-preserved
loop-to-preserved c =
    let moves = c.args.moves.now in
    let k = c.loop-to.to-index in
    let to = c.to-item.result in
    let next : suc k ≡ k + 1 = omega arith in
    let split : drop k moves ≡ to ∷ drop (k + 1) moves =
    drop-cons moves k to c.loop-to-test.true ∙ ap (λ p. p ∷ drop (suc k) moves) (sym c.to-item.is) ∙ ap (λ m. to ∷ drop m moves) next in
    one_cut c.args.body.now c.args.tip moves c.args.heights.now c.loop-to.heights c.cut_by_move.new.heights c.loop-to.at c.after-at.result to (drop (k + 1) moves)
    (subst (IsCutTo c.args.body.now c.args.tip moves c.args.heights.now c.loop-to.heights c.loop-to.at) split c.loop-to.invariant)
    c.cut_by_move.ensures.grid c.cut_by_move.ensures.material (c.after-at.ensures ∙ ap (tip_after c.loop-to.at) c.end.ensures)

pub returns-clause-material : goal.returns-clause-material
returns-clause-material c =
    let moves = c.args.moves.now in
    let end : drop c.loop-to.to-index moves ≡ [] = drop_of_length-le moves c.loop-to-test.false in
    all_cut c.args.body.now c.args.tip moves c.args.heights.now c.loop-to.heights c.loop-to.at
    (subst (IsCutTo c.args.body.now c.args.tip moves c.args.heights.now c.loop-to.heights c.loop-to.at) end c.loop-to.invariant)
