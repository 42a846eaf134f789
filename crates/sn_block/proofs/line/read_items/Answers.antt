use Rattle.std.proofs.lemmas.Result.{err_from_is_err_and}
use Rattle.std.proofs.Common.{◌+◌, ◌∙◌, sym, ap}
use Rattle.std.specs.Prelude.{Option}
use Rattle.sn_geom.specs.LineText.{Item}
use Rattle.sn_block.specs.Steps.{place_of, step}
use Rattle.sn_block.proofs.Reading.{nothing_step, turn_passed, turn_stopped, all_read}
use Rattle.sn_block.proofs.line.read_items.Goals as goal

pub returns-in_err-said : goal.returns-in_err-said
returns-in_err-said c =
    let p = err_from_is_err_and c.from_residual.result c.from_residual.ensures.1 in
    rw (p.1, p.2)
    (turn_stopped c.args.line.now c.loop-i.i (place_of c.loop-i.place) c.loop-i.said c.loop-i.invariant c.loop-i-test.true c.behind-rest.result.now c.behind-rest.ensures
    c.requires.short c.requires.no_percent c.in_err-said.field-0.0 c.in_err-said.ensures)

pub loop-i-preserved : goal.loop-i-preserved
loop-i-preserved c =
    rw c.place_after-place-in-loop-i.ensures
    (turn_passed c.args.line.now c.loop-i.i (place_of c.loop-i.place) c.loop-i.said c.loop-i.invariant c.loop-i-test.true c.behind-rest.result.now c.behind-rest.ensures
    c.in_ok-said.said c.in_ok-said.ensures)

pub loop-i-preserved-then-begins_nothing : goal.loop-i-preserved-then-begins_nothing
loop-i-preserved-then-begins_nothing c =
    rw c.place_after-place.ensures
    (turn_passed c.args.line.now c.loop-i.i (place_of c.loop-i.place) c.loop-i.said c.loop-i.invariant c.loop-i-test.true c.behind-rest.result.now c.behind-rest.ensures
    c.loop-i.said
    (sym (ap (λ (item : Option Item). step c.loop-i.said item (c.loop-i.i + 1)) (c.begins_nothing.ensures c.if-begins_nothing.true) ∙ nothing_step c.loop-i.said (c.loop-i.i + 1))))

pub returns : goal.returns
returns c =
    rw c.into_block.ensures
    (all_read c.line_readings.ensures.items c.args.line.now c.loop-i.i (place_of c.loop-i.place) c.loop-i.said c.loop-i.invariant c.loop-i-test.false
    c.requires.short c.requires.no_percent)
