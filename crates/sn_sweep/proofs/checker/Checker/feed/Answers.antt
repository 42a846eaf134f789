use Rattle.std.proofs.Common.{◌+◌}
use Rattle.std.proofs.lemmas.List.{take_rest}
use Rattle.sn_sweep.proofs.TakenPieces.{line_more, all_taken}
use Rattle.sn_sweep.proofs.checker.Checker.feed.Goals as goal

pub loop-end-preserved : goal.loop-end-preserved
loop-end-preserved c =
    let ensured = c.end_line_with.ensures in
    line_more c.args.piece.now c.loop-end.left.now _ c.in-Some.end c.args.self.now c.loop-end.self c.end_line_with.new.self c.loop-end.invariant
    c.in-Some.ensures.found (take_rest c.loop-end.left.now (c.in-Some.end + 1)) ensured.read ensured.kept ensured.rest ensured.counted

pub returns-clause-taken : goal.returns-clause-taken
returns-clause-taken c =
    all_taken c.args.piece.now c.loop-end.left.now c.args.self.now c.loop-end.self c.hold.new.self c.loop-end.invariant c.in_default.ensures.none c.hold.ensures
