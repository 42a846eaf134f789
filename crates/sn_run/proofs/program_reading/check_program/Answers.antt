use Rattle.std.proofs.Common.{◌≡◌, ◌+◌, ◌++◌, arith}
use Rattle.sn_run.specs.declared.reading.TheConstants.{LONGEST_PROGRAM}
use Rattle.sn_run.proofs.ReadingLemmas.{fed_all, feeds_on, fits_still}
use Rattle.sn_run.proofs.program_reading.check_program.Goals as goal

pub returns-then-count-eq0-clause-verdict : goal.returns-then-count-eq0-clause-verdict
returns-then-count-eq0-clause-verdict g c = λ job begun.
    let state = g.F.Files.state in
    let kept = c.loop-taken.invariant.0 in
    let next = c.in_ok-count.ensures.feeds in
    let none : c.in_ok-count.count ≡ 0 = omega arith in
    let all = fed_all (state c.args.files.now) (state c.loop-taken.files) (state c.feed_next.new.files) c.args.name.now _ _ _ c.loop-taken.taken c.in_ok-count.count kept next none in
    record {
      bytes = kept.bytes ++ next.chunk;
      content = all.0;
      holds = (omega (arith, all.1), c.finish.ensures.verdict job (kept.bytes ++ next.chunk) (next.fed job kept.bytes (kept.fed job begun)));
    }

pub loop-taken-preserved : goal.loop-taken-preserved
loop-taken-preserved g c =
    let state = g.F.Files.state in (
      feeds_on (state c.args.files.now) (state c.loop-taken.files) (state c.feed_next.new.files) c.args.name.now _ _ _ c.loop-taken.taken c.in_ok-count.count
          c.loop-taken.invariant.0 c.in_ok-count.ensures.reads c.in_ok-count.ensures.feeds (omega arith),
      fits_still (LONGEST_PROGRAM + 1) c.loop-taken.taken c.min-room.result c.in_ok-count.count c.loop-taken.chunk c.loop-taken.invariant.1
          (omega (arith, c.min-room.ensures)) c.in_ok-count.ensures.within,
    )
