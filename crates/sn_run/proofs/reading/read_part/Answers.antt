use Rattle.std.proofs.Common.{◌∙◌, ◌≡◌, ◌+◌, arith}
use Rattle.sn_run.specs.declared.reading.TheConstants.{LONGEST}
use Rattle.sn_run.proofs.ReadingLemmas.{whole, full}
use Rattle.sn_run.proofs.reading.read_part.Goals as goal

pub returns-then-branch-eq0-clause-content : goal.returns-then-branch-eq0-clause-content
returns-then-branch-eq0-clause-content g c = λ told.
    let kept = c.loop-bytes.invariant.0 in
    let next = c.in_ok-read_next.ensures.appends in
    let none : c.in_ok-read_next.field-0 ≡ 0 = omega arith in
    whole (LONGEST + 1) _ c.loop-bytes.bytes.items _ _ next.chunk (kept.content told) (next.gives.at_end (kept.tells ∙ told) (next.counted ∙ none)) next.appended
    (next.counted ∙ none) c.loop-bytes.invariant.1

pub returns-clause-content : goal.returns-clause-content
returns-clause-content g c = λ told. full (LONGEST + 1) _ _ _ (c.loop-bytes.invariant.0.content told) (omega arith)
