use Rattle.std.proofs.Common.{◌∙◌, ◌+◌, sym, subst, Bool}
use Rattle.sn_block.proofs.Percent.{Shows, shows_blank, shows_sign, not_second, not_sign, shown_all}
use Rattle.sn_block.proofs.line.is_percent_line.Goals as goal
use Rattle.sn_block.proofs.line.is_percent_line.Goals.{then-not-is_blank+else-seen+else-byte-ne37, else-not-is_blank}

pub returns-then-seen : goal.returns-then-seen
returns-then-seen c = (
  (λ e. absurd (cc)),
  (λ p. absurd (not_second c.args.line.now c.loop-byte.byte-index c.loop-byte-test.true c.loop-byte.seen c.loop-byte.invariant c.if-seen.true (sym c.is_blank.ensures ∙ c.if-not-is_blank.true) p)),
)

pub returns-then-byte-ne37 : goal.returns-then-byte-ne37
returns-then-byte-ne37 c = (
  (λ e. absurd (cc)),
  (λ p. absurd (not_sign c.args.line.now c.loop-byte.byte-index c.loop-byte-test.true c.loop-byte.seen c.loop-byte.invariant c.if-seen.false (sym c.is_blank.ensures ∙ c.if-not-is_blank.true) c.if-byte-ne37.true p)),
)

pub loop-byte-preserved : goal.loop-byte-preserved
loop-byte-preserved c =
    elim c.if-not-is_blank.branch [
      | then-not-is_blank+else-seen+else-byte-ne37 w ↦
          shows_sign c.args.line.now c.loop-byte.byte-index c.loop-byte-test.true c.loop-byte.seen c.if-not-is_blank.seen c.loop-byte.invariant w.if-seen.false w.seen-is
          (sym c.is_blank.ensures ∙ w.if-not-is_blank.true) w.if-byte-ne37.false
      | else-not-is_blank w ↦
          subst (λ (t : Bool). Shows c.args.line.now (c.loop-byte.byte-index + 1) t) (sym w.seen-is)
          (shows_blank c.args.line.now c.loop-byte.byte-index c.loop-byte-test.true c.loop-byte.seen c.loop-byte.invariant (sym c.is_blank.ensures ∙ w.if-not-is_blank.false))
    ]

pub returns : goal.returns
returns c = shown_all c.args.line.now c.loop-byte.byte-index c.loop-byte.seen c.loop-byte.invariant c.loop-byte-test.false
