use Rattle.std.proofs.Common.{◌∙◌, sym, arith, length-append}
use Rattle.sn_block.proofs.Runs.{copied, skipped, stopped, ended}
use Rattle.sn_block.proofs.run.run_of.Goals as goal
use Rattle.sn_block.proofs.run.run_of.Goals.{then-is_numeric, else-is_numeric+else-not-is_blank}

pub returns-then-not-is_blank : goal.returns-then-not-is_blank
returns-then-not-is_blank c =
    stopped c.loop-byte.text c.args.bytes.now c.loop-byte.byte-index c.loop-byte-test.true c.loop-byte.invariant.0
    (sym c.is_numeric.ensures ∙ c.if-is_numeric.false) (sym c.is_blank.ensures ∙ c.if-not-is_blank.true)

pub loop-byte-preserved : goal.loop-byte-preserved
loop-byte-preserved c =
    elim c.if-is_numeric.branch [
      | then-is_numeric w ↦ (
        copied c.loop-byte.text c.args.bytes.now c.loop-byte.byte-index c.loop-byte-test.true c.loop-byte.invariant.0
            c.if-is_numeric.text (sym c.is_numeric.ensures ∙ w.if-is_numeric.true) (w.text-is ∙ w.push.ensures),
        rw (w.text-is, w.push.ensures) (simp length-append (omega (arith, c.loop-byte.invariant.1))),
      )
      | else-is_numeric+else-not-is_blank w ↦ (
        rw w.text-is (skipped c.loop-byte.text c.args.bytes.now c.loop-byte.byte-index c.loop-byte-test.true c.loop-byte.invariant.0
            (sym w.is_blank.ensures ∙ w.if-not-is_blank.false)),
        rw w.text-is (omega (arith, c.loop-byte.invariant.1)),
      )
    ]

pub returns : goal.returns
returns c = ended c.loop-byte.text c.args.bytes.now c.loop-byte.byte-index c.loop-byte-test.false c.loop-byte.invariant.0
