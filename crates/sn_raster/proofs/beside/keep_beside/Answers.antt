use Rattle.std.proofs.Common.{arith}
use Rattle.sn_raster.proofs.MarksBeside.{kept_beside}
use Rattle.sn_raster.proofs.beside.keep_beside.Goals as goal

pub returns-clause-each : goal.returns-clause-each
returns-clause-each c =
    kept_beside c.args.from.now c.keep_ends.new.to c.keep_inner.new.to c.args.step (omega (arith, c.requires.whole, c.if-from-step.false))
    c.keep_ends.ensures.first c.keep_ends.ensures.last c.keep_inner.ensures.inner c.keep_inner.ensures.first c.keep_inner.ensures.last
