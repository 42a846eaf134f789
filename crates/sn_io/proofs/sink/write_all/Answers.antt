use Rattle.std.proofs.Common.{◌++◌, take, refl}
use Rattle.sn_io.proofs.SinkLemmas.{takes-more, front-grows}
use Rattle.sn_io.proofs.sink.write_all.Goals as goal

-- src/sink.rt:37:5
pub loop-rest-preserved : goal.loop-rest-preserved
loop-rest-preserved g c =
    let before = c.loop-rest.invariant in
    let count = c.in_ok-count.count in (
      before.0 ++ take count c.loop-rest.rest.now,
      front-grows _ before.0 c.loop-rest.rest.now count _ before.1 refl,
      takes-more _ _ _ before.0 (take count c.loop-rest.rest.now) before.2 c.in_ok-count.ensures.takes,
    )
