use Rattle.std.proofs.Common.{arith, refl, inl, inr}
use Rattle.sn_io.proofs.mem_sink.MemSinkSink.write.Goals as goal
use Rattle.sn_io.proofs.mem_sink.MemSinkSink.write.Goals.{then-listed-via-then-listed, then-listed-via-else-listed+then-count-eq0}

pub returns-then-listed-clause-fails : goal.returns-then-listed-clause-fails
returns-then-listed-clause-fails c =
    elim c.then-listed.branch [
      | then-listed-via-then-listed w ↦ (
        λ _. inl (rw (← c.self.view_is) (rw (c.deref.ensures.value, c.from.ensures) at (w.if-listed.ensures.0 refl))),
        λ _. refl,
      )
      | then-listed-via-else-listed+then-count-eq0 w ↦ (λ _. inr (rw (← c.self.view_is) (omega arith)), λ _. refl)
    ]
