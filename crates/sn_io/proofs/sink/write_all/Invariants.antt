use Rattle.std.proofs.Common.{ℕ, List, ◌++◌, length, ◌≡◌}
use Rattle.sn_io.specs.Sink.{Takes}
use Rattle.sn_io.proofs.sink.write_all.Given as goal

-- a front of the bytes was taken, and the rest is left
abbrev pub invariant-loop-rest : goal.invariant-loop-rest
invariant-loop-rest g l =
    let state = g.S.Sink.state in
    (front : List ℕ) × (l.fn.bytes ≡ front ++ l.rest) × Takes (state l.fn.sink) (state l.sink) front

abbrev pub decreases-loop-rest : goal.decreases-loop-rest
decreases-loop-rest g l = length l.rest
