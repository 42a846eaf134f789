use Rattle.std.proofs.Common.{ℕ, ◌≡◌, ◌+◌, List, ◌++◌, drop}
use Rattle.sn_io.specs.Sink.{Takes}
use Rattle.sn_gwrite.specs.Program.{tools_text}
use Rattle.sn_gwrite.proofs.parts.write_tools.Given as goal

-- the lines of the tools so far were taken, and those of the others are left
abbrev pub invariant-loop-i : goal.invariant-loop-i
invariant-loop-i g l =
    let state = g.S.Sink.state in
    (front : List ℕ) × (tools_text 1 l.tools ≡ front ++ tools_text (l.i + 1) (drop l.i l.tools)) × Takes (state l.fn.sink) (state l.sink) front
