use Rattle.std.proofs.Common.{◌≡◌, ◌++◌, drop}
use Rattle.sn_link.specs.Moves.{made}
use Rattle.sn_link.proofs.moves.made.Given as goal

-- the moves made so far, and those that are made of the others from where the tip is
abbrev pub invariant-loop-to : goal.invariant-loop-to
invariant-loop-to l = made l.fn.tip l.moves ≡ l.made ++ made l.at (drop l.to-index l.moves)
