-- The fault of a line that counts: no closing percent line came before it, it is none itself, and it does not stand after
-- the end.
use Rattle.std.proofs.Common.{◌≡◌, false, ◌&&◌, refl}
use Rattle.sn_geom.specs.Block.{Block}
use Rattle.sn_geom.specs.Machine.{State, prepared, says_something, words_fault, fault_of}

pub fault_of-counting : (s : State) (b : Block) → s.closed ≡ false → b.percent ≡ false → (s.ended && says_something b) ≡ false
    → fault_of s b ≡ words_fault (prepared s b.words) b.words
fault_of-counting s b unclosed plain running = rw (unclosed, plain, running) refl
