use Rattle.std.proofs.Common.{ℕ, ◌<◌, IsTrue, false, get_or}
use Rattle.sn_raster.proofs.bits.are_all_in.Given as goal

abbrev pub invariant-loop-k : goal.invariant-loop-k
invariant-loop-k l = (m : ℕ) → m < l.k → IsTrue (get_or l.marks m false) → IsTrue (get_or l.other m false)
