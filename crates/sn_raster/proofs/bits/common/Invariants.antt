use Rattle.std.proofs.Common.{ℕ, ◌≡◌, ◌<◌, ◌&&◌, false, get_or}
use Rattle.sn_raster.proofs.bits.common.Given as goal

abbrev pub invariant-loop-k : goal.invariant-loop-k
invariant-loop-k l = (m : ℕ) → m < l.k → get_or l.marks m false ≡ get_or l.a m false && get_or l.b m false
