use Rattle.std.proofs.Common.{ℕ, ◌≡◌, ◌<◌, ◌≤◌, ◌||◌, false, length, get_or}
use Rattle.sn_raster.proofs.bits.add.Given as goal

abbrev pub invariant-loop-k : goal.invariant-loop-k
invariant-loop-k l = record {
  full : length l.marks ≡ length l.fn.marks;
  done : (m : ℕ) → m < l.k → get_or l.marks m false ≡ get_or l.fn.marks m false || get_or l.other m false;
  rest : (m : ℕ) → l.k ≤ m → get_or l.marks m false ≡ get_or l.fn.marks m false;
}
