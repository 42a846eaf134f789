use Rattle.std.proofs.Common.{ℕ, ◌≡◌, ◌+◌, ◌-◌, ◌<◌, ◌≤◌, ◌&&◌, false, length, get_or}
use Rattle.sn_raster.proofs.beside.keep_ends.Given as goal

abbrev pub invariant-loop-k : goal.invariant-loop-k
invariant-loop-k l = record {
  full : length l.to ≡ length l.from;
  first : (m : ℕ) → m < l.k → get_or l.to m false ≡ get_or l.from m false && get_or l.from (m + l.step) false;
  last : (m : ℕ) → l.last ≤ m → m < l.last + l.k → get_or l.to m false ≡ get_or l.from (m - l.step) false && get_or l.from m false;
}
