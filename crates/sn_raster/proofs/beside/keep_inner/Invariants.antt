use Rattle.std.proofs.Common.{ℕ, ◌≡◌, ◌+◌, ◌-◌, ◌<◌, ◌≤◌, ◌&&◌, false, length, get_or}
use Rattle.sn_raster.proofs.beside.keep_inner.Given as goal

abbrev pub invariant-loop-k : goal.invariant-loop-k
invariant-loop-k l = record {
  full : length l.to ≡ length l.from;
  begun : l.step ≤ l.k;
  done : (m : ℕ) → l.step ≤ m → m < l.k → get_or l.to m false ≡ (get_or l.from (m - l.step) false && get_or l.from m false) && get_or l.from (m + l.step) false;
  before : (m : ℕ) → m < l.step → get_or l.to m false ≡ get_or l.fn.to m false;
  rest : (m : ℕ) → l.k ≤ m → get_or l.to m false ≡ get_or l.fn.to m false;
}
