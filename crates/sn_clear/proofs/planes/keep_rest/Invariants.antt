use Rattle.std.proofs.Common.{ℕ, ◌≡◌, ◌<◌, ◌≤◌, ◌&&◌, not, false, get_or, length}
use Rattle.sn_clear.proofs.planes.keep_rest.Given as goal

abbrev pub invariant-loop-k : goal.invariant-loop-k
invariant-loop-k l = record {
  full : length l.marks.items ≡ length l.fn.marks.items;
  done : (m : ℕ) → m < l.k → get_or l.marks.items m false ≡ (get_or l.fn.marks.items m false && not (get_or l.others m false));
  rest : (m : ℕ) → l.k ≤ m → get_or l.marks.items m false ≡ get_or l.fn.marks.items m false;
}
