use Rattle.std.proofs.Common.{ℕ, ◌≡◌, ◌<◌, ◌≤◌, ◌⊎◌, false, get_or}
use Rattle.sn_clear.proofs.cover.take_range.Given as goal

abbrev pub invariant-loop-k : goal.invariant-loop-k
invariant-loop-k l = record {
  inside : (m : ℕ) → l.first ≤ m → m < l.k → get_or l.left m false ≡ false;
  outside : (m : ℕ) → (m < l.first) ⊎ (l.k ≤ m) → get_or l.left m false ≡ get_or l.fn.left m false;
}
