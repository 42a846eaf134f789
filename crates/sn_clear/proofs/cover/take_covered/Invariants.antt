use Rattle.std.proofs.Common.{ℕ, ◌≡◌, ◌*◌, ◌/◌, ◌<◌, ◌≤◌, ◌&&◌, not, false, get_or}
use Rattle.sn_clear.specs.Field.{spot_of}
use Rattle.sn_clear.specs.Columns.{covers}
use Rattle.sn_clear.proofs.cover.take_covered.Given as goal

abbrev pub invariant-loop-row : goal.invariant-loop-row
invariant-loop-row l = record {
  done : (k : ℕ) → k < l.f.columns * l.f.rows → k / l.f.columns < l.row
      → get_or l.left k false ≡ (get_or l.fn.left k false && not (covers l.f l.stroke (spot_of l.f k)));
  rest : (k : ℕ) → k < l.f.columns * l.f.rows → l.row ≤ k / l.f.columns → get_or l.left k false ≡ get_or l.fn.left k false;
}
