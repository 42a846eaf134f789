use Rattle.std.proofs.Common.{◌*◌, ◌/◌, ◌<◌, inl, inr, get_or, false, refl, ◌∙◌, arith}
use Rattle.std.proofs.lemmas.Bool.{cases_lt}
use Rattle.std.proofs.lemmas.Nat.{div_below}
use Rattle.std.proofs.Math.Nat.{mul_comm}
use Rattle.sn_clear.proofs.DiscLemmas.{IsRoot, stroke_misses, kept, some_columns}
use Rattle.sn_clear.proofs.cover.take_covered.Goals as goal

pub loop-row-init : goal.loop-row-init
loop-row-init c =
    let f = c.args.f.now in
    let root : IsRoot f.reach c.isqrt-radius.result =
    rw (← c.reach.ensures) (record { square_le = c.isqrt-radius.ensures.square_le; next_square_gt = c.isqrt-radius.ensures.next_square_gt }) in
    record {
      done = λ k below before.
          kept (get_or c.args.left.now k false) _
          (stroke_misses f c.args.stroke k c.isqrt-radius.result c.requires.column root (inl (omega (arith, before, c.saturating_sub-first.ensures))));
      rest = λ k below after. refl;
    }

pub returns : goal.returns
returns c =
    let f = c.args.f.now in
    let root : IsRoot f.reach c.isqrt-radius.result =
    rw (← c.reach.ensures) (record { square_le = c.isqrt-radius.ensures.square_le; next_square_gt = c.isqrt-radius.ensures.next_square_gt }) in
    λ k below.
    elim (cases_lt (k / f.columns) c.loop-row.row) [
      | inl before ↦ c.loop-row.invariant.done k below before
      | inr after ↦
          let turned : k < f.rows * f.columns = rw (mul_comm f.rows f.columns) below in
          let inside = div_below k f.columns f.rows (some_columns k f.columns f.rows below) turned in
          c.loop-row.invariant.rest k below after
          ∙ kept (get_or c.args.left.now k false) _
          (stroke_misses f c.args.stroke k c.isqrt-radius.result c.requires.column root
          (inr (omega (arith, after, inside, c.loop-row-test.false, c.min-end.ensures, c.rows.ensures))))
    ]
