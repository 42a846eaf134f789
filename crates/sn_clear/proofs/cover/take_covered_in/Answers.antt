use Rattle.std.proofs.Common.{◌≡◌, ◌+◌, ◌-◌, ◌*◌, ◌≤◌, ap, arith}
use Rattle.std.proofs.lemmas.Nat.{mul-le}
use Rattle.sn_clear.proofs.DiscLemmas.{IsRoot, row_taken, others_kept}
use Rattle.sn_clear.proofs.cover.take_covered_in.Goals as goal

pub take_range-requires-clause-end : goal.take_range-requires-clause-end
take_range-requires-clause-end c =
    let f = c.args.f.now in
    let next : c.args.row + 1 ≤ f.rows = omega (arith, c.requires.row) in
    let scaled = mul-le (c.args.row + 1) f.columns f.rows f.columns next (omega arith) in
    let product : c.args.row * c.columns-2.result ≡ c.args.row * f.columns = ap (λ n. c.args.row * n) c.columns-2.ensures in
    omega (arith, scaled, product, c.requires.full, c.columns-2.ensures, c.columns.ensures, c.min-end.ensures)

pub returns-clause-row : goal.returns-clause-row
returns-clause-row c =
    let f = c.args.f.now in
    let along = c.rows_apart-apart.result in
    let near : along * along ≤ f.reach = omega (arith, c.if-apart-reach.false, c.reach.ensures) in
    let root : IsRoot (f.reach - along * along) c.isqrt-width.result =
    rw (← c.reach-2.ensures) (record { square_le = c.isqrt-width.ensures.square_le; next_square_gt = c.isqrt-width.ensures.next_square_gt }) in
    row_taken f c.args.stroke c.args.row along c.isqrt-width.result c.saturating_sub-first.result c.min-end.result (c.args.row * c.columns-2.result)
    c.args.left.now c.take_range.new.left (ap (λ n. c.args.row * n) c.columns-2.ensures)
    (record {
      column = c.requires.column;
      is_along = c.rows_apart-apart.ensures;
      near = near;
      is_width = root;
      is_first = c.saturating_sub-first.ensures;
      is_end = omega (arith, c.min-end.ensures, c.columns.ensures);
    })
    (record { inside = c.take_range.ensures.inside; outside = c.take_range.ensures.outside })

pub returns-clause-others : goal.returns-clause-others
returns-clause-others c =
    let f = c.args.f.now in
    others_kept f c.args.row c.saturating_sub-first.result c.min-end.result (c.args.row * c.columns-2.result)
    c.args.left.now c.take_range.new.left (ap (λ n. c.args.row * n) c.columns-2.ensures) (omega (arith, c.min-end.ensures, c.columns.ensures))
    (record { inside = c.take_range.ensures.inside; outside = c.take_range.ensures.outside })
