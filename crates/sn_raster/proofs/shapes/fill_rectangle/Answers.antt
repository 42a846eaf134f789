use Rattle.std.proofs.Common.{◌≡◌, ℤ, pos, ◌*ℤ◌, ◌≤ℤ◌, w32, to_z, of_z, ap, ◌∙◌, sym, subst}
use Rattle.std.proofs.lemmas.Int.{to_z-of_z}
use Rattle.std.proofs.lemmas.Bool.{both_ways}
use Rattle.sn_raster.specs.Grid.{place}
use Rattle.sn_raster.specs.RowTurns.{at}
use Rattle.sn_raster.proofs.HeightRows.{along, neither}
use Rattle.sn_raster.proofs.PlaneRows.{rectangle_row}
use Rattle.sn_raster.proofs.shapes.fill_rectangle.Goals as goal

pub returns-then-not-is_between-clause-row : goal.returns-then-not-is_between-clause-row
returns-then-not-is_between-clause-row c = λ i left right.
    let j_is = to_z-of_z w32 c.args.j c.ranges.j in
    let y_is = c.height_of_row.ensures ∙ ap (λ k. k *ℤ pos c.args.g.now.pitch) j_is in
    let B : ℤ → Type 0 = λ y. (c.args.low.now.y ≤ℤ y) × (y ≤ℤ c.args.high.now.y) in
    neither (c.clear_row.ensures.row (at i c.args.j) (sym j_is))
    (λ inside. both_ways c.is_between.result c.if-not-is_between.true (c.is_between.ensures.1 (subst B (sym y_is) (inside.front, inside.back))))

pub returns-then-not-is_between-clause-others : goal.returns-then-not-is_between-clause-others
returns-then-not-is_between-clause-others c = λ n off. c.clear_row.ensures.others n (λ on. off (on ∙ to_z-of_z w32 c.args.j c.ranges.j))

pub returns-clause-row : goal.returns-clause-row
returns-clause-row c = λ i left right.
    let g = c.args.g.now in
    let j_is = to_z-of_z w32 c.args.j c.ranges.j in
    let y_is = c.height_of_row.ensures ∙ ap (λ k. k *ℤ pos g.pitch) j_is in
    let B : ℤ → Type 0 = λ y. (c.args.low.now.y ≤ℤ y) × (y ≤ℤ c.args.high.now.y) in
    let between = subst B y_is (c.is_between.ensures.0 c.if-not-is_between.false) in
    let columns = c.columns_within-columns in
    rectangle_row columns.result.first columns.result.last i c.args.j _ c.args.low.now c.args.high.now (place g.pitch (at i c.args.j)) j_is
    (c.set_run.ensures.run (at i c.args.j)) (c.set_run.ensures.others (at i c.args.j)) (c.clear_row.ensures.row (at i c.args.j) (sym j_is)) (columns.ensures.all i left right) between.0 between.1

pub returns-clause-others : goal.returns-clause-others
returns-clause-others c = λ n off.
    let off' = λ (on : n.j ≡ to_z w32 (of_z w32 c.args.j)). off (on ∙ to_z-of_z w32 c.args.j c.ranges.j) in
    along (c.set_run.ensures.others n (λ run. off' run.row)) (c.clear_row.ensures.others n off')
