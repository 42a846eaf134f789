use Rattle.std.proofs.Common.{ℕ, ◌*◌, ◌<◌, w32, ap, ◌∙◌, subst, sym}
use Rattle.std.proofs.lemmas.Int.{to_z-of_z}
use Rattle.sn_raster.specs.Grid.{places}
use Rattle.sn_raster.proofs.Axis.{kept}
use Rattle.sn_raster.proofs.Marks.{mark_value, mark_below}
use Rattle.sn_raster.proofs.bits.mark.Goals as goal

pub returns-clause-value : goal.returns-clause-value
returns-clause-value c =
    let grid = c.args.g.now in
    mark_value grid c.args.i c.args.j _ _ _ _ _ _ _ _ (to_z-of_z w32 c.args.i c.ranges.i) (to_z-of_z w32 c.args.j c.ranges.j)
    (kept _ c.g.invariant.ends.columns.0 ∙ ap (λ g. g.i0) c.g.view_is)
    (kept _ c.g.invariant.ends.columns.1 ∙ ap (λ g. g.i1) c.g.view_is)
    (kept _ c.g.invariant.ends.rows.0 ∙ ap (λ g. g.j0) c.g.view_is)
    c.abs_diff.ensures c.abs_diff-2.ensures c.count.ensures.value

pub returns-clause-size : goal.returns-clause-size
returns-clause-size c =
    let grid = c.args.g.now in
    let P : ℕ → Type 0 = λ k. k < places grid.i0 grid.i1 * places grid.j0 grid.j1 in
    subst P (sym (returns-clause-value c)) (mark_below grid (record { i = c.args.i; j = c.args.j }) c.requires)
