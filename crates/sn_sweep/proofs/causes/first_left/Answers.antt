use Rattle.std.proofs.Common.{IfSome, ap, subst, ◌∙◌}
use Rattle.sn_geom.specs.declared.units.Cell.{Cell}
use Rattle.sn_raster.specs.Grid.{Grid}
use Rattle.sn_raster.specs.Heights.{IsFirst, IsTouchedCell}
use Rattle.sn_sweep.proofs.CausesLemmas.{length_passed_on}
use Rattle.sn_sweep.proofs.causes.first_left.Goals as goal

pub returns-clause-some : goal.returns-clause-some
returns-clause-some c =
    subst (λ z. IfSome c.first_touched.result (IsFirst (IsTouchedCell c.args.heights.now c.args.d c.args.from.now c.args.to.now z)))
    (length_passed_on _ c.grid.invariant.heights.0 ∙ ap (λ (g : Grid). g.bottom) (c.grid.view_is ∙ c.grid-grid.ensures)) c.first_touched.ensures.some

pub returns-clause-none : goal.returns-clause-none
returns-clause-none c = λ none.
    subst (λ z. (cell : Cell) → ¬ IsTouchedCell c.args.heights.now c.args.d c.args.from.now c.args.to.now z cell)
    (length_passed_on _ c.grid.invariant.heights.0 ∙ ap (λ (g : Grid). g.bottom) (c.grid.view_is ∙ c.grid-grid.ensures)) (c.first_touched.ensures.none none)
