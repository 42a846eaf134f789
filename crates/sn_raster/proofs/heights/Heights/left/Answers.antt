use Rattle.std.proofs.Common.{◌≡◌, ℕ, ℤ, ◌-ℤ◌, ◌∙◌, unsigned_abs, List, sym, subst, ap}
use Rattle.std.specs.List.{sum_by}
use Rattle.sn_raster.specs.Heights.{IsHeightMap, IsCount, HasCell, cells_left}
use Rattle.sn_raster.proofs.heights.Heights.left.Goals as goal

pub returns-clause-sum : goal.returns-clause-sum
returns-clause-sum c =
    let Q : List ℤ → Type 0 = λ hs. c.sum_above.result ≡ sum_by (λ h. unsigned_abs (h -ℤ c.self.inside.grid.bottom)) hs in
    let sum : c.sum_above.result ≡ cells_left (record { grid = c.self.inside.grid; heights = c.self.inside.heights.items }) = subst Q c.deref.ensures.value c.sum_above.ensures in
    sum ∙ ap cells_left c.self.view_is

pub returns-clause-count : goal.returns-clause-count
returns-clause-count c =
    let P : ℕ → Type 0 = λ n. IsCount (HasCell c.args.self.now) n in
    subst P (sym (returns-clause-sum c)) (c.counts.ensures.cells c.args.self.now (subst IsHeightMap c.self.view_is c.self.invariant))
