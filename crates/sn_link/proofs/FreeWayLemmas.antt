-- Free ways: no node of the window along them is lacking.
use Rattle.std.proofs.Common.{ℕ, ◌≡◌, ◌↔◌, ◌+◌, ◌<◌, ◌≤◌, ◌⊎◌, inl, inr, ⊎_elim, Bool, true, false, not, IsTrue, get_or, ℤ, pos, ◌+ℤ◌, ◌*ℤ◌, refl, sym, ◌∙◌, subst, arith}
use Rattle.std.proofs.lemmas.Bool.{cases_lt, false≢true}
use Rattle.sn_geom.specs.declared.units.Pt.{Pt}
use Rattle.sn_geom.specs.declared.units.Seg.{Seg}
use Rattle.sn_geom.specs.Length.{IsLength}
use Rattle.sn_geom.specs.Sweep.{Near}
use Rattle.sn_outline.specs.Job.{Job}
use Rattle.sn_outline.specs.declared.job.StepJob.{StepJob}
use Rattle.sn_raster.specs.Grid.{Grid, Node, IsInWindow, place}
use Rattle.sn_raster.specs.Plane.{Plane, Has, mark_of}
use Rattle.sn_open.specs.Planes.{AreAllowed, CellSet, IsGridWith}
use Rattle.sn_open.specs.PlaneLaws.{OutsideIsAllowed}
use Rattle.sn_open.specs.Window.{columns, rows, node_at}
use Rattle.sn_clear.proofs.WindowLemmas.{at_window, column_of, row_of}
use Rattle.sn_link.specs.Layering.{IsLacking}
use Rattle.sn_link.specs.Layers.{IsFreeWay}

either : (b : Bool) → (b ≡ true) ⊎ (b ≡ false)
either true = inl refl
either false = inr refl

has_or_lacks : (plane : Plane) (n : Node) → IsInWindow plane.grid n → Has plane n ⊎ (¬ Has plane n)
has_or_lacks plane n window =
    ⊎_elim (λ (on : get_or plane.marks (mark_of plane.grid n) false ≡ true). inl (record { in_window = window; marked = on }))
    (λ (off : get_or plane.marks (mark_of plane.grid n) false ≡ false). inr (λ has. false≢true (sym off ∙ has.marked))) (either (get_or plane.marks (mark_of plane.grid n) false))

-- the coordinate of a place that was passed on
pub passed_coordinate : (first first' : ℤ) (k pitch pitch' : ℕ) → first' ≡ first → pitch' ≡ pitch → IsLength ((first +ℤ pos k) *ℤ pos pitch) → IsLength ((first' +ℤ pos k) *ℤ pos pitch')
passed_coordinate first first' k pitch pitch' same scale length = rw (same, scale) length

-- no node of the row is lacking, in the columns from one up to another
abbrev pub HasAllInRow : Plane → ℕ → Seg → Grid → ℕ → ℕ → ℕ → Type 0
HasAllInRow plane d way g from to row = (column : ℕ) → from ≤ column → column < to → ¬ IsLacking plane d way (node_at g column row)

-- the nodes near a segment are in the rows and the columns from one up to another
pub has_all : (plane : Plane) (d : ℕ) (way : Seg) (g : Grid) (left right front back : ℕ) → g ≡ plane.grid
    → ((column row : ℕ) → column < columns g → Near d way.a way.b (place g.pitch (node_at g column row)) → (left ≤ column) × (column < right))
    → ((column row : ℕ) → row < rows g → Near d way.a way.b (place g.pitch (node_at g column row)) → (front ≤ row) × (row < back))
    → ((row : ℕ) → front ≤ row → row < back → HasAllInRow plane d way g left right row)
    → (n : Node) → ¬ IsLacking plane d way n
has_all plane d way g left right front back same columns_near rows_near none n lacks =
    let at = at_window g n (subst (λ h. IsInWindow h n) (sym same) lacks.window) in
    let column = column_of g n in
    let row = row_of g n in
    let near : Near d way.a way.b (place g.pitch (node_at g column row)) =
    subst (λ m. Near d way.a way.b (place g.pitch m)) at.is (subst (λ h. Near d way.a way.b (place h.pitch n)) (sym same) lacks.near) in
    let across = columns_near column row at.column_in near in
    let up = rows_near column row at.row_in near in
    none row up.0 up.1 column across.0 across.1 (subst (IsLacking plane d way) at.is lacks)

pub not_both : {from k : ℕ} → from ≤ k → k < from → ⊥
not_both low below = omega (arith, low, below)

-- what holds from one number up to another, and there
pub one_on : (P : ℕ → Type 0) (from k : ℕ) → ((j : ℕ) → from ≤ j → j < k → P j) → P k → (j : ℕ) → from ≤ j → j < k + 1 → P j
one_on P from k before here j low below =
    ⊎_elim (λ less. before j low less) (λ over. let same : k ≡ j = omega (arith, over, below) in subst P same here) (cases_lt j k)

-- no node of the window is lacking exactly where the way is free
pub free_by_test : OutsideIsAllowed → (allowed : CellSet) (step : StepJob) → IsGridWith allowed.plane.grid step → (job : Job) (a b : Pt)
    → AreAllowed allowed job step → (lacks : Bool)
    → (IsTrue lacks → (n : Node) × IsLacking allowed.plane step.body.d (record { a = a; b = b }) n)
    → ((¬ IsTrue lacks) → (n : Node) → ¬ IsLacking allowed.plane step.body.d (record { a = a; b = b }) n)
    → IsTrue (not lacks) ↔ IsFreeWay job step a b
free_by_test outside allowed step executed job a b are true some none = (
  λ on. absurd (false≢true on),
  λ free.
      let (n, lacks) = some refl in
      absurd (lacks.lacks ((are.nodes n lacks.window).1 (free n (subst (λ p. Near step.body.d a b (place p n)) are.grid.pitch lacks.near)))),
)
free_by_test outside allowed step executed job a b are false some none = (
  λ on n near.
      ⊎_elim
      (λ window.
      ⊎_elim
      (λ has. (are.nodes n window).0 has)
      (λ lacks. absurd (none false≢true n (record { window = window; near = subst (λ p. Near step.body.d a b (place p n)) (sym are.grid.pitch) near; lacks = lacks })))
      (has_or_lacks allowed.plane n window))
      (λ there. there)
      (outside allowed.plane.grid job step n executed are.grid),
  λ free. refl,
)
