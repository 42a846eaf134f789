-- The laws of gouged cells.
use Rattle.std.proofs.Common.{◌≡◌, ◌⊎◌, inl, inr, ⊎_elim, ℤ, List, Option, None, Some, sym, subst, arith}
use Rattle.std.proofs.lemmas.Int.{by_lt_z}
use Rattle.sn_geom.proofs.Ring.{sums}
use Rattle.sn_geom.specs.declared.units.Cell.{Cell}
use Rattle.sn_geom.specs.declared.units.Pt3.{Pt3}
use Rattle.sn_geom.specs.Acts.{Act}
use Rattle.sn_geom.specs.Sweep.{Touch}
use Rattle.sn_outline.specs.Job.{Job}
use Rattle.sn_outline.specs.declared.job.StepJob.{StepJob}
use Rattle.sn_raster.specs.Grid.{IsInWindow}
use Rattle.sn_raster.specs.Plane.{Has}
use Rattle.sn_raster.specs.Heights.{HeightMap, HasCell, node_of, low_end}
use Rattle.sn_open.specs.Gouged.{IsGougedCell}
use Rattle.sn_open.specs.GougeLaws.{AreOf, GougesAreForbidden, NoGougeStaysAllowed}
use Rattle.sn_open.specs.Planes.{CellSet, HasIn, IsHigh}
use Rattle.sn_open.specs.Verdict.{IsMetForbidden}
use Rattle.sn_open.proofs.MorphologyLemmas.{has_or_lacks}
use Rattle.sn_open.proofs.OutsideLemmas.{allowed_cells}
use Rattle.sn_open.proofs.WindowLemmas.{in_own_window}

high_or_low : (lowest : Option ℤ) (z : ℤ) → IsHigh lowest z ⊎ (¬ IsHigh lowest z)
high_or_low None z = inl tt
high_or_low (Some low) z = by_lt_z z low (λ below. inr (λ high. omega (arith, sums, below, high))) (λ high. inl high)

-- a cell of the window is one of the cells or not
in_or_not : (cells : CellSet) (c : Cell) → IsInWindow cells.plane.grid (node_of c) → HasIn cells c ⊎ (¬ HasIn cells c)
in_or_not cells c window =
    ⊎_elim
    (λ (node : Has cells.plane (node_of c)).
    ⊎_elim (λ (high : IsHigh cells.lowest c.z). inl (record { node = node; height = high })) (λ (low : ¬ IsHigh cells.lowest c.z). inr (λ has. low has.height)) (high_or_low cells.lowest c.z))
    (λ (lacks : ¬ Has cells.plane (node_of c)). inr (λ has. lacks has.node)) (has_or_lacks cells.plane (node_of c) window)

window_of : (map : HeightMap) (cells : CellSet) (c : Cell) → cells.plane.grid ≡ map.grid → HasCell map c → IsInWindow cells.plane.grid (node_of c)
window_of map cells c same has = in_own_window cells.plane.grid map.grid (node_of c) same has.in_window

to_forbidden : (map : HeightMap) (cells : CellSet) (job : Job) (before : List Act) (step : StepJob) (a b : Pt3) (c : Cell) → AreOf map cells job before step
    → IsGougedCell map step.body.d a b cells c → IsMetForbidden job before step a b c
to_forbidden map cells job before step a b c of gouged = record {
  met = record {
    left = (of.left.cells c).0 gouged.left;
    touched = subst (λ p. Touch step.body.d a b (low_end p c)) of.left.grid.pitch gouged.touched;
  };
  forbidden = λ allowed. gouged.forbidden ((allowed_cells cells job step c of.allowed (window_of map cells c of.grid gouged.left)).1 allowed);
}

to_gouged : (map : HeightMap) (cells : CellSet) (job : Job) (before : List Act) (step : StepJob) (a b : Pt3) (c : Cell) → AreOf map cells job before step
    → IsMetForbidden job before step a b c → IsGougedCell map step.body.d a b cells c
to_gouged map cells job before step a b c of forbidden =
    let left = (of.left.cells c).1 forbidden.met.left in
    record {
      left = left;
      touched = subst (λ p. Touch step.body.d a b (low_end p c)) (sym of.left.grid.pitch) forbidden.met.touched;
      forbidden = λ has. forbidden.forbidden ((allowed_cells cells job step c of.allowed (window_of map cells c of.grid left)).0 has);
    }

pub gouges_are_forbidden : GougesAreForbidden
gouges_are_forbidden map cells job before step a b c of = (
  (to_forbidden map cells job before step a b c of, to_gouged map cells job before step a b c of),
  λ f. record {
    holds = to_forbidden map cells job before step a b c of f.holds;
    first = λ other forbidden. f.first other (to_gouged map cells job before step a b other of forbidden);
  },
)

pub no_gouge_stays_allowed : NoGougeStaysAllowed
no_gouge_stays_allowed map cells job before step a b of none c left touched =
    let has = (of.left.cells c).1 left in
    let window = window_of map cells c of.grid has in
    ⊎_elim (λ (inside : HasIn cells c). (allowed_cells cells job step c of.allowed window).0 inside)
    (λ (other : ¬ HasIn cells c).
    absurd
    (none c (record { left = has; touched = subst (λ p. Touch step.body.d a b (low_end p c)) (sym of.left.grid.pitch) touched; forbidden = other })))
    (in_or_not cells c window)
