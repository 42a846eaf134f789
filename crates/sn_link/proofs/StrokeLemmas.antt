-- The strokes of a clearing step: along them the whole tool is over allowed nodes, and each target is along one of them.
use Rattle.std.proofs.Common.{ℕ, ◌≡◌, ◌*◌, ◌≤◌, List, get_or, refl, sym, ◌∙◌, subst, arith}
use Rattle.std.specs.Prelude.{Contains}
use Rattle.std.specs.List.{All}
use Rattle.std.proofs.lemmas.List.Elements.{All-contains}
use Rattle.sn_geom.specs.Sweep.{Near}
use Rattle.sn_outline.specs.Job.{Job}
use Rattle.sn_outline.specs.JobRule.{IsJob, IsPitch}
use Rattle.sn_outline.specs.declared.job.StepJob.{StepJob}
use Rattle.sn_outline.specs.declared.job.Way.{Way}
use Rattle.sn_outline.specs.declared.job.Way.TheVariants as way
use Rattle.sn_raster.specs.Grid.{Grid, Node, place, InDisc, IsGridOf, greatest_margin}
use Rattle.sn_raster.specs.Plane.{Plane, Has}
use Rattle.sn_raster.specs.GridLaws.{MarginIsGreatest}
use Rattle.sn_open.specs.Planes.{AreCentres}
use Rattle.sn_open.specs.Region.{IsFreeCentre, IsFollowed, IsDrilledAtCentre}
use Rattle.sn_open.specs.declared.stroke.Stroke.{Stroke}
use Rattle.sn_open.specs.PlaneLaws.{WindowHasDiscs}
use Rattle.sn_clear.specs.ClearingLaws.{AreOver, IsHeld, StrokesLieOnCentres, TargetsAreAlongStrokes}
use Rattle.sn_clear.specs.Strokes.{clearing_strokes}
use Rattle.sn_link.specs.Layers.{IsFreeWay, AreTargets}

-- the grid of a job is one
pub one_grid : (g h : Grid) (job : Job) → IsGridOf g job → IsGridOf h job → g ≡ h
one_grid g h job p q = λ k. record {
  pitch = (p.pitch ∙ sym q.pitch) k;
  i0 = (p.columns.0 ∙ sym q.columns.0) k;
  i1 = (p.columns.1 ∙ sym q.columns.1) k;
  j0 = (p.rows.0 ∙ sym q.rows.0) k;
  j1 = (p.rows.1 ∙ sym q.rows.1) k;
  ri0 = (p.raw_columns.0 ∙ sym q.raw_columns.0) k;
  ri1 = (p.raw_columns.1 ∙ sym q.raw_columns.1) k;
  rj0 = (p.raw_rows.0 ∙ sym q.raw_rows.0) k;
  rj1 = (p.raw_rows.1 ∙ sym q.raw_rows.1) k;
  bottom = (p.heights.0 ∙ sym q.heights.0) k;
  top = (p.heights.1 ∙ sym q.heights.1) k;
}

-- the tool of an executed step is not wider than twice the margin
tool_in_margin : MarginIsGreatest → (job : Job) (step : StepJob) → Contains job.steps step → step.body.d ≤ 2 * greatest_margin job.steps
tool_in_margin margin job step executed =
    let all = (margin job.steps (greatest_margin job.steps)).0 (omega arith) in
    (All-contains (λ (s : StepJob). (s.body.d ≤ 2 * greatest_margin job.steps) × (s.side ≤ greatest_margin job.steps) × (s.corner ≤ 2 * greatest_margin job.steps))
    job.steps step all executed).0

module _ (job : Job) (step : StepJob) (centres targets : Plane) (rule : IsJob job) (are_centres : AreCentres centres job step)
    (are_targets : AreTargets targets job step) where
  abbrev g : Grid
  g = centres.grid

  abbrev d : ℕ
  d = step.body.d

  abbrev strokes : List Stroke
  strokes = clearing_strokes step g centres targets

  pitch_is : g.pitch ≡ job.pitch
  pitch_is = are_centres.grid.pitch

  pub are_over : AreOver g centres targets
  are_over = record {
    pitch = subst IsPitch (sym pitch_is) rule.pitch;
    of_centres = refl;
    of_targets = one_grid targets.grid g job are_targets.grid are_centres.grid;
  }

  pub strokes_are_free : StrokesLieOnCentres → All (λ (s : Stroke). IsFreeWay job step s.from s.to) strokes
  strokes_are_free lie k s below n near =
      let t = get_or strokes k s in
      let (c, has, disc) = lie step g centres targets are_over k s below n (subst (λ (p : ℕ). Near d t.from t.to (place p n)) (sym pitch_is) near) in
      (are_centres.nodes c has.in_window).0 has n (subst (λ (p : ℕ). InDisc p d (place p c) n) pitch_is disc)

  -- a target is in the disc of a free centre of the window
  module _ (margin : MarginIsGreatest) (discs : WindowHasDiscs) (executed : Contains job.steps step) (clears : step.way ≡ way.Clear) where
    abbrev IsReachedBy : Way → Node → Type 0
    IsReachedBy w n = elim w [
      | way.Clear ↦ (c : Node) × IsFreeCentre job step c × InDisc job.pitch step.body.d (place job.pitch c) n
      | way.Trail ↦ IsFollowed job step step.outline.shape n
      | way.Drill ↦ IsDrilledAtCentre job step step.outline.shape n
    ]

    pub held : (t : Node) → Has targets t → IsHeld g d centres t
    held t has =
        let opened = ((are_targets.nodes t).0 has).1 in
        let (c, free, disc) = subst (λ (w : Way). IsReachedBy w t) clears opened.reached in
        let inside = discs g job c t d rule are_centres.grid (tool_in_margin margin job step executed) opened.raw disc in
        (c, (are_centres.nodes c inside).1 free, subst (λ (p : ℕ). InDisc p d (place p c) t) (sym pitch_is) disc)

    -- a target is along a stroke
    pub target_along : TargetsAreAlongStrokes → (t : Node) → Has targets t → (s : Stroke) × Contains strokes s × Near d s.from s.to (place job.pitch t)
    target_along along t has =
        let (s, inside, near) = along step g centres targets are_over held t has in
        (s, inside, subst (λ (p : ℕ). Near d s.from s.to (place p t)) pitch_is near)
