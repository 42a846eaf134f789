-- The first causes of motions at feed, by what is kept of the acts before them.
use Rattle.std.proofs.Common.{ℕ, ◌+◌, ◌-◌, ◌≡◌, ◌≢◌, Option, None, Some, IfSome, List, length, sym, ap, subst, ◌∙◌, ℤ, pos, ◌+ℤ◌, ◌≤ℤ◌, arith}
use Rattle.std.specs.Prelude.{slice_get}
use Rattle.std.proofs.lemmas.List.Elements.{All-contains}
use Rattle.std.proofs.lemmas.Option.{slice_get_within, get_or_from_slice_get}
use Rattle.std.specs.Int.{int_min}
use Rattle.sn_geom.proofs.Ring.{sums}
use Rattle.sn_geom.specs.declared.units.Cell.{Cell}
use Rattle.sn_geom.specs.declared.units.Pt3.{Pt3}
use Rattle.sn_geom.specs.Acts.{Act}
use Rattle.sn_geom.specs.Acts.Act.{Feed}
use Rattle.sn_geom.specs.Sweep.{Touch, IsVertical}
use Rattle.sn_outline.specs.Job.{Job}
use Rattle.sn_outline.specs.JobRule.{IsJob, IsProper}
use Rattle.sn_outline.specs.declared.job.StepJob.{StepJob}
use Rattle.sn_raster.specs.Heights.{HeightMap, IsFirst, IsTouchedCell, StandsFor, low_end}
use Rattle.sn_open.specs.Good.{marks, IsCurrent, passes}
use Rattle.sn_open.specs.Gouged.{IsGougedCell}
use Rattle.sn_open.specs.GougeLaws.{AreOf, GougesAreForbidden}
use Rattle.sn_open.specs.Planes.{CellSet, AreAllowed}
use Rattle.sn_open.specs.Verdict.{IsActCause}
use Rattle.sn_open.specs.VerdictLaws.{FeedsAreTheirSteps, FeedsGouge, FeedsAreDeep}
use Rattle.sn_open.specs.declared.verdict.Cause.{Cause}
use Rattle.sn_open.specs.declared.verdict.Cause.TheVariants.{Early, OtherTool, OtherFeed, OtherSpeed, Gouge, Deep}
use Rattle.sn_sweep.specs.Causes.{TellsFirst, deep_from, IsDeepCell, IsStepCause}

-- Steps and acts.

-- laws of feeds and of gouged cells
pub record FeedLaws : Type 0 where
  pub steps : FeedsAreTheirSteps
  pub gouge : FeedsGouge
  pub deep : FeedsAreDeep
  pub forbidden : GougesAreForbidden

-- the step is current after the acts, and what is kept is theirs
pub record IsKept (map : HeightMap) (cells : CellSet) (job : Job) (before : List Act) (step : StepJob) : Type 0 where
  pub current : IsCurrent job before step
  pub of : AreOf map cells job before step

deeper : (m z : ℤ) (e axial : ℕ) → (m +ℤ pos (e + axial)) ≤ℤ z → (m +ℤ pos e +ℤ pos axial) ≤ℤ z
deeper m z e axial h = omega (arith, sums)

as_deep : (m z : ℤ) (e axial : ℕ) → (m +ℤ pos e +ℤ pos axial) ≤ℤ z → (m +ℤ pos (e + axial)) ≤ℤ z
as_deep m z e axial h = omega (arith, sums)

gouge_to_act : FeedLaws → (map : HeightMap) (cells : CellSet) (job : Job) (before : List Act) (step : StepJob) (from to : Pt3) (feed speed tool : ℕ) (c : Cell)
    → IsKept map cells job before step → IsFirst (IsGougedCell map step.body.d from to cells) c → IsActCause job before (Feed from to feed speed tool) (Gouge c)
gouge_to_act laws map cells job before step from to feed speed tool c kept first =
    (step, kept.current, (laws.forbidden map cells job before step from to c kept.of).1 first)

gouge_of_act : FeedLaws → (map : HeightMap) (cells : CellSet) (job : Job) (before : List Act) (step : StepJob) (from to : Pt3) (feed speed tool : ℕ) (c : Cell)
    → IsKept map cells job before step → IsActCause job before (Feed from to feed speed tool) (Gouge c) → IsFirst (IsGougedCell map step.body.d from to cells) c
gouge_of_act laws map cells job before step from to feed speed tool c kept h =
    let (left, touched, not_allowed, first) = (laws.gouge job before from to feed speed tool step c kept.current).0 h in
    record {
      holds = (laws.forbidden map cells job before step from to c kept.of).0.1 (record { met = record { left = left; touched = touched }; forbidden = not_allowed });
      first = λ other gouged.
          let f = (laws.forbidden map cells job before step from to other kept.of).0.0 gouged in
          first other f.met.left f.met.touched f.forbidden;
    }

deep_to_act : FeedLaws → (map : HeightMap) (cells : CellSet) (job : Job) (before : List Act) (step : StepJob) (from to : Pt3) (feed speed tool : ℕ) (c : Cell)
    → IsKept map cells job before step → IsFirst (IsDeepCell map step from to) c → IsActCause job before (Feed from to feed speed tool) (Deep c)
deep_to_act laws map cells job before step from to feed speed tool c kept h =
    let stands = kept.of.left in
    let touched = h.holds.touched in
    (laws.deep job before from to feed speed tool step c kept.current).1 (
      h.holds.sideways,
      (stands.cells c).0 touched.left,
      subst (λ p. Touch step.body.d from to (low_end p c)) stands.grid.pitch touched.touched,
      deeper (int_min from.z to.z) c.z step.body.e step.axial touched.from_height,
      λ other left touches deep.
          h.first other (record {
            sideways = h.holds.sideways;
            touched = record {
              left = (stands.cells other).1 left;
              from_height = as_deep (int_min from.z to.z) other.z step.body.e step.axial deep;
              touched = subst (λ p. Touch step.body.d from to (low_end p other)) (sym stands.grid.pitch) touches;
            };
          }),
    )

deep_of_act : FeedLaws → (map : HeightMap) (cells : CellSet) (job : Job) (before : List Act) (step : StepJob) (from to : Pt3) (feed speed tool : ℕ) (c : Cell)
    → IsKept map cells job before step → IsActCause job before (Feed from to feed speed tool) (Deep c) → IsFirst (IsDeepCell map step from to) c
deep_of_act laws map cells job before step from to feed speed tool c kept h =
    let stands = kept.of.left in
    let (sideways, left, touches, deep, first) = (laws.deep job before from to feed speed tool step c kept.current).0 h in
    record {
      holds = record {
        sideways = sideways;
        touched = record {
          left = (stands.cells c).1 left;
          from_height = as_deep (int_min from.z to.z) c.z step.body.e step.axial deep;
          touched = subst (λ p. Touch step.body.d from to (low_end p c)) (sym stands.grid.pitch) touches;
        };
      };
      first = λ other is.
          first other ((stands.cells other).0 is.touched.left) (subst (λ p. Touch step.body.d from to (low_end p other)) stands.grid.pitch is.touched.touched)
          (deeper (int_min from.z to.z) other.z step.body.e step.axial is.touched.from_height);
    }

to_act : FeedLaws → (map : HeightMap) (cells : CellSet) (job : Job) (before : List Act) (step : StepJob) (from to : Pt3) (feed speed tool : ℕ) (cause : Cause)
    → IsKept map cells job before step → IsStepCause map cells step from to feed speed tool cause → IsActCause job before (Feed from to feed speed tool) cause
to_act laws map cells job before step from to feed speed tool OtherTool kept h = (step, kept.current, h)
to_act laws map cells job before step from to feed speed tool OtherFeed kept h = (step, kept.current, h)
to_act laws map cells job before step from to feed speed tool OtherSpeed kept h = (step, kept.current, h)
to_act laws map cells job before step from to feed speed tool (Gouge c) kept h = gouge_to_act laws map cells job before step from to feed speed tool c kept h
to_act laws map cells job before step from to feed speed tool (Deep c) kept h = deep_to_act laws map cells job before step from to feed speed tool c kept h
to_act laws map cells job before step from to feed speed tool cause kept h = absurd h

of_act : FeedLaws → (map : HeightMap) (cells : CellSet) (job : Job) (before : List Act) (step : StepJob) (from to : Pt3) (feed speed tool : ℕ) (cause : Cause)
    → IsKept map cells job before step → IsActCause job before (Feed from to feed speed tool) cause → IsStepCause map cells step from to feed speed tool cause
of_act laws map cells job before step from to feed speed tool Early kept h =
    let (k, counted, is) = kept.current in
    let none = ap length h in
    absurd (omega arith)
of_act laws map cells job before step from to feed speed tool OtherTool kept h =
    ((laws.steps job before from to feed speed tool step).1 kept.current).0.0 h
of_act laws map cells job before step from to feed speed tool OtherFeed kept h =
    ((laws.steps job before from to feed speed tool step).1 kept.current).1.0 h
of_act laws map cells job before step from to feed speed tool OtherSpeed kept h =
    ((laws.steps job before from to feed speed tool step).1 kept.current).2.0 h
of_act laws map cells job before step from to feed speed tool (Gouge c) kept h = gouge_of_act laws map cells job before step from to feed speed tool c kept h
of_act laws map cells job before step from to feed speed tool (Deep c) kept h = deep_of_act laws map cells job before step from to feed speed tool c kept h
of_act laws map cells job before step from to feed speed tool cause kept h = absurd h

-- what is told of the step is told of the act
told : FeedLaws → (map : HeightMap) (cells : CellSet) (job : Job) (before : List Act) (step : StepJob) (from to : Pt3) (feed speed tool : ℕ) (answer : Option Cause)
    → IsKept map cells job before step → TellsFirst (IsStepCause map cells step from to feed speed tool) answer
    → TellsFirst (IsActCause job before (Feed from to feed speed tool)) answer
told laws map cells job before step from to feed speed tool None kept h =
    λ cause is. h cause (of_act laws map cells job before step from to feed speed tool cause kept is)
told laws map cells job before step from to feed speed tool (Some cause) kept h = record {
  holds = to_act laws map cells job before step from to feed speed tool cause kept h.holds;
  first = λ other is. h.first other (of_act laws map cells job before step from to feed speed tool other kept is);
}

-- Feeds.

pub after : (n : ℕ) → n ≢ 0 → n ≡ n - 1 + 1
after n some = omega (arith, some)

abbrev pub AreAllowedOf : CellSet → Job → List Act → Type 0
AreAllowedOf cells job before = (step : StepJob) → IsCurrent job before step → AreAllowed cells job step

pub told_by_step : FeedLaws → (map : HeightMap) (cells : CellSet) (job : Job) (step : StepJob) (marked place : ℕ) (from to : Pt3) (feed speed tool : ℕ) (answer : Option Cause)
    → cells.plane.grid ≡ map.grid → marked ≡ place + 1 → slice_get job.steps place ≡ Some step
    → TellsFirst (IsStepCause map cells step from to feed speed tool) answer
    → (before : List Act) → length (marks before) ≡ marked → StandsFor map job (passes job.steps before) → AreAllowedOf cells job before
    → TellsFirst (IsActCause job before (Feed from to feed speed tool)) answer
told_by_step laws map cells job step marked place from to feed speed tool answer grid after is h before counted stands allowed =
    let current : IsCurrent job before step = (place, counted ∙ after, is) in
    told laws map cells job before step from to feed speed tool answer
    (record { current = current; of = record { left = stands; allowed = allowed step current; grid = grid } }) h

-- behind the last step no step is current
pub no_current_step : (job : Job) (marked place : ℕ) (from to : Pt3) (feed speed tool : ℕ) → marked ≡ place + 1 → slice_get job.steps place ≡ None
    → (before : List Act) → length (marks before) ≡ marked → (cause : Cause) → ¬ IsActCause job before (Feed from to feed speed tool) cause
no_current_step job marked place from to feed speed tool after none before counted cause h =
    by_cause cause h
  where
    no_step : (step : StepJob) → ¬ IsCurrent job before step
    no_step step (k, k_counted, is) =
        let same : k ≡ place = omega arith in
        let moved = subst (λ n. slice_get job.steps n ≡ Some step) same is in
        absurd (cc)

    by_cause : (cause : Cause) → ¬ IsActCause job before (Feed from to feed speed tool) cause
    by_cause Early h = let e = ap length h in omega arith
    by_cause OtherTool (step, current, is) = no_step step current
    by_cause OtherFeed (step, current, is) = no_step step current
    by_cause OtherSpeed (step, current, is) = no_step step current
    by_cause (Gouge c) (step, current, is) = no_step step current
    by_cause (Deep c) (step, current, is) = no_step step current
    by_cause cause h = absurd h

-- the step of a job at a place is proper
pub proper_step : (job : Job) (place : ℕ) (step : StepJob) → IsJob job → slice_get job.steps place ≡ Some step → IsProper step
proper_step job place step rule is =
    All-contains IsProper job.steps step rule.proper
    (place, slice_get_within job.steps place step is, get_or_from_slice_get job.steps place step step is)

-- Depths.

-- the first cell that is touched from where cells are too deep
pub deep_cell : (map : HeightMap) (step : StepJob) (from to : Pt3) (z : ℤ) (found : Option Cell) → z ≡ deep_from step from.z to.z → ¬ IsVertical from to
    → IfSome found (IsFirst (IsTouchedCell map step.body.d from to z)) → IfSome found (IsFirst (IsDeepCell map step from to))
deep_cell map step from to z None e sideways h = h
deep_cell map step from to z (Some c) e sideways h =
    let first = subst (λ z. IsFirst (IsTouchedCell map step.body.d from to z) c) e h in
    record { holds = record { sideways = sideways; touched = first.holds }; first = λ other deep. first.first other deep.touched }

pub no_deep_cell : (map : HeightMap) (step : StepJob) (from to : Pt3) (z : ℤ) → z ≡ deep_from step from.z to.z
    → ((c : Cell) → ¬ IsTouchedCell map step.body.d from to z c) → (c : Cell) → ¬ IsDeepCell map step from to c
no_deep_cell map step from to z e none c deep = subst (λ z. (c : Cell) → ¬ IsTouchedCell map step.body.d from to z c) e none c deep.touched
