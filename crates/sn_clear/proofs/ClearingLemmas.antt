-- The strokes of a step on its grid: they lie on free centres, each target is along one of them, and they are thrifty.
use Rattle.std.proofs.Common.{ℕ, zero, suc, ◌≡◌, ◌*◌, ◌+◌, ◌<◌, ◌≤◌, ◌⊎◌, inl, inr, true, List, [], ◌∷◌, max, map, length, get_or, refl, sym, ap, ◌∙◌, subst, arith}
use Rattle.std.specs.Prelude.{Contains}
use Rattle.std.specs.List.{All}
use Rattle.std.proofs.lemmas.Bool.{cases_Bool, false≢true}
use Rattle.std.proofs.lemmas.List.Elements.{All-map, All-contains}
use Rattle.sn_outline.specs.declared.job.StepJob.{StepJob}
use Rattle.sn_raster.specs.Grid.{Grid, Node, place, InDisc, IsInWindow}
use Rattle.sn_raster.specs.Plane.{Plane, Has}
use Rattle.sn_open.specs.declared.stroke.Stroke.{Stroke}
use Rattle.sn_clear.specs.declared.spot.Run.{Run}
use Rattle.sn_clear.specs.declared.spot.Spot.{Spot}
use Rattle.sn_clear.specs.Window.{columns, rows, node_at}
use Rattle.sn_clear.specs.Field.{Field, spot_of}
use Rattle.sn_clear.specs.Columns.{IsCentreOf, is_covered}
use Rattle.sn_clear.specs.Strokes.{clearing_strokes, field_of, row_step, runs_of, stroke_of}
use Rattle.sn_clear.specs.StrokeLaws.{IsUsefulRun}
use Rattle.sn_clear.specs.Thrift.{AreThrifty, IsOpen}
use Rattle.sn_clear.specs.ThriftyStrokes.{HoldsTarget}
use Rattle.sn_clear.specs.ClearingLaws.{AreOver, IsAlong, IsHeld, StrokesLieOnCentres, TargetsAreAlongStrokes, ClearingStrokesAreThrifty, NoStrokesWithoutTargets}
use Rattle.sn_clear.proofs.AlongLemmas.{point, IsFromTo, centre_near, near_centre}
use Rattle.sn_clear.proofs.CoverLemmas.{covers_is, covered_is}
use Rattle.sn_clear.proofs.LieLemmas.{strokes_are_useful}
use Rattle.sn_clear.proofs.ReachLemmas.{number_below, spot_of_number, some_pitch}
use Rattle.sn_clear.proofs.SurfaceLaws.{held_by_centres, useful_hold_targets, discs_of_grid}
use Rattle.sn_clear.proofs.ThriftColumns.{strokes_are_thrifty}
use Rattle.sn_clear.proofs.WindowLemmas.{has_mark, at_window, column_of, row_of}

-- Lists.

each_mapped : {X Y : Type 0} (P : X → Type 0) (Q : Y → Type 0) (f : X → Y) (xs : List X) → All P xs → ((x : X) → P x → Q (f x)) → All Q (map f xs)
each_mapped P Q f xs all each = All-map Q f xs (λ k d below. each (get_or xs k d) (all k d below))

get_mapped : {X Y : Type 0} (f : X → Y) (xs : List X) (k : ℕ) (d : X) → get_or (map f xs) k (f d) ≡ f (get_or xs k d)
get_mapped f [] k d = refl
get_mapped f (x ∷ xs) zero d = refl
get_mapped f (x ∷ xs) (suc k) d = get_mapped f xs k d

as_long : {X Y : Type 0} (f : X → Y) (xs : List X) → length (map f xs) ≡ length xs
as_long f [] = refl
as_long f (x ∷ xs) = ap suc (as_long f xs)

contains_mapped : {X Y : Type 0} (f : X → Y) (xs : List X) (x : X) → Contains xs x → Contains (map f xs) (f x)
contains_mapped f xs x (k, below, is) = (k, (let long = as_long f xs in omega arith), get_mapped f xs k x ∙ ap f is)

-- nothing is mapped where there is no element
none_mapped : {X Y : Type 0} (P : X → Type 0) (f : X → Y) (xs : List X) → All P xs → ((x : X) → P x → ⊥) → map f xs ≡ []
none_mapped P f [] all never = refl
none_mapped P f (x ∷ xs) all never = absurd (never x (all 0 x (omega arith)))

between : (a b k n : ℕ) → a < n → b < n → k ≤ max a b → k < n
between a b k n h i j = omega arith

-- Along strokes.

module _ (step : StepJob) (g : Grid) (centres targets : Plane) (over : AreOver g centres targets) where
  abbrev d : ℕ
  d = step.body.d

  abbrev field : Field
  field = field_of g d centres targets

  abbrev every : ℕ
  every = row_step step g.pitch

  abbrev runs : List Run
  runs = runs_of field every targets

  -- each node of a run is a free centre whose disc holds a target
  holds_target : (run : Run) → IsUsefulRun field run → (c : Spot) → IsCentreOf run c → HoldsTarget g d centres targets (node_at g c.column c.row)
  holds_target run useful c on =
      let below_c = between run.from.column run.to.column c.column (columns g) useful.from.column useful.to.column on.column_to in
      let below_r = between run.from.row run.to.row c.row (rows g) useful.from.row useful.to.row on.row_to in
      let (has, (t, target, disc)) =
      (useful_hold_targets g d centres targets c.column c.row over.pitch over.of_centres over.of_targets below_c below_r).0 (useful.centres c on) in
      record { centre = has; target = t; is_target = target; near = disc }

  on_centres : (run : Run) → IsUsefulRun field run → (n : Node) → IsAlong g d (stroke_of g run) n → IsHeld g d centres n
  on_centres run useful n near =
      let (c, r, across, up, disc) =
      centre_near g d run.from.column run.from.row run.to.column run.to.row (some_pitch g.pitch over.pitch) n useful.straight near in
      let holds = holds_target run useful (record { column = c; row = r })
      (record { column_from = across.0; column_to = across.1; row_from = up.0; row_to = up.1 }) in
      (node_at g c r, holds.centre, disc)

  all_on_centres : All (λ (s : Stroke). (n : Node) → IsAlong g d s n → IsHeld g d centres n) (clearing_strokes step g centres targets)
  all_on_centres =
      each_mapped (IsUsefulRun field) (λ (s : Stroke). (n : Node) → IsAlong g d s n → IsHeld g d centres n) (stroke_of g) runs
      (strokes_are_useful field every targets.marks) on_centres

  no_strokes : ((n : Node) → ¬ Has targets n) → clearing_strokes step g centres targets ≡ []
  no_strokes none =
      none_mapped (IsUsefulRun field) (stroke_of g) runs (strokes_are_useful field every targets.marks) (λ run useful.
      let holds = holds_target run useful run.from
      (record { column_from = omega arith; column_to = omega arith; row_from = omega arith; row_to = omega arith }) in
      none holds.target holds.is_target)

  -- Targets.

  module _ (held : (t : Node) → Has targets t → IsHeld g d centres t) where
    thrifty : AreThrifty field every targets.marks runs
    thrifty = strokes_are_thrifty field every targets.marks (held_by_centres g d centres targets over.pitch over.of_centres over.of_targets held)

    covered_at : (c r : ℕ) → c < columns g → r < rows g → Has targets (node_at g c r)
        → is_covered field runs (spot_of field (r * columns g + c)) ≡ true
    covered_at c r below_c below_r has =
        elim (cases_Bool (is_covered field runs (spot_of field (r * columns g + c)))) [
          | inl on ↦ on
          | inr off ↦
              absurd (thrifty.none_open (r * columns g + c) (record {
                inside = number_below c r (columns g) (rows g) below_c below_r;
                target = (has_mark targets g c r over.of_targets below_c below_r).0 has;
                uncovered = λ on. false≢true (sym off ∙ on);
              }))
        ]

    target_along : (t : Node) → Has targets t → (s : Stroke) × Contains (clearing_strokes step g centres targets) s × IsAlong g d s t
    target_along t has =
        let at = at_window g t (subst (λ (h : Grid). IsInWindow h t) over.of_targets has.in_window) in
        let tc = column_of g t in
        let tr = row_of g t in
        let there : Has targets (node_at g tc tr) = subst (λ (n : Node). Has targets n) at.is has in
        let (run, inside, covering) = (covered_is field runs (spot_of field (tr * columns g + tc))).0
        (covered_at tc tr at.column_in at.row_in there) in
        let (c, centre, holding) = (covers_is field run (spot_of field (tr * columns g + tc))).0 covering in
        let disc = (discs_of_grid g d centres targets c (spot_of field (tr * columns g + tc)) over.pitch).0 holding in
        let spot = spot_of_number field tc tr at.column_in in
        let disc' = subst (λ s. InDisc g.pitch d (place g.pitch (node_at g c.column c.row)) (node_at g s.column s.row)) spot disc in
        let disc_t = subst (λ (n : Node). InDisc g.pitch d (place g.pitch (node_at g c.column c.row)) n) (sym at.is) disc' in
        let useful = All-contains (IsUsefulRun field) runs run (strokes_are_useful field every targets.marks) inside in
        let near = near_centre g d run.from.column run.from.row run.to.column run.to.row c.column c.row t useful.straight
        (centre.column_from, centre.column_to) (centre.row_from, centre.row_to) disc_t in
        (stroke_of g run, contains_mapped (stroke_of g) runs run inside, near)

pub strokes_lie_on_centres : StrokesLieOnCentres
strokes_lie_on_centres step g centres targets over = all_on_centres step g centres targets over

pub targets_are_along_strokes : TargetsAreAlongStrokes
targets_are_along_strokes step g centres targets over held t has = target_along step g centres targets over held t has

pub clearing_strokes_are_thrifty : ClearingStrokesAreThrifty
clearing_strokes_are_thrifty step g centres targets over held =
    let f = field_of g step.body.d centres targets in
    let every = row_step step g.pitch in
    record {
      runs = runs_of f every targets;
      strokes_are = refl;
      thrifty = thrifty step g centres targets over held;
      hold = λ run inside c on.
          holds_target step g centres targets over run
          (All-contains (IsUsefulRun f) (runs_of f every targets) run (strokes_are_useful f every targets.marks) inside) c on;
    }

pub no_strokes_without_targets : NoStrokesWithoutTargets
no_strokes_without_targets step g centres targets over none = no_strokes step g centres targets over none
