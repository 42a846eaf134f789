-- The planned moves of a step are safe, end at the security height, leave nothing over its targets, and are straight.
use Rattle.std.proofs.Common.{◌≡◌, ◌+◌, ◌*◌, inl, inr, ⊎_elim, List, [], ◌∷◌, ℤ, pos, ◌+ℤ◌, ◌≤ℤ◌, ◌<ℤ◌, refl, sym, subst, arith}
use Rattle.std.specs.Prelude.{Contains}
use Rattle.std.specs.List.{All}
use Rattle.std.proofs.lemmas.Int.{ints}
use Rattle.std.proofs.lemmas.List.Elements.{All-contains}
use Rattle.sn_geom.proofs.Ring.{sums}
use Rattle.sn_geom.proofs.Nearness.{near_one_place}
use Rattle.sn_geom.specs.Length.{IsLength}
use Rattle.sn_geom.specs.declared.limits.TheConstants.{REACH}
use Rattle.sn_geom.specs.declared.tip.Tip.{Tip}
use Rattle.sn_outline.specs.Job.{Job, tip_floor}
use Rattle.sn_outline.specs.JobRule.{IsJob, IsProper, IsShapeFor}
use Rattle.sn_outline.specs.declared.job.StepJob.{StepJob}
use Rattle.sn_outline.specs.declared.job.Way.{Way}
use Rattle.sn_outline.specs.declared.job.Way.TheVariants as way
use Rattle.sn_outline.specs.declared.outline.Shape.{Shape}
use Rattle.sn_outline.specs.declared.outline.Shape.TheVariants.{Rect, Circle, Polygon, Trail}
use Rattle.sn_raster.specs.Grid.{Node, place}
use Rattle.sn_raster.specs.GridLaws.{MarginIsGreatest}
use Rattle.sn_raster.specs.Plane.{Has}
use Rattle.sn_raster.specs.Heights.{Pass}
use Rattle.sn_open.specs.PlaneLaws.{WindowHasDiscs}
use Rattle.sn_open.specs.Region.{IsDrilledAtCentre, IsFollowed, IsOpening}
use Rattle.sn_open.specs.declared.stroke.Stroke.{Stroke}
use Rattle.sn_fit.specs.Fit.{strokes_of_trail, strokes_at_centre, AreDrillStrokes}
use Rattle.sn_clear.specs.ClearingLaws.{StrokesLieOnCentres, TargetsAreAlongStrokes, ClearingStrokesAreThrifty}
use Rattle.sn_clear.specs.ThriftyStrokes.{AreThriftyStrokes}
use Rattle.sn_link.specs.declared.moves.Move.{Move}
use Rattle.sn_link.specs.Layers.{IsClearing, IsFreeWay, AreLayers, AreStepLayers}
use Rattle.sn_link.specs.Plan.{IsHighest}
use Rattle.sn_link.specs.ClearingLaws.{ClearingStepsAreThrifty}
use Rattle.sn_link.specs.SafeLaws.{IsPlanned, PlannedMovesAreSafe, PlannedMovesEndAbove, PlannedMovesCutTheTargets, PlannedMovesAreStraight}
use Rattle.sn_link.proofs.ByWayLemmas.{layers_by, reached_by, strokes_by}
use Rattle.sn_link.proofs.LayerLemmas.{IsGoodRest, AreFree, AreShallow, AreLayered, NearAny}
use Rattle.sn_link.proofs.StepLemmas.{AreSound, TargetsAreCut, all_free, along_listed, layer_at_floor, layered, step_is_kept}
use Rattle.sn_link.proofs.StrokeLemmas.{are_over, strokes_are_free, held, target_along}
use Rattle.sn_link.proofs.TrailLemmas.{trail_is_free, trail_is_followed}

-- Heights.

next_not_over : (above z top sec : ℤ) → above ≡ z +ℤ pos 1 → z <ℤ top → top ≤ℤ sec → above ≤ℤ sec
next_not_over above z top sec e below safe = omega (arith, sums)

low_not_over : (above low top sec : ℤ) → above ≡ low → low <ℤ top → top ≤ℤ sec → above ≤ℤ sec
low_not_over above low top sec e below safe = omega (arith, sums)

within_reach : (z : ℤ) → IsLength z → z ≤ℤ pos REACH
within_reach z h = omega (arith, ints, sums)

self : (x : ℤ) → x ≤ℤ x
self x = omega (arith, sums)

-- Trails.

trail_free : (job : Job) (step : StepJob) (shape : Shape) → step.outline.shape ≡ shape → IsShapeFor way.Trail (step.body.d + 2 * step.side) shape
    → AreFree job step (strokes_of_trail shape)
trail_free job step (Rect low high) has rule = absurd rule
trail_free job step (Circle centre d) has rule = absurd rule
trail_free job step (Polygon points) has rule = absurd rule
trail_free job step (Trail points width) has rule = trail_is_free job step points width has rule.1

trail_near : (job : Job) (step : StepJob) (shape : Shape) (n : Node) → IsFollowed job step shape n → NearAny job step (strokes_of_trail shape) n
trail_near job step (Rect low high) n followed = absurd followed
trail_near job step (Circle centre d) n followed = absurd followed
trail_near job step (Polygon points) n followed = absurd followed
trail_near job step (Trail points width) n followed = trail_is_followed job step points n followed

-- Drills.

drill_free : (job : Job) (step : StepJob) (shape : Shape) (n : Node) → IsDrilledAtCentre job step shape n → AreFree job step (strokes_at_centre shape)
drill_free job step (Rect low high) n drilled = absurd drilled
drill_free job step (Circle centre d) n drilled = ((λ m near. drilled.free m ((near_one_place step.body.d centre (place job.pitch m)).0 near)), tt)
drill_free job step (Polygon points) n drilled = absurd drilled
drill_free job step (Trail points width) n drilled = absurd drilled

drill_near : (job : Job) (step : StepJob) (shape : Shape) (n : Node) → IsDrilledAtCentre job step shape n → NearAny job step (strokes_at_centre shape) n
drill_near job step (Rect low high) n drilled = absurd drilled
drill_near job step (Circle centre d) n drilled = (near_one_place step.body.d centre (place job.pitch n)).1 drilled.under
drill_near job step (Polygon points) n drilled = absurd drilled
drill_near job step (Trail points width) n drilled = absurd drilled

-- the tool does not move sideways
drill_shallow : (step : StepJob) (shape : Shape) (above tip : ℤ) → AreShallow step above tip (strokes_at_centre shape)
drill_shallow step (Rect low high) above tip = tt
drill_shallow step (Circle centre d) above tip = inl refl
drill_shallow step (Polygon points) above tip = tt
drill_shallow step (Trail points width) above tip = tt

-- Steps.

module _ (margin : MarginIsGreatest) (discs : WindowHasDiscs) (lie : StrokesLieOnCentres) (along : TargetsAreAlongStrokes) (job : Job) (step : StepJob) (rule : IsJob job)
    (executed : Contains job.steps step) where
  proper : IsProper step
  proper = All-contains IsProper job.steps step rule.proper executed

  sec_within : job.sec ≤ℤ pos REACH
  sec_within = within_reach job.sec rule.security.length

  layers_are_sound : (strokes : List Stroke) (above : ℤ) (tips : List ℤ) → tip_floor step <ℤ above → above ≤ℤ job.sec
      → AreLayers step.axial (tip_floor step) above tips → AreLayered job step strokes above tips
  layers_are_sound = layered job step rule.security.above sec_within proper.depths.axial_at_least

  clearing_is_sound : step.way ≡ way.Clear → (strokes : List Stroke) → IsClearing job step strokes → AreSound job step strokes
  clearing_is_sound is strokes clearing = record {
    free = all_free job step strokes
        (subst (λ (ss : List Stroke). All (λ (s : Stroke). IsFreeWay job step s.from s.to) ss) (sym clearing.strokes_are)
        (strokes_are_free job step clearing.centres clearing.targets rule clearing.are_centres clearing.are_targets lie));
    targets = λ n opened required.
        let has : Has clearing.targets n = (clearing.are_targets.nodes n).1 (required, opened) in
        let (s, (k, below, same), near) = target_along job step clearing.centres clearing.targets rule clearing.are_centres clearing.are_targets margin discs executed is along n has in
        subst (λ (ss : List Stroke). NearAny job step ss n) (sym clearing.strokes_are) (along_listed job step _ s n k below same near);
    layered = λ above tips high safe layers. layers_are_sound strokes above tips high safe (subst (λ (w : Way). layers_by step w above tips) is layers);
  }

  trail_is_sound : step.way ≡ way.Trail → AreSound job step (strokes_of_trail step.outline.shape)
  trail_is_sound is = record {
    free = trail_free job step step.outline.shape refl (subst (λ (w : Way). IsShapeFor w (step.body.d + 2 * step.side) step.outline.shape) is proper.shape);
    targets = λ n opened required. trail_near job step step.outline.shape n (subst (λ (w : Way). reached_by job step w n) is opened.reached);
    layered = λ above tips high safe layers.
        layers_are_sound (strokes_of_trail step.outline.shape) above tips high safe (subst (λ (w : Way). layers_by step w above tips) is layers);
  }

  -- the one layer of a drill
  drill_layered : step.way ≡ way.Drill → (strokes : List Stroke) → ((above tip : ℤ) → AreShallow step above tip strokes) → (above : ℤ) (tips : List ℤ)
      → tip_floor step <ℤ above → above ≤ℤ job.sec → AreStepLayers step above tips → AreLayered job step strokes above tips
  drill_layered is strokes shallow above tips high safe layers =
      let one : tips ≡ tip_floor step ∷ [] = subst (λ (w : Way). layers_by step w above tips) is layers in
      let floor = tip_floor step in
      subst (λ (ts : List ℤ). AreLayered job step strokes above ts) (sym one)
      (layer_at_floor job step rule.security.above sec_within above above floor high safe (self above) refl, shallow above floor, refl)

  drill_is_sound : step.way ≡ way.Drill → (strokes : List Stroke) → AreDrillStrokes job step strokes → AreSound job step strokes
  drill_is_sound is strokes (inl ((n, opened), one)) =
      let drilled : (m : Node) → IsOpening job step m → IsDrilledAtCentre job step step.outline.shape m =
      (λ m opened'. subst (λ (w : Way). reached_by job step w m) is opened'.reached) in
      subst (AreSound job step) (sym one)
      (record {
        free = drill_free job step step.outline.shape n (drilled n opened);
        targets = λ m opened' required. drill_near job step step.outline.shape m (drilled m opened');
        layered = drill_layered is (strokes_at_centre step.outline.shape) (drill_shallow step step.outline.shape);
      })
  drill_is_sound is strokes (inr (none, no_stroke)) =
      subst (AreSound job step) (sym no_stroke)
      (record {
        free = tt;
        targets = λ m opened' required. none (m, opened');
        layered = drill_layered is [] (λ above tip. tt);
      })

  strokes_are_sound : (w : Way) → step.way ≡ w → (strokes : List Stroke) → strokes_by job step w strokes → AreSound job step strokes
  strokes_are_sound way.Clear is strokes clearing = clearing_is_sound is strokes clearing
  strokes_are_sound way.Trail is strokes along = subst (AreSound job step) (sym along) (trail_is_sound is)
  strokes_are_sound way.Drill is strokes drills = drill_is_sound is strokes drills

  highest_under_sec : (passes : List Pass) (above : ℤ) → IsHighest job step passes above → above ≤ℤ job.sec
  highest_under_sec passes above highest =
      ⊎_elim (λ e. low_not_over above job.low.z job.high.z job.sec e rule.raw_box.z rule.security.above)
      (λ (c, left, allowed, e). next_not_over above c.z job.high.z job.sec e left.raw.below rule.security.above) highest.reached

kept : MarginIsGreatest → WindowHasDiscs → StrokesLieOnCentres → TargetsAreAlongStrokes → (job : Job) (step : StepJob) (passes : List Pass) (tip : Tip) (moves : List Move) → IsPlanned job step passes tip moves
    → IsGoodRest job step (TargetsAreCut job step) passes tip moves
kept margin discs lie along job step passes tip moves p =
    let plan = p.planned in
    step_is_kept job step passes tip p.above plan.strokes (strokes_are_sound margin discs lie along job step p.rule p.executed step.way refl plan.strokes plan.strokes_are)
    plan.above plan.highest (highest_under_sec margin discs lie along job step p.rule p.executed passes plan.above plan.highest) moves plan.moves_are

pub planned_moves_are_safe : MarginIsGreatest → WindowHasDiscs → StrokesLieOnCentres → TargetsAreAlongStrokes → PlannedMovesAreSafe
planned_moves_are_safe margin discs lie along job step passes tip moves p = (kept margin discs lie along job step passes tip moves p).safe

pub planned_moves_end_above : MarginIsGreatest → WindowHasDiscs → StrokesLieOnCentres → TargetsAreAlongStrokes → PlannedMovesEndAbove
planned_moves_end_above margin discs lie along job step passes tip moves p = (kept margin discs lie along job step passes tip moves p).ends

pub planned_moves_cut_the_targets : MarginIsGreatest → WindowHasDiscs → StrokesLieOnCentres → TargetsAreAlongStrokes → PlannedMovesCutTheTargets
planned_moves_cut_the_targets margin discs lie along job step passes tip moves p = (kept margin discs lie along job step passes tip moves p).after

pub planned_moves_are_straight : MarginIsGreatest → WindowHasDiscs → StrokesLieOnCentres → TargetsAreAlongStrokes → PlannedMovesAreStraight
planned_moves_are_straight margin discs lie along job step passes tip moves p = (kept margin discs lie along job step passes tip moves p).straight

pub clearing_steps_are_thrifty : MarginIsGreatest → WindowHasDiscs → ClearingStrokesAreThrifty → ClearingStepsAreThrifty
clearing_steps_are_thrifty margin discs thrift job step strokes rule executed clears clearing = record {
  centres = clearing.centres;
  targets = clearing.targets;
  are_centres = clearing.are_centres;
  are_targets = clearing.are_targets;
  thrifty = subst (AreThriftyStrokes step clearing.centres.grid clearing.centres clearing.targets) (sym clearing.strokes_are)
      (thrift step clearing.centres.grid clearing.centres clearing.targets
      (are_over job step clearing.centres clearing.targets rule clearing.are_centres clearing.are_targets)
      (held job step clearing.centres clearing.targets rule clearing.are_centres clearing.are_targets margin discs executed clears));
}
