-- What is counted of a step that is cut in layers, or that has nothing to do.
use Rattle.std.proofs.Common.{ℕ, ◌≡◌, ◌≢◌, ◌*◌, ◌≤◌, ⊎_elim, true, List, [], ◌∷◌, ◌++◌, length, ℤ, pos, ◌+ℤ◌, ◌-ℤ◌, ◌≤ℤ◌, ◌<ℤ◌, refl, sym, ap, subst, ◌∙◌, arith}
use Rattle.std.specs.Int.{int_min}
use Rattle.sn_geom.proofs.Ring.{sums}
use Rattle.sn_geom.specs.declared.limits.TheConstants.{GAP}
use Rattle.sn_geom.specs.declared.units.Pt.{Pt}
use Rattle.sn_geom.specs.declared.units.Pt3.{Pt3}
use Rattle.sn_geom.specs.declared.tip.Tip.{Tip}
use Rattle.sn_geom.specs.declared.tip.Tip.TheVariants.{Unknown, Height, At}
use Rattle.sn_outline.specs.Job.{Job, tip_floor}
use Rattle.sn_outline.specs.JobRule.{IsJob}
use Rattle.sn_outline.specs.declared.job.StepJob.{StepJob}
use Rattle.sn_outline.specs.declared.job.Way.{Way}
use Rattle.sn_outline.specs.declared.job.Way.TheVariants as way
use Rattle.sn_raster.specs.Heights.{Pass}
use Rattle.sn_open.specs.declared.stroke.Stroke.{Stroke}
use Rattle.sn_clear.specs.ClearingLaws.{SameNodesSameStrokes}
use Rattle.sn_link.specs.declared.moves.Move.{Move}
use Rattle.sn_link.specs.declared.moves.Move.TheVariants.{Rapid, Feed}
use Rattle.sn_link.specs.declared.step_plan.Planned.{Planned}
use Rattle.sn_link.specs.Counts.{AreCounts, IsLiftCount, strokes_in}
use Rattle.sn_link.specs.Layering.{IsCutAs}
use Rattle.sn_link.specs.Layers.{AreLayerMoves, AreLayers, AreStepLayers, AreStrokes}
use Rattle.sn_link.specs.Moves.{end_of, made, over, stands_at}
use Rattle.sn_link.specs.Plan.{IsHighest}
use Rattle.sn_link.specs.Safe.{IsAtSecurity}
use Rattle.sn_link.proofs.LiftLemmas.{lifts_in_layers}
use Rattle.sn_link.proofs.MovesLemmas.{by_test, same_is}
use Rattle.sn_link.proofs.ByWayLemmas.{layers_by}
use Rattle.sn_link.proofs.OnePlanLemmas.{one_highest, one_list_of_strokes, one_way_of_layers}

-- the first layer of a step is under the height that its layers come down from
abbrev IsFirstUnder : ℤ → List ℤ → Type 0
IsFirstUnder above [] = ⊥
IsFirstUnder above (tip ∷ tips) = tip <ℤ above

depth_under : (tip above : ℤ) (axial : ℕ) → tip ≡ above -ℤ pos axial → 1 ≤ axial → tip <ℤ above
depth_under tip above axial is some = omega (arith, sums)

floor_under : (tip floor above : ℤ) → tip ≡ floor → floor <ℤ above → tip <ℤ above
floor_under tip floor above is high = rw is high

first_of_layers : (axial : ℕ) (floor above : ℤ) (tips : List ℤ) → 1 ≤ axial → floor <ℤ above → AreLayers axial floor above tips → IsFirstUnder above tips
first_of_layers axial floor above [] some high are = are
first_of_layers axial floor above (tip ∷ []) some high are = floor_under tip floor above are.0 high
first_of_layers axial floor above (tip ∷ next ∷ tips) some high are = depth_under tip above axial are.0 some

only_under : (floor above : ℤ) (tips : List ℤ) → floor <ℤ above → tips ≡ floor ∷ [] → IsFirstUnder above tips
only_under floor above tips high is = rw is high

first_by_way : (w : Way) (step : StepJob) (above : ℤ) (tips : List ℤ) → 1 ≤ step.axial → tip_floor step <ℤ above → layers_by step w above tips → IsFirstUnder above tips
first_by_way way.Clear step above tips some high are = first_of_layers step.axial (tip_floor step) above tips some high are
first_by_way way.Trail step above tips some high are = first_of_layers step.axial (tip_floor step) above tips some high are
first_by_way way.Drill step above tips some high are = only_under (tip_floor step) above tips high are

first_under : (step : StepJob) (above : ℤ) (tips : List ℤ) → 1 ≤ step.axial → tip_floor step <ℤ above → AreStepLayers step above tips → IsFirstUnder above tips
first_under step = first_by_way step.way step

-- Moves that are all left out end where they start.

made_none : (tip : Tip) (move : Move) (moves : List Move) → made tip (move ∷ moves) ≡ [] → (stands_at tip (end_of move) ≡ true) × (made tip moves ≡ [])
made_none tip move moves none =
    by_test (stands_at tip (end_of move)) ((stands_at tip (end_of move) ≡ true) × (made tip moves ≡ []))
    (λ stands. (stands, rw stands at none))
    (λ leaves. let some = rw leaves at none in absurd (cc))

-- a tip at the security height does not stand at a lower point
not_lower : (job : Job) (tip : Tip) (p : Pt) (low : ℤ) → IsAtSecurity job tip → low <ℤ job.sec → stands_at tip (over p low) ≡ true → ⊥
not_lower job Unknown p low above under stands = above
not_lower job (Height z) p low above under stands = absurd (cc)
not_lower job (At q) p low above under stands =
    let z : q.z ≡ low = ap (λ (r : Pt3). r.z) (same_is q (over p low) stands) in
    apart low job.sec q.z z above under
  where
    apart : (low sec z : ℤ) → z ≡ low → z ≡ sec → low <ℤ sec → ⊥
    apart low sec z e f under = omega (arith, sums)

module _ (job : Job) (step : StepJob) (tip : Tip) (above_all : IsAtSecurity job tip) where
  layers_are_made : (strokes : List Stroke) (above : ℤ) (tips : List ℤ) (all : List Move) → strokes ≢ [] → IsFirstUnder above tips → above ≤ℤ job.sec
      → AreLayerMoves job step strokes above tips all → made tip all ≢ []
  layers_are_made strokes above [] all some under over_all are none = under
  layers_are_made [] above (low ∷ tips) all some under over_all are none = some refl
  layers_are_made (first ∷ strokes) above (low ∷ tips) all some under over_all (layer, rest, (path, are_path, layer_is), are_rest, is) none =
      let up = Rapid (over first.from job.sec) in
      let down = Rapid (over first.from (int_min job.sec (above +ℤ pos GAP))) in
      let feed = Feed (over first.from low) in
      let more = path ++ rest in
      let whole : made tip (up ∷ down ∷ feed ∷ more) ≡ [] = subst (λ (ms : List Move). made tip ms ≡ []) (is ∙ ap (λ (ms : List Move). ms ++ rest) layer_is) none in
      let second = made_none tip up (down ∷ feed ∷ more) whole in
      let third = made_none tip down (feed ∷ more) second.1 in
      let last = made_none tip feed more third.1 in
      not_lower job tip first.from low above_all (lower low above job.sec under over_all) last.0
    where
      lower : (low above sec : ℤ) → low <ℤ above → above ≤ℤ sec → low <ℤ sec
      lower low above sec h k = omega (arith, sums)

-- material ends at the raw top at most
under_raw_top : (job : Job) (step : StepJob) (passes : List Pass) (above : ℤ) → IsJob job → IsHighest job step passes above → above ≤ℤ job.sec
under_raw_top job step passes above rule highest =
    ⊎_elim
    (λ low. from_low above job.low.z job.high.z job.sec low rule.raw_box.z rule.security.above)
    (λ (c, left, allowed, is). from_cell above c.z job.high.z job.sec is left.raw.below rule.security.above)
    highest.reached
  where
    from_low : (above low high sec : ℤ) → above ≡ low → low <ℤ high → high ≤ℤ sec → above ≤ℤ sec
    from_low above low high sec is h k = omega (arith, sums)

    from_cell : (above z high sec : ℤ) → above ≡ z +ℤ pos 1 → z <ℤ high → high ≤ℤ sec → above ≤ℤ sec
    from_cell above z high sec is h k = omega (arith, sums)

counts_where_moves : (moves : List Move) (strokes : List Stroke) → moves ≢ [] → strokes_in moves strokes ≡ length strokes
counts_where_moves [] strokes some = absurd (some refl)
counts_where_moves (move ∷ moves) strokes some = refl

pub counts_none : (moves : List Move) (strokes : List Stroke) → moves ≡ [] → strokes_in moves strokes ≡ 0
counts_none moves strokes none = ap (λ (ms : List Move). strokes_in ms strokes) none

module _ (job : Job) (step : StepJob) (passes : List Pass) where
  pub counted : SameNodesSameStrokes → (strokes : List Stroke) (above : ℤ) (tip : Tip) (planned : Planned) → IsJob job → 1 ≤ step.axial → IsAtSecurity job tip → IsHighest job step passes above
      → AreStrokes job step strokes → IsCutAs job step strokes above tip planned
      → AreCounts job step passes planned.moves (strokes_in planned.moves strokes) planned.layers planned.lifts
  counted same strokes above tip planned rule depth above_all highest are as_cut =
      let cut = as_cut.cut in
      let some : planned.moves ≢ [] = (λ none.
      layers_are_made job step tip above_all strokes above cut.tips cut.all cut.some (first_under step above cut.tips depth cut.high cut.layers)
      (under_raw_top job step passes above rule highest) cut.all_are (sym cut.moves_are ∙ none)) in
      record {
        rests = λ none. absurd (some none);
        cuts = λ moved height highest' own are_own tips are_tips n count.
            let strokes_same = one_list_of_strokes same job step strokes own are are_own in
            let layers_here = subst (λ z. AreStepLayers step z tips) (one_highest job step passes height above highest' highest) are_tips in
            let tips_same = one_way_of_layers step step.way above cut.tips tips cut.layers layers_here in
            let lifts = lifts_in_layers job step strokes n (subst (λ s. IsLiftCount job step s n) (sym strokes_same) count) cut.tips above cut.all cut.all_are in (
              counts_where_moves planned.moves strokes some ∙ ap (λ (s : List Stroke). length s) strokes_same,
              as_cut.layers ∙ ap (λ (t : List ℤ). length t) tips_same,
              as_cut.lifts ∙ lifts ∙ ap (λ (t : List ℤ). length t * n) tips_same,
            );
      }

  pub counted_none : (strokes : List Stroke) (planned : Planned) → planned.moves ≡ [] → planned.layers ≡ 0 → planned.lifts ≡ 0
      → AreCounts job step passes planned.moves (strokes_in planned.moves strokes) planned.layers planned.lifts
  counted_none strokes planned none no_layers no_lifts = record {
    rests = λ moves. (counts_none planned.moves strokes moves, no_layers, no_lifts);
    cuts = λ some. absurd (some none);
  }
