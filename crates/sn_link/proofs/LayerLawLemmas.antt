-- The laws of the layers of a step.
use Rattle.std.proofs.Common.{ℕ, zero, suc, ◌≡◌, ◌≤◌, inl, inr, ⊎_elim, List, [], ◌∷◌, ◌++◌, length, ℤ, pos, ◌+ℤ◌, ◌-ℤ◌, ◌≤ℤ◌, ◌<ℤ◌, unsigned_abs, refl, sym, ap, ◌∙◌, append-nil, arith}
use Rattle.std.proofs.lemmas.Int.{ints, by_lt_z}
use Rattle.sn_geom.proofs.Ring.{sums}
use Rattle.sn_geom.specs.declared.units.Pt.{Pt}
use Rattle.sn_geom.specs.declared.tip.Tip.{Tip}
use Rattle.sn_outline.specs.Job.{Job, tip_floor}
use Rattle.sn_outline.specs.declared.job.StepJob.{StepJob}
use Rattle.sn_outline.specs.declared.job.Way.TheVariants as way
use Rattle.sn_outline.specs.declared.outline.Shape.{Shape}
use Rattle.sn_outline.specs.declared.outline.Shape.TheVariants.{Trail}
use Rattle.sn_raster.specs.Heights.{Pass}
use Rattle.sn_open.specs.declared.stroke.Stroke.{Stroke}
use Rattle.sn_clear.specs.ClearingLaws.{SameNodesSameStrokes}
use Rattle.sn_fit.specs.Fit.{strokes_along, strokes_of_trail}
use Rattle.sn_link.specs.declared.moves.Move.{Move}
use Rattle.sn_link.specs.declared.moves.Move.TheVariants.{Feed}
use Rattle.sn_link.specs.Layers.{AreLayers}
use Rattle.sn_link.specs.Moves.{over, approach}
use Rattle.sn_link.specs.Plan.{IsHighest, IsCutInLayers, IsStepPlan}
use Rattle.sn_link.specs.PlanLaws.{LayersAreAnAxialDepthApart, LayersComeToTheFloor, OneListOfLayers, LinksAreFedOrLifted, LayersGoAlongTheirStrokes, LaterLayersBeginWhereTheLastCut, TrailsAreFollowedInLayers, along_one}
use Rattle.sn_link.proofs.ByWayLemmas.{strokes_by}
use Rattle.sn_link.proofs.ExampleLemmas.{trail_plan}
use Rattle.sn_link.proofs.OnePlanLemmas.{moves_by, one_list_of_layers}
use Rattle.sn_link.proofs.PlanLawLemmas.{by_its_way, not_under_too}

-- Layers.

pub an_axial_depth_apart : LayersAreAnAxialDepthApart
an_axial_depth_apart = (
  (refl, omega (arith, sums), (refl, omega (arith, sums), (refl, omega (arith, sums)))),
  (refl, omega (arith, sums), (refl, omega (arith, sums))),
  (refl, omega (arith, sums)),
)

ends_at_once : (axial : ℕ) (floor above : ℤ) → above ≤ℤ (floor +ℤ pos 0) → (above -ℤ pos axial) ≤ℤ floor
ends_at_once axial floor above low = omega (arith, sums)

nearer : (axial n : ℕ) (floor above : ℤ) → 1 ≤ axial → above ≤ℤ (floor +ℤ pos (suc n)) → (above -ℤ pos axial) ≤ℤ (floor +ℤ pos n)
nearer axial n floor above some low = omega (arith, sums)

one_more : (axial : ℕ) (floor above tip : ℤ) (tips : List ℤ) → tip ≡ above -ℤ pos axial → floor <ℤ tip → AreLayers axial floor tip tips
    → AreLayers axial floor above (tip ∷ tips)
one_more axial floor above tip [] is over layers = absurd layers
one_more axial floor above tip (next ∷ tips) is over layers = (is, over, layers)

layers_within : (n axial : ℕ) (floor above : ℤ) → 1 ≤ axial → above ≤ℤ (floor +ℤ pos n) → (tips : List ℤ) × AreLayers axial floor above tips
layers_within zero axial floor above some low = (floor ∷ [], (refl, ends_at_once axial floor above low))
layers_within (suc n) axial floor above some low =
    by_lt_z floor (above -ℤ pos axial)
    (λ over.
    let (tips, layers) = layers_within n axial floor (above -ℤ pos axial) some (nearer axial n floor above some low) in
    ((above -ℤ pos axial) ∷ tips, one_more axial floor above (above -ℤ pos axial) tips refl over layers))
    (λ near. (floor ∷ [], (refl, near)))

how_far : (floor above : ℤ) → above ≤ℤ (floor +ℤ pos (unsigned_abs (above -ℤ floor)))
how_far floor above = omega (arith, ints)

pub come_to_the_floor : LayersComeToTheFloor
come_to_the_floor axial floor above some high = layers_within (unsigned_abs (above -ℤ floor)) axial floor above some (how_far floor above)

pub the_list_of_layers : OneListOfLayers
the_list_of_layers axial floor above some others p q = one_list_of_layers axial floor above some others p q

-- Moves.

pub fed_or_lifted : LinksAreFedOrLifted
fed_or_lifted job step above tip a b moves (inl (free, is)) = ((λ free'. is), (λ shut. absurd (shut free)))
fed_or_lifted job step above tip a b moves (inr (shut, is)) = ((λ free. absurd (shut free)), (λ shut'. is))

pub along_their_strokes : LayersGoAlongTheirStrokes
along_their_strokes job step above tip s t moves free (rest, (link, more, inl (free', is_link), is_more, is_rest), is) =
    is ∙ ap (λ (ms : List Move). approach job.sec s.from above tip ++ ms)
    (is_rest ∙ (λ i. Feed (over s.to tip) ∷ is_link i ++ is_more i))
along_their_strokes job step above tip s t moves free (rest, (link, more, inr (shut, is_link), is_more, is_rest), is) = absurd (shut free)

pub where_the_last_cut : LaterLayersBeginWhereTheLastCut
where_the_last_cut job step above tip next s moves (first, others, (rest, is_rest, is_first), (second, none, (rest', is_rest', is_second), is_none, is_others), is) =
    let cut = tip +ℤ pos step.body.e in
    let one : first ≡ along_one job step above tip s = is_first ∙ ap (λ (ms : List Move). approach job.sec s.from above tip ++ ms) is_rest in
    let two : second ≡ along_one job step cut next s = is_second ∙ ap (λ (ms : List Move). approach job.sec s.from cut next ++ ms) is_rest' in
    is ∙ (λ i. one i ++ (is_others ∙ (λ j. two j ++ is_none j) ∙ append-nil (along_one job step cut next s)) i)

-- Trails.

some_segment : (points : List Pt) → 2 ≤ length points → [] ≡ strokes_along points → ⊥
some_segment [] long none = omega (arith, long)
some_segment (a ∷ []) long none = omega (arith, long)
some_segment (a ∷ b ∷ points) long none = cc

along_segments : SameNodesSameStrokes → (job : Job) (step : StepJob) (points : List Pt) (width : ℕ) (passes : List Pass) (tip : Tip) (moves : List Move) (above : ℤ)
    → step.way ≡ way.Trail → step.outline.shape ≡ Trail points width → IsHighest job step passes above → tip_floor step <ℤ above → 2 ≤ length points
    → IsStepPlan job step passes tip moves → IsCutInLayers job step (strokes_along points) above tip moves
along_segments same job step points width passes tip moves above follows has highest high long p =
    let along : strokes_by job step way.Trail (strokes_along points) = sym (ap (λ (s : Shape). strokes_of_trail s) has) in
    ⊎_elim
    (λ (clear, rests). absurd (⊎_elim (λ low. not_under_too (tip_floor step) above low high) (λ none. some_segment points long (sym none)) clear))
    (λ cut. cut)
    (moves_by same job step passes tip moves (strokes_along points) above p highest (by_its_way job step way.Trail (strokes_along points) follows along))

pub followed_in_layers : SameNodesSameStrokes → TrailsAreFollowedInLayers
followed_in_layers same = (along_segments same, record { steps = refl; moves = (trail_plan, tt) })
