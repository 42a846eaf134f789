-- A step has one plan: its strokes, its layers and the moves of each are determined.
use Rattle.std.proofs.Common.{ℕ, zero, suc, ◌≡◌, ◌↔◌, ◌<◌, ◌*◌, ◌%◌, ◌/◌, ◌⊎◌, inl, inr, Bool, false, not, ◌&&◌, if◌then◌else◌, List, [], ◌∷◌, ◌++◌, map, get_or, ℤ, pos, ◌+ℤ◌, ◌-ℤ◌, ◌≤ℤ◌, ◌<ℤ◌, refl, sym, ap, subst, ◌∙◌, add-one, arith}
use Rattle.sn_geom.proofs.Ring.{sums}
use Rattle.sn_geom.specs.declared.units.Cell.{Cell}
use Rattle.sn_geom.specs.declared.units.Pt.{Pt}
use Rattle.sn_geom.specs.declared.tip.Tip.{Tip}
use Rattle.sn_outline.specs.Job.{Job, tip_floor}
use Rattle.sn_outline.specs.declared.job.StepJob.{StepJob}
use Rattle.sn_outline.specs.declared.job.Way.{Way}
use Rattle.sn_outline.specs.declared.job.Way.TheVariants as way
use Rattle.sn_raster.specs.Grid.{Grid, Node, IsInWindow}
use Rattle.sn_raster.specs.Plane.{Plane, Has}
use Rattle.sn_raster.specs.Heights.{node_of, Pass, IsMaterial}
use Rattle.sn_open.specs.Region.{InAllowed}
use Rattle.sn_open.specs.declared.stroke.Stroke.{Stroke}
use Rattle.sn_fit.specs.Fit.{AreDrillStrokes}
use Rattle.sn_clear.specs.ClearingLaws.{SameNodesSameStrokes}
use Rattle.sn_clear.specs.Strokes.{clearing_strokes}
use Rattle.sn_link.specs.declared.moves.Move.{Move}
use Rattle.sn_link.specs.declared.moves.Move.TheVariants.{Feed}
use Rattle.sn_link.specs.Layers.{IsClearing, AreStrokes, AreLayers, IsLink, AreStrokeMoves, IsLayer, AreLayerMoves}
use Rattle.sn_link.specs.Moves.{over, made, approach}
use Rattle.sn_link.specs.Plan.{IsHighest, NeedsNoLayer, IsCutInLayers, IsStepPlan}
use Rattle.sn_link.specs.PlanLaws.{OneHighest}
use Rattle.sn_link.proofs.ByWayLemmas.{layers_by, strokes_by}
use Rattle.sn_link.proofs.StrokeLemmas.{one_grid}

-- Strokes.

one_clearing : SameNodesSameStrokes → (job : Job) (step : StepJob) (some others : List Stroke) → IsClearing job step some → IsClearing job step others → some ≡ others
one_clearing same job step some others p q =
    let g = p.centres.grid in
    let of_targets = one_grid p.targets.grid g job p.are_targets.grid p.are_centres.grid in
    let of_centres' = one_grid q.centres.grid g job q.are_centres.grid p.are_centres.grid in
    let of_targets' = one_grid q.targets.grid g job q.are_targets.grid p.are_centres.grid in
    p.strokes_are
    ∙ same step g p.centres p.targets q.centres q.targets refl of_targets of_centres' of_targets'
    (λ n inside.
    let there = subst (λ (h : Grid). IsInWindow h n) (sym of_centres') inside in (
      λ has. (q.are_centres.nodes n there).1 ((p.are_centres.nodes n inside).0 has),
      λ has. (p.are_centres.nodes n inside).1 ((q.are_centres.nodes n there).0 has),
    ))
    (λ n inside. (
      λ has. (q.are_targets.nodes n).1 ((p.are_targets.nodes n).0 has),
      λ has. (p.are_targets.nodes n).1 ((q.are_targets.nodes n).0 has),
    ))
    ∙ ap (λ (h : Grid). clearing_strokes step h q.centres q.targets) (sym of_centres')
    ∙ sym q.strokes_are

one_drilling : (job : Job) (step : StepJob) (some others : List Stroke) → AreDrillStrokes job step some → AreDrillStrokes job step others → some ≡ others
one_drilling job step some others (inl (opens, is)) (inl (opens', is')) = is ∙ sym is'
one_drilling job step some others (inl (opens, is)) (inr (none, is')) = absurd (none opens)
one_drilling job step some others (inr (none, is)) (inl (opens, is')) = absurd (none opens)
one_drilling job step some others (inr (none, is)) (inr (none', is')) = is ∙ sym is'

one_way_of_strokes : SameNodesSameStrokes → (job : Job) (step : StepJob) (w : Way) (some others : List Stroke) → strokes_by job step w some → strokes_by job step w others → some ≡ others
one_way_of_strokes same job step way.Clear some others p q = one_clearing same job step some others p q
one_way_of_strokes same job step way.Trail some others p q = p ∙ sym q
one_way_of_strokes same job step way.Drill some others p q = one_drilling job step some others p q

pub one_list_of_strokes : SameNodesSameStrokes → (job : Job) (step : StepJob) (some others : List Stroke) → AreStrokes job step some → AreStrokes job step others → some ≡ others
one_list_of_strokes same job step some others p q = one_way_of_strokes same job step step.way some others p q

-- Layers.

not_both_ends : (floor above tip axial : ℤ) → tip ≡ above -ℤ axial → floor <ℤ tip → (above -ℤ axial) ≤ℤ floor → ⊥
not_both_ends floor above tip axial is over near = omega (arith, sums)

pub one_list_of_layers : (axial : ℕ) (floor above : ℤ) (some others : List ℤ) → AreLayers axial floor above some → AreLayers axial floor above others → some ≡ others
one_list_of_layers axial floor above [] others p q = absurd p
one_list_of_layers axial floor above (t ∷ []) [] p q = absurd q
one_list_of_layers axial floor above (t ∷ []) (u ∷ []) p q = ap (λ (z : ℤ). z ∷ []) (p.0 ∙ sym q.0)
one_list_of_layers axial floor above (t ∷ []) (u ∷ v ∷ us) p q = absurd (not_both_ends floor above u (pos axial) q.0 q.1 p.1)
one_list_of_layers axial floor above (t ∷ s ∷ ts) [] p q = absurd q
one_list_of_layers axial floor above (t ∷ s ∷ ts) (u ∷ []) p q = absurd (not_both_ends floor above t (pos axial) p.0 p.1 q.1)
one_list_of_layers axial floor above (t ∷ s ∷ ts) (u ∷ v ∷ us) p q =
    let same : t ≡ u = p.0 ∙ sym q.0 in
    let later = subst (λ (z : ℤ). AreLayers axial floor z (v ∷ us)) (sym same) q.2 in
    let rest = one_list_of_layers axial floor t (s ∷ ts) (v ∷ us) p.2 later in
    λ i. same i ∷ rest i

pub one_way_of_layers : (step : StepJob) (w : Way) (above : ℤ) (some others : List ℤ) → layers_by step w above some → layers_by step w above others → some ≡ others
one_way_of_layers step way.Clear above some others p q = one_list_of_layers step.axial (tip_floor step) above some others p q
one_way_of_layers step way.Trail above some others p q = one_list_of_layers step.axial (tip_floor step) above some others p q
one_way_of_layers step way.Drill above some others p q = p ∙ sym q

-- Moves.

one_link : (job : Job) (step : StepJob) (above tip : ℤ) (a b : Pt) (some others : List Move)
    → IsLink job step above tip a b some → IsLink job step above tip a b others → some ≡ others
one_link job step above tip a b some others (inl (free, is)) (inl (free', is')) = is ∙ sym is'
one_link job step above tip a b some others (inl (free, is)) (inr (shut, is')) = absurd (shut free)
one_link job step above tip a b some others (inr (shut, is)) (inl (free, is')) = absurd (shut free)
one_link job step above tip a b some others (inr (shut, is)) (inr (shut', is')) = is ∙ sym is'

one_way_along : (job : Job) (step : StepJob) (above tip : ℤ) (strokes : List Stroke) (stroke : Stroke) (some others : List Move)
    → AreStrokeMoves job step above tip stroke strokes some → AreStrokeMoves job step above tip stroke strokes others → some ≡ others
one_way_along job step above tip [] stroke some others p q = p ∙ sym q
one_way_along job step above tip (next ∷ strokes) stroke some others (link, rest, is_link, are_rest, is) (link', rest', is_link', are_rest', is') =
    let links = one_link job step above tip stroke.to next.from link link' is_link is_link' in
    let rests = one_way_along job step above tip strokes next rest rest' are_rest are_rest' in
    let both : Feed (over stroke.to tip) ∷ link ++ rest ≡ Feed (over stroke.to tip) ∷ link' ++ rest' = (λ i. Feed (over stroke.to tip) ∷ links i ++ rests i) in
    is ∙ both ∙ sym is'

one_layer : (job : Job) (step : StepJob) (above tip : ℤ) (strokes : List Stroke) (some others : List Move)
    → IsLayer job step above tip strokes some → IsLayer job step above tip strokes others → some ≡ others
one_layer job step above tip [] some others p q = p ∙ sym q
one_layer job step above tip (first ∷ strokes) some others (rest, are, is) (rest', are', is') =
    let rests = one_way_along job step above tip strokes first rest rest' are are' in
    is ∙ ap (λ (ms : List Move). approach job.sec first.from above tip ++ ms) rests ∙ sym is'

one_list_of_moves : (job : Job) (step : StepJob) (strokes : List Stroke) (tips : List ℤ) (above : ℤ) (some others : List Move)
    → AreLayerMoves job step strokes above tips some → AreLayerMoves job step strokes above tips others → some ≡ others
one_list_of_moves job step strokes [] above some others p q = p ∙ sym q
one_list_of_moves job step strokes (tip ∷ tips) above some others (layer, rest, is_layer, are_rest, is) (layer', rest', is_layer', are_rest', is') =
    let layers = one_layer job step above tip strokes layer layer' is_layer is_layer' in
    let rests = one_list_of_moves job step strokes tips (tip +ℤ pos step.body.e) rest rest' are_rest are_rest' in
    let both : layer ++ rest ≡ layer' ++ rest' = (λ i. layers i ++ rests i) in
    is ∙ both ∙ sym is'

-- The height over which no material is left.

-- the height over the low end is not that of a cell
over_low : (low above z : ℤ) → above ≡ low → low ≤ℤ z → z <ℤ above → ⊥
over_low low above z e h k = omega (arith, sums)

same_top : (y z a b : ℤ) → a ≡ y +ℤ pos 1 → b ≡ z +ℤ pos 1 → y <ℤ b → z <ℤ a → a ≡ b
same_top y z a b e f h k = omega (arith, sums)

-- where material ends: at the raw bottom, or over a cell
abbrev EndsAt : Job → StepJob → List Pass → ℤ → Type 0
EndsAt job step passes above = (above ≡ job.low.z) ⊎ ((c : Cell) × IsMaterial job passes c × InAllowed job step (node_of c) × (above ≡ c.z +ℤ pos 1))

abbrev IsUnder : Job → StepJob → List Pass → ℤ → Type 0
IsUnder job step passes above = (c : Cell) → IsMaterial job passes c → InAllowed job step (node_of c) → c.z <ℤ above

same_end : (job : Job) (step : StepJob) (passes : List Pass) (a b : ℤ) → IsUnder job step passes a → IsUnder job step passes b
    → EndsAt job step passes a → EndsAt job step passes b → a ≡ b
same_end job step passes a b under_a under_b (inl e) (inl f) = e ∙ sym f
same_end job step passes a b under_a under_b (inl e) (inr (c, left, allowed, f)) = absurd (over_low job.low.z a c.z e left.raw.above (under_a c left allowed))
same_end job step passes a b under_a under_b (inr (c, left, allowed, e)) (inl f) = absurd (over_low job.low.z b c.z f left.raw.above (under_b c left allowed))
same_end job step passes a b under_a under_b (inr (c, left, allowed, e)) (inr (d, left', allowed', f)) =
    same_top c.z d.z a b e f (under_b c left allowed) (under_a d left' allowed')

pub one_highest : OneHighest
one_highest job step passes a b p q = same_end job step passes a b p.bounds q.bounds p.reached q.reached

-- Plans.

not_lower : (floor above : ℤ) → above ≤ℤ floor → floor <ℤ above → ⊥
not_lower floor above low high = omega (arith, sums)

one_cut : (job : Job) (step : StepJob) (strokes : List Stroke) (above : ℤ) (tip : Tip) (some others : List Move)
    → IsCutInLayers job step strokes above tip some → IsCutInLayers job step strokes above tip others → some ≡ others
one_cut job step strokes above tip some others p q =
    let tips = one_way_of_layers step step.way above p.tips q.tips p.layers q.layers in
    let theirs = subst (λ (ts : List ℤ). AreLayerMoves job step strokes above ts q.all) (sym tips) q.all_are in
    p.moves_are ∙ ap (λ (ms : List Move). made tip ms) (one_list_of_moves job step strokes p.tips above p.all q.all p.all_are theirs) ∙ sym q.moves_are

-- nothing to do, or the moves of the layers
abbrev IsEither : Job → StepJob → Tip → List Move → List Stroke → ℤ → Type 0
IsEither job step tip moves strokes above = (NeedsNoLayer step strokes above × (moves ≡ [])) ⊎ IsCutInLayers job step strokes above tip moves

pub not_both : (job : Job) (step : StepJob) (strokes : List Stroke) (above : ℤ) (tip : Tip) (moves : List Move) → NeedsNoLayer step strokes above
    → IsCutInLayers job step strokes above tip moves → ⊥
not_both job step strokes above tip moves (inl low) cut = not_lower (tip_floor step) above low cut.high
not_both job step strokes above tip moves (inr none) cut = cut.some none

one_either : (job : Job) (step : StepJob) (strokes : List Stroke) (above : ℤ) (tip : Tip) (some others : List Move)
    → IsEither job step tip some strokes above → IsEither job step tip others strokes above → some ≡ others
one_either job step strokes above tip some others (inl (clear, none)) (inl (clear', none')) = none ∙ sym none'
one_either job step strokes above tip some others (inl (clear, none)) (inr cut) = absurd (not_both job step strokes above tip others clear cut)
one_either job step strokes above tip some others (inr cut) (inl (clear, none)) = absurd (not_both job step strokes above tip some clear cut)
one_either job step strokes above tip some others (inr cut) (inr cut') = one_cut job step strokes above tip some others cut cut'

-- the moves of a planned step, by its strokes and the height over which no material is left
pub moves_by : SameNodesSameStrokes → (job : Job) (step : StepJob) (passes : List Pass) (tip : Tip) (moves : List Move) (strokes : List Stroke) (above : ℤ) → IsStepPlan job step passes tip moves
    → IsHighest job step passes above → AreStrokes job step strokes → (NeedsNoLayer step strokes above × (moves ≡ [])) ⊎ IsCutInLayers job step strokes above tip moves
moves_by same job step passes tip moves strokes above p highest are =
    subst (λ (ss : List Stroke). IsEither job step tip moves ss above) (one_list_of_strokes same job step p.strokes strokes p.strokes_are are)
    (subst (λ (z : ℤ). IsEither job step tip moves p.strokes z) (one_highest job step passes p.above above p.highest highest) p.moves_are)

pub one_step_plan : SameNodesSameStrokes → (job : Job) (step : StepJob) (passes : List Pass) (tip : Tip) (some others : List Move)
    → IsStepPlan job step passes tip some → IsStepPlan job step passes tip others → some ≡ others
one_step_plan same job step passes tip some others p q =
    one_either job step p.strokes p.above tip some others p.moves_are (moves_by same job step passes tip others p.strokes p.above q p.highest p.strokes_are)
