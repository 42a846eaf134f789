-- The laws of plans.
use Rattle.std.proofs.Common.{ℕ, ◌≡◌, ◌≢◌, ◌<◌, Option, ◌⊎◌, inl, inr, ⊎_elim, None, Some, List, [], ◌∷◌, ◌++◌, length, map, ℤ, pos, ◌+ℤ◌, ◌≤ℤ◌, ◌<ℤ◌, refl, sym, ap, subst, ◌∙◌, append-nil, nat_eq, arith}
use Rattle.std.proofs.lemmas.Bool.{cond-true, cond-false, eq-eqb, eqb-true, false_from_ne_true}
use Rattle.std.proofs.lemmas.Int.{by_lt_z}
use Rattle.sn_geom.proofs.Ring.{sums}
use Rattle.sn_geom.specs.declared.units.Pt.{Pt}
use Rattle.sn_geom.specs.declared.units.Pt3.{Pt3}
use Rattle.sn_geom.specs.declared.tip.Tip.{Tip}
use Rattle.sn_geom.specs.declared.tip.Tip.TheVariants.{Unknown, Height, At}
use Rattle.sn_geom.specs.Tip.{tip_after}
use Rattle.sn_outline.specs.Job.{Job, tip_floor}
use Rattle.sn_outline.specs.declared.job.StepJob.{StepJob}
use Rattle.sn_outline.specs.declared.job.Way.{Way}
use Rattle.sn_outline.specs.declared.job.Way.TheVariants as way
use Rattle.sn_outline.specs.declared.outline.Shape.{Shape}
use Rattle.sn_outline.specs.declared.outline.Shape.TheVariants.{Circle}
use Rattle.sn_raster.specs.Heights.{Pass}
use Rattle.sn_open.specs.declared.stroke.Stroke.{Stroke}
use Rattle.sn_clear.specs.ClearingLaws.{NoStrokesWithoutTargets, SameNodesSameStrokes}
use Rattle.sn_fit.specs.Fit.{strokes_along, strokes_of_trail, strokes_at_centre, OpensSome, AreDrillStrokes}
use Rattle.sn_link.specs.declared.moves.Move.{Move}
use Rattle.sn_link.specs.declared.moves.Move.TheVariants.{Rapid, Feed}
use Rattle.sn_link.specs.Layers.{IsClearing, AreStrokes, AreLayerMoves}
use Rattle.sn_link.specs.Moves.{over, approach, lift, plunge, made, same_place, stands_at, tip_for, tip_after_moves}
use Rattle.sn_link.specs.Plan.{IsHighest, NeedsNoLayer, IsCutInLayers, IsStepPlan, ArePlans, passes_by}
use Rattle.sn_link.specs.PlanLaws.{TipsAreKept, OnePlan, NothingToCutNoMoves, RepeatedStepsRest, AreMadeFrom, StepsBeginAtTheTip, DrillsPlunge}
use Rattle.sn_link.proofs.ByWayLemmas.{layers_by, strokes_by}
use Rattle.sn_link.proofs.ExampleLemmas.{hole_plan}
use Rattle.sn_link.proofs.MovesLemmas.{by_test, same_test}
use Rattle.sn_link.proofs.OnePlanLemmas.{moves_by, not_both, one_list_of_strokes, one_step_plan}
use Rattle.sn_link.proofs.StrokeLemmas.{are_over}

-- Heights.

pub not_under_too : (floor above : ℤ) → above ≤ℤ floor → floor <ℤ above → ⊥
not_under_too floor above low high = omega (arith, sums)

some_stroke : (stroke : Stroke) (strokes : List Stroke) → [] ≡ stroke ∷ strokes → ⊥
some_stroke stroke strokes e = cc

next_not_over : (floor z above : ℤ) → above ≡ z +ℤ pos 1 → z <ℤ floor → above ≤ℤ floor
next_not_over floor z above e h = omega (arith, sums)

not_over : (floor low above : ℤ) → above ≡ low → low ≤ℤ floor → above ≤ℤ floor
not_over floor low above e h = omega (arith, sums)

next_not_over_unless : (floor z above : ℤ) → above ≡ z +ℤ pos 1 → (floor ≤ℤ z → ⊥) → above ≤ℤ floor
next_not_over_unless floor z above e other = by_lt_z z floor (λ lower. next_not_over floor z above e lower) (λ not_lower. absurd (other not_lower))

-- material is left above the tip floor, and there is a stroke
pub has_something : (step : StepJob) (stroke : Stroke) (strokes : List Stroke) (above : ℤ) → tip_floor step <ℤ above → NeedsNoLayer step (stroke ∷ strokes) above → ⊥
has_something step stroke strokes above high (inl low) = not_under_too (tip_floor step) above low high
has_something step stroke strokes above high (inr none) = some_stroke stroke strokes (sym none)

-- Nothing to do.

-- a step without moves, where it has nothing to do
no_moves : (job : Job) (step : StepJob) (passes : List Pass) (tip : Tip) (moves : List Move) (p : IsStepPlan job step passes tip moves)
    → NeedsNoLayer step p.strokes p.above → moves ≡ []
no_moves job step passes tip moves p clear =
    ⊎_elim (λ (clear', none). none) (λ cut. absurd (not_both job step p.strokes p.above tip moves clear cut)) p.moves_are

without_stroke : SameNodesSameStrokes → (job : Job) (step : StepJob) (passes : List Pass) (tip : Tip) (moves : List Move) → IsStepPlan job step passes tip moves
    → (strokes : List Stroke) → AreStrokes job step strokes → strokes ≡ [] → moves ≡ []
without_stroke same job step passes tip moves p strokes are none =
    no_moves job step passes tip moves p (inr (one_list_of_strokes same job step p.strokes strokes p.strokes_are are ∙ none))

pub by_its_way : (job : Job) (step : StepJob) (w : Way) (strokes : List Stroke) → step.way ≡ w → strokes_by job step w strokes → AreStrokes job step strokes
by_its_way job step w strokes is are = subst (λ (v : Way). strokes_by job step v strokes) (sym is) are

from_its_way : (job : Job) (step : StepJob) (w : Way) (strokes : List Stroke) → step.way ≡ w → AreStrokes job step strokes → strokes_by job step w strokes
from_its_way job step w strokes is are = subst (λ (v : Way). strokes_by job step v strokes) is are

short_trail : (points : List Pt) → length points < 2 → strokes_along points ≡ []
short_trail [] short = refl
short_trail (a ∷ []) short = refl
short_trail (a ∷ b ∷ points) short = absurd (omega (arith, short))

pub nothing_to_cut_no_moves : SameNodesSameStrokes → NoStrokesWithoutTargets → NothingToCutNoMoves
nothing_to_cut_no_moves same unused job step passes tip moves p = (
  λ low done.
      no_moves job step passes tip moves p
      (inl (⊎_elim (λ e. not_over (tip_floor step) job.low.z p.above e low)
      (λ (c, left, allowed, e). next_not_over (tip_floor step) c.z p.above e (done c left allowed)) p.highest.reached)),
  λ none. without_stroke same job step passes tip moves p [] none refl,
  λ drills shut. without_stroke same job step passes tip moves p [] (by_its_way job step way.Drill [] drills (inr ((λ (n, opened). shut n opened), refl))) refl,
  λ rule clears shut.
      let q : IsClearing job step p.strokes = from_its_way job step way.Clear p.strokes clears p.strokes_are in
      no_moves job step passes tip moves p
      (inr (q.strokes_are ∙ unused step q.centres.grid q.centres q.targets (are_over job step q.centres q.targets rule q.are_centres q.are_targets)
      (λ n has. let both = (q.are_targets.nodes n).0 has in shut n both.0 both.1))),
  λ points width follows has short.
      let along : p.strokes ≡ strokes_of_trail step.outline.shape = from_its_way job step way.Trail p.strokes follows p.strokes_are in
      no_moves job step passes tip moves p (inr (along ∙ ap (λ (s : Shape). strokes_of_trail s) has ∙ short_trail points short)),
)

pub repeated_steps_rest : RepeatedStepsRest
repeated_steps_rest job step first some [] low plans cut = refl
repeated_steps_rest job step first some (move ∷ moves) low plans cut =
    let p = plans.1.0 in
    no_moves job step _ _ (move ∷ moves) p
    (inl (⊎_elim (λ e. not_over (tip_floor step) job.low.z p.above e low)
    (λ (c, left, allowed, e). next_not_over_unless (tip_floor step) c.z p.above e
    (λ over. let (pass, inside, by) = cut c left.raw allowed over in left.uncut pass inside by)) p.highest.reached))

-- Plunges.

-- a feed to where the tip is already is left out
feed_again : (q p : Pt3) (rest : List Move) → made (At q) (Feed p ∷ Feed p ∷ rest) ≡ made (At q) (Feed p ∷ rest)
feed_again q p rest =
    by_test (same_place q p) (made (At q) (Feed p ∷ Feed p ∷ rest) ≡ made (At q) (Feed p ∷ rest))
    (λ same. rw same refl)
    (λ other. rw (other, same_test p) refl)

rapid_first : (tip : Tip) (p : Pt3) (some others : List Move) → made tip some ≡ made tip others → made (tip_after tip p) some ≡ made (tip_after tip p) others
    → made tip (Rapid p ∷ some) ≡ made tip (Rapid p ∷ others)
rapid_first tip p some others stays goes =
    by_test (stands_at tip p) (made tip (Rapid p ∷ some) ≡ made tip (Rapid p ∷ others))
    (λ same. rw same stays)
    (λ other. rw other (ap (λ (ms : List Move). Rapid p ∷ ms) goes))

feed_twice : (tip : Tip) (a b p : Pt3) (rest : List Move) → made tip (Rapid a ∷ Rapid b ∷ Feed p ∷ Feed p ∷ rest) ≡ made tip (Rapid a ∷ Rapid b ∷ Feed p ∷ rest)
feed_twice Unknown a b p rest = ap (λ (ms : List Move). Rapid a ∷ Rapid b ∷ ms) (feed_again b p rest)
feed_twice (Height z) a b p rest =
    ap (λ (ms : List Move). Rapid a ∷ ms) (rapid_first (At a) b (Feed p ∷ Feed p ∷ rest) (Feed p ∷ rest) (feed_again a p rest) (feed_again b p rest))
feed_twice (At q) a b p rest =
    let next : (r : Pt3) → made (At r) (Rapid b ∷ Feed p ∷ Feed p ∷ rest) ≡ made (At r) (Rapid b ∷ Feed p ∷ rest) =
    (λ r. rapid_first (At r) b (Feed p ∷ Feed p ∷ rest) (Feed p ∷ rest) (feed_again r p rest) (feed_again b p rest)) in
    rapid_first (At q) a (Rapid b ∷ Feed p ∷ Feed p ∷ rest) (Rapid b ∷ Feed p ∷ rest) (next q) (next a)

-- the one layer over one stroke of no length
layer_is_plunge : (job : Job) (step : StepJob) (centre : Pt) (above : ℤ) (all : List Move)
    → AreLayerMoves job step (record { from = centre; to = centre } ∷ []) above (tip_floor step ∷ []) all
    → all ≡ approach job.sec centre above (tip_floor step) ++ Feed (over centre (tip_floor step)) ∷ lift job.sec centre (tip_floor step) step.body.e
layer_is_plunge job step centre above all (layer, none, (rest, is_rest, is_layer), is_none, is) =
    is ∙ (λ i. (is_layer ∙ ap (λ (ms : List Move). approach job.sec centre above (tip_floor step) ++ ms) is_rest) i ++ is_none i) ∙ append-nil _

cut_is_plunge : (job : Job) (step : StepJob) (centre : Pt) (above : ℤ) (tip : Tip) (moves : List Move) → step.way ≡ way.Drill
    → IsCutInLayers job step (record { from = centre; to = centre } ∷ []) above tip moves → moves ≡ made tip (plunge job step centre above)
cut_is_plunge job step centre above tip moves drills cut =
    let one : cut.tips ≡ tip_floor step ∷ [] = subst (λ (w : Way). layers_by step w above cut.tips) drills cut.layers in
    let all = layer_is_plunge job step centre above cut.all
    (subst (λ (ts : List ℤ). AreLayerMoves job step (record { from = centre; to = centre } ∷ []) above ts cut.all) one cut.all_are) in
    cut.moves_are ∙ ap (λ (ms : List Move). made tip ms) all ∙ feed_twice tip _ _ _ (lift job.sec centre (tip_floor step) step.body.e)

plunges_at : SameNodesSameStrokes → (job : Job) (step : StepJob) (centre : Pt) (d : ℕ) (passes : List Pass) (tip : Tip) (moves : List Move) (above : ℤ)
    → step.way ≡ way.Drill → step.outline.shape ≡ Circle centre d → IsHighest job step passes above → tip_floor step <ℤ above → OpensSome job step
    → IsStepPlan job step passes tip moves → moves ≡ made tip (plunge job step centre above)
plunges_at same job step centre d passes tip moves above drills has highest high opens p =
    let stroke : Stroke = record { from = centre; to = centre } in
    let one : strokes_by job step way.Drill (stroke ∷ []) = inl (opens, sym (ap (λ (s : Shape). strokes_at_centre s) has)) in
    ⊎_elim
    (λ (clear, none). absurd (has_something step stroke [] above high clear))
    (λ cut. cut_is_plunge job step centre above tip moves drills cut)
    (moves_by same job step passes tip moves (stroke ∷ []) above p highest (by_its_way job step way.Drill (stroke ∷ []) drills one))

pub drills_plunge : SameNodesSameStrokes → DrillsPlunge
drills_plunge same = (plunges_at same, record { steps = refl; moves = (hole_plan, tt) })

-- Tips.

tip_of_its_tool : (job : Job) (step : StepJob) (tip : Tip) → tip_for job (Some step.tool) tip step ≡ tip
tip_of_its_tool job step tip = cond-true (nat_eq step.tool step.tool) tip (Height job.sec) (eq-eqb step.tool step.tool refl)

tip_of_another : (job : Job) (step : StepJob) (tip : Tip) (tool : ℕ) → tool ≢ step.tool → tip_for job (Some tool) tip step ≡ Height job.sec
tip_of_another job step tip tool other =
    cond-false (nat_eq tool step.tool) tip (Height job.sec) (false_from_ne_true (nat_eq tool step.tool) (λ same. other (eqb-true tool step.tool same)))

pub tips_are_kept : TipsAreKept
tips_are_kept job step tip = (tip_of_its_tool job step tip, tip_of_another job step tip, refl, λ p q r. (refl, refl, refl))

-- the moves of a step with moves
made_from : (job : Job) (step : StepJob) (passes : List Pass) (tip start : Tip) (moves : List Move) → moves ≢ [] → tip ≡ start
    → IsStepPlan job step passes tip moves → AreMadeFrom job step start moves
made_from job step passes tip start moves moved same p =
    ⊎_elim
    (λ (clear, none). absurd (moved none))
    (λ cut. (p.strokes, p.above, subst (λ (t : Tip). IsCutInLayers job step p.strokes p.above t moves) same cut)) p.moves_are

pub steps_begin_at_the_tip : StepsBeginAtTheTip
steps_begin_at_the_tip job step other first some [] moved = absurd (moved refl)
steps_begin_at_the_tip job step other first some (move ∷ moves) moved = (
  λ plans. made_from job step _ _ _ (move ∷ moves) moved (tip_of_its_tool job step _) plans.1.1.0,
  λ differ plans. made_from job other _ _ _ (move ∷ moves) moved (tip_of_another job other _ step.tool differ) plans.1.0,
)

-- A job has one plan.

heads : (s t : StepJob) (xs ys : List StepJob) → s ∷ xs ≡ t ∷ ys → s ≡ t
heads s t xs ys e = cc

tails : (s t : StepJob) (xs ys : List StepJob) → s ∷ xs ≡ t ∷ ys → xs ≡ ys
tails s t xs ys e = cc

not_more : (t : StepJob) (ys : List StepJob) → [] ≡ t ∷ ys → ⊥
not_more t ys e = cc

no_move : (move : Move) (moves : List Move) → [] ≡ move ∷ moves → ⊥
no_move move moves e = cc

joined : (s t : StepJob) (ms ns : List Move) (xs ys : List (StepJob × List Move)) → s ≡ t → ms ≡ ns → xs ≡ ys → (s, ms) ∷ xs ≡ (t, ns) ∷ ys
joined s t ms ns xs ys same moves rest = λ i. (same i, moves i) ∷ rest i

one_list : SameNodesSameStrokes → (job : Job) (passes : List Pass) (tool : Option ℕ) (tip : Tip) (some others : List (StepJob × List Move))
    → map (λ (planned : StepJob × List Move). planned.0) some ≡ map (λ (planned : StepJob × List Move). planned.0) others
    → ArePlans job passes tool tip some → ArePlans job passes tool tip others → some ≡ others
one_list same' job passes tool tip [] [] e p q = refl
one_list same' job passes tool tip [] ((t, ns) ∷ ys) e p q = absurd (not_more t _ e)
one_list same' job passes tool tip ((s, ms) ∷ xs) [] e p q = absurd (not_more s _ (sym e))
one_list same' job passes tool tip ((s, []) ∷ xs) ((t, []) ∷ ys) e p q =
    joined s t [] [] xs ys (heads s t _ _ e) refl (one_list same' job passes tool tip xs ys (tails s t _ _ e) p.1 q.1)
one_list same' job passes tool tip ((s, []) ∷ xs) ((t, n ∷ ns) ∷ ys) e p q =
    let planned = subst (λ (u : StepJob). IsStepPlan job u passes (tip_for job tool tip u) (n ∷ ns)) (sym (heads s t _ _ e)) q.0 in
    absurd (no_move n ns (one_step_plan same' job s passes (tip_for job tool tip s) [] (n ∷ ns) p.0 planned))
one_list same' job passes tool tip ((s, m ∷ ms) ∷ xs) ((t, []) ∷ ys) e p q =
    let planned = subst (λ (u : StepJob). IsStepPlan job u passes (tip_for job tool tip u) []) (sym (heads s t _ _ e)) q.0 in
    absurd (no_move m ms (one_step_plan same' job s passes (tip_for job tool tip s) [] (m ∷ ms) planned p.0))
one_list same' job passes tool tip ((s, m ∷ ms) ∷ xs) ((t, n ∷ ns) ∷ ys) e p q =
    let same = heads s t _ _ e in
    let planned = subst (λ (u : StepJob). IsStepPlan job u passes (tip_for job tool tip u) (n ∷ ns)) (sym same) q.0 in
    let moves = one_step_plan same' job s passes (tip_for job tool tip s) (m ∷ ms) (n ∷ ns) p.0 planned in
    let later = subst (λ (u : StepJob). ArePlans job (passes ++ passes_by u.body (tip_for job tool tip u) (n ∷ ns)) (Some u.tool) (tip_after_moves (tip_for job tool tip u) (n ∷ ns)) ys)
    (sym same) q.1 in
    let rest = subst (λ (ks : List Move). ArePlans job (passes ++ passes_by s.body (tip_for job tool tip s) ks) (Some s.tool) (tip_after_moves (tip_for job tool tip s) ks) ys)
    (sym moves) later in
    joined s t (m ∷ ms) (n ∷ ns) xs ys same moves
    (one_list same' job (passes ++ passes_by s.body (tip_for job tool tip s) (m ∷ ms)) (Some s.tool) (tip_after_moves (tip_for job tool tip s) (m ∷ ms)) xs ys (tails s t _ _ e) p.1 rest)

pub one_plan : SameNodesSameStrokes → OnePlan
one_plan same job some others p q = one_list same job [] None Unknown some others (p.steps ∙ sym q.steps) p.moves q.moves
