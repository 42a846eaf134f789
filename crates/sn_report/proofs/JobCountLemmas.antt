-- A job has one list of counts.
use Rattle.std.proofs.Common.{ℕ, ◌≡◌, ◌≢◌, ◌+◌, ◌⊎◌, inl, inr, Option, None, List, [], ◌∷◌, ◌++◌, ℤ, refl, sym, ap, subst, ◌∙◌, append-nil, arith}
use Rattle.sn_geom.specs.declared.tip.Tip.{Tip}
use Rattle.sn_geom.specs.declared.tip.Tip.TheVariants.{Unknown}
use Rattle.sn_outline.specs.Job.{Job}
use Rattle.sn_outline.specs.declared.job.StepJob.{StepJob}
use Rattle.sn_outline.specs.declared.job.Way.{Way}
use Rattle.sn_outline.specs.declared.job.Way.TheVariants as way
use Rattle.sn_raster.specs.Heights.{Pass, IsMaterial}
use Rattle.sn_open.specs.declared.stroke.Stroke.{Stroke}
use Rattle.sn_link.specs.declared.moves.Move.{Move}
use Rattle.sn_link.specs.declared.planner.PlannedStep.{PlannedStep}
use Rattle.sn_link.specs.Counts.{IsLiftCountFrom, IsLiftCount, AreCounts, IsRemoved, IsCountedStep, AreCountedPlans, moves_of}
use Rattle.sn_link.specs.Layers.{IsLink, AreStrokeMoves, IsLayer, AreLayerMoves}
use Rattle.sn_link.specs.Moves.{tip_for, tool_after, tip_after_step}
use Rattle.sn_link.specs.Plan.{NeedsNoLayer, IsCutInLayers, IsStepPlan, passes_by, ArePlans, with_moves}
use Rattle.sn_link.specs.PlanLaws.{OnePlan}
use Rattle.sn_link.proofs.ByWayLemmas.{layers_by}
use Rattle.sn_report.specs.JobCounts.{count_rows}
use Rattle.sn_report.specs.JobCountsLaws.{OneCount}
use Rattle.sn_report.proofs.CellCounts.{one_count_of_cells}

-- Lifts: their count in a layer whose moves are there, since these tell of each way whether it is free.

module _ (job : Job) (step : StepJob) where
  lifts_by_link : (above tip : ℤ) (stroke next : Stroke) (strokes : List Stroke) (link : List Move) (n : ℕ) → IsLink job step above tip stroke.to next.from link
      → IsLiftCountFrom job step next strokes n → (k : ℕ) × IsLiftCountFrom job step stroke (next ∷ strokes) k
  lifts_by_link above tip stroke next strokes link n (inl (free, is)) count = (n, inl (free, count))
  lifts_by_link above tip stroke next strokes link n (inr (shut, is)) count = (n + 1, inr (shut, (n, refl, count)))

  lifts_along : (above tip : ℤ) (strokes : List Stroke) (stroke : Stroke) (moves : List Move) → AreStrokeMoves job step above tip stroke strokes moves
      → (n : ℕ) × IsLiftCountFrom job step stroke strokes n
  lifts_along above tip [] stroke moves are = (1, refl)
  lifts_along above tip (next ∷ strokes) stroke moves (link, rest, is_link, are_rest, is) =
      let (n, count) = lifts_along above tip strokes next rest are_rest in
      lifts_by_link above tip stroke next strokes link n is_link count

  lifts_in_layer : (above tip : ℤ) (strokes : List Stroke) (moves : List Move) → IsLayer job step above tip strokes moves → (n : ℕ) × IsLiftCount job step strokes n
  lifts_in_layer above tip [] moves are = (0, refl)
  lifts_in_layer above tip (first ∷ strokes) moves (rest, are, is) = lifts_along above tip strokes first rest are

  lifts_in_first : (strokes : List Stroke) (above : ℤ) (tips : List ℤ) (moves : List Move) → tips ≢ [] → AreLayerMoves job step strokes above tips moves
      → (n : ℕ) × IsLiftCount job step strokes n
  lifts_in_first strokes above [] moves some are = absurd (some refl)
  lifts_in_first strokes above (tip ∷ tips) moves some (layer, rest, is_layer, are_rest, is) = lifts_in_layer above tip strokes layer is_layer

-- there is a layer
some_layer : (w : Way) (step : StepJob) (above : ℤ) (tips : List ℤ) → layers_by step w above tips → tips ≢ []
some_layer way.Clear step above [] are none = are
some_layer way.Clear step above (tip ∷ tips) are none = absurd (cc)
some_layer way.Trail step above [] are none = are
some_layer way.Trail step above (tip ∷ tips) are none = absurd (cc)
some_layer way.Drill step above [] are none = absurd (cc)
some_layer way.Drill step above (tip ∷ tips) are none = absurd (cc)

-- A step with its moves has one number of each.

some_moves : (move : Move) (moves : List Move) → move ∷ moves ≢ []
some_moves move moves none = absurd (cc)

module _ (job : Job) (step : StepJob) (passes : List Pass) (tip : Tip) where
  same_where_cut : (moves : List Move) (s l n s' l' n' : ℕ) → moves ≢ [] → (plan : IsStepPlan job step passes tip moves)
      → (NeedsNoLayer step plan.strokes plan.above × (moves ≡ [])) ⊎ IsCutInLayers job step plan.strokes plan.above tip moves
      → AreCounts job step passes moves s l n → AreCounts job step passes moves s' l' n' → (s ≡ s') × (l ≡ l') × (n ≡ n')
  same_where_cut moves s l n s' l' n' some plan (inl (clear, none)) a b = absurd (some none)
  same_where_cut moves s l n s' l' n' some plan (inr cut) a b =
      let layer = some_layer step.way step plan.above cut.tips cut.layers in
      let (k, count) = lifts_in_first job step plan.strokes plan.above cut.tips cut.all layer cut.all_are in
      let first = a.cuts some plan.above plan.highest plan.strokes plan.strokes_are cut.tips cut.layers k count in
      let second = b.cuts some plan.above plan.highest plan.strokes plan.strokes_are cut.tips cut.layers k count in
      (first.0 ∙ sym second.0, first.1 ∙ sym second.1, first.2 ∙ sym second.2)

  same_counts : (moves : List Move) (s l n s' l' n' : ℕ) → IsStepPlan job step passes tip moves
      → AreCounts job step passes moves s l n → AreCounts job step passes moves s' l' n' → (s ≡ s') × (l ≡ l') × (n ≡ n')
  same_counts [] s l n s' l' n' plan a b =
      let first = a.rests refl in
      let second = b.rests refl in
      (first.0 ∙ sym second.0, first.1 ∙ sym second.1, first.2 ∙ sym second.2)
  same_counts (move ∷ moves) s l n s' l' n' plan a b =
      same_where_cut (move ∷ moves) s l n s' l' n' (some_moves move moves) plan plan.moves_are a b

  same_removed : (moves : List Move) (some other : ℕ) → IsRemoved job step passes tip moves some → IsRemoved job step passes tip moves other → some ≡ other
  same_removed moves some other a b =
      let before = one_count_of_cells (IsMaterial job passes) a.before b.before a.all b.all in
      let after = one_count_of_cells (IsMaterial job (passes ++ passes_by step.body tip moves)) a.after b.after a.rest b.rest in
      left_over a.before b.before a.after b.after some other before after a.taken b.taken
    where
      left_over : (n n' m m' k k' : ℕ) → n ≡ n' → m ≡ m' → k + m ≡ n → k' + m' ≡ n' → k ≡ k'
      left_over n n' m m' k k' e f p q = omega (arith, e, f, p, q)

  same_step : (some other : PlannedStep) → some.moves ≡ other.moves → IsStepPlan job step passes tip some.moves
      → IsCountedStep job step passes tip some → IsCountedStep job step passes tip other → some ≡ other
  same_step some other moves plan a b =
      let counts = subst (λ (ms : List Move). AreCounts job step passes ms other.strokes other.layers other.lifts) (sym moves) b.counts in
      let removed = subst (λ (ms : List Move). IsRemoved job step passes tip ms other.cells) (sym moves) b.removed in
      let (strokes, layers, lifts) =
      same_counts some.moves some.strokes some.layers some.lifts other.strokes other.layers other.lifts plan a.counts counts in
      let cells = same_removed some.moves some.cells other.cells a.removed removed in
      λ i. record { moves = moves i; strokes = strokes i; layers = layers i; lifts = lifts i; cells = cells i }

-- Steps with their moves.

abbrev Planned : Type 0
Planned = StepJob × List Move

abbrev first_moves : List Planned → List Move
first_moves [] = []
first_moves (planned ∷ plans) = planned.1

abbrev later_plans : List Planned → List Planned
later_plans [] = []
later_plans (planned ∷ plans) = plans

first_planned : (job : Job) (passes : List Pass) (tool : Option ℕ) (tip : Tip) (step : StepJob) (moves : List Move) (later : List Planned)
    → ArePlans job passes tool tip ((step, moves) ∷ later)
    → IsStepPlan job step passes (tip_for job tool tip step) moves
    × ArePlans job (passes ++ passes_by step.body (tip_for job tool tip step) moves) (tool_after tool step moves) (tip_after_step job tool tip step moves) later
first_planned job passes tool tip step [] later (plan, rest) = (plan, subst (λ (ps : List Pass). ArePlans job ps tool tip later) (sym (append-nil passes)) rest)
first_planned job passes tool tip step (move ∷ moves) later (plan, rest) = (plan, rest)

same_plans : (job : Job) (steps : List StepJob) (passes : List Pass) (tool : Option ℕ) (tip : Tip) (some others : List PlannedStep)
    → with_moves steps (moves_of some) ≡ with_moves steps (moves_of others) → ArePlans job passes tool tip (with_moves steps (moves_of some))
    → AreCountedPlans job passes tool tip steps some → AreCountedPlans job passes tool tip steps others → some ≡ others
same_plans job [] passes tool tip some others same plans a b = a ∙ sym b
same_plans job (step ∷ steps) passes tool tip [] others same plans a b = absurd a
same_plans job (step ∷ steps) passes tool tip (p ∷ ps) [] same plans a b = absurd b
same_plans job (step ∷ steps) passes tool tip (p ∷ ps) (q ∷ qs) same plans (a, counted) (b, counted') =
    let from = tip_for job tool tip step in
    let moves : p.moves ≡ q.moves = ap first_moves same in
    let later : with_moves steps (moves_of ps) ≡ with_moves steps (moves_of qs) = ap later_plans same in
    let (plan, rest) = first_planned job passes tool tip step p.moves (with_moves steps (moves_of ps)) plans in
    let theirs =
    subst (λ (ms : List Move). AreCountedPlans job (passes ++ passes_by step.body from ms) (tool_after tool step ms) (tip_after_step job tool tip step ms) steps qs)
    (sym moves) counted' in
    let first = same_step job step passes from p q moves plan a b in
    let others =
    same_plans job steps (passes ++ passes_by step.body from p.moves) (tool_after tool step p.moves) (tip_after_step job tool tip step p.moves) ps qs later rest counted theirs in
    λ i. first i ∷ others i

pub one_list_of_counts : OnePlan → OneCount
one_list_of_counts one_plan job some other a b =
    let plans = one_plan job (with_moves job.steps (moves_of a.steps)) (with_moves job.steps (moves_of b.steps)) a.plan b.plan in
    let steps = same_plans job job.steps [] None Unknown a.steps b.steps plans a.plan.moves a.counted b.counted in
    let across = a.across ∙ sym b.across in
    let up = a.up ∙ sym b.up in
    let rows = a.rows ∙ ap (λ (ps : List PlannedStep). count_rows job.steps ps) steps ∙ sym b.rows in
    λ i. record { across = across i; up = up i; rows = rows i }
