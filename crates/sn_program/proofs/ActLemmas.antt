-- The acts of a plan: what they mark and cut, and that each is right after those before it.
use Rattle.std.proofs.Common.{ℕ, ◌≡◌, ◌+◌, ◌≤ℤ◌, ℤ, List, [], ◌∷◌, ◌++◌, map, Option, Some, length, refl, sym, ap, subst, ◌∙◌, arith, append_assoc, append-nil}
use Rattle.std.specs.Prelude.{Contains, slice_get}
use Rattle.std.proofs.lemmas.List.{length-append}
use Rattle.sn_geom.proofs.Ring.{sums}
use Rattle.sn_geom.specs.Acts.{Act}
use Rattle.sn_geom.specs.Acts.Act.{Mark, Locate, Rapid as AtRapid, Feed as AtFeed}
use Rattle.sn_geom.specs.Sweep.{Touch}
use Rattle.sn_geom.specs.Tip.{tip_after}
use Rattle.sn_geom.specs.declared.tip.Tip.{Tip}
use Rattle.sn_geom.specs.declared.tip.Tip.TheVariants.{Unknown, Height, At}
use Rattle.sn_geom.specs.declared.units.Body.{Body}
use Rattle.sn_geom.specs.declared.units.Pt3.{Pt3}
use Rattle.sn_outline.specs.Job.{Job}
use Rattle.sn_outline.specs.JobRule.{IsJob}
use Rattle.sn_outline.specs.declared.job.StepJob.{StepJob}
use Rattle.sn_raster.specs.Heights.{low_end, Pass}
use Rattle.sn_open.specs.Good.{marks, passes, pass_of, body_of, IsCurrent, IsJobTool, IsRightRapid, IsRightFeed, IsRight}
use Rattle.sn_open.proofs.PassLemmas.{one_body, marks_append, passes_append}
use Rattle.sn_link.specs.declared.moves.Move.{Move}
use Rattle.sn_link.specs.declared.moves.Move.TheVariants.{Rapid, Feed}
use Rattle.sn_link.specs.Moves.{end_of, is_in_spindle, tip_for, tool_after, tip_after_step}
use Rattle.sn_link.specs.Plan.{passes_by}
use Rattle.sn_link.specs.Safe.{IsClearWay, IsSafeWay, AreSafe}
use Rattle.sn_link.proofs.MovesLemmas.{by_test}
use Rattle.sn_program.specs.PlanActs.{move_acts, setting_acts, step_acts, steps_acts}
use Rattle.sn_program.proofs.PlannedLemmas.{steps_of}

-- What acts mark and cut.

-- acts without a mark leave the step current
current_on : (job : Job) (step : StepJob) (done more : List Act) → marks more ≡ [] → IsCurrent job done step → IsCurrent job (done ++ more) step
current_on job step done more none (k, count, is) =
    (k, ap length (marks_append done more ∙ ap (λ (ms : List ℕ). marks done ++ ms) none ∙ append-nil (marks done)) ∙ count, is)

-- acts without a pass leave the material
passes_on : (steps : List StepJob) (done more : List Act) → passes steps more ≡ [] → passes steps (done ++ more) ≡ passes steps done
passes_on steps done more none =
    passes_append steps done more ∙ ap (λ (ps : List Pass). passes steps done ++ ps) none ∙ append-nil (passes steps done)

-- What the acts of a step mark and cut.

moves_mark : (speed feed tool : ℕ) (tip : Tip) (moves : List Move) → marks (move_acts speed feed tool tip moves) ≡ []
moves_mark speed feed tool tip [] = refl
moves_mark speed feed tool Unknown (m ∷ ms) = moves_mark speed feed tool (tip_after Unknown (end_of m)) ms
moves_mark speed feed tool (Height z) (m ∷ ms) = moves_mark speed feed tool (tip_after (Height z) (end_of m)) ms
moves_mark speed feed tool (At p) (Rapid q ∷ ms) = moves_mark speed feed tool (At q) ms
moves_mark speed feed tool (At p) (Feed q ∷ ms) = moves_mark speed feed tool (At q) ms

moves_pass : (steps : List StepJob) (body : Body) (speed feed tool : ℕ) (tip : Tip) (moves : List Move) → body_of steps tool ≡ Some body
    → passes steps (move_acts speed feed tool tip moves) ≡ passes_by body tip moves
moves_pass steps body speed feed tool tip [] is = refl
moves_pass steps body speed feed tool Unknown (Rapid q ∷ ms) is = moves_pass steps body speed feed tool (Height q.z) ms is
moves_pass steps body speed feed tool Unknown (Feed q ∷ ms) is = moves_pass steps body speed feed tool (Height q.z) ms is
moves_pass steps body speed feed tool (Height z) (Rapid q ∷ ms) is = moves_pass steps body speed feed tool (At q) ms is
moves_pass steps body speed feed tool (Height z) (Feed q ∷ ms) is = moves_pass steps body speed feed tool (At q) ms is
moves_pass steps body speed feed tool (At p) (Rapid q ∷ ms) is = moves_pass steps body speed feed tool (At q) ms is
moves_pass steps body speed feed tool (At p) (Feed q ∷ ms) is =
    ap (λ (o : Option Body). pass_of o p q ++ passes steps (move_acts speed feed tool (At q) ms)) is
    ∙ ap (λ (ps : List Pass). record { body = body; from = p; to = q } ∷ ps) (moves_pass steps body speed feed tool (At q) ms is)

setting_mark : (job : Job) (tool : Option ℕ) (step : StepJob) → marks (setting_acts job tool step) ≡ []
setting_mark job tool step =
    by_test (is_in_spindle tool step.tool) (marks (setting_acts job tool step) ≡ []) (λ same. rw same refl) (λ other. rw other refl)

setting_pass : (job : Job) (tool : Option ℕ) (step : StepJob) → passes job.steps (setting_acts job tool step) ≡ []
setting_pass job tool step =
    by_test (is_in_spindle tool step.tool) (passes job.steps (setting_acts job tool step) ≡ []) (λ same. rw same refl) (λ other. rw other refl)

step_marks : (job : Job) (tool : Option ℕ) (tip : Tip) (step : StepJob) (moves : List Move) → marks (step_acts job tool tip step moves) ≡ step.ws ∷ []
step_marks job tool tip step [] = refl
step_marks job tool tip step (move ∷ moves) =
    let cut = move_acts step.speed step.feed step.tool (tip_for job tool tip step) (move ∷ moves) in
    ap (λ (ms : List ℕ). step.ws ∷ ms)
    (marks_append (setting_acts job tool step) cut ∙ ap (λ (ms : List ℕ). ms ++ marks cut) (setting_mark job tool step)
    ∙ moves_mark step.speed step.feed step.tool (tip_for job tool tip step) (move ∷ moves))

step_passes : (job : Job) (tool : Option ℕ) (tip : Tip) (step : StepJob) (moves : List Move) → body_of job.steps step.tool ≡ Some step.body
    → passes job.steps (step_acts job tool tip step moves) ≡ passes_by step.body (tip_for job tool tip step) moves
step_passes job tool tip step [] body = refl
step_passes job tool tip step (move ∷ moves) body =
    let cut = move_acts step.speed step.feed step.tool (tip_for job tool tip step) (move ∷ moves) in
    passes_append job.steps (setting_acts job tool step) cut ∙ ap (λ (ps : List Pass). ps ++ passes job.steps cut) (setting_pass job tool step)
    ∙ moves_pass job.steps step.body step.speed step.feed step.tool (tip_for job tool tip step) (move ∷ moves) body

-- one mark more, that of the step
pub one_more_mark : (job : Job) (tool : Option ℕ) (tip : Tip) (step : StepJob) (moves : List Move) (done : List Act)
    → length (marks (done ++ step_acts job tool tip step moves)) ≡ length (marks done) + 1
one_more_mark job tool tip step moves done =
    ap length (marks_append done (step_acts job tool tip step moves) ∙ ap (λ (ms : List ℕ). marks done ++ ms) (step_marks job tool tip step moves))
    ∙ length-append (marks done) (step.ws ∷ [])

-- the passes of an executed step come behind those before it
pub passes_after : (job : Job) (tool : Option ℕ) (tip : Tip) (step : StepJob) (moves : List Move) (done : List Act) → IsJob job → Contains job.steps step
    → passes job.steps (done ++ step_acts job tool tip step moves) ≡ passes job.steps done ++ passes_by step.body (tip_for job tool tip step) moves
passes_after job tool tip step moves done rule executed =
    passes_append job.steps done (step_acts job tool tip step moves)
    ∙ ap (λ (ps : List Pass). passes job.steps done ++ ps) (step_passes job tool tip step moves (one_body job.steps step rule.bodies executed))

-- the marks of a plan are its steps in order
pub steps_mark : (job : Job) (tool : Option ℕ) (tip : Tip) (plan : List (StepJob × List Move))
    → marks (steps_acts job tool tip plan) ≡ map (λ (step : StepJob). step.ws) (steps_of plan)
steps_mark job tool tip [] = refl
steps_mark job tool tip ((step, moves) ∷ later) =
    let next = steps_acts job (tool_after tool step moves) (tip_after_step job tool tip step moves) later in
    marks_append (step_acts job tool tip step moves) next ∙ ap (λ (ms : List ℕ). ms ++ marks next) (step_marks job tool tip step moves)
    ∙ ap (λ (ms : List ℕ). step.ws ∷ ms) (steps_mark job (tool_after tool step moves) (tip_after_step job tool tip step moves) later)

-- Acts that are right one after the other.

-- each act is right after those before it, some being done
abbrev pub EachRight : Job → List Act → List Act → Type 0
EachRight job done [] = Unit {0}
EachRight job done (act ∷ acts) = IsRight job done act × EachRight job (done ++ act ∷ []) acts

right_at : (job : Job) (done before : List Act) (act : Act) (after : List Act)
    → EachRight job done (before ++ act ∷ after) → IsRight job (done ++ before) act
right_at job done [] act after each = subst (λ (acts : List Act). IsRight job acts act) (sym (append-nil done)) each.0
right_at job done (b ∷ bs) act after each =
    subst (λ (acts : List Act). IsRight job acts act) (append_assoc done (b ∷ []) bs) (right_at job (done ++ b ∷ []) bs act after each.1)

-- they are right at each place
pub right_everywhere : (job : Job) (acts : List Act) → EachRight job [] acts
    → (before : List Act) (act : Act) (after : List Act) → acts ≡ before ++ act ∷ after → IsRight job before act
right_everywhere job acts each before act after e = right_at job [] before act after (subst (λ (all : List Act). EachRight job [] all) e each)

pub each_append : (job : Job) (done some others : List Act) → EachRight job done some → EachRight job (done ++ some) others
    → EachRight job done (some ++ others)
each_append job done [] others first second = subst (λ (acts : List Act). EachRight job acts others) (append-nil done) second
each_append job done (act ∷ acts) others first second = (
  first.0,
  each_append job (done ++ act ∷ []) acts others first.1
      (subst (λ (all : List Act). EachRight job all others) (sym (append_assoc done (act ∷ []) acts)) second),
)

-- The acts of a step.

-- the tool of an executed step is one of the job's
job_tool : (job : Job) (step : StepJob) → IsJob job → Contains job.steps step → IsJobTool job step.tool
job_tool job step rule (k, below, is) =
    let numbered = (rule.tools step.tool).0 (k, step, below, is, refl) in
    record { first = numbered.0; last = numbered.1 }

right_rapid : (job : Job) (step : StepJob) (done : List Act) (from to : Pt3) → IsJob job → Contains job.steps step
    → IsClearWay job step (passes job.steps done) from to → IsRightRapid job done from to step.tool
right_rapid job step done from to rule executed clear = record {
  tool_is = job_tool job step rule executed;
  clear = λ other inside same c left touch.
      clear c left (subst (λ (body : Body). Touch body.d from to (low_end job.pitch c)) (rule.bodies other step inside executed same) touch);
}

right_feed : (job : Job) (step : StepJob) (done : List Act) (from to : Pt3) → IsCurrent job done step
    → IsSafeWay job step (passes job.steps done) from to → IsRightFeed job done from to step.feed step.speed step.tool
right_feed job step done from to current safe = record {
  step = step;
  current = current;
  rates = record { tool_is = refl; feed_is = refl; speed_is = refl };
  allowed = safe.allowed;
  shallow = safe.shallow;
}

-- safe moves of a current step
moves_right : (job : Job) (step : StepJob) (done : List Act) (tip : Tip) (moves : List Move) → IsJob job → Contains job.steps step
    → IsCurrent job done step → AreSafe job step (passes job.steps done) tip moves
    → EachRight job done (move_acts step.speed step.feed step.tool tip moves)
moves_right job step done tip [] rule executed current safe = tt
moves_right job step done Unknown (move ∷ moves) rule executed current safe = absurd safe
moves_right job step done (Height z) (Rapid p ∷ moves) rule executed current safe = (
  safe.0,
  moves_right job step (done ++ Locate p ∷ []) (At p) moves rule executed (current_on job step done (Locate p ∷ []) refl current)
      (subst (λ (ps : List Pass). AreSafe job step ps (At p) moves) (sym (passes_on job.steps done (Locate p ∷ []) refl)) safe.1),
)
moves_right job step done (Height z) (Feed p ∷ moves) rule executed current safe = absurd safe
moves_right job step done (At from) (Rapid p ∷ moves) rule executed current safe =
    let act : Act = AtRapid from p step.tool in (
      right_rapid job step done from p rule executed safe.0,
      moves_right job step (done ++ act ∷ []) (At p) moves rule executed (current_on job step done (act ∷ []) refl current)
          (subst (λ (ps : List Pass). AreSafe job step ps (At p) moves) (sym (passes_on job.steps done (act ∷ []) refl)) safe.1),
    )
moves_right job step done (At from) (Feed p ∷ moves) rule executed current safe =
    let act : Act = AtFeed from p step.feed step.speed step.tool in
    let cut : passes job.steps (act ∷ []) ≡ record { body = step.body; from = from; to = p } ∷ []
    = ap (λ (o : Option Body). pass_of o from p ++ []) (one_body job.steps step rule.bodies executed) in
    let all = passes_append job.steps done (act ∷ []) ∙ ap (λ (ps : List Pass). passes job.steps done ++ ps) cut in (
      right_feed job step done from p current safe.0,
      moves_right job step (done ++ act ∷ []) (At p) moves rule executed (current_on job step done (act ∷ []) refl current)
          (subst (λ (ps : List Pass). AreSafe job step ps (At p) moves) (sym all) safe.1),
    )

not_above_itself : (z : ℤ) → z ≤ℤ z
not_above_itself z = omega (arith, sums)

setting_right : (job : Job) (tool : Option ℕ) (step : StepJob) (done : List Act) → EachRight job done (setting_acts job tool step)
setting_right job tool step done =
    by_test (is_in_spindle tool step.tool) (EachRight job done (setting_acts job tool step))
    (λ same. rw same tt)
    (λ other. rw other (tt, (not_above_itself job.sec, tt)))

-- the mark of the next step makes it current
marked : (job : Job) (step : StepJob) (done : List Act) → slice_get job.steps (length (marks done)) ≡ Some step
    → IsCurrent job (done ++ Mark step.ws ∷ []) step
marked job step done next =
    (length (marks done), ap length (marks_append done (Mark step.ws ∷ [])) ∙ length-append (marks done) (step.ws ∷ []), next)

-- a step that is executed next, with moves that are safe
pub step_right : (job : Job) (tool : Option ℕ) (tip : Tip) (step : StepJob) (moves : List Move) (done : List Act) → IsJob job → Contains job.steps step
    → slice_get job.steps (length (marks done)) ≡ Some step → AreSafe job step (passes job.steps done) (tip_for job tool tip step) moves
    → EachRight job done (step_acts job tool tip step moves)
step_right job tool tip step [] done rule executed next safe = (tt, tt)
step_right job tool tip step (move ∷ moves) done rule executed next safe =
    let mark : List Act = Mark step.ws ∷ [] in
    let setting = setting_acts job tool step in
    let at = tip_for job tool tip step in
    let uncut = passes_on job.steps (done ++ mark) setting (setting_pass job tool step) ∙ passes_on job.steps done mark refl in
    let current = current_on job step (done ++ mark) setting (setting_mark job tool step) (marked job step done next) in (
      tt,
      each_append job (done ++ mark) setting (move_acts step.speed step.feed step.tool at (move ∷ moves))
          (setting_right job tool step (done ++ mark))
          (moves_right job step ((done ++ mark) ++ setting) at (move ∷ moves) rule executed current
          (subst (λ (ps : List Pass). AreSafe job step ps at (move ∷ moves)) (sym uncut) safe)),
    )
