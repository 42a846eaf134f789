-- Writing a program: what comes before the moves of a step, and what is left of the moves and of the steps.
use Rattle.std.proofs.Common.{ℕ, ◌≡◌, ◌+◌, ◌<◌, ℤ, false, List, [], ◌∷◌, ◌++◌, length, drop, get_or, Option, Some, None, Result, nat_eq, refl, sym, ap, subst, ◌∙◌, arith, add-one, append_assoc, drop-cons}
use Rattle.std.specs.Option.{option_eq}
use Rattle.std.specs.Prelude.{IsErr, slice_get}
use Rattle.sn_geom.specs.declared.tip.MotionMode.TheVariants as mode
use Rattle.sn_geom.specs.declared.tip.Tip.{Tip}
use Rattle.sn_geom.specs.declared.tip.Tip.TheVariants.{Unknown}
use Rattle.sn_geom.specs.declared.units.Pt3.{Pt3}
use Rattle.sn_geom.specs.Tip.{tip_after}
use Rattle.sn_gwrite.specs.Program.{change_text, mark_text, motion_text, rates_text}
use Rattle.sn_io.proofs.SinkLemmas.{takes-more, writes-first, writes-later}
use Rattle.sn_io.specs.Sink.{SinkState, Takes, TakesFront, Writes}
use Rattle.sn_outline.specs.Job.{Job}
use Rattle.sn_outline.specs.declared.job.StepJob.{StepJob}
use Rattle.sn_link.specs.declared.moves.Move.{Move}
use Rattle.sn_link.specs.Moves.{end_of, AreStraight, is_in_spindle, tip_for, tool_after, tip_after_step, tip_after_moves}
use Rattle.sn_link.specs.declared.planner.PlannedStep.{PlannedStep}
use Rattle.sn_link.specs.Counts.{moves_of}
use Rattle.sn_link.specs.Plan.{with_moves}
use Rattle.sn_program.specs.PlanActs.{AreWritable}
use Rattle.sn_program.specs.Text.{move_text, moves_text, rise_text, setting_text, step_text, steps_text}

-- Moves.

-- the lines of the moves so far were taken, and those of the others are left, from where the tip is
pub record AreMovesLeft (before after : SinkState) (text : List ℕ) (end tip : Tip) (left : List Move) : Type 0 where
  pub straight : AreStraight tip left
  pub ends : end ≡ tip_after_moves tip left
  pub front : List ℕ
  pub parts : text ≡ front ++ moves_text tip left
  pub takes : Takes before after front

pub next_move : {a b : SinkState} {text : List ℕ} {end tip : Tip} (moves : List Move) (i : ℕ) {move : Move}
    → AreMovesLeft a b text end tip (drop i moves) → i < length moves → move ≡ get_or moves i move
    → AreMovesLeft a b text end tip (move ∷ drop (i + 1) moves)
next_move {a} {b} {text} {end} {tip} moves i {move} so_far within is =
    let next : drop i moves ≡ move ∷ drop (i + 1) moves = rw (drop-cons moves i move, ← is, add-one) refl in
    subst (AreMovesLeft a b text end tip) next so_far

pub move_taken : {a b c : SinkState} {text : List ℕ} {end tip after : Tip} {move : Move} {later : List Move}
    → AreMovesLeft a b text end tip (move ∷ later) → Takes b c (move_text tip move) → after ≡ tip_after tip (end_of move)
    → AreMovesLeft a c text end after later
move_taken {a} {b} {c} {text} {end} {tip} {after} {move} {later} left takes arrived =
    subst (λ (t : Tip). AreMovesLeft a c text end t later) (sym arrived) (record {
      straight = left.straight.1;
      ends = left.ends;
      front = left.front ++ move_text tip move;
      parts = left.parts ∙ sym (append_assoc left.front (move_text tip move) (moves_text (tip_after tip (end_of move)) later));
      takes = takes-more a b c left.front (move_text tip move) left.takes takes;
    })

-- a write that stopped in the line of a move
pub move_stopped : {T E : Type 0} (r : Result T E) {a b c : SinkState} {text : List ℕ} {end tip : Tip} {move : Move} {later : List Move}
    → AreMovesLeft a b text end tip (move ∷ later) → IsErr r → TakesFront b c (move_text tip move) → Writes r a c text
move_stopped r left stops stopped = writes-later r _ _ _ _ left.front _ left.parts left.takes (writes-first r _ _ _ _ _ stops refl stopped)

-- A step.

-- the first motion after a tool change has a height alone
pub rise_is : (tip : Tip) (p : Pt3) (z : ℤ) → tip ≡ Unknown → p.z ≡ z → motion_text mode.Rapid tip p ≡ rise_text z
unfolding motion_text
rise_is tip p z unknown height = ap (λ (t : Tip). motion_text mode.Rapid t p) unknown ∙ ap rise_text height

pub spindle_test : (tool : Option ℕ) (k : ℕ) → option_eq nat_eq tool (Some k) ≡ is_in_spindle tool k
spindle_test None k = refl
spindle_test (Some tool) k = refl

pub setting_changed : (job : Job) (tool : Option ℕ) (step : StepJob) → is_in_spindle tool step.tool ≡ false
    → setting_text job tool step ≡ change_text step.tool ++ (rates_text step.speed step.feed ++ rise_text job.sec)
setting_changed job tool step e = rw e refl

pub step_with_moves : (job : Job) (tool : Option ℕ) (tip : Tip) (step : StepJob) (moves : List Move) (first : Move) → Some first ≡ slice_get moves 0
    → step_text job tool tip step moves ≡ mark_text step.ws ++ (setting_text job tool step ++ moves_text (tip_for job tool tip step) moves)
step_with_moves job tool tip step [] first e = absurd (cc)
step_with_moves job tool tip step (move ∷ moves) first e = refl

-- Steps.

-- the lines of the steps so far were taken, and those of the others are left, from the tool in the spindle and where the tip is
pub record AreStepsLeft (job : Job) (before after : SinkState) (text : List ℕ) (tool : Option ℕ) (tip : Tip) (steps : List StepJob) (plans : List PlannedStep) : Type 0 where
  pub each : length plans ≡ length steps
  pub writable : AreWritable job tool tip (with_moves steps (moves_of plans))
  pub front : List ℕ
  pub parts : text ≡ front ++ steps_text job tool tip (with_moves steps (moves_of plans))
  pub takes : Takes before after front

pub next_step : {job : Job} {a b : SinkState} {text : List ℕ} {tool : Option ℕ} {tip : Tip} {step : StepJob} {planned : PlannedStep} {steps later_steps : List StepJob} {plans later_plans : List PlannedStep}
    → AreStepsLeft job a b text tool tip steps plans → steps ≡ step ∷ later_steps → plans ≡ planned ∷ later_plans
    → AreStepsLeft job a b text tool tip (step ∷ later_steps) (planned ∷ later_plans)
next_step {job} {a} {b} {text} {tool} {tip} {step} {planned} {steps} {later_steps} {plans} {later_plans} so_far one other =
    subst (AreStepsLeft job a b text tool tip (step ∷ later_steps)) other
    (subst (λ (left : List StepJob). AreStepsLeft job a b text tool tip left plans) one so_far)

one_step_taken : (job : Job) (a b c : SinkState) (text : List ℕ) (tool : Option ℕ) (tip : Tip) (step : StepJob) (planned : PlannedStep) (steps : List StepJob) (plans : List PlannedStep)
    → AreStepsLeft job a b text tool tip (step ∷ steps) (planned ∷ plans) → Takes b c (step_text job tool tip step planned.moves)
    → AreStepsLeft job a c text (tool_after tool step planned.moves) (tip_after_step job tool tip step planned.moves) steps plans
one_step_taken job a b c text tool tip step planned steps plans left takes =
    let line = step_text job tool tip step planned.moves in
    let later = steps_text job (tool_after tool step planned.moves) (tip_after_step job tool tip step planned.moves) (with_moves steps (moves_of plans)) in
    let each = left.each in
    record {
      each = omega arith;
      writable = left.writable.1;
      front = left.front ++ line;
      parts = left.parts ∙ sym (append_assoc left.front line later);
      takes = takes-more a b c left.front line left.takes takes;
    }

pub step_taken : {job : Job} {a b c : SinkState} {text : List ℕ} {tool later_tool : Option ℕ} {tip later_tip : Tip} {step : StepJob} {planned : PlannedStep} {moves : List Move} {steps : List StepJob} {plans : List PlannedStep}
    → AreStepsLeft job a b text tool tip (step ∷ steps) (planned ∷ plans) → moves ≡ planned.moves → Takes b c (step_text job tool tip step moves)
    → later_tool ≡ tool_after tool step moves → later_tip ≡ tip_after_step job tool tip step moves
    → AreStepsLeft job a c text later_tool later_tip steps plans
step_taken {job} {a} {b} {c} {text} {tool} {later_tool} {tip} {later_tip} {step} {planned} {moves} {steps} {plans} left same takes tool_is tip_is =
    let done = one_step_taken job a b c text tool tip step planned steps plans left (subst (λ (ms : List Move). Takes b c (step_text job tool tip step ms)) same takes) in
    let tip_now : later_tip ≡ tip_after_step job tool tip step planned.moves = tip_is ∙ ap (tip_after_step job tool tip step) same in
    let tool_now : later_tool ≡ tool_after tool step planned.moves = tool_is ∙ ap (tool_after tool step) same in
    let with_tip = subst (λ (t : Tip). AreStepsLeft job a c text (tool_after tool step planned.moves) t steps plans) (sym tip_now) done in
    subst (λ (t : Option ℕ). AreStepsLeft job a c text t later_tip steps plans) (sym tool_now) with_tip

-- a write that stopped in the lines of a step
pub step_stopped : {T E : Type 0} (r : Result T E) {job : Job} {a b c : SinkState} {text : List ℕ} {tool : Option ℕ} {tip : Tip} {step : StepJob} {planned : PlannedStep} {moves : List Move} {steps : List StepJob} {plans : List PlannedStep}
    → AreStepsLeft job a b text tool tip (step ∷ steps) (planned ∷ plans) → moves ≡ planned.moves → IsErr r → TakesFront b c (step_text job tool tip step moves) → Writes r a c text
step_stopped r {job} {a} {b} {c} {text} {tool} {tip} {step} {planned} {moves} left same stops stopped =
    writes-later r _ _ _ _ left.front _ left.parts left.takes
    (writes-first r _ _ _ _ _ stops refl (subst (λ (ms : List Move). TakesFront b c (step_text job tool tip step ms)) same stopped))
