-- The program of a plan: its text is lines in the forms that are written, and the machine runs them to the acts of the plan.
use Rattle.std.proofs.Common.{ℕ, ◌≡◌, ◌≤◌, ◌+◌, Bool, true, false, List, [], ◌∷◌, ◌++◌, map, Option, None, Some, ℤ, refl, sym, ap, subst, ◌∙◌, arith, append_assoc, if◌then◌else◌}
use Rattle.std.specs.Prelude.{◌==◌}
use Rattle.std.proofs.lemmas.Bool.{eqb-true, eq-eqb}
use Rattle.std.proofs.lemmas.List.{map-append}
use Rattle.std.proofs.lemmas.Bool.Decides.{nat_tests}
use Rattle.sn_geom.specs.Length.{IsLength}
use Rattle.sn_geom.specs.Block.{Block}
use Rattle.sn_geom.specs.Machine.{State, start}
use Rattle.sn_geom.specs.declared.tip.MotionMode.{MotionMode}
use Rattle.sn_geom.specs.declared.tip.MotionMode.TheVariants as mode
use Rattle.sn_geom.specs.declared.tip.Tip.{Tip}
use Rattle.sn_geom.specs.declared.tip.Tip.TheVariants.{Unknown, Height}
use Rattle.sn_gwrite.specs.Program.{head_text, Form, form_block, AreProper, tools_forms, head_forms, mark_forms, change_forms, rates_forms, end_forms}
use Rattle.sn_outline.specs.Job.{Job}
use Rattle.sn_outline.specs.declared.job.StepJob.{StepJob}
use Rattle.sn_geom.specs.Acts.{Act, RunsTo}
use Rattle.sn_geom.specs.Acts.Act.{Mark, PutTool, Enter, End}
use Rattle.sn_gwrite.specs.Program.Form.{StepMark, ToolChange, LengthOffset, SpindleSpeed, FeedRate, HeightMotion}
use Rattle.sn_link.specs.declared.moves.Move.{Move}
use Rattle.sn_link.specs.Moves.{is_in_spindle, tip_for, tool_after, tip_after_step}
use Rattle.sn_program.specs.PlanActs.{move_acts, setting_acts, step_acts, steps_acts, program_acts, IsNumbered, IsWritable, AreWritable, AreNoted, IsWritableProgram}
use Rattle.sn_program.specs.Text.{rise_text, setting_text, step_text, steps_text, program_text}
use Rattle.sn_geom.specs.Meaning.{Means}
use Rattle.sn_program.proofs.LineLemmas.{text_append, blocks_of_text}
use Rattle.sn_gwrite.specs.ProgramLaws.{IsTextOf}
use Rattle.sn_gwrite.proofs.PartLines.{head-text, mark-forms, change-forms, rates-forms, end-forms}
use Rattle.sn_gwrite.proofs.PartRuns.{within, end_runs}
use Rattle.sn_link.proofs.MovesLemmas.{by_test}
use Rattle.sn_program.proofs.MovesLemmas.{AreSet, RunsOn, working, move_forms, moves_lines, moves_run}

-- The lines of steps.

rise_lines : (z : ℤ) → IsLength z → IsTextOf (rise_text z) (HeightMotion mode.Rapid z ∷ [])
rise_lines z within = record { written = simp append_assoc; proper = (within, tt) }

abbrev pub setting_forms : Job → Option ℕ → StepJob → List Form
setting_forms job tool step =
    if is_in_spindle tool step.tool
    then rates_forms step.speed step.feed
    else change_forms step.tool ++ (rates_forms step.speed step.feed ++ HeightMotion mode.Rapid job.sec ∷ [])

abbrev pub step_forms : Job → Option ℕ → Tip → StepJob → List Move → List Form
step_forms job tool tip step [] = mark_forms step.ws
step_forms job tool tip step (move ∷ moves) =
    mark_forms step.ws ++ (setting_forms job tool step ++ move_forms (tip_for job tool tip step) (move ∷ moves))

abbrev pub steps_forms : Job → Option ℕ → Tip → List (StepJob × List Move) → List Form
steps_forms job tool tip [] = []
steps_forms job tool tip ((step, moves) ∷ later) =
    step_forms job tool tip step moves ++ steps_forms job (tool_after tool step moves) (tip_after_step job tool tip step moves) later

abbrev pub program_forms : Job → List (StepJob × List Move) → List Form
program_forms job plan = head_forms job.tools ++ (steps_forms job None Unknown plan ++ end_forms)

setting_lines : (job : Job) (tool : Option ℕ) (step : StepJob) → IsLength job.sec → IsNumbered step
    → IsTextOf (setting_text job tool step) (setting_forms job tool step)
setting_lines job tool step sec numbered =
    let rates = rates-forms step.speed step.feed numbered.speed numbered.feed in
    by_test (is_in_spindle tool step.tool) (IsTextOf (setting_text job tool step) (setting_forms job tool step))
    (λ same. rw same rates)
    (λ other. rw other (text_append (change-forms step.tool numbered.tool) (text_append rates (rise_lines job.sec sec))))

step_lines : (job : Job) (tool : Option ℕ) (tip : Tip) (step : StepJob) (moves : List Move) → IsLength job.sec → IsWritable job tool tip step moves
    → IsTextOf (step_text job tool tip step moves) (step_forms job tool tip step moves)
step_lines job tool tip step [] sec writable = mark-forms step.ws writable.numbered.mark.0 writable.numbered.mark.1
step_lines job tool tip step (move ∷ moves) sec writable =
    text_append (mark-forms step.ws writable.numbered.mark.0 writable.numbered.mark.1)
    (text_append (setting_lines job tool step sec writable.numbered) (moves_lines (tip_for job tool tip step) (move ∷ moves) writable.within))

steps_lines : (job : Job) (tool : Option ℕ) (tip : Tip) (plan : List (StepJob × List Move)) → IsLength job.sec → AreWritable job tool tip plan
    → IsTextOf (steps_text job tool tip plan) (steps_forms job tool tip plan)
steps_lines job tool tip [] sec writable = record { written = refl; proper = tt }
steps_lines job tool tip ((step, moves) ∷ later) sec writable =
    text_append (step_lines job tool tip step moves sec writable.0)
    (steps_lines job (tool_after tool step moves) (tip_after_step job tool tip step moves) later sec writable.1)

tools_proper : (number : ℕ) (tools : List ℕ) → AreNoted number tools → AreProper (tools_forms number tools)
tools_proper number [] noted = tt
tools_proper number (instance ∷ instances) noted = (noted.0, tools_proper (number + 1) instances noted.1)

program_lines : (job : Job) (plan : List (StepJob × List Move)) → IsWritableProgram job plan → IsTextOf (program_text job plan) (program_forms job plan)
program_lines job plan writable =
    let head : IsTextOf (head_text job.tools) (head_forms job.tools)
    = record { written = head-text job.tools; proper = (tt, (tt, tools_proper 1 job.tools writable.tools)) } in
    text_append head (text_append (steps_lines job None Unknown plan writable.sec writable.steps) end-forms)

-- What the machine does.

-- within a program, before any step
abbrev pub opened : State
opened = within None None None None None false false Unknown

-- the machine runs the lines with these acts from between two steps on
abbrev pub RunsFrom : Option ℕ → Tip → List Block → List Act → Type 0
RunsFrom None tip bs acts = RunsTo opened bs acts
RunsFrom (Some tool) tip bs acts = (speed feed : ℕ) → RunsOn speed feed tool tip bs acts

positive_test : (n : ℕ) → 1 ≤ n → (n == 0) ≡ false
positive_test n positive = grind (arith, nat_tests)

are_set : (step : StepJob) → IsNumbered step → AreSet step.speed step.feed step.tool
are_set step numbered = record {
  speed_is = positive_test step.speed numbered.speed.0;
  feed_is = positive_test step.feed numbered.feed.0;
  tool_is = positive_test step.tool numbered.tool.0;
}

-- a tool change, from any state within a program
change_run : (motion : Option MotionMode) (f s c t : Option ℕ) (offset turning : Bool) (tip : Tip) (speed feed k : ℕ) (z : ℤ) (bs : List Block) (acts : List Act)
    → AreSet speed feed k → RunsOn speed feed k (Height z) bs acts
    → RunsTo (within motion f s c t offset turning tip)
    (form_block (ToolChange k) ∷ form_block (LengthOffset k) ∷ form_block (SpindleSpeed speed) ∷ form_block (FeedRate feed) ∷ form_block (HeightMotion mode.Rapid z) ∷ bs)
    (PutTool k ∷ Enter z ∷ acts)
change_run motion f s c t offset turning tip speed feed k z bs acts are next =
    let rise : List Act = Enter z ∷ acts in (
      refl,
      (
        rise,
        refl,
        (
          rw (are.tool_is, eq-eqb k k refl) refl,
          (
            rise,
            refl,
            (
              refl,
              (
                rise,
                refl,
                (
                  refl,
                  (
                    rise,
                    refl,
                    (rw are.tool_is refl, (acts, refl, next (Some mode.Rapid))),
                  ),
                ),
              ),
            ),
          ),
        ),
      ),
    )

-- the tool stays in the spindle
rates_run : (motion : Option MotionMode) (s f speed feed k : ℕ) (tip : Tip) (bs : List Block) (acts : List Act)
    → RunsOn speed feed k tip bs acts
    → RunsTo (working motion s f k tip) (form_block (SpindleSpeed speed) ∷ form_block (FeedRate feed) ∷ bs) acts
rates_run motion s f speed feed k tip bs acts next = (refl, (acts, refl, (refl, (acts, refl, next motion))))

mark_run : (tool : Option ℕ) (tip : Tip) (ws : ℕ) (bs : List Block) (acts : List Act) → RunsFrom tool tip bs acts
    → RunsFrom tool tip (form_block (StepMark ws) ∷ bs) (Mark ws ∷ acts)
mark_run None tip ws bs acts next = (refl, (acts, refl, next))
mark_run (Some k) tip ws bs acts next = λ s f motion. (refl, (acts, refl, next s f motion))

-- to the moves of a step
setting_run : (job : Job) (tool : Option ℕ) (tip : Tip) (step : StepJob) (bs : List Block) (acts : List Act) → IsNumbered step
    → RunsOn step.speed step.feed step.tool (tip_for job tool tip step) bs acts
    → RunsFrom tool tip (map form_block (setting_forms job tool step) ++ bs) (setting_acts job tool step ++ acts)
setting_run job None tip step bs acts numbered next =
    change_run None None None None None false false Unknown step.speed step.feed step.tool job.sec bs acts (are_set step numbered) next
setting_run job (Some k) tip step bs acts numbered next = λ s f motion.
    by_test (k == step.tool)
    (RunsTo (working motion s f k tip) (map form_block (setting_forms job (Some k) step) ++ bs) (setting_acts job (Some k) step ++ acts))
    (λ same.
    let still = subst (λ (t : Tip). RunsOn step.speed step.feed step.tool t bs acts) (ap (λ (b : Bool). if b then tip else Height job.sec) same) next in
    rw same (rates_run motion s f step.speed step.feed k tip bs acts
    (subst (λ (t : ℕ). RunsOn step.speed step.feed t tip bs acts) (sym (eqb-true k step.tool same)) still)))
    (λ other.
    let risen = subst (λ (t : Tip). RunsOn step.speed step.feed step.tool t bs acts) (ap (λ (b : Bool). if b then tip else Height job.sec) other) next in
    rw other (change_run motion (Some f) (Some s) (Some k) (Some k) true true tip step.speed step.feed step.tool job.sec bs acts (are_set step numbered) risen))

map_append : (some others : List Form) (bs : List Block) → map form_block (some ++ others) ++ bs ≡ map form_block some ++ (map form_block others ++ bs)
map_append [] others bs = refl
map_append (form ∷ forms) others bs = ap (λ rest. form_block form ∷ rest) (map_append forms others bs)

joined : (tool : Option ℕ) (tip : Tip) (some others : List Form) (bs : List Block) (a b acts : List Act)
    → RunsFrom tool tip (map form_block some ++ (map form_block others ++ bs)) (a ++ (b ++ acts))
    → RunsFrom tool tip (map form_block (some ++ others) ++ bs) ((a ++ b) ++ acts)
joined tool tip some others bs a b acts run =
    let blocks = subst (λ (blocks : List Block). RunsFrom tool tip blocks (a ++ (b ++ acts))) (sym (map_append some others bs)) run in
    subst (λ (all : List Act). RunsFrom tool tip (map form_block (some ++ others) ++ bs) all) (sym (append_assoc a b acts)) blocks

-- a step with its moves, from between two steps to between two steps
pub step_run : (job : Job) (tool : Option ℕ) (tip : Tip) (step : StepJob) (moves : List Move) (bs : List Block) (acts : List Act)
    → IsWritable job tool tip step moves
    → RunsFrom (tool_after tool step moves) (tip_after_step job tool tip step moves) bs acts
    → RunsFrom tool tip (map form_block (step_forms job tool tip step moves) ++ bs) (step_acts job tool tip step moves ++ acts)
step_run job tool tip step [] bs acts writable next = mark_run tool tip step.ws bs acts next
step_run job tool tip step (move ∷ moves) bs acts writable next =
    let at = tip_for job tool tip step in
    let cut = moves_run step.speed step.feed step.tool (are_set step writable.numbered) at (move ∷ moves) bs acts writable.straight (next step.speed step.feed) in
    let forms = move_forms at (move ∷ moves) in
    let all = move_acts step.speed step.feed step.tool at (move ∷ moves) in
    let set = setting_run job tool tip step (map form_block forms ++ bs) (all ++ acts) writable.numbered cut in
    mark_run tool tip step.ws (map form_block (setting_forms job tool step ++ forms) ++ bs) ((setting_acts job tool step ++ all) ++ acts)
    (joined tool tip (setting_forms job tool step) forms bs (setting_acts job tool step) all acts set)

abbrev ending : List Block
ending = map form_block end_forms

-- all steps of a plan, and the end
steps_run : (job : Job) (tool : Option ℕ) (tip : Tip) (plan : List (StepJob × List Move)) → AreWritable job tool tip plan
    → RunsFrom tool tip (map form_block (steps_forms job tool tip plan) ++ ending) (steps_acts job tool tip plan ++ End ∷ [])
steps_run job None tip [] writable = end_runs None None None None None false false Unknown
steps_run job (Some k) tip [] writable = λ s f motion. end_runs motion (Some f) (Some s) (Some k) (Some k) true true tip
steps_run job tool tip ((step, moves) ∷ later) writable =
    let next = tool_after tool step moves in
    let at = tip_after_step job tool tip step moves in
    joined tool tip (step_forms job tool tip step moves) (steps_forms job next at later) ending
    (step_acts job tool tip step moves) (steps_acts job next at later) (End ∷ [])
    (step_run job tool tip step moves (map form_block (steps_forms job next at later) ++ ending) (steps_acts job next at later ++ End ∷ []) writable.0
    (steps_run job next at later writable.1))

tools_run : (number : ℕ) (tools : List ℕ) (bs : List Block) (acts : List Act) → RunsTo opened bs acts
    → RunsTo opened (map form_block (tools_forms number tools) ++ bs) acts
tools_run number [] bs acts next = next
tools_run number (instance ∷ instances) bs acts next = (refl, (acts, refl, tools_run (number + 1) instances bs acts next))

program_run : (job : Job) (plan : List (StepJob × List Move)) → AreWritable job None Unknown plan
    → RunsTo start (map form_block (program_forms job plan)) (program_acts job plan)
program_run job plan writable =
    let acts = program_acts job plan in
    let opening = tools_forms 1 job.tools in
    let steps = steps_forms job None Unknown plan in
    let run = tools_run 1 job.tools _ acts (steps_run job None Unknown plan writable) in
    let parts : map form_block (opening ++ (steps ++ end_forms)) ≡ map form_block opening ++ (map form_block steps ++ ending)
    = map-append form_block opening (steps ++ end_forms)
    ∙ ap (λ (rest : List Block). map form_block opening ++ rest) (map-append form_block steps end_forms) in
    (refl, (acts, refl, (refl, (acts, refl, subst (λ (blocks : List Block). RunsTo opened blocks acts) (sym parts) run))))

-- The machine runs the program of a plan whose moves are straight and in the range, and gives the acts of the plan.
pub program_means : (job : Job) (plan : List (StepJob × List Move)) → IsWritableProgram job plan → Means (program_text job plan) (program_acts job plan)
program_means job plan writable = record {
  blocks = map form_block (program_forms job plan);
  says = blocks_of_text (program_text job plan) (program_forms job plan) (program_lines job plan writable);
  runs = program_run job plan writable.steps;
}
