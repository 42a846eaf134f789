-- Laws of jobs.
use Rattle.std.proofs.Common.{◌≡◌, ◌≢◌, refl, sym, ◌∙◌, ap, subst, ℕ, ℤ, Bool, true, false, List, [], ◌∷◌, map, Option, Some, None}
use Rattle.std.specs.Prelude.{Result, Ok, Err, IfErr, int_lt, if◌then◌else◌}
use Rattle.sn_model.specs.ModelContent.{ModelContent}
use Rattle.sn_frame.specs.declared.frame.FrameFault.{FrameFault}
use Rattle.sn_frame.specs.Frame.{Transform}
use Rattle.sn_outline.specs.declared.job.StepJob.{StepJob}
use Rattle.sn_outline.specs.Job.{Job}
use Rattle.sn_words.specs.declared.options.RawBox.{RawBox}
use Rattle.sn_words.specs.Options.{Options}
use Rattle.sn_walk.specs.declared.fault.WalkFault.{WalkFault}
use Rattle.sn_walk.specs.declared.fault.WalkFault.TheVariants as walk
use Rattle.sn_walk.specs.Walk.{executed_of}
use Rattle.sn_feature.specs.declared.fault.StepFault.{StepFault}
use Rattle.sn_feature.specs.declared.fault.StepFault.TheVariants as step
use Rattle.sn_feature.specs.declared.entities.Task.{Task}
use Rattle.sn_feature.specs.declared.parts.StepParts.{StepParts}
use Rattle.sn_feature.specs.Entities.{task_of}
use Rattle.sn_feature.specs.Refusal.{◌>>=◌, refused_where, length_in_range, as_step_fault}
use Rattle.sn_feature.specs.Outline.{is_bad_outline}
use Rattle.sn_feature.specs.Tooling.{is_wrong_tool, is_short_tool}
use Rattle.sn_feature.specs.Step.{placed_feature, parts_of, lowest_tip, judged, step_by, step_of}
use Rattle.sn_flow.specs.declared.fault.JobFault.{JobFault}
use Rattle.sn_flow.specs.declared.fault.JobFault.TheVariants as fault
use Rattle.sn_flow.specs.Faults.{of_walk, of_step, ◌failing_as◌}
use Rattle.sn_flow.specs.Setup.{workpiece_frame, raw_block, block_box, security_height}
use Rattle.sn_flow.specs.Steps.{step_among}
use Rattle.sn_flow.specs.JobOf.{box_of_block, raw_box, not_below, all_parts, job_with, job_of}
use Rattle.sn_flow.specs.JobOfLaws.{NoOtherFault, StepsAreExecuted, GivenBoxIsUsed}
use Rattle.sn_flow.proofs.PartsLemmas.{first_of_all, step_is, ws_of_step}

-- Faults.

abbrev IsOfStep : StepFault → Type 0
IsOfStep step.Memory = ⊥
IsOfStep _ = Unit {0}

abbrev IsOfJob : JobFault → Type 0
IsOfJob fault.Memory = ⊥
IsOfJob fault.GridTooBig = ⊥
IsOfJob (fault.TooSmall n) = ⊥
IsOfJob _ = Unit {0}

bind : {A B E : Type 0} (P : E → Type 0) (r : Result A E) (f : A → Result B E) → IfErr r P → ((x : A) → IfErr (f x) P) → IfErr (r >>= f) P
bind P (Ok x) f h k = k x
bind P (Err e) f h k = h

where_step : (b : Bool) (e : StepFault) → IsOfStep e → IfErr (refused_where b e) IsOfStep
where_step true e h = h
where_step false e h = tt

of_frame : {A : Type 0} (r : Result A FrameFault) → IfErr (as_step_fault r) IsOfStep
of_frame (Ok x) = tt
of_frame (Err e) = tt

judged_with : (r : Result ℤ FrameFault) (a b c : Bool) (d : ℤ → Bool) (e f g h : StepFault) → IsOfStep e → IsOfStep f → IsOfStep g → IsOfStep h
    → IfErr (as_step_fault r >>= λ tip. refused_where a e >>= λ _. refused_where b f >>= λ _. refused_where c g >>= λ _. refused_where (d tip) h) IsOfStep
judged_with (Err why) a b c d e f g h i j k l = tt
judged_with (Ok z) true b c d e f g h i j k l = i
judged_with (Ok z) false true c d e f g h i j k l = j
judged_with (Ok z) false false true d e f g h i j k l = k
judged_with (Ok z) false false false d e f g h i j k l = where_step (d z) h l

judged_tells : (m : ModelContent) (t : Task) (top : ℤ) (p : StepParts) → IfErr (judged m t top p) IsOfStep
unfolding judged
judged_tells m t top p =
    judged_with (length_in_range (lowest_tip p) t.feature.placement) (int_lt p.top p.floor) (is_bad_outline m t.feature.form) (is_wrong_tool t.feature.form t.operation t.tool)
    (λ tip. is_short_tool t.tool.length top tip) (step.Depth t.names.feature) (step.BadOutline t.names.feature) (step.WrongTool t.ws) (step.ShortTool t.ws) tt tt tt tt

step_tells : (m : ModelContent) (frame : Transform) (top : ℤ) (ws : ℕ) → IfErr (step_of m frame top ws) IsOfStep
unfolding step_of step_by
step_tells m frame top ws =
    let t = task_of m ws in
    bind IsOfStep (as_step_fault (placed_feature m frame t.feature)) (λ placed. judged m t top (parts_of m t placed) >>= λ _. Ok (parts_of m t placed)) (of_frame (placed_feature m frame t.feature))
    (λ placed. bind IsOfStep (judged m t top (parts_of m t placed)) (λ _. Ok (parts_of m t placed)) (judged_tells m t top (parts_of m t placed)) (λ a. tt))

step_or : (r : Result StepParts StepFault) → IfErr r IsOfStep → IfErr (r failing_as of_step) IsOfJob
step_or (Ok p) h = tt
step_or (Err (step.Frame why)) h = tt
step_or (Err (step.Depth n)) h = tt
step_or (Err (step.BadOutline n)) h = tt
step_or (Err (step.WrongTool n)) h = tt
step_or (Err (step.ShortTool n)) h = tt
step_or (Err step.Memory) h = absurd h

all_tell : (m : ModelContent) (frame : Transform) (top : ℤ) (steps : List ℕ) → IfErr (all_parts m frame top steps) IsOfJob
all_tell m frame top [] = tt
all_tell m frame top (ws ∷ steps) =
    bind IsOfJob (step_of m frame top ws failing_as of_step) (λ part. all_parts m frame top steps >>= λ parts. Ok (part ∷ parts)) (step_or (step_of m frame top ws) (step_tells m frame top ws)) (λ part. bind IsOfJob (all_parts m frame top steps) (λ parts. Ok (part ∷ parts)) (all_tell m frame top steps) (λ parts. tt))

walk_or : (r : Result (List ℕ) WalkFault) → r ≢ Err walk.Memory → IfErr (r failing_as of_walk) IsOfJob
walk_or (Ok steps) h = tt
walk_or (Err (walk.Unset n)) h = tt
walk_or (Err walk.TooManySteps) h = tt
walk_or (Err (walk.SecondSetup n)) h = tt
walk_or (Err walk.Memory) h = h refl

frame_or : {A : Type 0} (r : Result A FrameFault) → IfErr (r failing_as fault.Frame) IsOfJob
frame_or (Ok x) = tt
frame_or (Err e) = tt

box_tells : (m : ModelContent) (frame : Transform) (o : Option ℕ) → IfErr (box_of_block m frame o) IsOfJob
box_tells m frame None = tt
box_tells m frame (Some block) = frame_or (block_box m frame block)

raw_tells : (m : ModelContent) (frame : Transform) (given : Option RawBox) → IfErr (raw_box m given frame) IsOfJob
raw_tells m frame (Some raw) = tt
raw_tells m frame None = box_tells m frame (raw_block m)

chosen_height : (b : Bool) (z : ℤ) → (let r : Result ℤ JobFault = (if b then Err fault.SecLow else Ok z) in IfErr r IsOfJob)
chosen_height true z = tt
chosen_height false z = tt

abbrev after_height : ModelContent → Options → List ℕ → Transform → RawBox → ℤ → Result Job JobFault
after_height m o steps frame raw sec = all_parts m frame raw.high.z steps >>= λ parts. Ok (job_with o raw sec parts)

abbrev after_raw : ModelContent → Options → List ℕ → Transform → RawBox → Result Job JobFault
after_raw m o steps frame raw = not_below raw.high.z (security_height m steps raw.high.z) >>= after_height m o steps frame raw

abbrev after_frame : ModelContent → Options → List ℕ → Transform → Result Job JobFault
after_frame m o steps frame = raw_box m o.raw frame >>= after_raw m o steps frame

abbrev after_walk : ModelContent → Options → List ℕ → Result Job JobFault
after_walk m o steps = (workpiece_frame m failing_as fault.Frame) >>= after_frame m o steps

job_tells : ((m : ModelContent) (o : Options) → executed_of m o.sets ≢ Err walk.Memory) → (m : ModelContent) (o : Options) → IfErr (job_of m o) IsOfJob
job_tells never m o =
    bind IsOfJob (executed_of m o.sets failing_as of_walk) (after_walk m o) (walk_or (executed_of m o.sets) (never m o)) (λ steps.
    bind IsOfJob (workpiece_frame m failing_as fault.Frame) (after_frame m o steps) (frame_or (workpiece_frame m)) (λ frame.
    bind IsOfJob (raw_box m o.raw frame) (after_raw m o steps frame) (raw_tells m frame o.raw) (λ raw.
    bind IsOfJob (not_below raw.high.z (security_height m steps raw.high.z)) (after_height m o steps frame raw) (chosen_height (int_lt (security_height m steps raw.high.z) raw.high.z) (security_height m steps raw.high.z)) (λ sec.
    bind IsOfJob (all_parts m frame raw.high.z steps) (λ parts. Ok (job_with o raw sec parts)) (all_tell m frame raw.high.z steps) (λ parts. tt)))))

pub no_other_fault : ((m : ModelContent) (o : Options) → executed_of m o.sets ≢ Err walk.Memory) → NoOtherFault
no_other_fault never = record {
  memory = λ m o e. subst (λ (r : Result Job JobFault). IfErr r IsOfJob) e (job_tells never m o);
  grid = λ m o e. subst (λ (r : Result Job JobFault). IfErr r IsOfJob) e (job_tells never m o);
  small = λ m o n e. subst (λ (r : Result Job JobFault). IfErr r IsOfJob) e (job_tells never m o);
}

-- Jobs taken apart.

pub record IsMade (m : ModelContent) (o : Options) (job : Job) : Type 0 where
  pub steps : List ℕ
  pub frame : Transform
  pub raw : RawBox
  pub sec : ℤ
  pub parts : List StepParts
  pub walk : executed_of m o.sets ≡ Ok steps
  pub boxed : raw_box m o.raw frame ≡ Ok raw
  pub all : all_parts m frame raw.high.z steps ≡ Ok parts
  pub is : job ≡ job_with o raw sec parts

ok_is : {A E : Type 0} {x y : A} → (let r : Result A E = Ok x in r ≡ Ok y) → x ≡ y
ok_is e = cc

no_ok : {A E : Type 0} {x : A} {e : E} → (let r : Result A E = Err e in r ≡ Ok x) → ⊥
no_ok e = cc

made_parts : (m : ModelContent) (o : Options) (job : Job) (steps : List ℕ) (frame : Transform) (raw : RawBox) (sec : ℤ) (r : Result (List StepParts) JobFault) → executed_of m o.sets ≡ Ok steps → raw_box m o.raw frame ≡ Ok raw → all_parts m frame raw.high.z steps ≡ r
    → (r >>= λ parts. Ok (job_with o raw sec parts)) ≡ Ok job → IsMade m o job
made_parts m o job steps frame raw sec (Ok parts) w b a e = record { steps = steps; frame = frame; raw = raw; sec = sec; parts = parts; walk = w; boxed = b; all = a; is = sym (ok_is e) }
made_parts m o job steps frame raw sec (Err why) w b a e = absurd (no_ok e)

made_height : (m : ModelContent) (o : Options) (job : Job) (steps : List ℕ) (frame : Transform) (raw : RawBox) (r : Result ℤ JobFault) → executed_of m o.sets ≡ Ok steps → raw_box m o.raw frame ≡ Ok raw
    → (r >>= λ sec. all_parts m frame raw.high.z steps >>= λ parts. Ok (job_with o raw sec parts)) ≡ Ok job → IsMade m o job
made_height m o job steps frame raw (Ok sec) w b e = made_parts m o job steps frame raw sec (all_parts m frame raw.high.z steps) w b refl e
made_height m o job steps frame raw (Err why) w b e = absurd (no_ok e)

made_raw : (m : ModelContent) (o : Options) (job : Job) (steps : List ℕ) (frame : Transform) (r : Result RawBox JobFault) → executed_of m o.sets ≡ Ok steps → raw_box m o.raw frame ≡ r
    → (r >>= λ raw. not_below raw.high.z (security_height m steps raw.high.z) >>= λ sec. all_parts m frame raw.high.z steps >>= λ parts. Ok (job_with o raw sec parts)) ≡ Ok job → IsMade m o job
made_raw m o job steps frame (Ok raw) w b e = made_height m o job steps frame raw (not_below raw.high.z (security_height m steps raw.high.z)) w b e
made_raw m o job steps frame (Err why) w b e = absurd (no_ok e)

made_frame : (m : ModelContent) (o : Options) (job : Job) (steps : List ℕ) (r : Result Transform FrameFault) → executed_of m o.sets ≡ Ok steps
    → ((r failing_as fault.Frame) >>= λ frame. raw_box m o.raw frame >>= λ raw. not_below raw.high.z (security_height m steps raw.high.z) >>= λ sec. all_parts m frame raw.high.z steps >>= λ parts. Ok (job_with o raw sec parts)) ≡ Ok job → IsMade m o job
made_frame m o job steps (Ok frame) w e = made_raw m o job steps frame (raw_box m o.raw frame) w refl e
made_frame m o job steps (Err why) w e = absurd (no_ok e)

made_walk : (m : ModelContent) (o : Options) (job : Job) (r : Result (List ℕ) WalkFault) → executed_of m o.sets ≡ r
    → ((r failing_as of_walk) >>= λ steps. (workpiece_frame m failing_as fault.Frame) >>= λ frame. raw_box m o.raw frame >>= λ raw. not_below raw.high.z (security_height m steps raw.high.z) >>= λ sec. all_parts m frame raw.high.z steps >>= λ parts. Ok (job_with o raw sec parts)) ≡ Ok job → IsMade m o job
made_walk m o job (Ok steps) w e = made_frame m o job steps (workpiece_frame m) w e
made_walk m o job (Err why) w e = absurd (no_ok e)

made : (m : ModelContent) (o : Options) (job : Job) → job_of m o ≡ Ok job → IsMade m o job
made m o job e = made_walk m o job (executed_of m o.sets) refl e

pub given_box_is_used : GivenBoxIsUsed
given_box_is_used m o raw job given e =
    let a = made m o job e in
    let same : raw ≡ a.raw = ok_is (sym (ap (λ (g : Option RawBox). raw_box m g a.frame) given) ∙ a.boxed) in
    (ap (λ (j : Job). j.low) a.is ∙ ap (λ (r : RawBox). r.low) (sym same), ap (λ (j : Job). j.high) a.is ∙ ap (λ (r : RawBox). r.high) (sym same))

ws_of_all : (m : ModelContent) (frame : Transform) (top : ℤ) (steps : List ℕ) (parts : List StepParts) → all_parts m frame top steps ≡ Ok parts → map (λ p. p.ws) parts ≡ steps
ws_of_all m frame top [] parts e = ap (λ (ps : List StepParts). map (λ (p : StepParts). p.ws) ps) (sym (ok_is e))
ws_of_all m frame top (ws ∷ steps) parts e =
    let a = first_of_all m frame top ws steps parts e in
    ap (λ (ps : List StepParts). map (λ (p : StepParts). p.ws) ps) a.all
    ∙ ap (λ n. n ∷ map (λ (p : StepParts). p.ws) a.rest) (ws_of_step m frame ws a.part (step_is m frame top ws a.part a.first))
    ∙ ap (λ ns. ws ∷ ns) (ws_of_all m frame top steps a.rest a.others)

ws_of_steps : (all parts : List StepParts) → map (λ (s : StepJob). s.ws) (map (step_among all) parts) ≡ map (λ (p : StepParts). p.ws) parts
ws_of_steps all [] = refl
ws_of_steps all (p ∷ parts) = ap (λ ns. p.ws ∷ ns) (ws_of_steps all parts)

pub steps_are_executed : StepsAreExecuted
steps_are_executed m o job e =
    let a = made m o job e in
    let steps = ap (λ (j : Job). map (λ (s : StepJob). s.ws) j.steps) a.is ∙ ws_of_steps a.parts a.parts ∙ ws_of_all m a.frame a.raw.high.z a.steps a.parts a.all in
    a.walk ∙ ap (λ (ns : List ℕ). Ok ns) (sym steps)
