-- The job, step by step.
use Rattle.std.proofs.Common.{◌≡◌, refl, sym, ◌∙◌, ap, subst, ℕ, ℤ, ◌<ℤ◌, ◌≤ℤ◌, List, Option, Some, None, true, false, arith}
use Rattle.std.specs.Prelude.{Result, Ok, Err, int_lt, if◌then◌else◌}
use Rattle.std.proofs.lemmas.Int.{ints}
use Rattle.sn_model.specs.ModelContent.{ModelContent}
use Rattle.sn_frame.specs.declared.frame.FrameFault.{FrameFault}
use Rattle.sn_frame.specs.Frame.{Transform}
use Rattle.sn_outline.specs.Job.{Job}
use Rattle.sn_words.specs.declared.options.RawBox.{RawBox}
use Rattle.sn_words.specs.Options.{Options}
use Rattle.sn_walk.specs.declared.fault.WalkFault.{WalkFault}
use Rattle.sn_walk.specs.Walk.{executed_of}
use Rattle.sn_feature.specs.declared.parts.StepParts.{StepParts}
use Rattle.sn_feature.specs.Refusal.{◌>>=◌}
use Rattle.sn_flow.specs.declared.fault.JobFault.{JobFault}
use Rattle.sn_flow.specs.declared.fault.JobFault.TheVariants.{Frame, RawUnknown, SecLow}
use Rattle.sn_flow.specs.Faults.{of_walk, of_step, ◌failing_as◌}
use Rattle.sn_flow.specs.Setup.{workpiece_frame, raw_block, block_box, security_height}
use Rattle.sn_flow.specs.JobOf.{box_of_block, raw_box, not_below, all_parts, job_with, job_of}
use Rattle.sn_flow.specs.JobOfLaws.{WorkpieceSecond, RawBoxThird, SecurityFourth, StepsLast, ElseTheJob}
use Rattle.sn_flow.proofs.PartsLemmas.{fail_behind}

-- what is left of the job behind each step
after_parts : Options → RawBox → ℤ → Result (List StepParts) JobFault → Result Job JobFault
after_parts o raw sec r = r >>= λ parts. Ok (job_with o raw sec parts)

after_height : ModelContent → Options → List ℕ → Transform → RawBox → Result ℤ JobFault → Result Job JobFault
after_height m o steps frame raw r = r >>= λ sec. after_parts o raw sec (all_parts m frame raw.high.z steps)

after_raw : ModelContent → Options → List ℕ → Transform → Result RawBox JobFault → Result Job JobFault
after_raw m o steps frame r = r >>= λ raw. after_height m o steps frame raw (not_below raw.high.z (security_height m steps raw.high.z))

after_frame : ModelContent → Options → List ℕ → Result Transform FrameFault → Result Job JobFault
after_frame m o steps r = (r failing_as Frame) >>= λ frame. after_raw m o steps frame (raw_box m o.raw frame)

after_walk : ModelContent → Options → Result (List ℕ) WalkFault → Result Job JobFault
after_walk m o r = (r failing_as of_walk) >>= λ steps. after_frame m o steps (workpiece_frame m)

whole : (m : ModelContent) (o : Options) → job_of m o ≡ after_walk m o (executed_of m o.sets)
unfolding after_walk after_frame after_raw after_height after_parts
whole m o = refl

pub at_walk : (m : ModelContent) (o : Options) (why : WalkFault) → executed_of m o.sets ≡ Err why → job_of m o ≡ Err (of_walk why)
unfolding after_walk
at_walk m o why walk = whole m o ∙ ap (after_walk m o) walk

walked : (m : ModelContent) (o : Options) (steps : List ℕ) → executed_of m o.sets ≡ Ok steps → job_of m o ≡ after_frame m o steps (workpiece_frame m)
unfolding after_walk
walked m o steps walk = whole m o ∙ ap (after_walk m o) walk

pub at_frame : (m : ModelContent) (o : Options) (steps : List ℕ) (why : FrameFault) → executed_of m o.sets ≡ Ok steps → workpiece_frame m ≡ Err why → job_of m o ≡ Err (Frame why)
unfolding after_frame
at_frame m o steps why walk placed = walked m o steps walk ∙ ap (after_frame m o steps) placed

framed : (m : ModelContent) (o : Options) (steps : List ℕ) (frame : Transform) → executed_of m o.sets ≡ Ok steps → workpiece_frame m ≡ Ok frame → job_of m o ≡ after_raw m o steps frame (raw_box m o.raw frame)
unfolding after_frame
framed m o steps frame walk placed = walked m o steps walk ∙ ap (after_frame m o steps) placed

pub at_raw : (m : ModelContent) (o : Options) (steps : List ℕ) (frame : Transform) (why : JobFault) → executed_of m o.sets ≡ Ok steps → workpiece_frame m ≡ Ok frame → raw_box m o.raw frame ≡ Err why → job_of m o ≡ Err why
unfolding after_raw
at_raw m o steps frame why walk placed boxed = framed m o steps frame walk placed ∙ ap (after_raw m o steps frame) boxed

raw_is : (m : ModelContent) (o : Options) (steps : List ℕ) (frame : Transform) (raw : RawBox) → executed_of m o.sets ≡ Ok steps → workpiece_frame m ≡ Ok frame → raw_box m o.raw frame ≡ Ok raw → job_of m o ≡ after_height m o steps frame raw (not_below raw.high.z (security_height m steps raw.high.z))
unfolding after_raw
raw_is m o steps frame raw walk placed boxed = framed m o steps frame walk placed ∙ ap (after_raw m o steps frame) boxed

pub at_height : (m : ModelContent) (o : Options) (steps : List ℕ) (frame : Transform) (raw : RawBox) (why : JobFault) → executed_of m o.sets ≡ Ok steps → workpiece_frame m ≡ Ok frame → raw_box m o.raw frame ≡ Ok raw → not_below raw.high.z (security_height m steps raw.high.z) ≡ Err why → job_of m o ≡ Err why
unfolding after_height
at_height m o steps frame raw why walk placed boxed height = raw_is m o steps frame raw walk placed boxed ∙ ap (after_height m o steps frame raw) height

height_is : (m : ModelContent) (o : Options) (steps : List ℕ) (frame : Transform) (raw : RawBox) (sec : ℤ) → executed_of m o.sets ≡ Ok steps → workpiece_frame m ≡ Ok frame → raw_box m o.raw frame ≡ Ok raw → not_below raw.high.z (security_height m steps raw.high.z) ≡ Ok sec → job_of m o ≡ after_parts o raw sec (all_parts m frame raw.high.z steps)
unfolding after_height
height_is m o steps frame raw sec walk placed boxed height = raw_is m o steps frame raw walk placed boxed ∙ ap (after_height m o steps frame raw) height

pub at_parts : (m : ModelContent) (o : Options) (steps : List ℕ) (frame : Transform) (raw : RawBox) (sec : ℤ) (why : JobFault) → executed_of m o.sets ≡ Ok steps → workpiece_frame m ≡ Ok frame → raw_box m o.raw frame ≡ Ok raw → not_below raw.high.z (security_height m steps raw.high.z) ≡ Ok sec → all_parts m frame raw.high.z steps ≡ Err why → job_of m o ≡ Err why
unfolding after_parts
at_parts m o steps frame raw sec why walk placed boxed height parts = height_is m o steps frame raw sec walk placed boxed height ∙ ap (after_parts o raw sec) parts

pub at_end : (m : ModelContent) (o : Options) (steps : List ℕ) (frame : Transform) (raw : RawBox) (sec : ℤ) (parts : List StepParts) → executed_of m o.sets ≡ Ok steps → workpiece_frame m ≡ Ok frame → raw_box m o.raw frame ≡ Ok raw → not_below raw.high.z (security_height m steps raw.high.z) ≡ Ok sec → all_parts m frame raw.high.z steps ≡ Ok parts → job_of m o ≡ Ok (job_with o raw sec parts)
unfolding after_parts
at_end m o steps frame raw sec parts walk placed boxed height all = height_is m o steps frame raw sec walk placed boxed height ∙ ap (after_parts o raw sec) all

-- The laws.

at_unknown : (m : ModelContent) (given : Option RawBox) (frame : Transform) → given ≡ None → raw_block m ≡ None → raw_box m given frame ≡ Err RawUnknown
at_unknown m given frame none no_block = ap (λ (g : Option RawBox). raw_box m g frame) none ∙ ap (box_of_block m frame) no_block

at_block : (m : ModelContent) (given : Option RawBox) (frame : Transform) (block : ℕ) (why : FrameFault) → given ≡ None → raw_block m ≡ Some block → block_box m frame block ≡ Err why → raw_box m given frame ≡ Err (Frame why)
at_block m given frame block why none some box =
    ap (λ (g : Option RawBox). raw_box m g frame) none ∙ ap (box_of_block m frame) some ∙ ap (λ (r : Result RawBox FrameFault). r failing_as Frame) box

below_is : (raw_top z : ℤ) → z <ℤ raw_top → not_below raw_top z ≡ Err SecLow
below_is raw_top z low = ap (λ b. if b then Err SecLow else Ok z) (true_lt z raw_top low)
  where
    true_lt : (a b : ℤ) → a <ℤ b → int_lt a b ≡ true
    true_lt a b h = grind (arith, ints)

above_is : (raw_top z : ℤ) → raw_top ≤ℤ z → not_below raw_top z ≡ Ok z
above_is raw_top z high = ap (λ b. if b then Err SecLow else Ok z) (false_lt z raw_top high)
  where
    false_lt : (a b : ℤ) → b ≤ℤ a → int_lt a b ≡ false
    false_lt a b h = grind (arith, ints)

pub workpiece_second : WorkpieceSecond
workpiece_second m o steps why walk placed = at_frame m o steps why walk placed

pub raw_box_third : RawBoxThird
raw_box_third = record {
  unknown = λ m o steps frame up none no_block. at_raw m o steps frame RawUnknown up.walk up.workpiece (at_unknown m o.raw frame none no_block);
  block = λ m o steps frame block why up none some box. at_raw m o steps frame (Frame why) up.walk up.workpiece (at_block m o.raw frame block why none some box);
}

pub security_fourth : SecurityFourth
security_fourth m o steps frame raw boxed low = at_height m o steps frame raw SecLow boxed.set_up.walk boxed.set_up.workpiece boxed.raw_box (below_is raw.high.z (security_height m steps raw.high.z) low)

pub steps_last : StepsLast
steps_last m o steps frame raw boxed high before after ws parts why split all fails =
    let Fails : List ℕ → Type 0 = λ ns. all_parts m frame raw.high.z ns ≡ Err (of_step why) in
    at_parts m o steps frame raw (security_height m steps raw.high.z) (of_step why) boxed.set_up.walk boxed.set_up.workpiece boxed.raw_box (above_is raw.high.z (security_height m steps raw.high.z) high)
    (subst Fails (sym split) (fail_behind m frame raw.high.z before parts ws after why all fails))

pub else_the_job : ElseTheJob
else_the_job m o steps frame raw parts boxed high all =
    at_end m o steps frame raw (security_height m steps raw.high.z) parts boxed.set_up.walk boxed.set_up.workpiece boxed.raw_box (above_is raw.high.z (security_height m steps raw.high.z) high) all
