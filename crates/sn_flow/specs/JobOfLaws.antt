-- Laws of jobs and of the order of refusals (this project's own).
use Rattle.std.specs.Prelude.{◌≡◌, ◌≢◌, ℕ, ◌≤ℤ◌, ◌<ℤ◌, List, ◌∷◌, ◌++◌, map, Some, None, Ok, Err}
use Rattle.sn_model.specs.ModelContent.{ModelContent}
use Rattle.sn_frame.specs.declared.frame.FrameFault.{FrameFault}
use Rattle.sn_frame.specs.Frame.{Transform}
use Rattle.sn_outline.specs.Job.{Job}
use Rattle.sn_words.specs.declared.options.RawBox.{RawBox}
use Rattle.sn_words.specs.Options.{Options}
use Rattle.sn_walk.specs.declared.fault.WalkFault.{WalkFault}
use Rattle.sn_walk.specs.Walk.{executed_of}
use Rattle.sn_feature.specs.declared.fault.StepFault.{StepFault}
use Rattle.sn_feature.specs.declared.parts.StepParts.{StepParts}
use Rattle.sn_feature.specs.Step.{step_of}
use Rattle.sn_flow.specs.declared.fault.JobFault.TheVariants.{Frame, RawUnknown, SecLow, GridTooBig, TooSmall, Memory}
use Rattle.sn_flow.specs.Faults.{of_walk, of_step}
use Rattle.sn_flow.specs.Setup.{workpiece_frame, raw_block, block_box, security_height}
use Rattle.sn_flow.specs.JobOf.{raw_box, all_parts, job_with, job_of}

-- a fault of the walk goes before all others
abbrev pub WalkFirst : Type 0
WalkFirst = (m : ModelContent) (o : Options) (why : WalkFault) → executed_of m o.sets ≡ Err why → job_of m o ≡ Err (of_walk why)

-- then a skew placement of the workpiece, also where a raw box is given
abbrev pub WorkpieceSecond : Type 0
WorkpieceSecond =
    (m : ModelContent) (o : Options) (steps : List ℕ) (why : FrameFault) → executed_of m o.sets ≡ Ok steps → workpiece_frame m ≡ Err why
    → job_of m o ≡ Err (Frame why)

-- the walk and the workpiece's frame are without fault
pub record IsSetUp (m : ModelContent) (o : Options) (steps : List ℕ) (frame : Transform) : Type 0 where
  pub walk : executed_of m o.sets ≡ Ok steps
  pub workpiece : workpiece_frame m ≡ Ok frame

-- then the raw box: none is given and there is no BLOCK, or the BLOCK's placement is at fault
pub record RawBoxThird : Type 0 where
  pub unknown : (m : ModelContent) (o : Options) (steps : List ℕ) (frame : Transform) → IsSetUp m o steps frame → o.raw ≡ None → raw_block m ≡ None
      → job_of m o ≡ Err RawUnknown
  pub block : (m : ModelContent) (o : Options) (steps : List ℕ) (frame : Transform) (block : ℕ) (why : FrameFault) → IsSetUp m o steps frame
      → o.raw ≡ None → raw_block m ≡ Some block → block_box m frame block ≡ Err why → job_of m o ≡ Err (Frame why)

-- the raw box too is without fault
pub record IsBoxed (m : ModelContent) (o : Options) (steps : List ℕ) (frame : Transform) (raw : RawBox) : Type 0 where
  pub set_up : IsSetUp m o steps frame
  pub raw_box : raw_box m o.raw frame ≡ Ok raw

-- then a security height below the raw top, before any step is looked at
abbrev pub SecurityFourth : Type 0
SecurityFourth =
    (m : ModelContent) (o : Options) (steps : List ℕ) (frame : Transform) (raw : RawBox) → IsBoxed m o steps frame raw
    → security_height m steps raw.high.z <ℤ raw.high.z → job_of m o ≡ Err SecLow

-- then the first executed step that is refused, with its first refusal
abbrev pub StepsLast : Type 0
StepsLast =
    (m : ModelContent) (o : Options) (steps : List ℕ) (frame : Transform) (raw : RawBox) → IsBoxed m o steps frame raw
    → raw.high.z ≤ℤ security_height m steps raw.high.z
    → (before after : List ℕ) (ws : ℕ) (parts : List StepParts) (why : StepFault) → steps ≡ before ++ ws ∷ after
    → all_parts m frame raw.high.z before ≡ Ok parts → step_of m frame raw.high.z ws ≡ Err why → job_of m o ≡ Err (of_step why)

-- where nothing is refused there is the job, with a step for each executed workingstep in order
abbrev pub ElseTheJob : Type 0
ElseTheJob =
    (m : ModelContent) (o : Options) (steps : List ℕ) (frame : Transform) (raw : RawBox) (parts : List StepParts) → IsBoxed m o steps frame raw
    → raw.high.z ≤ℤ security_height m steps raw.high.z → all_parts m frame raw.high.z steps ≡ Ok parts
    → job_of m o ≡ Ok (job_with o raw (security_height m steps raw.high.z) parts)

-- the steps of a job are the executed workingsteps, in order
abbrev pub StepsAreExecuted : Type 0
StepsAreExecuted = (m : ModelContent) (o : Options) (job : Job) → job_of m o ≡ Ok job → executed_of m o.sets ≡ Ok (map (λ s. s.ws) job.steps)

-- a job, or why there is none, depends on the model, the pitch, the raw box and the values alone
abbrev pub SameOptionsSameJob : Type 0
SameOptionsSameJob =
    (m : ModelContent) (o p : Options) → o.pitch ≡ p.pitch → o.raw ≡ p.raw → o.sets ≡ p.sets → job_of m o ≡ job_of m p

-- a raw box that is given is that of the job
abbrev pub GivenBoxIsUsed : Type 0
GivenBoxIsUsed =
    (m : ModelContent) (o : Options) (raw : RawBox) (job : Job) → o.raw ≡ Some raw → job_of m o ≡ Ok job → (job.low ≡ raw.low) × (job.high ≡ raw.high)

-- want of memory and the faults of the grid are none of these
pub record NoOtherFault : Type 0 where
  pub memory : (m : ModelContent) (o : Options) → job_of m o ≢ Err Memory
  pub grid : (m : ModelContent) (o : Options) → job_of m o ≢ Err GridTooBig
  pub small : (m : ModelContent) (o : Options) (n : ℕ) → job_of m o ≢ Err (TooSmall n)
