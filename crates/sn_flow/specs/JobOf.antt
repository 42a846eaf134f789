-- MEANING (this project's own): the job of a sound model under the words of a command, or the first refusal.
use Rattle.std.specs.Prelude.{ℕ, ℤ, int_lt, List, [], ◌∷◌, map, Option, Some, None, Result, Ok, Err, if◌then◌else◌}
use Rattle.sn_model.specs.ModelContent.{ModelContent}
use Rattle.sn_frame.specs.Frame.{Transform}
use Rattle.sn_outline.specs.Job.{Job}
use Rattle.sn_words.specs.declared.options.RawBox.{RawBox}
use Rattle.sn_words.specs.Options.{Options}
use Rattle.sn_walk.specs.Walk.{executed_of}
use Rattle.sn_feature.specs.declared.parts.StepParts.{StepParts}
use Rattle.sn_feature.specs.Refusal.{◌>>=◌}
use Rattle.sn_feature.specs.Step.{step_of}
use Rattle.sn_flow.specs.declared.fault.JobFault.{JobFault}
use Rattle.sn_flow.specs.declared.fault.JobFault.TheVariants.{Frame, RawUnknown, SecLow}
use Rattle.sn_flow.specs.Faults.{of_walk, of_step, ◌failing_as◌}
use Rattle.sn_flow.specs.Setup.{workpiece_frame, raw_block, block_box, security_height}
use Rattle.sn_flow.specs.Steps.{tools_of, step_among}

-- the box of the BLOCK, if there is one
abbrev pub box_of_block : ModelContent → Transform → Option ℕ → Result RawBox JobFault
box_of_block m frame None = Err RawUnknown
box_of_block m frame (Some block) = block_box m frame block failing_as Frame

-- the raw box that is given, or else that of the BLOCK
abbrev pub raw_box : ModelContent → Option RawBox → Transform → Result RawBox JobFault
raw_box m (Some raw) frame = Ok raw
raw_box m None frame = box_of_block m frame (raw_block m)

-- a height that is not below the raw top
abbrev pub not_below : ℤ → ℤ → Result ℤ JobFault
not_below raw_top z = if int_lt z raw_top then Err SecLow else Ok z

-- the parts of all executed steps, or the first step's refusal
abbrev pub all_parts : ModelContent → Transform → ℤ → List ℕ → Result (List StepParts) JobFault
all_parts m frame raw_top [] = Ok []
all_parts m frame raw_top (ws ∷ steps) = do
  part ← step_of m frame raw_top ws failing_as of_step
  parts ← all_parts m frame raw_top steps
  Ok (part ∷ parts)

abbrev pub job_with : Options → RawBox → ℤ → List StepParts → Job
job_with o raw sec parts =
    record { pitch = o.pitch; low = raw.low; high = raw.high; sec = sec; steps = map (step_among parts) parts; tools = tools_of parts }

-- The walk first; then the workpiece's frame, the raw box and the security height; then the steps in order.
abbrev pub job_of : ModelContent → Options → Result Job JobFault
job_of m o = do
  steps ← executed_of m o.sets failing_as of_walk
  frame ← workpiece_frame m failing_as Frame
  raw ← raw_box m o.raw frame
  sec ← not_below raw.high.z (security_height m steps raw.high.z)
  parts ← all_parts m frame raw.high.z steps
  Ok (job_with o raw sec parts)
