-- MEANING: what the bytes of a part give, one after the other, and what is refused of them (this project's own).
use Rattle.std.specs.Prelude.{◌≡◌, ◌⊎◌, ℕ, ◌≤◌, ◌<◌, List, length, Ok, Err}
use Rattle.sn_p21.specs.Content.{Content}
use Rattle.sn_p21.specs.FirstFault.{IsFirstFault}
use Rattle.sn_p21.specs.PartText.{IsPartText}
use Rattle.sn_model.specs.Built.{IsModelOf, IsModelFault}
use Rattle.sn_model.specs.ModelContent.{ModelContent}
use Rattle.sn_refs.specs.Sound.{IsSound, IsRefFault}
use Rattle.sn_outline.specs.Job.{Job}
use Rattle.sn_outline.specs.declared.job.StepJob.{StepJob}
use Rattle.sn_link.specs.declared.moves.Move.{Move}
use Rattle.sn_link.specs.Plan.{IsPlan}
use Rattle.sn_program.specs.Text.{program_text}
use Rattle.sn_raster.specs.Grid.{FitsGrid}
use Rattle.sn_open.specs.Reach.{IsExecuted, HasRequired, IsFirstSmall, IsReachable, IsFirstUnreached}
use Rattle.sn_words.specs.Options.{Options}
use Rattle.sn_flow.specs.declared.fault.JobFault.{JobFault}
use Rattle.sn_flow.specs.declared.fault.JobFault.TheVariants.{GridTooBig, TooSmall}
use Rattle.sn_flow.specs.JobOf.{job_of}
use Rattle.sn_run.specs.declared.reading.TheConstants.{LONGEST, LONGEST_PROGRAM}
use Rattle.sn_message.specs.declared.refusal.Refusal.{Refusal}
use Rattle.sn_message.specs.declared.refusal.Refusal.TheVariants as refused
use Rattle.sn_message.specs.FaultText.{p21_fault}

-- the bytes are not too long, and are the text of this file
pub record IsFileOf (bytes : List ℕ) (file : Content) : Type 0 where
  pub short : length bytes ≤ LONGEST
  pub text : IsPartText bytes file

-- the instances of that file have this model
pub record HaveModel (bytes : List ℕ) (m : ModelContent) : Type 0 where
  pub file : Content
  pub file_is : IsFileOf bytes file
  pub built : IsModelOf file.instances m

-- and the model is sound
pub record HaveSoundModel (bytes : List ℕ) (m : ModelContent) : Type 0 where
  pub model : HaveModel bytes m
  pub sound : IsSound m

-- a sound model has this job with the options, its grid is not too big, and the grid sees each feature
pub record IsPreparedJob (m : ModelContent) (o : Options) (job : Job) : Type 0 where
  pub job_is : job_of m o ≡ Ok job
  pub fits : FitsGrid job
  pub seen : (feature : ℕ) → IsExecuted job feature → HasRequired job feature

-- why a sound model with the options gives no such job: the grid is looked at where nothing else is at fault
abbrev pub IsRefusedJob : ModelContent → Options → JobFault → Type 0
IsRefusedJob m o GridTooBig = (job : Job) × (job_of m o ≡ Ok job) × ¬ FitsGrid job
IsRefusedJob m o (TooSmall feature) = (job : Job) × (job_of m o ≡ Ok job) × FitsGrid job × IsFirstSmall job feature
IsRefusedJob m o fault = job_of m o ≡ Err fault

-- the bytes with the options give this job
pub record HaveJob (bytes : List ℕ) (o : Options) (m : ModelContent) (job : Job) : Type 0 where
  pub model : HaveSoundModel bytes m
  pub prepared : IsPreparedJob m o job

-- with these options the bytes of the part are refused: the first of these that applies
abbrev pub IsRefusedPart : List ℕ → Options → Refusal → Type 0
IsRefusedPart bytes o refused.TooLong = LONGEST < length bytes
IsRefusedPart bytes o (refused.Text fault) = (length bytes ≤ LONGEST) × IsFirstFault bytes (p21_fault fault)
IsRefusedPart bytes o (refused.Model fault) = (file : Content) × IsFileOf bytes file × IsModelFault file.instances fault
IsRefusedPart bytes o (refused.Reference fault) = (m : ModelContent) × HaveModel bytes m × IsRefFault m fault
IsRefusedPart bytes o (refused.Job fault) = (m : ModelContent) × HaveSoundModel bytes m × IsRefusedJob m o fault
IsRefusedPart bytes o (refused.Word place) = ⊥
IsRefusedPart bytes o refused.NotRead = ⊥
IsRefusedPart bytes o refused.NoMemory = ⊥
IsRefusedPart bytes o (refused.Uncovered feature cell) = ⊥

-- the bytes are those of a sound part with the options, and this is its job
abbrev pub IsSoundPart : List ℕ → Options → Job → Type 0
IsSoundPart bytes o job = (m : ModelContent) × HaveJob bytes o m job

-- the program of the job's plan is not too long
abbrev pub HasShortProgram : Job → Type 0
HasShortProgram job = (plan : List (StepJob × List Move)) → IsPlan job plan → length (program_text job plan) ≤ LONGEST

-- it is too long
abbrev pub HasLongProgram : Job → Type 0
HasLongProgram job = (plan : List (StepJob × List Move)) × IsPlan job plan × (LONGEST < length (program_text job plan))

-- The bytes are those of a part that is compiled with the options, and this is its job: a sound part that its steps reach, and
-- whose program is not too long.
pub record IsCompiledPart (bytes : List ℕ) (o : Options) (job : Job) : Type 0 where
  pub sound : IsSoundPart bytes o job
  pub reachable : IsReachable job
  pub short : HasShortProgram job

-- with these options no program is written for the bytes of the part: they are refused, a cell of their job is not reached,
-- or the program is too long
abbrev pub IsUncompiledPart : List ℕ → Options → Refusal → Type 0
IsUncompiledPart bytes o (refused.Uncovered feature cell) = (job : Job) × IsSoundPart bytes o job × IsFirstUnreached job feature cell
IsUncompiledPart bytes o refused.TooLong = IsRefusedPart bytes o refused.TooLong ⊎ ((job : Job) × IsSoundPart bytes o job × IsReachable job × HasLongProgram job)
IsUncompiledPart bytes o refusal = IsRefusedPart bytes o refusal

-- with these options no verdict is given on the program: the bytes of the part are refused, or the program is too long
abbrev pub IsUnjudged : List ℕ → List ℕ → Options → Refusal → Type 0
IsUnjudged bytes program o refused.TooLong = IsRefusedPart bytes o refused.TooLong ⊎ ((job : Job) × IsSoundPart bytes o job × (LONGEST_PROGRAM < length program))
IsUnjudged bytes program o refusal = IsRefusedPart bytes o refusal

-- a sound part is not refused, and a part that is compiled is not left uncompiled
abbrev pub SoundOrRefused : Type 0
SoundOrRefused =
    (bytes : List ℕ) (o : Options) (job : Job) (refusal : Refusal)
    → (IsSoundPart bytes o job → ¬ IsRefusedPart bytes o refusal) × (IsCompiledPart bytes o job → ¬ IsUncompiledPart bytes o refusal)
