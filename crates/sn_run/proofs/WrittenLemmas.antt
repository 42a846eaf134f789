-- The program that is written for a part is judged yes for it.
use Rattle.std.proofs.Common.{ℕ, ◌≡◌, ◌+◌, ◌≤◌, List, [], length, Ok, IsTrue, refl, sym, ap, subst, ◌∙◌, arith}
use Rattle.sn_flow.specs.JobOf.{job_of}
use Rattle.sn_io.specs.Files.{FilesState}
use Rattle.sn_link.specs.Plan.{IsPlan}
use Rattle.sn_link.specs.declared.moves.Move.{Move}
use Rattle.sn_model.specs.ModelContent.{ModelContent}
use Rattle.sn_open.specs.declared.verdict.Verdict.TheVariants.{Yes}
use Rattle.sn_outline.specs.Job.{Job}
use Rattle.sn_outline.specs.declared.job.StepJob.{StepJob}
use Rattle.sn_program.specs.Text.{program_text}
use Rattle.sn_words.specs.CommandLaws.{SaysOneThing}
use Rattle.sn_words.specs.Options.{Options}
use Rattle.sn_run.specs.declared.reading.TheConstants.{LONGEST, LONGEST_PROGRAM}
use Rattle.sn_run.specs.Answer.{Judged}
use Rattle.sn_run.specs.Command.{HaveOneSetting, IsOfFile, IsVerify}
use Rattle.sn_run.specs.Outcome.{IsCaseOf, IsPartOf, IsPartWith, IsPrepared}
use Rattle.sn_run.specs.Outcome.IsOutcome.{answered}
use Rattle.sn_run.specs.Outcome.IsPartOf.{of_file, of_seed}
use Rattle.sn_run.specs.Outcome.IsPartWith.{of_file_read, of_seed_made}
use Rattle.sn_run.specs.OutcomeLaws.{OneSettingOneJob, WrittenIsApproved}
use Rattle.sn_run.specs.Part.{IsCompiledPart, IsSoundPart}
use Rattle.sn_run.proofs.CommandLemmas.{one_request}
use Rattle.sn_run.proofs.LoadLemmas.{as_told}
use Rattle.sn_run.proofs.OutcomeLemmas.{one_part}

-- One setting, one job.

-- the job of a model is looked for with the pitch, the raw box and the values alone
same_job : (m : ModelContent) (o p : Options) → HaveOneSetting o p → job_of m p ≡ job_of m o
same_job m o p same =
    λ k. job_of m (record { command = o.command; files = o.files; seed = o.seed; pitch = same.pitch k; raw = same.raw k; sets = same.sets k })

pub one_setting : OneSettingOneJob
one_setting bytes o p job same (m, have) = (
  m,
  record {
    model = have.model;
    prepared = record { job_is = same_job m o p same ∙ have.prepared.job_is; fits = have.prepared.fits; seen = have.prepared.seen };
  },
)

-- What was written.

-- the part that was compiled is that of the file
compiled_of : SaysOneThing → (words : List (List ℕ)) (files : FilesState) (part : List ℕ) (o q : Options) (job : Job) → IsOfFile words part o → IsTrue files.tells
    → IsPartWith words files q (λ bytes. IsCompiledPart bytes q job) → IsCompiledPart (files.given part 0) o job
compiled_of law words files part o q job asked told (of_file_read name command read) =
    let same = one_part law words files.given (files.given part 0) (files.given name 0) o q (of_file part asked refl) (of_file name command refl) in
    subst (λ r. IsCompiledPart (files.given part 0) r job) same.1
    (subst (λ bytes. IsCompiledPart bytes q job) same.0 (as_told files name (λ bytes. IsCompiledPart bytes q job) told read))
compiled_of law words files part o q job asked told (of_seed_made command compiled) =
    let same = one_part law words files.given (files.given part 0) _ o q (of_file part asked refl) (of_seed command refl) in
    subst (λ r. IsCompiledPart (files.given part 0) r job) same.1 (subst (λ bytes. IsCompiledPart bytes q job) same.0 compiled)

short_enough : (n m : ℕ) → m ≤ LONGEST → n ≡ m → n ≤ LONGEST_PROGRAM
short_enough n m short same = omega (arith, short, same)

pub written_is_approved : SaysOneThing → WrittenIsApproved
written_is_approved law words others files later part other name o p job plan asked verify same told prepared bytes text =
    let compiled = compiled_of law words files part o prepared.loaded.options job asked told prepared.loaded.part in
    answered (Judged job (program_text job plan) Yes) (
      record {
        part_name = other;
        name = name;
        options = p;
        command = verify;
        part = one_setting (later.given other 0) o p job same (subst (λ b. IsSoundPart b o job) (sym bytes) compiled.sound);
        program_is = sym text;
        short = short_enough _ (length (program_text job plan)) (compiled.short plan prepared.planned) refl;
      },
      prepared.good,
    )
    refl refl refl
