-- What a job depends on.
use Rattle.std.proofs.Common.{◌≡◌, ◌∙◌, ap, refl, sym, ℕ, List, [], Option}
use Rattle.std.specs.Prelude.{Result}
use Rattle.sn_model.specs.ModelContent.{ModelContent}
use Rattle.sn_outline.specs.Job.{Job}
use Rattle.sn_words.specs.declared.options.Assign.{Assign}
use Rattle.sn_words.specs.declared.options.Command.TheVariants.{Compile}
use Rattle.sn_words.specs.declared.options.RawBox.{RawBox}
use Rattle.sn_words.specs.Options.{Options}
use Rattle.sn_flow.specs.declared.fault.JobFault.{JobFault}
use Rattle.sn_flow.specs.JobOf.{job_of}
use Rattle.sn_flow.specs.JobOfLaws.{SameOptionsSameJob}

-- the job where nothing else is asked
job_from : ModelContent → ℕ → Option RawBox → List Assign → Result Job JobFault
job_from m pitch raw sets = job_of m (record { command = Compile; files = []; seed = 0; pitch = pitch; raw = raw; sets = sets })

is_from : (m : ModelContent) (o : Options) → job_of m o ≡ job_from m o.pitch o.raw o.sets
unfolding job_from
is_from m o = refl

pub same_options_same_job : SameOptionsSameJob
same_options_same_job m o p pitch raw sets =
    is_from m o
    ∙ (ap (λ (x : ℕ). job_from m x o.raw o.sets) pitch
    ∙ (ap (λ (x : Option RawBox). job_from m p.pitch x o.sets) raw
    ∙ (ap (λ (x : List Assign). job_from m p.pitch p.raw x) sets ∙ sym (is_from m p))))
