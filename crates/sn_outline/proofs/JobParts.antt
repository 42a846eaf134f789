-- A job and the parts of its rule that are tested.
use Rattle.std.proofs.Common.{ℕ, ◌≤◌, ℤ, ◌≤ℤ◌, unsigned_abs, List, length}
use Rattle.sn_geom.specs.declared.limits.TheConstants.{REACH}
use Rattle.sn_geom.specs.declared.units.Pt3.{Pt3}
use Rattle.sn_outline.specs.declared.job.StepJob.{StepJob}
use Rattle.sn_outline.specs.Job.{Job}
use Rattle.sn_outline.specs.JobRule.{IsPitch, AreCorners, KeepRule, IsJob}

module _ (pitch : ℕ) (low high : Pt3) (sec : ℤ) (steps : List StepJob) (tools : List ℕ) where
  abbrev pub job_of : Job
  job_of = record { pitch = pitch; low = low; high = high; sec = sec; steps = steps; tools = tools }

  pub job_from : IsPitch pitch → AreCorners low high → unsigned_abs sec ≤ REACH → high.z ≤ℤ sec → KeepRule steps (length tools) → IsJob job_of
  job_from is_pitch corners size above keep = record {
    pitch = is_pitch;
    raw_box = corners;
    security = record { length = size; above = above };
    few_steps = keep.few;
    tools = keep.numbered;
    bodies = keep.bodies;
    features = keep.features;
    proper = keep.proper;
  }

  pub keep_from : IsJob job_of → KeepRule steps (length tools)
  keep_from job = record { few = job.few_steps; numbered = job.tools; bodies = job.bodies; features = job.features; proper = job.proper }
