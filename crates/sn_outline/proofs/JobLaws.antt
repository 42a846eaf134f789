-- What follows from the rule of jobs.
use Rattle.std.proofs.Common.{◌≡◌, ℕ, pos, ◌-ℤ◌, ◌≤ℤ◌, List, [], ◌∷◌, length, get_or, refl, subst, arith}
use Rattle.std.proofs.lemmas.List.Elements.{All-contains, All-nil, Contains-get_or}
use Rattle.std.specs.List.{Any, Contains}
use Rattle.sn_geom.proofs.Ring.{sums}
use Rattle.sn_outline.specs.declared.job.StepJob.{StepJob}
use Rattle.sn_outline.specs.declared.job.Bottom.{Bottom}
use Rattle.sn_outline.specs.declared.job.Bottom.TheVariants.{Flat, Conical, Through}
use Rattle.sn_outline.specs.Job.{tip_floor}
use Rattle.sn_outline.specs.JobRule.{AreNumbered, IsProper}
use Rattle.sn_outline.specs.JobRuleLaws.{JobWithoutSteps, SameStepsMakeAJob, ToolsAreListed, TipNearTheFloor}
use Rattle.sn_outline.proofs.Paths.{any_none}

-- ---- no steps
no_tools : (tools : List ℕ) → AreNumbered [] (length tools) → tools ≡ []
no_tools [] numbered = refl
no_tools (t ∷ tools) numbered = absurd (any_none {X = StepJob} (λ s. s.tool ≡ 1) ((numbered 1).1 (omega arith, omega arith)))

none_numbered : AreNumbered [] 0
none_numbered k = (λ some. absurd (any_none {X = StepJob} (λ s. s.tool ≡ k) some), λ (from, to). absurd (omega arith))

in_none : (s : StepJob) → ¬ Contains [] s
in_none s (k, within, e) = omega arith

pub job_without_steps : JobWithoutSteps
job_without_steps job none = (
  λ is_job. (is_job.pitch, is_job.raw_box, is_job.security, no_tools job.tools (subst (λ steps. AreNumbered steps (length job.tools)) none is_job.tools)),
  λ (pitch, raw_box, security, no_tool). record {
    pitch = pitch;
    raw_box = raw_box;
    security = security;
    few_steps = rw none (omega arith);
    tools = rw (none, no_tool) none_numbered;
    bodies = λ s t in_s in_t same. absurd (in_none s (rw none at in_s));
    features = λ s t in_s in_t same. absurd (in_none s (rw none at in_s));
    proper = rw none (All-nil IsProper);
  },
)

-- ---- the same steps
some_step : (P : StepJob → Type 0) (steps others : List StepJob) → ((s : StepJob) → Contains steps s → Contains others s) → Any P steps → Any P others
some_step P steps others all (k, s, within, e, holds) = let (l, there, is) = all s (k, within, e) in (l, s, there, is, holds)

pub same_steps_make_a_job : SameStepsMakeAJob
same_steps_make_a_job job steps is_job same = (
  λ again. again.few_steps,
  λ few. record {
    pitch = is_job.pitch;
    raw_box = is_job.raw_box;
    security = is_job.security;
    few_steps = few;
    tools = λ k. (
      λ some. (is_job.tools k).0 (some_step (λ s. s.tool ≡ k) steps job.steps (λ s. (same s).0) some),
      λ range. some_step (λ s. s.tool ≡ k) job.steps steps (λ s. (same s).1) ((is_job.tools k).1 range),
    );
    bodies = λ s t in_s in_t. is_job.bodies s t ((same s).0 in_s) ((same t).0 in_t);
    features = λ s t in_s in_t. is_job.features s t ((same s).0 in_s) ((same t).0 in_t);
    proper = λ k d within. All-contains IsProper job.steps (get_or steps k d) is_job.proper ((same (get_or steps k d)).0 (Contains-get_or steps k d within));
  },
)

-- ---- tools and tips
pub tools_are_listed : ToolsAreListed
tools_are_listed job s is_job (k, within, e) = (is_job.tools s.tool).0 (k, s, within, e, refl)

tip_near : (s : StepJob) (bottom : Bottom) → s.bottom ≡ bottom → (tip_floor (record s { under = 0 }) ≤ℤ s.floor) × ((s.floor -ℤ pos s.body.e) ≤ℤ tip_floor s)
tip_near s Flat e = rw e (omega (arith, sums), omega (arith, sums))
tip_near s Conical e = rw e (omega (arith, sums), omega (arith, sums))
tip_near s Through e = rw e (omega (arith, sums), omega (arith, sums))

pub tip_near_the_floor : TipNearTheFloor
tip_near_the_floor s = tip_near s s.bottom refl
