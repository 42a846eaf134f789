-- The first causes of motions in rapid, and the bodies of tools.
use Rattle.std.proofs.Common.{ℕ, zero, suc, ◌≡◌, ◌≢◌, ◌≤◌, ◌<◌, Bool, true, false, Option, None, Some, IfSome, IsNone, List, [], ◌∷◌, ℤ, pos, negsuc, w32, to_z, of_z, refl, sym, ap, subst, ◌∙◌, arith}
use lib.Signed.{mag}
use Rattle.std.specs.Prelude.{Contains, ◌==◌}
use Rattle.std.specs.List.{find}
use Rattle.std.specs.Option.{option_map}
use Rattle.std.proofs.lemmas.Bool.{eqb-true, eq-eqb}
use Rattle.std.proofs.lemmas.Int.{to_z-of_z}
use Rattle.std.proofs.lemmas.List.Elements.{All-contains}
use Rattle.sn_geom.specs.Length.{IsLength}
use Rattle.sn_geom.specs.declared.limits.TheConstants.{REACH}
use Rattle.sn_geom.specs.declared.units.Body.{Body}
use Rattle.sn_geom.specs.declared.units.Cell.{Cell}
use Rattle.sn_geom.specs.declared.units.Pt3.{Pt3}
use Rattle.sn_geom.specs.Acts.{Act}
use Rattle.sn_geom.specs.Acts.Act.{Rapid}
use Rattle.sn_geom.specs.Sweep.{Touch}
use Rattle.sn_outline.specs.Job.{Job}
use Rattle.sn_outline.specs.JobRule.{IsJob, IsProper}
use Rattle.sn_outline.specs.declared.job.StepJob.{StepJob}
use Rattle.sn_raster.specs.Heights.{HeightMap, IsFirst, StandsFor, low_end}
use Rattle.sn_open.specs.Good.{body_of, IsJobTool, passes}
use Rattle.sn_open.specs.Verdict.{IsActCause, IsFirstCause, rank, IsMetInRapid}
use Rattle.sn_sweep.specs.Causes.{TellsFirst, IsTouchedLeft}
use Rattle.sn_open.specs.declared.verdict.Cause.{Cause}
use Rattle.sn_open.specs.declared.verdict.Cause.TheVariants.{LineFault, MachFault, WrongMark, LowEntry, Early, OtherTool, Crash}

-- Numbers of 32 bits.

-- a number that was passed on
pub passed_on : (z : ℤ) → mag z < 2147483648 → to_z w32 (of_z w32 z) ≡ z
passed_on (pos n) h = to_z-of_z w32 (pos n) (record { sfits = omega arith })
passed_on (negsuc n) h = to_z-of_z w32 (negsuc n) (record { sfits = omega arith })

pub length_passed_on : (z : ℤ) → IsLength z → to_z w32 (of_z w32 z) ≡ z
length_passed_on (pos n) h = passed_on (pos n) (omega (arith, h))
length_passed_on (negsuc n) h = passed_on (negsuc n) (omega (arith, h))

-- Tools.

by_test : {R : Type 0} (b : Bool) → (b ≡ true → R) → (b ≡ false → R) → R
by_test true same other = same refl
by_test false same other = other refl

-- the body of the first step that is found
pub body_found : (steps : List StepJob) (tool : ℕ) → option_map (λ step. step.body) (find (λ step. step.tool == tool) steps) ≡ body_of steps tool
body_found [] tool = refl
body_found (s ∷ steps) tool = by_test (s.tool == tool) (λ same. rw same refl) (λ other. rw other (body_found steps tool))

-- a step with a tool, and its body
record HasTool (steps : List StepJob) (tool : ℕ) (body : Body) : Type 0 where
  pub step : StepJob
  pub executed : Contains steps step
  pub own : step.tool ≡ tool
  pub body_is : step.body ≡ body

step_with : (steps : List StepJob) (tool : ℕ) (body : Body) → body_of steps tool ≡ Some body → HasTool steps tool body
step_with [] tool body e = absurd (cc)
step_with (s ∷ steps) tool body e =
    by_test (s.tool == tool)
    (λ same.
    let own = rw same at e in
    record { step = s; executed = (0, omega arith, refl); own = eqb-true s.tool tool same; body_is = let is : s.body ≡ body = cc in is })
    (λ other.
    let later = step_with steps tool body (rw other at e) in
    let (k, below, is) = later.executed in
    record { step = later.step; executed = (suc k, omega arith, is); own = later.own; body_is = later.body_is })

no_step_with : (steps : List StepJob) (tool : ℕ) → body_of steps tool ≡ None → (step : StepJob) → Contains steps step → step.tool ≢ tool
no_step_with [] tool e step (k, below, is) own = absurd (omega arith)
no_step_with (s ∷ steps) tool e step (zero, below, is) own =
    let same = eq-eqb s.tool tool (ap (λ (t : StepJob). t.tool) is ∙ own) in
    let some = rw same at e in
    absurd (cc)
no_step_with (s ∷ steps) tool e step (suc k, below, is) own =
    by_test (s.tool == tool) (λ same. let some = rw same at e in absurd (cc))
    (λ other. no_step_with steps tool (rw other at e) step (k, omega arith, is) own)

-- Motions in rapid.

-- the tool is within the bound of the search
pub tool_within : (job : Job) (tool : ℕ) (body : Body) → IsJob job → body_of job.steps tool ≡ Some body → body.d ≤ REACH
tool_within job tool body rule e =
    let has = step_with job.steps tool body e in
    let proper = All-contains IsProper job.steps has.step rule.proper has.executed in
    let most = proper.body.at_most in
    let same = ap (λ (b : Body). b.d) has.body_is in
    omega arith

pub tool_is_other : (job : Job) (tool : ℕ) → IsJob job → body_of job.steps tool ≡ None → (before : List Act) (from to : Pt3)
    → IsFirstCause (IsActCause job before (Rapid from to tool)) OtherTool
tool_is_other job tool rule e before from to = record {
  holds = λ own.
      let (k, step, below, is, same) = (rule.tools tool).1 (own.first, own.last) in
      no_step_with job.steps tool e step (k, below, is) same;
  first = λ other h. ranked other h;
}
  where
    ranked : (other : Cause) → IsActCause job before (Rapid from to tool) other → rank OtherTool ≤ rank other
    ranked (LineFault f) h = absurd h
    ranked (MachFault m) h = absurd h
    ranked WrongMark h = absurd h
    ranked LowEntry h = absurd h
    ranked Early h = absurd h
    ranked other h = omega arith

-- the tool is one of the job's
is_job_tool : (job : Job) (tool : ℕ) (body : Body) → IsJob job → body_of job.steps tool ≡ Some body → IsJobTool job tool
is_job_tool job tool body rule e =
    let has = step_with job.steps tool body e in
    let (k, below, is) = has.executed in
    let (first, last) = (rule.tools tool).0 (k, has.step, below, is, has.own) in
    record { first = first; last = last }

-- the cells that the body touches on the way are those that it meets in rapid
to_met : (job : Job) (tool : ℕ) (body : Body) (map : HeightMap) (before : List Act) (from to : Pt3) (c : Cell) → body_of job.steps tool ≡ Some body
    → StandsFor map job (passes job.steps before) → IsTouchedLeft map body.d from to c → IsMetInRapid job before from to tool c
to_met job tool body map before from to c e stands touched =
    let has = step_with job.steps tool body e in
    let of_body = subst (λ p. Touch body.d from to (low_end p c)) stands.grid.pitch touched.touched in
    record {
      step = has.step;
      executed = has.executed;
      own = has.own;
      met = record {
        left = (stands.cells c).0 touched.left;
        touched = subst (λ (b : Body). Touch b.d from to (low_end job.pitch c)) (sym has.body_is) of_body;
      };
    }

to_touched : (job : Job) (tool : ℕ) (body : Body) (map : HeightMap) (before : List Act) (from to : Pt3) (c : Cell) → IsJob job → body_of job.steps tool ≡ Some body
    → StandsFor map job (passes job.steps before) → IsMetInRapid job before from to tool c → IsTouchedLeft map body.d from to c
to_touched job tool body map before from to c rule e stands met =
    let has = step_with job.steps tool body e in
    let left = (stands.cells c).1 met.met.left in
    let same = rule.bodies met.step has.step met.executed has.executed (met.own ∙ sym has.own) ∙ has.body_is in
    let of_body = subst (λ (b : Body). Touch b.d from to (low_end job.pitch c)) same met.met.touched in
    record {
      left = left;
      from_height = left.above;
      touched = subst (λ p. Touch body.d from to (low_end p c)) (sym stands.grid.pitch) of_body;
    }

pub rapid_crashes : (job : Job) (tool : ℕ) (body : Body) (map : HeightMap) (from to : Pt3) (c : Cell) → IsJob job → body_of job.steps tool ≡ Some body
    → IsFirst (IsTouchedLeft map body.d from to) c
    → (before : List Act) → StandsFor map job (passes job.steps before) → IsFirstCause (IsActCause job before (Rapid from to tool)) (Crash c)
rapid_crashes job tool body map from to c rule e found before stands = record {
  holds = record {
    holds = to_met job tool body map before from to c e stands found.holds;
    first = λ other met. found.first other (to_touched job tool body map before from to other rule e stands met);
  };
  first = λ other h. ranked other h;
}
  where
    ranked : (other : Cause) → IsActCause job before (Rapid from to tool) other → 10 ≤ rank other
    ranked OtherTool h = absurd (h (is_job_tool job tool body rule e))
    ranked (Crash other) h = omega arith
    ranked other h = absurd h

pub rapid_is_clear : (job : Job) (tool : ℕ) (body : Body) (map : HeightMap) (from to : Pt3) → IsJob job → body_of job.steps tool ≡ Some body
    → ((c : Cell) → ¬ IsTouchedLeft map body.d from to c)
    → (before : List Act) → StandsFor map job (passes job.steps before) → (cause : Cause) → ¬ IsActCause job before (Rapid from to tool) cause
rapid_is_clear job tool body map from to rule e none before stands OtherTool h = h (is_job_tool job tool body rule e)
rapid_is_clear job tool body map from to rule e none before stands (Crash c) h =
    none c (to_touched job tool body map before from to c rule e stands h.holds)
rapid_is_clear job tool body map from to rule e none before stands cause h = absurd h

-- what the search for a cell tells
pub rapid_told : (job : Job) (tool : ℕ) (body : Body) (map : HeightMap) (from to : Pt3) (found : Option Cell) → IsJob job → body_of job.steps tool ≡ Some body
    → IfSome found (IsFirst (IsTouchedLeft map body.d from to)) → (IsNone found → (c : Cell) → ¬ IsTouchedLeft map body.d from to c)
    → (before : List Act) → StandsFor map job (passes job.steps before) → TellsFirst (IsActCause job before (Rapid from to tool)) (option_map Crash found)
rapid_told job tool body map from to None rule e some none before stands = rapid_is_clear job tool body map from to rule e (none refl) before stands
rapid_told job tool body map from to (Some c) rule e some none before stands = rapid_crashes job tool body map from to c rule e some before stands
