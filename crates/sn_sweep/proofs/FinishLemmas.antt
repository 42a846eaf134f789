-- The verdict on a program that was read to its end.
use Rattle.std.proofs.Common.{ℕ, true, ◌≡◌, ◌≤◌, None, List, [], length, sym, ap, subst, ◌∙◌, arith}
use Rattle.sn_geom.specs.declared.units.Cell.{Cell}
use Rattle.sn_geom.specs.Acts.{Act}
use Rattle.sn_geom.specs.Block.{lines_of}
use Rattle.sn_geom.specs.Meaning.{AreBlocks, Means}
use Rattle.sn_outline.specs.Job.{Job}
use Rattle.sn_outline.specs.declared.job.StepJob.{StepJob}
use Rattle.sn_raster.specs.GridLaws.{RawNodesAreTheJobs}
use Rattle.sn_outline.specs.JobRule.{IsJob}
use Rattle.sn_raster.specs.Heights.{HeightMap, StandsFor}
use Rattle.sn_open.specs.Good.{IsLeft, passes}
use Rattle.sn_open.specs.Region.{IsRequiredCell}
use Rattle.sn_open.specs.Verdict.{MeansRight, EndsRight, IsFirstLeft, IsVerdict}
use Rattle.sn_open.specs.declared.verdict.Verdict.{Verdict}
use Rattle.sn_open.specs.declared.verdict.Verdict.TheVariants.{Yes, Line, NoEnd, Missing, Uncovered}
use Rattle.sn_sweep.specs.Checking.{Checking, HasFault, HasNoFault, HasRead}
use Rattle.sn_sweep.proofs.GoodLemmas.{raw_ends, good_acts}

-- Texts with the same lines have the same verdicts.

means_again : (text bytes : List ℕ) (acts : List Act) → lines_of text ≡ lines_of bytes → Means text acts → Means bytes acts
means_again text bytes acts same means = record {
  blocks = means.blocks;
  says = subst (λ (lines : List (List ℕ)). AreBlocks lines means.blocks) same means.says;
  runs = means.runs;
}

means_right_again : (job : Job) (text bytes : List ℕ) (acts : List Act) → lines_of text ≡ lines_of bytes → MeansRight job text acts → MeansRight job bytes acts
means_right_again job text bytes acts same right = record { means = means_again text bytes acts same right.means; right = right.right }

ends_right_again : (job : Job) (text bytes : List ℕ) (acts : List Act) → lines_of text ≡ lines_of bytes → EndsRight job text acts → EndsRight job bytes acts
ends_right_again job text bytes acts same ends = record { means = means_right_again job text bytes acts same ends.means; ends = ends.ends }

pub verdict_again : (job : Job) (text bytes : List ℕ) (verdict : Verdict) → lines_of text ≡ lines_of bytes → IsVerdict job text verdict → IsVerdict job bytes verdict
verdict_again job text bytes Yes same (acts, means, good) = (acts, means_again text bytes acts same means, good)
verdict_again job text bytes (Line n cause) same first =
    let comes = first.comes in
    record {
      line = first.line;
      state = first.state;
      before = first.before;
      comes = record {
        front = comes.front;
        back = comes.back;
        lines = sym same ∙ comes.lines;
        counted = comes.counted;
        blocks = comes.blocks;
        says = comes.says;
        runs = comes.runs;
        reaches = comes.reaches;
        right = comes.right;
      };
      first = first.first;
    }
verdict_again job text bytes NoEnd same (acts, right, endless) = (acts, means_right_again job text bytes acts same right, endless)
verdict_again job text bytes (Missing ws) same (acts, ends, next) = (acts, ends_right_again job text bytes acts same ends, next)
verdict_again job text bytes (Uncovered feature c) same (acts, all, first) =
    (acts, record { ends = ends_right_again job text bytes acts same all.ends; marked = all.marked }, first)

-- The stages.

no_fault : (job : Job) (text : List ℕ) (kept : Checking) → HasRead job text kept → kept.fault ≡ None → HasNoFault job text kept
no_fault job text kept read is = subst (λ f. HasFault job text kept f) is read.fault

means_right : (job : Job) (text : List ℕ) (kept : Checking) (clean : HasNoFault job text kept) → MeansRight job text clean.acts
means_right job text kept clean = record {
  means = record { blocks = clean.means.blocks; says = clean.means.says; runs = clean.means.runs };
  right = clean.right;
}

-- What is known where no line is at fault and the program has ended.
pub record HasEnded (job : Job) (text : List ℕ) (kept : Checking) : Type 0 where
  pub read : HasRead job text kept
  pub none : kept.fault ≡ None
  pub ended : kept.ended ≡ true

ends_right : (job : Job) (text : List ℕ) (kept : Checking) (e : HasEnded job text kept) → EndsRight job text (no_fault job text kept e.read e.none).acts
ends_right job text kept e =
    let clean = no_fault job text kept e.read e.none in
    record { means = means_right job text kept clean; ends = clean.ended.0 e.ended }

-- What is known where all steps are marked too.
pub record HasMarkedAll (job : Job) (text : List ℕ) (kept : Checking) : Type 0 where
  pub ended : HasEnded job text kept
  pub marked : kept.marks ≡ length job.steps

-- where no step stands at the place after the marked ones
pub marked_all : (job : Job) (text : List ℕ) (kept seen : Checking) (steps : List StepJob) → seen ≡ kept → HasRead job text kept → seen.fault ≡ None → seen.ended ≡ true
    → steps ≡ seen.job.steps → length steps ≤ seen.marks → seen.marks ≤ length seen.job.steps → HasMarkedAll job text kept
marked_all job text kept seen steps same read none ended steps_are past within =
    let a = ap length steps_are in
    let b = ap (λ (k : Checking). length k.job.steps) same in
    let c = ap (λ (j : Job). length j.steps) read.job_is in
    let d = ap (λ (k : Checking). k.marks) same in
    record {
      ended = record { read = read; none = sym (ap (λ (k : Checking). k.fault) same) ∙ none; ended = sym (ap (λ (k : Checking). k.ended) same) ∙ ended };
      marked = omega arith;
    }

pub uncovered : (job : Job) (text : List ℕ) (kept : Checking) (feature : ℕ) (c : Cell) → HasMarkedAll job text kept
    → ((acts : List Act) → StandsFor kept.heights kept.job (passes kept.job.steps acts) → IsFirstLeft kept.job acts feature c)
    → IsVerdict job text (Uncovered feature c)
uncovered job text kept feature c m first =
    let e = m.ended in
    let clean = no_fault job text kept e.read e.none in
    let own = subst (λ (j : Job). (acts : List Act) → StandsFor kept.heights j (passes j.steps acts) → IsFirstLeft j acts feature c) e.read.job_is first in
    (clean.acts, record { ends = ends_right job text kept e; marked = sym clean.marked ∙ m.marked }, own clean.acts clean.material)

-- nothing that the job asks to be cut is left of what the heights stand for
abbrev pub IsAllCut : HeightMap → Job → Type 0
IsAllCut map job = (acts : List Act) → StandsFor map job (passes job.steps acts) → (feature : ℕ) (c : Cell) → IsRequiredCell job feature c → ¬ IsLeft job acts c

pub covered : RawNodesAreTheJobs → (job : Job) (text : List ℕ) (kept : Checking) → IsJob kept.job → HasMarkedAll job text kept → IsAllCut kept.heights kept.job → IsVerdict job text Yes
covered law job text kept rule m nothing =
    let e = m.ended in
    let clean = no_fault job text kept e.read e.none in
    let g = kept.grid in
    let own = subst (IsAllCut kept.heights) e.read.job_is nothing in
    let pitch = (subst IsJob e.read.job_is rule).pitch.at_least in (
      clean.acts,
      (means_right job text kept clean).means,
      good_acts job g.ri0 g.rj0 job.low.z clean.acts (raw_ends law job g (omega arith) e.read.grid) clean.right (clean.ended.0 e.ended) (sym clean.marked ∙ m.marked) (own clean.acts clean.material),
    )

-- a job without steps asks for nothing to be cut
pub without_steps : (map : HeightMap) (job : Job) → job.steps ≡ [] → IsAllCut map job
without_steps map job none acts stands feature c required left =
    let (k, below, at) = required.least.of_feature.executed in
    let count = ap length none in
    omega arith
