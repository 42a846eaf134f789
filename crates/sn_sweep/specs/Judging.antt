-- PRIVATE: how a line and its acts are judged.
use Rattle.std.specs.Prelude.{◌≡◌, ◌↔◌, ℕ, Option, None, Some, IsTrue, List, ◌++◌, length, Contains}
use Rattle.sn_geom.specs.declared.machine.Motion.{Motion}
use Rattle.sn_geom.specs.declared.machine.Motion.TheVariants as motion
use Rattle.sn_geom.specs.Acts.{Act, act_list}
use Rattle.sn_geom.specs.Acts.Act.{End}
use Rattle.sn_geom.specs.Block.{Block}
use Rattle.sn_geom.specs.LineText.{LineText}
use Rattle.sn_geom.specs.Machine.{State, fault_of, acts_of, state_after}
use Rattle.sn_geom.specs.Sweep.{IsHorizontalOrVertical}
use Rattle.sn_outline.specs.Job.{Job}
use Rattle.sn_outline.specs.declared.job.StepJob.{StepJob}
use Rattle.sn_raster.specs.Heights.{StandsFor}
use Rattle.sn_open.specs.Good.{marks, IsCurrent, passes}
use Rattle.sn_open.specs.Planes.{AreAllowed}
use Rattle.sn_open.specs.Verdict.{IsCauseAmong, IsLineCause, IsFirstCause}
use Rattle.sn_open.specs.declared.verdict.Cause.{Cause}
use Rattle.sn_open.specs.declared.verdict.Verdict.{Verdict}
use Rattle.sn_open.specs.declared.verdict.Verdict.TheVariants.{Line}
use Rattle.sn_sweep.specs.Checking.{Checking}

-- What is kept is what the acts lead to.
pub record KeepsActs (job : Job) (before : List Act) (kept : Checking) : Type 0 where
  pub material : StandsFor kept.heights job (passes job.steps before)
  pub marked : kept.marks ≡ length (marks before)
  pub ended : IsTrue kept.ended ↔ Contains before End
  pub allowed : (step : StepJob) → IsCurrent job before step → AreAllowed kept.allowed job step

-- The parts that no line of a program changes, and those that change once it is judged.
pub record KeepsProgram (old new : Checking) : Type 0 where
  pub job : new.job ≡ old.job
  pub grid : new.grid ≡ old.grid
  pub lines : new.lines ≡ old.lines
  pub fault : new.fault ≡ old.fault
  pub rest : new.rest ≡ old.rest

-- The same, and the machine: acts do not change it.
pub record KeepsMachine (old new : Checking) : Type 0 where
  pub program : KeepsProgram old new
  pub machine : new.machine ≡ old.machine

-- a motion between known places is not slanted
abbrev pub IsStraight : Motion → Type 0
IsStraight (motion.Enter z) = Unit {0}
IsStraight (motion.Locate p) = Unit {0}
IsStraight (motion.Rapid from to tool) = IsHorizontalOrVertical from to
IsStraight (motion.Feed from to feed speed tool) = IsHorizontalOrVertical from to

abbrev pub AreStraight : Option Motion → Type 0
AreStraight None = Unit {0}
AreStraight (Some m) = IsStraight m

-- none of the acts has a cause, and what is kept then is what they lead to
pub record DoesActs (job : Job) (before acts : List Act) (new : Checking) : Type 0 where
  pub right : (cause : Cause) → ¬ IsCauseAmong job before acts cause
  pub keeps : KeepsActs job (before ++ acts) new

-- the answer is the first cause of the acts; where there is none they are done
abbrev pub JudgesActs : Job → List Act → List Act → Checking → Option Cause → Type 0
JudgesActs job before acts new None = DoesActs job before acts new
JudgesActs job before acts new (Some cause) = IsFirstCause (IsCauseAmong job before acts) cause

-- the line is read as a block that the machine accepts, and its acts are done
pub record DoesLine (job : Job) (state : State) (before : List Act) (line : List ℕ) (new : Checking) : Type 0 where
  pub block : Block
  pub says : LineText line block
  pub accepted : fault_of state block ≡ None
  pub reaches : new.machine ≡ state_after state block
  pub acts : DoesActs job before (act_list (acts_of state block)) new

-- the answer is the first cause of the line; where there is none it is done
abbrev pub JudgesLine : Job → State → List Act → List ℕ → Checking → Option Cause → Type 0
JudgesLine job state before line new None = DoesLine job state before line new
JudgesLine job state before line new (Some cause) = IsFirstCause (IsLineCause job state before line) cause

-- the verdict that a line gives by its first cause, where it has one
abbrev pub fault_at : ℕ → Option Cause → Option Verdict
fault_at n None = None
fault_at n (Some cause) = Some (Line n cause)
