-- MEANING: what a checker keeps of the program that it reads (this project's own).
use Rattle.std.specs.Prelude.{◌≡◌, ◌≢◌, ◌↔◌, ℕ, Bool, IsTrue, List, ◌++◌, length, take, Contains, Option, None, Some}
use Rattle.std.specs.List.{All}
use Rattle.sn_geom.specs.Acts.{Act}
use Rattle.sn_geom.specs.Acts.Act.{End}
use Rattle.sn_geom.specs.Block.{lines_of}
use Rattle.sn_geom.specs.Machine.{State, start}
use Rattle.sn_geom.specs.Meaning.{MeansFrom, IsWholeLines}
use Rattle.sn_outline.specs.Job.{Job}
use Rattle.sn_outline.specs.declared.job.StepJob.{StepJob}
use Rattle.sn_raster.specs.Grid.{Grid, IsGridOf}
use Rattle.sn_raster.specs.Heights.{HeightMap, StandsFor}
use Rattle.sn_open.specs.Good.{marks, IsCurrent, passes}
use Rattle.sn_open.specs.Planes.{CellSet, AreAllowed}
use Rattle.sn_open.specs.Verdict.{AreRight, IsFirstAtFault}
use Rattle.sn_open.specs.declared.verdict.Verdict.{Verdict}
use Rattle.sn_open.specs.declared.verdict.Verdict.TheVariants.{Yes, Line, NoEnd, Missing, Uncovered}

-- The longest piece of a line that is kept: one byte more than a line may have, so that a line that is too long shows.
abbrev pub most_held : ℕ
most_held = 257

-- What a checker keeps: the job and its grid, the material that is left, the cells that the current step may cut, the machine,
-- how many lines were read and how many marks were seen, whether the program has ended, the first fault, and the bytes of a
-- line that has not ended.
pub record Checking : Type 0 where
  pub job : Job
  pub grid : Grid
  pub heights : HeightMap
  pub allowed : CellSet
  pub machine : State
  pub lines : ℕ
  pub marks : ℕ
  pub ended : Bool
  pub fault : Option Verdict
  pub rest : List ℕ

-- No line of the text is at fault: it means acts without a cause, and what is kept is what they lead to.
pub record HasNoFault (job : Job) (text : List ℕ) (kept : Checking) : Type 0 where
  pub acts : List Act
  pub means : MeansFrom start text acts kept.machine
  pub right : AreRight job acts
  pub material : StandsFor kept.heights job (passes job.steps acts)
  pub marked : kept.marks ≡ length (marks acts)
  pub ended : IsTrue kept.ended ↔ Contains acts End
  pub allowed : (step : StepJob) → IsCurrent job acts step → AreAllowed kept.allowed job step

-- the fault that is kept is that of the first line of the text at fault, and none is kept where no line is at fault
abbrev pub HasFault : Job → List ℕ → Checking → Option Verdict → Type 0
HasFault job text kept None = HasNoFault job text kept
HasFault job text kept (Some Yes) = ⊥
HasFault job text kept (Some (Line n cause)) = IsFirstAtFault job text n cause
HasFault job text kept (Some NoEnd) = ⊥
HasFault job text kept (Some (Missing ws)) = ⊥
HasFault job text kept (Some (Uncovered feature cell)) = ⊥

-- The checker of the job has read the text, which is whole lines.
pub record HasRead (job : Job) (text : List ℕ) (kept : Checking) : Type 0 where
  pub job_is : kept.job ≡ job
  pub grid : IsGridOf kept.grid job
  pub planes : (kept.heights.grid ≡ kept.grid) × (kept.allowed.plane.grid ≡ kept.grid)
  pub whole : IsWholeLines text
  pub counted : kept.lines ≡ length (lines_of text)
  pub fault : HasFault job text kept kept.fault

-- no line feed stands in the bytes
abbrev pub HasNoLineFeed : List ℕ → Type 0
HasNoLineFeed bytes = All (λ byte. byte ≢ 10) bytes

-- The checker of the job has taken the bytes: it has read the whole lines among them, and holds what stands behind the last
-- line feed, or as much of that as shows that the line is too long.
pub record HasTaken (job : Job) (bytes : List ℕ) (kept : Checking) : Type 0 where
  pub text : List ℕ
  pub behind : List ℕ
  pub split : bytes ≡ text ++ behind
  pub unended : HasNoLineFeed behind
  pub read : HasRead job text kept
  pub held : kept.rest ≡ take most_held behind
