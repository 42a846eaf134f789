-- What a checker has read, with one more line.
use Rattle.std.proofs.Common.{ℕ, ◌+◌, ◌≡◌, ◌≢◌, Bool, inl, true, false, Option, None, Some, List, [], ◌++◌, length, refl, sym, ap, subst, ◌∙◌, arith, ⊎_elim}
use Rattle.std.specs.Prelude.{is_some, IsTrue}
use Rattle.std.proofs.lemmas.List.Elements.{All-nil}
use Rattle.sn_geom.specs.Acts.{Act, act_list}
use Rattle.sn_geom.specs.Block.{lines_of}
use Rattle.sn_geom.specs.Machine.{State, start, acts_of}
use Rattle.sn_geom.specs.Meaning.{MeansFrom}
use Rattle.sn_geom.specs.MeaningLaws.{MeaningsAreInPieces}
use Rattle.sn_outline.specs.Job.{Job}
use Rattle.sn_raster.specs.Grid.{Grid, IsGridOf}
use Rattle.sn_raster.specs.Heights.{StandsFor}
use Rattle.sn_open.specs.Verdict.{IsCauseAmong, AreRight, IsFirstAtFault}
use Rattle.sn_open.specs.declared.verdict.Cause.{Cause}
use Rattle.sn_open.specs.declared.verdict.Verdict.{Verdict}
use Rattle.sn_open.specs.declared.verdict.Verdict.TheVariants.{Yes, Line, NoEnd, Missing, Uncovered}
use Rattle.sn_outline.specs.declared.job.StepJob.{StepJob}
use Rattle.sn_sweep.specs.declared.planes.Planes.{Planes}
use Rattle.sn_sweep.specs.Kept.{allowed_of, HasPlanes}
use Rattle.sn_sweep.specs.Checking.{Checking, HasNoFault, HasFault, HasRead, HasNoLineFeed, HasTaken}
use Rattle.sn_sweep.specs.Judging.{KeepsActs, KeepsProgram, JudgesLine, fault_at}
use Rattle.sn_sweep.proofs.ActLemmas.{among_cases, nothing_among}
use Rattle.sn_sweep.proofs.LineLemmas.{with_line, still_whole, one_counted, fault_stays, fault_comes, meaning_goes_on}

-- a fault that is kept
fault_on : (job : Job) (text line : List ℕ) (old new : Checking) (fault : Option Verdict) → is_some fault ≡ true → HasRead job text old → HasNoLineFeed line
    → HasFault job text old fault → HasFault job (with_line text line) new fault
fault_on job text line old new None some read none h = absurd (cc)
fault_on job text line old new (Some Yes) some read none h = h
fault_on job text line old new (Some (Line n cause)) some read none h = fault_stays job text line n cause read.whole none h
fault_on job text line old new (Some NoEnd) some read none h = h
fault_on job text line old new (Some (Missing ws)) some read none h = h
fault_on job text line old new (Some (Uncovered feature cell)) some read none h = h

-- planes over the grid
pub record HasGrids (kept : Checking) : Type 0 where
  pub heights : kept.heights.grid ≡ kept.grid
  pub allowed : kept.allowed.plane.grid ≡ kept.grid

-- a line after a fault is counted
pub counts_on : (job : Job) (text line : List ℕ) (old new : Checking) → is_some new.fault ≡ true → new ≡ record old { lines = old.lines + 1 }
    → HasRead job text old → HasNoLineFeed line → HasRead job (with_line text line) new
counts_on job text line old new faulty is read none =
    let some : is_some old.fault ≡ true = sym (ap (λ (kept : Checking). is_some kept.fault) is) ∙ faulty in
    let counted : old.lines + 1 ≡ length (lines_of (with_line text line)) = ap (λ k. k + 1) read.counted ∙ sym (one_counted text line read.whole none) in
    let after : HasRead job (with_line text line) (record old { lines = old.lines + 1 }) = record {
      job_is = read.job_is;
      grid = read.grid;
      planes = read.planes;
      whole = still_whole text line;
      counted = counted;
      fault = fault_on job text line old (record old { lines = old.lines + 1 }) old.fault some read none read.fault;
    } in
    subst (λ (kept : Checking). HasRead job (with_line text line) kept) (sym is) after

no_fault : (job : Job) (text : List ℕ) (kept : Checking) (fault : Option Verdict) → is_some fault ≡ false → HasFault job text kept fault → HasNoFault job text kept
no_fault job text kept None none h = h
no_fault job text kept (Some verdict) none h = absurd (cc)

right_on : (job : Job) (before acts : List Act) → AreRight job before → ((cause : Cause) → ¬ IsCauseAmong job before acts cause) → AreRight job (before ++ acts)
right_on job before acts right none cause h = ⊎_elim {C = ⊥} (right cause) (none cause) (among_cases job [] before acts cause h)

keeps_of : (job : Job) (text : List ℕ) (kept : Checking) (n : ℕ) (h : HasNoFault job text kept) → KeepsActs job h.acts (record kept { lines = n })
keeps_of job text kept n h = record { material = h.material; marked = h.marked; ended = h.ended; allowed = h.allowed }

-- the fault after a line without a fault before it
fault_after : MeaningsAreInPieces → (job : Job) (text line : List ℕ) (old mid : Checking) (result : Option Cause) (n : ℕ) → HasRead job text old → HasNoLineFeed line
    → (h : HasNoFault job text old) → n ≡ length (lines_of text) + 1 → JudgesLine job old.machine h.acts line mid result
    → HasFault job (with_line text line) (record mid { fault = fault_at n result }) (fault_at n result)
fault_after pieces job text line old mid None n read none h count does = record {
  acts = h.acts ++ act_list (acts_of old.machine does.block);
  means = subst (λ (state : State). MeansFrom start (with_line text line) (h.acts ++ act_list (acts_of old.machine does.block)) state) (sym does.reaches)
      (meaning_goes_on pieces text line h.acts old.machine does.block read.whole none h.means does.says does.accepted);
  right = right_on job h.acts (act_list (acts_of old.machine does.block)) h.right does.acts.right;
  material = does.acts.keeps.material;
  marked = does.acts.keeps.marked;
  ended = does.acts.keeps.ended;
  allowed = does.acts.keeps.allowed;
}
fault_after pieces job text line old mid (Some cause) n read none h count first =
    subst (λ n. IsFirstAtFault job (with_line text line) n cause) (sym count)
    (fault_comes job text line h.acts old.machine cause read.whole none h.means h.right first)

-- a line without a fault before it is judged
after_line : MeaningsAreInPieces → (job : Job) (text line : List ℕ) (old mid : Checking) (result : Option Cause) → is_some old.fault ≡ false
    → KeepsProgram (record old { lines = old.lines + 1 }) mid → HasGrids mid
    → ((before : List Act) → KeepsActs old.job before (record old { lines = old.lines + 1 }) → JudgesLine old.job old.machine before line mid result)
    → HasRead job text old → HasNoLineFeed line → HasRead job (with_line text line) (record mid { fault = fault_at mid.lines result })
after_line pieces job text line old mid result unfaulted same grids judged read none =
    let h = no_fault job text old old.fault unfaulted read.fault in
    let judged_for = subst (λ (j : Job). (before : List Act) → KeepsActs j before (record old { lines = old.lines + 1 }) → JudgesLine j old.machine before line mid result)
    read.job_is judged in
    let own = judged_for h.acts (keeps_of job text old (old.lines + 1) h) in
    let count : mid.lines ≡ length (lines_of text) + 1 = same.lines ∙ ap (λ k. k + 1) read.counted in
    record {
      job_is = same.job ∙ read.job_is;
      grid = subst (λ (g : Grid). IsGridOf g job) (sym same.grid) read.grid;
      planes = (grids.heights, grids.allowed);
      whole = still_whole text line;
      counted = count ∙ sym (one_counted text line read.whole none);
      fault = fault_after pieces job text line old mid result mid.lines read none h count own;
    }

-- what judges a line from what is counted
abbrev pub JudgesCounted : List ℕ → Checking → Checking → Option Cause → Type 0
JudgesCounted line counted mid result =
    (before : List Act) → KeepsActs counted.job before counted → JudgesLine counted.job counted.machine before line mid result

pub judges_on : MeaningsAreInPieces → (job : Job) (text line : List ℕ) (old counted mid new : Checking) (result : Option Cause)
    → counted ≡ record old { lines = old.lines + 1 } → is_some counted.fault ≡ false → KeepsProgram counted mid → JudgesCounted line counted mid result
    → new ≡ record mid { fault = fault_at mid.lines result } → HasGrids new → HasRead job text old → HasNoLineFeed line → HasRead job (with_line text line) new
judges_on pieces job text line old counted mid new result is unfaulted same judged told grids read none =
    let start_at : Checking = record old { lines = old.lines + 1 } in
    let unfaulted_old : is_some old.fault ≡ false = sym (ap (λ (kept : Checking). is_some kept.fault) is) ∙ unfaulted in
    let same_old : KeepsProgram start_at mid = subst (λ (kept : Checking). KeepsProgram kept mid) is same in
    let judged_old : JudgesCounted line start_at mid result = subst (λ (kept : Checking). JudgesCounted line kept mid result) is judged in
    let grids_mid : HasGrids (record mid { fault = fault_at mid.lines result }) = subst (λ (kept : Checking). HasGrids kept) told grids in
    let after = after_line pieces job text line old mid result unfaulted_old same_old (record { heights = grids_mid.heights; allowed = grids_mid.allowed }) judged_old read none in
    subst (λ (kept : Checking). HasRead job (with_line text line) kept) (sym told) after

-- Nothing is read at first.

-- a checker before the first line
pub record IsFresh (job : Job) (kept : Checking) : Type 0 where
  pub job_is : kept.job ≡ job
  pub grid : IsGridOf kept.grid job
  pub grids : HasGrids kept
  pub material : StandsFor kept.heights job []
  pub machine : kept.machine ≡ start
  pub lines : kept.lines ≡ 0
  pub marks : kept.marks ≡ 0
  pub ended : kept.ended ≡ false
  pub fault : kept.fault ≡ None
  pub rest : kept.rest ≡ []

not_ended : (b : Bool) → b ≡ false → ¬ IsTrue b
not_ended b running h = cc

nothing_done : (job : Job) (kept : Checking) → IsFresh job kept → HasNoFault job [] kept
nothing_done job kept fresh = record {
  acts = [];
  means = record { blocks = []; says = tt; runs = refl; ends = fresh.machine };
  right = nothing_among job [];
  material = fresh.material;
  marked = fresh.marks;
  ended = (λ h. absurd (not_ended kept.ended fresh.ended h), λ (k, below, is). absurd (omega arith));
  allowed = λ step (k, count, is). absurd (omega arith);
}

pub nothing_taken : (job : Job) (kept : Checking) → IsFresh job kept → HasTaken job [] kept
nothing_taken job kept fresh = record {
  text = [];
  behind = [];
  split = refl;
  unended = All-nil (λ byte. byte ≢ 10);
  read = record {
    job_is = fresh.job_is;
    grid = fresh.grid;
    planes = (fresh.grids.heights, fresh.grids.allowed);
    whole = inl refl;
    counted = fresh.lines;
    fault = subst (λ (fault : Option Verdict). HasFault job [] kept fault) (sym fresh.fault) (nothing_done job kept fresh);
  };
  held = fresh.rest;
}

pub planes_grid : (grid : Grid) (steps : List StepJob) (planes : Option Planes) → HasPlanes grid steps planes → (allowed_of grid planes).plane.grid ≡ grid
planes_grid grid steps None h = refl
planes_grid grid steps (Some planes) h = h.0
