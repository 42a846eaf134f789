-- The causes of acts in a row, and what is kept of them.
use Rattle.std.proofs.Common.{ℕ, zero, suc, ℤ, ◌↔◌, ◌+◌, ◌≤◌, ◌<◌, ◌≡◌, Bool, true, false, Option, None, Some, List, [], ◌∷◌, ◌++◌, length, refl, sym, ap, subst, ◌∙◌, arith, append_assoc, append-nil, length-append, ◌⊎◌, ⊎_elim, inl, inr}
use Rattle.std.specs.Prelude.{◌==◌, Contains, slice_get, IsTrue}
use Rattle.std.proofs.lemmas.Bool.{cases_lt}
use Rattle.std.proofs.lemmas.Option.{slice_get_within}
use Rattle.std.specs.List.{All}
use Rattle.std.proofs.lemmas.List.Elements.{All-head, All-tail, Contains-append_left, Contains-append_cases, Contains-push, Contains-push_cases}
use Rattle.sn_geom.specs.declared.machine.Acts.{Acts}
use Rattle.sn_geom.specs.declared.units.Pt3.{Pt3}
use Rattle.sn_geom.specs.Acts.{Act, act_list, mark_acts, tool_acts, motion_acts, end_acts}
use Rattle.sn_geom.specs.Acts.Act.{Mark, PutTool, Enter, Locate, Rapid, Feed, End}
use Rattle.sn_geom.specs.declared.limits.TheConstants.{REACH}
use Rattle.sn_geom.specs.declared.units.Body.{Body}
use Rattle.sn_geom.specs.Machine.{State}
use Rattle.sn_outline.specs.JobRule.{IsToolBody, IsProper}
use Rattle.sn_outline.specs.Job.{Job}
use Rattle.sn_outline.specs.declared.job.StepJob.{StepJob}
use Rattle.sn_raster.specs.Heights.{HeightMap, Pass, StandsFor}
use Rattle.sn_open.specs.Good.{marks, IsCurrent, body_of, pass_of, passes}
use Rattle.sn_open.specs.Planes.{CellSet, AreAllowed}
use Rattle.sn_open.specs.Verdict.{IsActCause, IsCauseAmong, rank, IsFirstCause}
use Rattle.sn_open.specs.declared.verdict.Cause.{Cause}
use Rattle.sn_open.specs.declared.verdict.Cause.TheVariants.{WrongMark, Early, OtherTool, OtherFeed, OtherSpeed, Gouge, Deep, Crash}
use Rattle.sn_open.proofs.PassLemmas.{marks_append, passes_append}
use Rattle.sn_sweep.specs.Checking.{Checking}
use Rattle.sn_sweep.specs.Judging.{KeepsActs, KeepsMachine, DoesActs, JudgesActs}

-- Acts in a row.

-- some acts with a count of marks
pub some_marks : (n : ℕ) → (acts : List Act) × (length (marks acts) ≡ n)
some_marks zero = ([], refl)
some_marks (suc n) = let (acts, count) = some_marks n in (Mark 0 ∷ acts, omega arith)

-- Causes.

-- where an act stands in two lists in a row
record IsInFirst (some : List Act) (act : Act) (front back others : List Act) : Type 0 where
  pub rest : List Act
  pub some_is : some ≡ front ++ act ∷ rest
  pub back_is : back ≡ rest ++ others

record IsInSecond (some : List Act) (act : Act) (front back others : List Act) : Type 0 where
  pub rest : List Act
  pub front_is : front ≡ some ++ rest
  pub others_is : others ≡ rest ++ act ∷ back

heads : (a b : Act) (xs ys : List Act) → a ∷ xs ≡ b ∷ ys → (a ≡ b) × (xs ≡ ys)
heads a b xs ys e = (ap (λ l. head l) e, ap (λ l. tail l) e)
  where
    head : List Act → Act
    head [] = a
    head (x ∷ l) = x

    tail : List Act → List Act
    tail [] = []
    tail (x ∷ l) = l

placed : (some others front back : List Act) (act : Act) → some ++ others ≡ front ++ act ∷ back
    → IsInFirst some act front back others ⊎ IsInSecond some act front back others
placed [] others front back act e = inr (record { rest = front; front_is = refl; others_is = e })
placed (a ∷ some) others [] back act e =
    let (first, rest) = heads a act (some ++ others) back e in
    inl (record { rest = some; some_is = λ i. first i ∷ some; back_is = sym rest })
placed (a ∷ some) others (b ∷ front) back act e =
    let (first, rest) = heads a b (some ++ others) (front ++ act ∷ back) e in
    ⊎_elim {C = IsInFirst (a ∷ some) act (b ∷ front) back others ⊎ IsInSecond (a ∷ some) act (b ∷ front) back others}
    (λ here. inl (record { rest = here.rest; some_is = λ i. first i ∷ here.some_is i; back_is = here.back_is }))
    (λ there. inr (record { rest = there.rest; front_is = λ i. sym first i ∷ there.front_is i; others_is = there.others_is }))
    (placed some others front back act rest)

pub nothing_among : (job : Job) (before : List Act) (cause : Cause) → ¬ IsCauseAmong job before [] cause
nothing_among job before cause h =
    let e = ap length h.all in
    omega (arith, length-append h.front (h.act ∷ h.back))

pub among_first : (job : Job) (before some others : List Act) (cause : Cause) → IsCauseAmong job before some cause → IsCauseAmong job before (some ++ others) cause
among_first job before some others cause h = record {
  front = h.front;
  act = h.act;
  back = h.back ++ others;
  all = ap (λ (l : List Act). l ++ others) h.all ∙ append_assoc h.front (h.act ∷ h.back) others;
  causes = h.causes;
}

pub among_second : (job : Job) (before some others : List Act) (cause : Cause) → IsCauseAmong job (before ++ some) others cause
    → IsCauseAmong job before (some ++ others) cause
among_second job before some others cause h = record {
  front = some ++ h.front;
  act = h.act;
  back = h.back;
  all = ap (λ (l : List Act). some ++ l) h.all ∙ sym (append_assoc some h.front (h.act ∷ h.back));
  causes = subst (λ (l : List Act). IsActCause job l h.act cause) (append_assoc before some h.front) h.causes;
}

pub among_cases : (job : Job) (before some others : List Act) (cause : Cause) → IsCauseAmong job before (some ++ others) cause
    → IsCauseAmong job before some cause ⊎ IsCauseAmong job (before ++ some) others cause
among_cases job before some others cause h =
    ⊎_elim {C = IsCauseAmong job before some cause ⊎ IsCauseAmong job (before ++ some) others cause}
    (λ here. inl (record { front = h.front; act = h.act; back = here.rest; all = here.some_is; causes = h.causes }))
    (λ there.
    let place : before ++ h.front ≡ (before ++ some) ++ there.rest = ap (λ (l : List Act). before ++ l) there.front_is ∙ sym (append_assoc before some there.rest) in
    inr (record {
      front = there.rest;
      act = h.act;
      back = h.back;
      all = there.others_is;
      causes = subst (λ (l : List Act). IsActCause job l h.act cause) place h.causes;
    }))
    (placed some others h.front h.back h.act h.all)

pub cause_of_one : (job : Job) (before : List Act) (act : Act) (cause : Cause) → IsActCause job before act cause → IsCauseAmong job before (act ∷ []) cause
cause_of_one job before act cause h = record {
  front = [];
  act = act;
  back = [];
  all = refl;
  causes = subst (λ (l : List Act). IsActCause job l act cause) (sym (append-nil before)) h;
}

one_at : (job : Job) (before front back : List Act) (act other : Act) (cause : Cause) → act ∷ [] ≡ front ++ other ∷ back
    → IsActCause job (before ++ front) other cause → IsActCause job before act cause
one_at job before [] back act other cause e h =
    let same = (heads act other [] back e).0 in
    let moved = subst (λ (l : List Act). IsActCause job l other cause) (append-nil before) h in
    subst (λ (a : Act). IsActCause job before a cause) (sym same) moved
one_at job before (x ∷ front) back act other cause e h =
    let count = ap length e in
    absurd (omega (arith, length-append front (other ∷ back)))

pub one_of_cause : (job : Job) (before : List Act) (act : Act) (cause : Cause) → IsCauseAmong job before (act ∷ []) cause → IsActCause job before act cause
one_of_cause job before act cause h = one_at job before h.front h.back act h.act cause h.all h.causes

-- no act has a cause of a line that is not read or not accepted
act_rank : (job : Job) (before : List Act) (act : Act) (cause : Cause) → IsActCause job before act cause → 2 ≤ rank cause
act_rank job before (Mark n) cause (is, other) = let h = ap rank is in omega arith
act_rank job before (PutTool k) cause h = absurd h
act_rank job before (Enter z) cause (is, other) = let h = ap rank is in omega arith
act_rank job before (Locate p) cause (is, other) = let h = ap rank is in omega arith
act_rank job before (Rapid from to tool) OtherTool h = omega arith
act_rank job before (Rapid from to tool) (Crash c) h = omega arith
act_rank job before (Rapid from to tool) cause h = absurd h
act_rank job before (Feed from to feed speed tool) Early h = omega arith
act_rank job before (Feed from to feed speed tool) OtherTool h = omega arith
act_rank job before (Feed from to feed speed tool) OtherFeed h = omega arith
act_rank job before (Feed from to feed speed tool) OtherSpeed h = omega arith
act_rank job before (Feed from to feed speed tool) (Gouge c) h = omega arith
act_rank job before (Feed from to feed speed tool) (Deep c) h = omega arith
act_rank job before (Feed from to feed speed tool) cause h = absurd h
act_rank job before End cause h = absurd h

pub among_rank : (job : Job) (before acts : List Act) (cause : Cause) → IsCauseAmong job before acts cause → 2 ≤ rank cause
among_rank job before acts cause h = act_rank job (before ++ h.front) h.act cause h.causes

-- none of the acts has a cause
abbrev pub NoneAmong : Job → List Act → List Act → Type 0
NoneAmong job before acts = (cause : Cause) → ¬ IsCauseAmong job before acts cause

-- the cause is the first of the acts
abbrev pub FirstAmong : Job → List Act → List Act → Cause → Type 0
FirstAmong job before acts cause = IsFirstCause (IsCauseAmong job before acts) cause

none_in_row : (job : Job) (before some others : List Act) → NoneAmong job before some → NoneAmong job (before ++ some) others → NoneAmong job before (some ++ others)
none_in_row job before some others none none' cause h = ⊎_elim {C = ⊥} (none cause) (none' cause) (among_cases job before some others cause h)

-- none comes before a wrong mark
mark_in_row : (job : Job) (before some others : List Act) (cause : Cause) → rank cause ≤ 2 → FirstAmong job before some cause
    → FirstAmong job before (some ++ others) cause
mark_in_row job before some others cause low first = record {
  holds = among_first job before some others cause first.holds;
  first = λ other h. let high = among_rank job before (some ++ others) other h in omega arith;
}

first_alone : (job : Job) (before some others : List Act) (cause : Cause) → NoneAmong job (before ++ some) others → FirstAmong job before some cause
    → FirstAmong job before (some ++ others) cause
first_alone job before some others cause none first = record {
  holds = among_first job before some others cause first.holds;
  first = λ other h. ⊎_elim {C = rank cause ≤ rank other} (first.first other) (λ later. absurd (none other later)) (among_cases job before some others other h);
}

first_behind : (job : Job) (before some others : List Act) (cause : Cause) → NoneAmong job before some → FirstAmong job (before ++ some) others cause
    → FirstAmong job before (some ++ others) cause
first_behind job before some others cause none first = record {
  holds = among_second job before some others cause first.holds;
  first = λ other h. ⊎_elim {C = rank cause ≤ rank other} (λ sooner. absurd (none other sooner)) (first.first other) (among_cases job before some others other h);
}

-- One act.

pub none_of_one : (job : Job) (before : List Act) (act : Act) → ((cause : Cause) → ¬ IsActCause job before act cause) → NoneAmong job before (act ∷ [])
none_of_one job before act none cause h = none cause (one_of_cause job before act cause h)

pub first_of_one : (job : Job) (before : List Act) (act : Act) (cause : Cause) → IsFirstCause (IsActCause job before act) cause → FirstAmong job before (act ∷ []) cause
first_of_one job before act cause first = record {
  holds = cause_of_one job before act cause first.holds;
  first = λ other h. first.first other (one_of_cause job before act other h);
}

none_of_tool : (job : Job) (before : List Act) (tool : Option ℕ) → NoneAmong job before (tool_acts tool)
none_of_tool job before None = nothing_among job before
none_of_tool job before (Some k) = none_of_one job before (PutTool k) (λ cause h. h)

none_of_end : (job : Job) (before : List Act) (end : Bool) → NoneAmong job before (end_acts end)
none_of_end job before false = nothing_among job before
none_of_end job before true = none_of_one job before End (λ cause h. h)

mark_rank : (job : Job) (before : List Act) (mark : Option ℕ) (cause : Cause) → IsCauseAmong job before (mark_acts mark) cause → rank cause ≤ 2
mark_rank job before None cause h = absurd (nothing_among job before cause h)
mark_rank job before (Some n) cause h =
    let (is, other) = one_of_cause job before (Mark n) cause h in
    let low = ap rank is in
    omega arith

-- The acts of a line.

-- the acts before the motion of a line
abbrev pub before_motion : List Act → Acts → List Act
before_motion before acts = (before ++ mark_acts acts.mark) ++ tool_acts acts.tool

pub mark_is_first : (job : Job) (before : List Act) (acts : Acts) (cause : Cause) → FirstAmong job before (mark_acts acts.mark) cause
    → FirstAmong job before (act_list acts) cause
mark_is_first job before acts cause first =
    mark_in_row job before (mark_acts acts.mark) (tool_acts acts.tool ++ (motion_acts acts.motion ++ end_acts acts.end)) cause
    (mark_rank job before acts.mark cause first.holds) first

pub motion_is_first : (job : Job) (before : List Act) (acts : Acts) (cause : Cause) → NoneAmong job before (mark_acts acts.mark)
    → FirstAmong job (before_motion before acts) (motion_acts acts.motion) cause → FirstAmong job before (act_list acts) cause
motion_is_first job before acts cause none first =
    let marked = before ++ mark_acts acts.mark in
    let tooled = marked ++ tool_acts acts.tool in
    let last = end_acts acts.end in
    let moved = first_alone job tooled (motion_acts acts.motion) last cause (none_of_end job (tooled ++ motion_acts acts.motion) acts.end) first in
    let put = first_behind job marked (tool_acts acts.tool) (motion_acts acts.motion ++ last) cause (none_of_tool job marked acts.tool) moved in
    first_behind job before (mark_acts acts.mark) (tool_acts acts.tool ++ (motion_acts acts.motion ++ last)) cause none put

pub none_of_line : (job : Job) (before : List Act) (acts : Acts) → NoneAmong job before (mark_acts acts.mark)
    → NoneAmong job (before_motion before acts) (motion_acts acts.motion) → NoneAmong job before (act_list acts)
none_of_line job before acts none none' =
    let marked = before ++ mark_acts acts.mark in
    let tooled = marked ++ tool_acts acts.tool in
    let last = end_acts acts.end in
    let moved = none_in_row job tooled (motion_acts acts.motion) last none' (none_of_end job (tooled ++ motion_acts acts.motion) acts.end) in
    let put = none_in_row job marked (tool_acts acts.tool) (motion_acts acts.motion ++ last) (none_of_tool job marked acts.tool) moved in
    none_in_row job before (mark_acts acts.mark) (tool_acts acts.tool ++ (motion_acts acts.motion ++ last)) none put

pub line_joined : (before : List Act) (acts : Acts) → (before_motion before acts ++ motion_acts acts.motion) ++ end_acts acts.end ≡ before ++ act_list acts
line_joined before acts =
    let marked = before ++ mark_acts acts.mark in
    append_assoc (marked ++ tool_acts acts.tool) (motion_acts acts.motion) (end_acts acts.end)
    ∙ append_assoc marked (tool_acts acts.tool) (motion_acts acts.motion ++ end_acts acts.end)
    ∙ append_assoc before (mark_acts acts.mark) (tool_acts acts.tool ++ (motion_acts acts.motion ++ end_acts acts.end))

-- What is kept.

only_end : (act : Act) → Contains (act ∷ []) End → act ≡ End
only_end act inside = ⊎_elim {C = act ≡ End} (λ (k, below, is). absurd (omega arith)) (λ is. is) (Contains-push_cases [] act End inside)

-- acts that mark nothing, cut nothing and do not end the program
record IsIdle (steps : List StepJob) (acts : List Act) : Type 0 where
  pub no_marks : marks acts ≡ []
  pub no_passes : passes steps acts ≡ []
  pub no_end : ¬ Contains acts End

marks_on : (before acts : List Act) → marks acts ≡ [] → marks (before ++ acts) ≡ marks before
marks_on before acts none = marks_append before acts ∙ ap (λ (ms : List ℕ). marks before ++ ms) none ∙ append-nil (marks before)

passes_on : (steps : List StepJob) (before acts : List Act) → passes steps acts ≡ [] → passes steps (before ++ acts) ≡ passes steps before
passes_on steps before acts none =
    passes_append steps before acts ∙ ap (λ (ps : List Pass). passes steps before ++ ps) none ∙ append-nil (passes steps before)

end_on : (before acts : List Act) (ended : Bool) → (¬ Contains acts End) → IsTrue ended ↔ Contains before End → IsTrue ended ↔ Contains (before ++ acts) End
end_on before acts ended none same = (
  λ e. Contains-append_left before acts End (same.0 e),
  λ inside. same.1 (⊎_elim {C = Contains before End} (λ h. h) (λ h. absurd (none h)) (Contains-append_cases before acts End inside)),
)

current_before : (job : Job) (before acts : List Act) (step : StepJob) → marks acts ≡ [] → IsCurrent job (before ++ acts) step → IsCurrent job before step
current_before job before acts step none (k, count, is) = (k, sym (ap length (marks_on before acts none)) ∙ count, is)

keeps_idle : (job : Job) (before acts : List Act) (kept : Checking) → IsIdle job.steps acts → KeepsActs job before kept → KeepsActs job (before ++ acts) kept
keeps_idle job before acts kept idle keeps = record {
  material = subst (λ (ps : List Pass). StandsFor kept.heights job ps) (sym (passes_on job.steps before acts idle.no_passes)) keeps.material;
  marked = keeps.marked ∙ sym (ap length (marks_on before acts idle.no_marks));
  ended = end_on before acts kept.ended idle.no_end keeps.ended;
  allowed = λ step current. keeps.allowed step (current_before job before acts step idle.no_marks current);
}

pub keeps_none : (job : Job) (before : List Act) (kept : Checking) → KeepsActs job before kept → KeepsActs job (before ++ []) kept
keeps_none job before kept keeps = subst (λ (acts : List Act). KeepsActs job acts kept) (sym (append-nil before)) keeps

pub keeps_tool : (job : Job) (before : List Act) (tool : Option ℕ) (kept : Checking) → KeepsActs job before kept → KeepsActs job (before ++ tool_acts tool) kept
keeps_tool job before None kept keeps = keeps_none job before kept keeps
keeps_tool job before (Some k) kept keeps =
    keeps_idle job before (PutTool k ∷ []) kept (record { no_marks = refl; no_passes = refl; no_end = λ inside. let is = only_end (PutTool k) inside in cc }) keeps

pub keeps_enter : (job : Job) (before : List Act) (z : ℤ) (kept : Checking) → KeepsActs job before kept → KeepsActs job (before ++ Enter z ∷ []) kept
keeps_enter job before z kept keeps =
    keeps_idle job before (Enter z ∷ []) kept (record { no_marks = refl; no_passes = refl; no_end = λ inside. let is = only_end (Enter z) inside in cc }) keeps

pub keeps_locate : (job : Job) (before : List Act) (p : Pt3) (kept : Checking) → KeepsActs job before kept → KeepsActs job (before ++ Locate p ∷ []) kept
keeps_locate job before p kept keeps =
    keeps_idle job before (Locate p ∷ []) kept (record { no_marks = refl; no_passes = refl; no_end = λ inside. let is = only_end (Locate p) inside in cc }) keeps

pub keeps_rapid : (job : Job) (before : List Act) (from to : Pt3) (tool : ℕ) (kept : Checking) → KeepsActs job before kept
    → KeepsActs job (before ++ Rapid from to tool ∷ []) kept
keeps_rapid job before from to tool kept keeps =
    keeps_idle job before (Rapid from to tool ∷ []) kept
    (record { no_marks = refl; no_passes = refl; no_end = λ inside. let is = only_end (Rapid from to tool) inside in cc }) keeps

pub keeps_feed : (job : Job) (before : List Act) (from to : Pt3) (feed speed tool : ℕ) (kept : Checking) (heights : HeightMap)
    → StandsFor heights job (passes job.steps before ++ pass_of (body_of job.steps tool) from to) → KeepsActs job before kept
    → KeepsActs job (before ++ Feed from to feed speed tool ∷ []) (record kept { heights = heights })
keeps_feed job before from to feed speed tool kept heights stands keeps =
    let own = Feed from to feed speed tool ∷ [] in
    let pass = pass_of (body_of job.steps tool) from to in
    let all = passes_append job.steps before own ∙ ap (λ (ps : List Pass). passes job.steps before ++ ps) (append-nil pass) in
    let none : ¬ Contains own End = λ inside. let is = only_end (Feed from to feed speed tool) inside in cc in
    record {
      material = subst (λ (ps : List Pass). StandsFor heights job ps) (sym all) stands;
      marked = keeps.marked ∙ sym (ap length (marks_on before own refl));
      ended = end_on before own kept.ended none keeps.ended;
      allowed = λ step current. keeps.allowed step (current_before job before own step refl current);
    }

one_more_mark : (before : List Act) (n : ℕ) → length (marks (before ++ Mark n ∷ [])) ≡ length (marks before) + 1
one_more_mark before n = ap length (marks_append before (Mark n ∷ [])) ∙ length-append (marks before) (n ∷ [])

pub keeps_mark : (job : Job) (before : List Act) (n : ℕ) (kept : Checking) (cells : CellSet)
    → ((step : StepJob) → slice_get job.steps kept.marks ≡ Some step → AreAllowed cells job step) → KeepsActs job before kept
    → KeepsActs job (before ++ Mark n ∷ []) (record kept { marks = kept.marks + 1; allowed = cells })
keeps_mark job before n kept cells allowed keeps =
    let own = Mark n ∷ [] in
    let none : ¬ Contains own End = λ inside. let is = only_end (Mark n) inside in cc in
    record {
      material = subst (λ (ps : List Pass). StandsFor kept.heights job ps) (sym (passes_on job.steps before own refl)) keeps.material;
      marked = ap (λ k. k + 1) keeps.marked ∙ sym (one_more_mark before n);
      ended = end_on before own kept.ended none keeps.ended;
      allowed = λ step (k, count, is).
          let more = one_more_mark before n in
          let marked = keeps.marked in
          let at : k ≡ kept.marks = omega arith in
          allowed step (subst (λ k. slice_get job.steps k ≡ Some step) at is);
    }

pub keeps_ended : (job : Job) (before : List Act) (kept : Checking) → KeepsActs job before kept
    → KeepsActs job (before ++ End ∷ []) (record kept { ended = true })
keeps_ended job before kept keeps =
    let own = End ∷ [] in
    record {
      material = subst (λ (ps : List Pass). StandsFor kept.heights job ps) (sym (passes_on job.steps before own refl)) keeps.material;
      marked = keeps.marked ∙ sym (ap length (marks_on before own refl));
      ended = (λ _. Contains-push before End, λ _. refl);
      allowed = λ step current. keeps.allowed step (current_before job before own step refl current);
    }

-- Answers of calls.

-- where no mark is wrong a step is left
pub mark_within : (job : Job) (k n : ℕ) → ((before : List Act) → length (marks before) ≡ k → (cause : Cause) → ¬ IsActCause job before (Mark n) cause)
    → k < length job.steps
mark_within job k n right =
    let (before, count) = some_marks k in
    elim (cases_lt k (length job.steps)) [
      | inl below ↦ below
      | inr past ↦ absurd (right before count WrongMark (refl, λ (step, here, own). let h = slice_get_within job.steps (length (marks before)) step here in omega arith))
    ]

-- the acts of a line, judged part by part
pub judged_at_mark : (job : Job) (before : List Act) (acts : Acts) (new : Checking) (cause : Cause) → JudgesActs job before (mark_acts acts.mark) new (Some cause)
    → JudgesActs job before (act_list acts) new (Some cause)
judged_at_mark job before acts new cause first = mark_is_first job before acts cause first

-- what the part of the mark leaves to that of the motion
abbrev pub JudgesMotion : Checking → Acts → Checking → Option Cause → Type 0
JudgesMotion mid acts new result =
    (before : List Act) → KeepsActs mid.job before mid → JudgesActs mid.job before (motion_acts acts.motion) new result

motion_judged : (old mid new : Checking) (before : List Act) (acts : Acts) (result : Option Cause) → KeepsMachine old mid
    → DoesActs old.job before (mark_acts acts.mark) mid → JudgesMotion mid acts new result
    → JudgesActs old.job (before_motion before acts) (motion_acts acts.motion) new result
motion_judged old mid new before acts result same does judged =
    let own = subst (λ (job : Job). (before : List Act) → KeepsActs job before mid → JudgesActs job before (motion_acts acts.motion) new result) same.program.job judged in
    own (before_motion before acts) (keeps_tool old.job (before ++ mark_acts acts.mark) acts.tool mid does.keeps)

pub judged_at_motion : (old mid new : Checking) (before : List Act) (acts : Acts) (cause : Cause) → KeepsMachine old mid
    → DoesActs old.job before (mark_acts acts.mark) mid → JudgesMotion mid acts new (Some cause)
    → JudgesActs old.job before (act_list acts) new (Some cause)
judged_at_motion old mid new before acts cause same does judged =
    motion_is_first old.job before acts cause does.right (motion_judged old mid new before acts (Some cause) same does judged)

pub judged_at_end : (old mid moved new : Checking) (before : List Act) (acts : Acts) → KeepsMachine old mid → KeepsMachine mid moved
    → DoesActs old.job before (mark_acts acts.mark) mid → JudgesMotion mid acts moved None
    → ((some : List Act) → KeepsActs moved.job some moved → KeepsActs moved.job (some ++ end_acts acts.end) new)
    → JudgesActs old.job before (act_list acts) new None
judged_at_end old mid moved new before acts same same' does judged ends =
    let done : DoesActs old.job (before_motion before acts) (motion_acts acts.motion) moved = motion_judged old mid moved before acts None same does judged in
    let own = subst (λ (job : Job). (some : List Act) → KeepsActs job some moved → KeepsActs job (some ++ end_acts acts.end) new)
    (same'.program.job ∙ same.program.job) ends in
    let kept = own (before_motion before acts ++ motion_acts acts.motion) done.keeps in
    record {
      right = none_of_line old.job before acts does.right done.right;
      keeps = subst (λ (all : List Act). KeepsActs old.job all new) (line_joined before acts) kept;
    }

-- what is kept of acts goes with another state of the machine
pub keeps_state : (job : Job) (before : List Act) (kept : Checking) (state : State) → KeepsActs job before kept → KeepsActs job before (record kept { machine = state })
keeps_state job before kept state keeps = record { material = keeps.material; marked = keeps.marked; ended = keeps.ended; allowed = keeps.allowed }

pub does_none : (job : Job) (before : List Act) (kept : Checking) → KeepsActs job before kept → DoesActs job before [] kept
does_none job before kept keeps = record { right = nothing_among job before; keeps = keeps_none job before kept keeps }

-- Bodies.

by_bool : (b : Bool) → (b ≡ true) ⊎ (b ≡ false)
by_bool true = inl refl
by_bool false = inr refl

-- the body of a tool is one of a proper step
pub tool_body : (steps : List StepJob) (tool : ℕ) (body : Body) → All IsProper steps → body_of steps tool ≡ Some body → IsToolBody body
tool_body [] tool body proper is = absurd (cc)
tool_body (step ∷ steps) tool body proper is =
    elim (by_bool (step.tool == tool)) [
      | inl same ↦ (let own = rw same at is in let body_is : step.body ≡ body = cc in subst (λ (b : Body). IsToolBody b) body_is (All-head IsProper step steps proper).body)
      | inr other ↦ tool_body steps tool body (All-tail IsProper step steps proper) (rw other at is)
    ]

pub small_diameter : (body : Body) → IsToolBody body → body.d ≤ REACH
small_diameter body is = let h = is.at_most in omega arith

pub small_point : (body : Body) → IsToolBody body → body.e ≤ REACH
small_point body is = let h = is.at_most in let k = is.point in omega arith
