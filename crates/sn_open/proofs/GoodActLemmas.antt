-- Good acts have no cause.
use Rattle.std.proofs.Common.{ℕ, ◌≡◌, ⊎_elim, None, Some, List, ◌∷◌, ◌++◌, length, slice_get, refl, sym, ap, subst, ◌∙◌, arith, length-append}
use Rattle.std.specs.Prelude.{map}
use Rattle.std.proofs.lemmas.Int.{ints}
use Rattle.std.proofs.lemmas.List.{length-map}
use Rattle.std.proofs.lemmas.Option.{slice_get-map, slice_get-get_or, slice_get_cases}
use Rattle.std.proofs.Math.Seq.{get_or-append_seam}
use Rattle.std.specs.Option.{option_map}
use Rattle.sn_geom.specs.declared.units.Pt3.{Pt3}
use Rattle.sn_geom.specs.Acts.{Act}
use Rattle.sn_geom.specs.Acts.Act.{Mark, PutTool, Enter, Locate, Rapid, Feed, End}
use Rattle.sn_geom.specs.Meaning.{Means}
use Rattle.sn_outline.specs.Job.{Job}
use Rattle.sn_outline.specs.declared.job.StepJob.{StepJob}
use Rattle.sn_open.specs.Good.{marks, IsRightRapid, IsRightFeed, AreGood}
use Rattle.sn_open.specs.Verdict.{IsActCause, rank, MeansRight, MarksAll, IsMetForbidden, IsMetDeep, NamesNext}
use Rattle.sn_open.specs.VerdictLaws.{MarksAreInTurn, RightActsHaveNoCause, GoodActsHaveNoCause, GoodProgramsHaveNoFault, GoodProgramsDoAll}
use Rattle.sn_open.specs.declared.verdict.Cause.{Cause}
use Rattle.sn_open.specs.declared.verdict.Cause.TheVariants.{WrongMark, Early, OtherTool, OtherFeed, OtherSpeed, Gouge, Deep, Crash}
use Rattle.sn_open.proofs.CauseLemmas.{one_step, LineFacts}
use Rattle.sn_open.proofs.PassLemmas.{marks_append}
use Rattle.sn_open.proofs.ProgramLineLemmas.{not_at_fault}

abbrev pub own_mark : StepJob → ℕ
own_mark step = step.ws

pub stands_here : (xs ys : List ℕ) (n : ℕ) → slice_get (xs ++ n ∷ ys) (length xs) ≡ Some n
stands_here xs ys n = slice_get-get_or (xs ++ n ∷ ys) (length xs) n (omega (arith, length-append xs (n ∷ ys))) ∙ ap Some (get_or-append_seam xs n ys n)

pub same_number : (m n : ℕ) → Some m ≡ Some n → m ≡ n
same_number m n e = cc

pub names_next : (job : Job) (before : List Act) (n : ℕ) → slice_get (map (λ (step : StepJob). step.ws) job.steps) (length (marks before)) ≡ Some n → NamesNext job before n
names_next job before n is =
    let k = length (marks before) in
    ⊎_elim {C = NamesNext job before n}
    (λ (step, below, here, same). (
      step,
      here,
      same_number step.ws n (sym (slice_get-map (λ (step : StepJob). step.ws) job.steps k ∙ ap (option_map (λ (step : StepJob). step.ws)) here) ∙ is),
    ))
    (λ (past, none). absurd (not_none n (sym (slice_get-map (λ (step : StepJob). step.ws) job.steps k ∙ ap (option_map (λ (step : StepJob). step.ws)) none) ∙ is)))
    (slice_get_cases job.steps k).1
  where
    not_none : (n : ℕ) → ¬ (None ≡ Some n)
    not_none n e = cc

pub is_next : (job : Job) (before : List Act) (n : ℕ) → NamesNext job before n → slice_get (map (λ (step : StepJob). step.ws) job.steps) (length (marks before)) ≡ Some n
is_next job before n (step, here, own) =
    slice_get-map (λ (step : StepJob). step.ws) job.steps (length (marks before)) ∙ ap (option_map (λ (step : StepJob). step.ws)) here ∙ ap Some own

pub marks_are_in_turn : MarksAreInTurn
marks_are_in_turn job before n c = (
  λ h. (h.0, λ is. h.1 (names_next job before n is)),
  λ h. (h.0, λ next. h.1 (is_next job before n next)),
)

rapid_has_no_cause : (job : Job) (before : List Act) (a b : Pt3) (tool : ℕ) (c : Cause) → IsRightRapid job before a b tool → ¬ IsActCause job before (Rapid a b tool) c
rapid_has_no_cause job before a b tool OtherTool right h = h right.tool_is
rapid_has_no_cause job before a b tool (Crash c) right h =
    let met = h.holds in
    right.clear met.step met.executed met.own c met.met.left met.met.touched
rapid_has_no_cause job before a b tool c right h = h

feed_has_no_cause : (job : Job) (before : List Act) (a b : Pt3) (feed speed tool : ℕ) (c : Cause) → IsRightFeed job before a b feed speed tool
    → ¬ IsActCause job before (Feed a b feed speed tool) c
feed_has_no_cause job before a b feed speed tool Early right none =
    let (k, count, is) = right.current in
    let h = ap length none in
    omega arith
feed_has_no_cause job before a b feed speed tool OtherTool right (step, current, other) =
    other (right.rates.tool_is ∙ ap (λ (s : StepJob). s.tool) (one_step job before right.step step right.current current))
feed_has_no_cause job before a b feed speed tool OtherFeed right (step, current, other) =
    other (right.rates.feed_is ∙ ap (λ (s : StepJob). s.feed) (one_step job before right.step step right.current current))
feed_has_no_cause job before a b feed speed tool OtherSpeed right (step, current, other) =
    other (right.rates.speed_is ∙ ap (λ (s : StepJob). s.speed) (one_step job before right.step step right.current current))
feed_has_no_cause job before a b feed speed tool (Gouge c) right (step, current, first) =
    let same = one_step job before step right.step current right.current in
    let own = subst (λ (s : StepJob). IsMetForbidden job before s a b c) same first.holds in
    own.forbidden (right.allowed c own.met.left own.met.touched)
feed_has_no_cause job before a b feed speed tool (Deep c) right (step, current, (sideways, first)) =
    let same = one_step job before step right.step current right.current in
    let own = subst (λ (s : StepJob). IsMetDeep job before s a b c) same first.holds in
    ⊎_elim {C = ⊥} sideways (λ shallow. own.deep (shallow c own.met.left own.met.touched)) right.shallow
feed_has_no_cause job before a b feed speed tool c right h = h

pub right_acts_have_no_cause : RightActsHaveNoCause
right_acts_have_no_cause job before (Mark n) c right h = h.0
right_acts_have_no_cause job before (PutTool k) c right h = absurd h
right_acts_have_no_cause job before (Enter z) c right h = let low = h.1 in absurd (omega (arith, ints))
right_acts_have_no_cause job before (Locate p) c right h = let low = h.1 in absurd (omega (arith, ints))
right_acts_have_no_cause job before (Rapid a b tool) c right h = absurd (rapid_has_no_cause job before a b tool c right h)
right_acts_have_no_cause job before (Feed a b feed speed tool) c right h = absurd (feed_has_no_cause job before a b feed speed tool c right h)
right_acts_have_no_cause job before End c right h = absurd h

-- a wrong mark is a mark that does not name the next step
wrong_mark : (job : Job) (before : List Act) (act : Act) → IsActCause job before act WrongMark → (n : ℕ) × (act ≡ Mark n) × (¬ NamesNext job before n)
wrong_mark job before (Mark n) h = (n, refl, h.1)
wrong_mark job before (PutTool k) h = absurd h
wrong_mark job before (Enter z) h = let k = ap rank h.0 in absurd (omega arith)
wrong_mark job before (Locate p) h = let k = ap rank h.0 in absurd (omega arith)
wrong_mark job before (Rapid a b tool) h = absurd h
wrong_mark job before (Feed a b feed speed tool) h = absurd h
wrong_mark job before End h = absurd h

-- the marks of good acts name their steps
marks_name : (job : Job) (acts front back : List Act) (n : ℕ) → marks acts ≡ map (λ step. step.ws) job.steps → acts ≡ front ++ Mark n ∷ back → NamesNext job front n
marks_name job acts front back n marked is =
    let there : marks front ++ n ∷ marks back ≡ map (λ (step : StepJob). step.ws) job.steps = sym (marks_append front (Mark n ∷ back)) ∙ sym (ap marks is) ∙ marked in
    names_next job front n (subst (λ (l : List ℕ). slice_get l (length (marks front)) ≡ Some n) there (stands_here (marks front) (marks back) n))

pub good_acts_have_no_cause : GoodActsHaveNoCause
good_acts_have_no_cause job acts good cause h =
    let wrong = right_acts_have_no_cause job h.front h.act cause (good.right h.front h.act h.back h.all) h.causes in
    let (n, is, other) = wrong_mark job h.front h.act (subst (λ (c : Cause). IsActCause job h.front h.act c) wrong h.causes) in
    other (marks_name job acts h.front h.back n good.marked (subst (λ (a : Act). acts ≡ h.front ++ a ∷ h.back) is h.all))

pub means_right : (job : Job) (program : List ℕ) (acts : List Act) → Means program acts → AreGood job acts → MeansRight job program acts
means_right job program acts means good = record { means = means; right = good_acts_have_no_cause job acts good }

pub marks_all : (job : Job) (program : List ℕ) (acts : List Act) → Means program acts → AreGood job acts → MarksAll job program acts
marks_all job program acts means good = record {
  ends = record { means = means_right job program acts means good; ends = good.ends };
  marked = ap length good.marked ∙ length-map job.steps (λ (step : StepJob). step.ws);
}

pub good_programs_have_no_fault : LineFacts → GoodProgramsHaveNoFault
good_programs_have_no_fault facts job program n c (acts, means, good) f = not_at_fault facts job program acts n c (means_right job program acts means good) f

pub good_programs_do_all : GoodProgramsDoAll
good_programs_do_all job program (acts, means, good) = (acts, marks_all job program acts means good, good.finished)
