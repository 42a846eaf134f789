-- Acts without a cause are good, where each motion was searched.
use Rattle.std.proofs.Common.{ℕ, ◌+◌, ◌≤◌, ◌≡◌, ⊎_elim, None, Some, List, [], ◌∷◌, ◌++◌, length, slice_get, refl, sym, ap, subst, ◌∙◌, arith, append_assoc, append-nil, length-append, ◌-◌, ◌≢◌}
use Rattle.std.specs.Prelude.{map}
use Rattle.std.proofs.lemmas.Int.{by_lt_z}
use Rattle.std.proofs.lemmas.Bool.{cases_lt}
use Rattle.std.proofs.lemmas.List.{length-map}
use Rattle.std.proofs.lemmas.Option.{slice_get_cases, slice_get_within}
use Rattle.sn_geom.specs.declared.units.Pt3.{Pt3}
use Rattle.sn_geom.specs.Acts.{Act}
use Rattle.sn_geom.specs.Acts.Act.{Mark, PutTool, Enter, Locate, Rapid, Feed, End}
use Rattle.sn_outline.specs.Job.{Job}
use Rattle.sn_outline.specs.declared.job.StepJob.{StepJob}
use Rattle.sn_open.specs.Good.{marks, IsCurrent, IsJobTool, IsClear, StaysAllowed, StaysShallow, IsRight, IsRightRapid, IsRightFeed}
use Rattle.sn_open.specs.Verdict.{IsActCause, IsCauseAmong, AreRight, NamesNext}
use Rattle.sn_open.specs.VerdictLaws.{IsSearched, GoodIsWithoutCause}
use Rattle.sn_open.specs.declared.verdict.Cause.{Cause}
use Rattle.sn_open.specs.declared.verdict.Cause.TheVariants.{WrongMark, LowEntry, Early, OtherTool, OtherFeed, OtherSpeed, Gouge, Deep, Crash}
use Rattle.sn_open.proofs.ProgramLineLemmas.{cause_in_all}
use Rattle.sn_open.proofs.GoodActLemmas.{own_mark, stands_here, same_number, is_next, good_acts_have_no_cause}
use Rattle.sn_open.proofs.PassLemmas.{marks_append}

not_other : (m n : ℕ) → ¬ (m ≢ n) → m ≡ n
not_other m n same =
    ⊎_elim {C = m ≡ n} (λ less. absurd (same (λ e. omega arith)))
    (λ not_less. ⊎_elim {C = m ≡ n} (λ more. absurd (same (λ e. omega arith))) (λ not_more. omega arith) (cases_lt n m)) (cases_lt m n)

surely_next : (job : Job) (before : List Act) (n : ℕ) → ¬ (¬ NamesNext job before n) → NamesNext job before n
surely_next job before n h =
    let k = length (marks before) in
    ⊎_elim {C = NamesNext job before n}
    (λ (step, below, here, same). (step, here, not_other step.ws n (λ differ. h (λ (s, there, own). differ (sym (ap own_mark (same_one s step (sym there ∙ here))) ∙ own)))))
    (λ (past, none). absurd (h (λ (s, there, own). nothing s (sym none ∙ there))))
    (slice_get_cases job.steps k).1
  where
    same_one : (s t : StepJob) → Some s ≡ Some t → s ≡ t
    same_one s t e = cc

    nothing : (s : StepJob) → ¬ (None ≡ Some s)
    nothing s e = cc

abbrev numbers : Job → List ℕ
numbers job = map (λ (step : StepJob). step.ws) job.steps

-- the marks are the first numbers of the steps
abbrev AreFirst : Job → List ℕ → Type 0
AreFirst job named = (behind : List ℕ) × (numbers job ≡ named ++ behind)

begins_with : (xs tail : List ℕ) (n : ℕ) → slice_get (xs ++ tail) (length xs) ≡ Some n → (behind : List ℕ) × (tail ≡ n ∷ behind)
begins_with xs [] n is = let h = slice_get_within (xs ++ []) (length xs) n is in absurd (omega (arith, length-append xs []))
begins_with xs (t ∷ ts) n is =
    let same = same_number t n (sym (stands_here xs ts t) ∙ is) in
    (ts, λ i. same i ∷ ts)

one_more : (job : Job) (pre : List Act) (act : Act) → ((cause : Cause) → ¬ IsActCause job pre act cause) → AreFirst job (marks pre) → AreFirst job (marks (pre ++ act ∷ []))
one_more job pre (Mark n) none (tail, is) =
    let next = surely_next job pre n (λ other. none WrongMark (refl, other)) in
    let at = subst (λ (l : List ℕ). slice_get l (length (marks pre)) ≡ Some n) is (is_next job pre n next) in
    let (behind, tail_is) = begins_with (marks pre) tail n at in
    (behind, is ∙ ap (λ l. marks pre ++ l) tail_is ∙ sym (append_assoc (marks pre) (n ∷ []) behind) ∙ ap (λ l. l ++ behind) (sym (marks_append pre (Mark n ∷ []))))
one_more job pre act none (tail, is) = (tail, is ∙ ap (λ l. l ++ tail) (sym (append-nil (marks pre)) ∙ sym (marks_append pre (act ∷ []))))

from_later : (job : Job) (pre rest : List Act) (act : Act) (cause : Cause) → IsCauseAmong job (pre ++ act ∷ []) rest cause → IsCauseAmong job pre (act ∷ rest) cause
from_later job pre rest act cause h = record {
  front = act ∷ h.front;
  act = h.act;
  back = h.back;
  all = ap (λ l. act ∷ l) h.all;
  causes = subst (λ (l : List Act). IsActCause job l h.act cause) (append_assoc pre (act ∷ []) h.front) h.causes;
}

from_first : (job : Job) (pre rest : List Act) (act : Act) (cause : Cause) → IsActCause job pre act cause → IsCauseAmong job pre (act ∷ rest) cause
from_first job pre rest act cause h = record {
  front = [];
  act = act;
  back = rest;
  all = refl;
  causes = subst (λ (l : List Act). IsActCause job l act cause) (sym (append-nil pre)) h;
}

are_first : (job : Job) (pre rest : List Act) → ((cause : Cause) → ¬ IsCauseAmong job pre rest cause) → AreFirst job (marks pre) → AreFirst job (marks (pre ++ rest))
are_first job pre [] none first = subst (λ (l : List Act). AreFirst job (marks l)) (sym (append-nil pre)) first
are_first job pre (act ∷ rest) none first =
    let more = one_more job pre act (λ cause h. none cause (from_first job pre rest act cause h)) first in
    let all = are_first job (pre ++ act ∷ []) rest (λ cause h. none cause (from_later job pre rest act cause h)) more in
    subst (λ (l : List Act). AreFirst job (marks l)) (append_assoc pre (act ∷ []) rest) all

none_in_front : (job : Job) (acts front back : List Act) (cause : Cause) → acts ≡ front ++ back → AreRight job acts → ¬ IsCauseAmong job [] front cause
none_in_front job acts front back cause is right h =
    cause_in_all job acts [] front back cause is right h

current_step : (job : Job) (front : List Act) → AreFirst job (marks front) → ¬ (marks front ≡ []) → (step : StepJob) × IsCurrent job front step
current_step job front (behind, is) marked =
    let count = ap length is in
    let total = length-map job.steps (λ (step : StepJob). step.ws) in
    let joined = length-append (marks front) behind in
    let some = not_empty (marks front) marked in
    let k = length (marks front) - 1 in
    let up : length (marks front) ≡ k + 1 = omega arith in
    ⊎_elim {C = (step : StepJob) × IsCurrent job front step}
    (λ (step, below, here, same). (step, (k, up, here)))
    (λ (past, none). absurd (omega arith))
    (slice_get_cases job.steps k).1
  where
    not_empty : (l : List ℕ) → ¬ (l ≡ []) → 1 ≤ length l
    not_empty [] h = absurd (h refl)
    not_empty (x ∷ xs) h = omega arith

right_rapid : (job : Job) (front : List Act) (a b : Pt3) (tool : ℕ) → IsSearched job front (Rapid a b tool)
    → ((cause : Cause) → ¬ IsActCause job front (Rapid a b tool) cause) → IsRightRapid job front a b tool
right_rapid job front a b tool search none = record {
  tool_is = ⊎_elim {C = IsJobTool job tool} (λ zero_is. absurd (none OtherTool (λ own. let h = own.first in omega arith)))
      (λ some. ⊎_elim {C = IsJobTool job tool} (λ beyond. absurd (none OtherTool (λ own. let h = own.last in omega arith)))
      (λ within. record { first = some; last = within }) (cases_lt (length job.tools) tool)) (cases_lt tool 1);
  clear = ⊎_elim {C = IsClear job front a b tool} (λ clear. clear) (λ (c, first). absurd (none (Crash c) first)) (search.clear a b tool refl);
}

right_feed : (job : Job) (front : List Act) (a b : Pt3) (feed speed tool : ℕ) (step : StepJob) → IsCurrent job front step
    → IsSearched job front (Feed a b feed speed tool) → ((cause : Cause) → ¬ IsActCause job front (Feed a b feed speed tool) cause)
    → IsRightFeed job front a b feed speed tool
right_feed job front a b feed speed tool step current search none = record {
  step = step;
  current = current;
  rates = record {
    tool_is = not_other tool step.tool (λ other. none OtherTool (step, current, other));
    feed_is = not_other feed step.feed (λ other. none OtherFeed (step, current, other));
    speed_is = not_other speed step.speed (λ other. none OtherSpeed (step, current, other));
  };
  allowed = ⊎_elim {C = StaysAllowed job front step a b} (λ stays. stays) (λ (c, first). absurd (none (Gouge c) (step, current, first)))
      (search.allowed a b feed speed tool step refl);
  shallow = ⊎_elim {C = StaysShallow job front step a b} (λ stays. stays) (λ (sideways, (c, first)). absurd (none (Deep c) (step, current, (sideways, first))))
      (search.shallow a b feed speed tool step refl);
}

right_act : (job : Job) (front : List Act) (act : Act) → AreFirst job (marks front) → IsSearched job front act → ((cause : Cause) → ¬ IsActCause job front act cause)
    → IsRight job front act
right_act job front (Mark n) first search none = tt
right_act job front (PutTool k) first search none = tt
right_act job front (Enter z) first search none = by_lt_z z job.sec (λ low. absurd (none LowEntry (refl, low))) (λ high. high)
right_act job front (Locate p) first search none = by_lt_z p.z job.sec (λ low. absurd (none LowEntry (refl, low))) (λ high. high)
right_act job front (Rapid a b tool) first search none = right_rapid job front a b tool search none
right_act job front (Feed a b feed speed tool) first search none =
    let (step, current) = current_step job front first (λ empty. none Early empty) in
    right_feed job front a b feed speed tool step current search none
right_act job front End first search none = tt

all_named : (job : Job) (acts : List Act) → length (marks acts) ≡ length job.steps → AreFirst job (marks acts) → marks acts ≡ map (λ step. step.ws) job.steps
all_named job acts count ([], is) = sym (append-nil (marks acts)) ∙ sym is
all_named job acts count (n ∷ behind, is) =
    let h = ap length is in
    let total = length-map job.steps (λ (step : StepJob). step.ws) in
    absurd (omega (arith, length-append (marks acts) (n ∷ behind)))

pub good_is_without_cause : GoodIsWithoutCause
good_is_without_cause job acts searched = (
  λ good. (good_acts_have_no_cause job acts good, good.ends, ap length good.marked ∙ length-map job.steps (λ (step : StepJob). step.ws), good.finished),
  λ (right, ends, count, finished). record {
    ends = ends;
    marked = all_named job acts count (are_first job [] acts right (numbers job, refl));
    right = λ front act back is.
        right_act job front act
        (are_first job [] front (λ cause h. none_in_front job acts front (act ∷ back) cause is right h) (numbers job, refl))
        (searched front back act is)
        (λ cause h. right cause (record { front = front; act = act; back = back; all = is; causes = h }));
    finished = finished;
  },
)
