-- Acts without a cause are good, where the program ends, all steps are marked and nothing that has to be cut is left.
use Rattle.std.proofs.Common.{ℕ, ◌+◌, ◌-◌, ◌<◌, ◌≤◌, ◌≡◌, ◌≢◌, ◌⊎◌, inl, inr, ⊎_elim, None, Some, List, [], ◌∷◌, ◌++◌, length, slice_get, ℤ, pos, ◌+ℤ◌, refl, sym, ap, subst, ◌∙◌, arith, append_assoc, append-nil, length-append}
use Rattle.std.specs.Prelude.{map, Contains}
use Rattle.std.specs.Option.{option_map}
use Rattle.std.proofs.lemmas.Int.{by_lt_z}
use Rattle.std.proofs.lemmas.Bool.{cases_lt}
use Rattle.std.proofs.lemmas.List.{length-map}
use Rattle.std.proofs.lemmas.Option.{slice_get_cases, slice_get_within, slice_get-map, slice_get-get_or}
use Rattle.std.proofs.Math.Seq.{get_or-append_seam}
use Rattle.sn_geom.proofs.Ring.{sums}
use Rattle.sn_geom.specs.declared.units.Cell.{Cell}
use Rattle.sn_geom.specs.declared.units.Pt3.{Pt3}
use Rattle.sn_geom.specs.Acts.{Act}
use Rattle.sn_geom.specs.Acts.Act.{Mark, PutTool, Enter, Locate, Rapid, Feed, End}
use Rattle.sn_geom.specs.Sweep.{IsVertical}
use Rattle.sn_outline.specs.Job.{Job}
use Rattle.sn_outline.specs.declared.job.StepJob.{StepJob}
use Rattle.sn_raster.specs.Grid.{Grid, IsGridOf}
use Rattle.sn_raster.specs.GridLaws.{RawNodesAreTheJobs}
use Rattle.sn_raster.specs.Heights.{IsFirst, IsRawCell, node_of}
use Rattle.sn_open.specs.Region.{IsRequiredCell}
use Rattle.sn_open.specs.Good.{marks, IsCurrent, IsLeft, IsJobTool, IsClear, StaysAllowed, IsShallow, StaysShallow, IsRight, IsRightRapid, IsRightFeed, AreGood}
use Rattle.sn_open.specs.Verdict.{IsActCause, AreRight, NamesNext, IsMetForbidden, IsMetDeep, IsMetInRapid}
use Rattle.sn_open.specs.declared.verdict.Cause.{Cause}
use Rattle.sn_open.specs.declared.verdict.Cause.TheVariants.{WrongMark, LowEntry, Early, OtherTool, OtherFeed, OtherSpeed, Gouge, Deep, Crash}
use Rattle.sn_open.proofs.PassLemmas.{marks_append}
use Rattle.sn_sweep.proofs.CellSearch.{IsFrom, no_cell}
use Rattle.sn_sweep.proofs.OutlineTests.{allowed_is_sure}

same_or_other : (m n : ℕ) → (m ≡ n) ⊎ (m ≢ n)
same_or_other m n =
    ⊎_elim (λ (less : m < n). inr (λ same. omega arith)) (λ (from : n ≤ m). ⊎_elim (λ (more : n < m). inr (λ same. omega arith)) (λ (up_to : m ≤ n). inl (omega arith)) (cases_lt n m))
    (cases_lt m n)

not_other : (m n : ℕ) → ¬ (m ≢ n) → m ≡ n
not_other m n sure = ⊎_elim (λ (same : m ≡ n). same) (λ (other : m ≢ n). absurd (sure other)) (same_or_other m n)

integers : (a b : ℤ) → (a ≡ b) ⊎ (¬ (a ≡ b))
integers a b =
    by_lt_z a b (λ less. inr (λ same. absurd (omega (arith, sums))))
    (λ from. by_lt_z b a (λ more. inr (λ same. absurd (omega (arith, sums)))) (λ up_to. inl (omega (arith, sums))))

-- Marks.

abbrev numbers : Job → List ℕ
numbers job = map (λ (step : StepJob). step.ws) job.steps

same_step : (s t : StepJob) → Some s ≡ Some t → s ≡ t
same_step s t e = cc

no_step : (s : StepJob) → ¬ (None ≡ Some s)
no_step s e = cc

same_number : (m n : ℕ) → Some m ≡ Some n → m ≡ n
same_number m n e = cc

-- the number of the next step, where it is not refuted that the mark names it
next_number : (job : Job) (before : List Act) (n : ℕ) → ¬ (¬ NamesNext job before n) → slice_get (numbers job) (length (marks before)) ≡ Some n
next_number job before n sure =
    let k = length (marks before) in
    let at = slice_get-map (λ (step : StepJob). step.ws) job.steps k in
    ⊎_elim {C = slice_get (numbers job) k ≡ Some n}
    (λ (step, below, here, same).
    at ∙ ap (option_map (λ (step : StepJob). step.ws)) here
    ∙ ap Some (not_other step.ws n (λ differ. sure (λ (s, there, own). differ (ap (λ (t : StepJob). t.ws) (same_step step s (sym here ∙ there)) ∙ own)))))
    (λ (past, none). absurd (sure (λ (s, there, own). no_step s (sym none ∙ there))))
    (slice_get_cases job.steps k).1

-- the marks are the first numbers of the steps
abbrev AreFirst : Job → List ℕ → Type 0
AreFirst job named = (behind : List ℕ) × (numbers job ≡ named ++ behind)

stands_here : (xs ys : List ℕ) (n : ℕ) → slice_get (xs ++ n ∷ ys) (length xs) ≡ Some n
stands_here xs ys n = slice_get-get_or (xs ++ n ∷ ys) (length xs) n (omega (arith, length-append xs (n ∷ ys))) ∙ ap Some (get_or-append_seam xs n ys n)

begins_with : (xs tail : List ℕ) (n : ℕ) → slice_get (xs ++ tail) (length xs) ≡ Some n → (behind : List ℕ) × (tail ≡ n ∷ behind)
begins_with xs [] n is = let h = slice_get_within (xs ++ []) (length xs) n is in absurd (omega (arith, length-append xs []))
begins_with xs (t ∷ ts) n is =
    let same = same_number t n (sym (stands_here xs ts t) ∙ is) in
    (ts, λ i. same i ∷ ts)

one_more : (job : Job) (pre : List Act) (act : Act) → ((cause : Cause) → ¬ IsActCause job pre act cause) → AreFirst job (marks pre) → AreFirst job (marks (pre ++ act ∷ []))
one_more job pre (Mark n) none (tail, is) =
    let next = next_number job pre n (λ other. none WrongMark (refl, other)) in
    let at = subst (λ (l : List ℕ). slice_get l (length (marks pre)) ≡ Some n) is next in
    let (behind, tail_is) = begins_with (marks pre) tail n at in
    (behind, is ∙ ap (λ l. marks pre ++ l) tail_is ∙ sym (append_assoc (marks pre) (n ∷ []) behind) ∙ ap (λ l. l ++ behind) (sym (marks_append pre (Mark n ∷ []))))
one_more job pre act none (tail, is) = (tail, is ∙ ap (λ l. l ++ tail) (sym (append-nil (marks pre)) ∙ sym (marks_append pre (act ∷ []))))

-- none of the acts has a cause after those before them
abbrev HaveNoCause : Job → List Act → List Act → Type 0
HaveNoCause job before acts = (front : List Act) (act : Act) (back : List Act) → acts ≡ front ++ act ∷ back → (cause : Cause) → ¬ IsActCause job (before ++ front) act cause

are_first : (job : Job) (before acts : List Act) → HaveNoCause job before acts → AreFirst job (marks before) → AreFirst job (marks (before ++ acts))
are_first job before [] none first = subst (λ (l : List Act). AreFirst job (marks l)) (sym (append-nil before)) first
are_first job before (act ∷ acts) none first =
    let here = λ (cause : Cause) (h : IsActCause job before act cause).
    none [] act acts refl cause (subst (λ (l : List Act). IsActCause job l act cause) (sym (append-nil before)) h) in
    let all = are_first job (before ++ act ∷ []) acts
    (λ front other back is cause h.
    none (act ∷ front) other back (ap (λ l. act ∷ l) is) cause (subst (λ (l : List Act). IsActCause job l other cause) (append_assoc before (act ∷ []) front) h))
    (one_more job before act here first) in
    subst (λ (l : List Act). AreFirst job (marks l)) (append_assoc before (act ∷ []) acts) all

all_named : (job : Job) (acts : List Act) → length (marks acts) ≡ length job.steps → AreFirst job (marks acts) → marks acts ≡ map (λ step. step.ws) job.steps
all_named job acts count ([], is) = sym (append-nil (marks acts)) ∙ sym is
all_named job acts count (n ∷ behind, is) =
    let h = ap length is in
    let total = length-map job.steps (λ (step : StepJob). step.ws) in
    absurd (omega (arith, length-append (marks acts) (n ∷ behind)))

-- where not more are marked than there are steps, the last mark has its step
current_step : (job : Job) (front : List Act) → length (marks front) ≤ length job.steps → ¬ (marks front ≡ []) → (step : StepJob) × IsCurrent job front step
current_step job front within marked =
    let some = not_empty (marks front) marked in
    let k = length (marks front) - 1 in
    let up : length (marks front) ≡ k + 1 = omega arith in
    ⊎_elim {C = (step : StepJob) × IsCurrent job front step} (λ (step, below, here, same). (step, (k, up, here))) (λ (past, none). absurd (omega arith)) (slice_get_cases job.steps k).1
  where
    not_empty : (l : List ℕ) → ¬ (l ≡ []) → 1 ≤ length l
    not_empty [] h = absurd (h refl)
    not_empty (x ∷ xs) h = omega arith

-- Motions.

-- What bounds the raw cells of a job.
pub record HasRawEnds (job : Job) (i j z : ℤ) : Type 0 where
  pub raw : (c : Cell) → IsRawCell job c → IsFrom i j z c

pub raw_ends : RawNodesAreTheJobs → (job : Job) (g : Grid) → 0 < job.pitch → IsGridOf g job → HasRawEnds job g.ri0 g.rj0 job.low.z
raw_ends law job g pitch of = record {
  raw = λ c raw_cell.
      let inside = (law g job (node_of c) pitch of).1 raw_cell.node in
      record { column = inside.left; row = inside.front; height = raw_cell.above };
}

shallow_is_sure : (step : StepJob) (a b : Pt3) (c : Cell) → ¬ (¬ IsShallow step a b c) → IsShallow step a b c
shallow_is_sure step a b c sure = (
  by_lt_z c.z (a.z +ℤ pos step.body.e +ℤ pos step.axial) (λ less. less) (λ from. absurd (sure (λ shallow. let less = shallow.0 in omega (arith, sums)))),
  by_lt_z c.z (b.z +ℤ pos step.body.e +ℤ pos step.axial) (λ less. less) (λ from. absurd (sure (λ shallow. let less = shallow.1 in omega (arith, sums)))),
)

module _ (job : Job) (i j z : ℤ) (ends : HasRawEnds job i j z) (front : List Act) where
  stays_allowed : (step : StepJob) (a b : Pt3) → ((c : Cell) → ¬ IsFirst (IsMetForbidden job front step a b) c) → StaysAllowed job front step a b
  stays_allowed step a b none c left touched =
      allowed_is_sure job step c
      (λ forbidden.
      no_cell (IsMetForbidden job front step a b) i j z (λ c met. ends.raw c met.met.left.raw) none c
      (record { met = record { left = left; touched = touched }; forbidden = forbidden }))

  stays_shallow : (step : StepJob) (a b : Pt3) → ((c : Cell) → ¬ ((¬ IsVertical a b) × IsFirst (IsMetDeep job front step a b) c)) → StaysShallow job front step a b
  stays_shallow step a b none =
      ⊎_elim (λ (same_x : a.x ≡ b.x). ⊎_elim (λ (same_y : a.y ≡ b.y). inl (same_x, same_y)) (λ (other_y : ¬ (a.y ≡ b.y)). sideways (λ vertical. other_y vertical.1)) (integers a.y b.y))
      (λ (other_x : ¬ (a.x ≡ b.x)). sideways (λ vertical. other_x vertical.0)) (integers a.x b.x)
    where
      sideways : ¬ IsVertical a b → StaysShallow job front step a b
      sideways not_vertical =
          inr (λ c left touched.
          shallow_is_sure step a b c
          (λ deep.
          no_cell (IsMetDeep job front step a b) i j z (λ c met. ends.raw c met.met.left.raw) (λ c first. none c (not_vertical, first)) c
          (record { met = record { left = left; touched = touched }; deep = deep })))

  is_clear : (a b : Pt3) (tool : ℕ) → ((c : Cell) → ¬ IsFirst (IsMetInRapid job front a b tool) c) → IsClear job front a b tool
  is_clear a b tool none step executed own c left touched =
      no_cell (IsMetInRapid job front a b tool) i j z (λ c met. ends.raw c met.met.left.raw) none c
      (record { step = step; executed = executed; own = own; met = record { left = left; touched = touched } })

  right_rapid : (a b : Pt3) (tool : ℕ) → ((cause : Cause) → ¬ IsActCause job front (Rapid a b tool) cause) → IsRightRapid job front a b tool
  right_rapid a b tool none = record {
    tool_is = ⊎_elim {C = IsJobTool job tool} (λ zero_is. absurd (none OtherTool (λ own. let h = own.first in omega arith)))
        (λ some. ⊎_elim {C = IsJobTool job tool} (λ beyond. absurd (none OtherTool (λ own. let h = own.last in omega arith)))
        (λ within. record { first = some; last = within }) (cases_lt (length job.tools) tool)) (cases_lt tool 1);
    clear = is_clear a b tool (λ c first. none (Crash c) first);
  }

  right_feed : (a b : Pt3) (feed speed tool : ℕ) (step : StepJob) → IsCurrent job front step
      → ((cause : Cause) → ¬ IsActCause job front (Feed a b feed speed tool) cause) → IsRightFeed job front a b feed speed tool
  right_feed a b feed speed tool step current none = record {
    step = step;
    current = current;
    rates = record {
      tool_is = not_other tool step.tool (λ other. none OtherTool (step, current, other));
      feed_is = not_other feed step.feed (λ other. none OtherFeed (step, current, other));
      speed_is = not_other speed step.speed (λ other. none OtherSpeed (step, current, other));
    };
    allowed = stays_allowed step a b (λ c first. none (Gouge c) (step, current, first));
    shallow = stays_shallow step a b (λ c deep. none (Deep c) (step, current, deep));
  }

  right_act : (act : Act) → length (marks front) ≤ length job.steps → ((cause : Cause) → ¬ IsActCause job front act cause) → IsRight job front act
  right_act (Mark n) within none = tt
  right_act (PutTool k) within none = tt
  right_act (Enter h) within none = by_lt_z h job.sec (λ low. absurd (none LowEntry (refl, low))) (λ high. high)
  right_act (Locate p) within none = by_lt_z p.z job.sec (λ low. absurd (none LowEntry (refl, low))) (λ high. high)
  right_act (Rapid a b tool) within none = right_rapid a b tool none
  right_act (Feed a b feed speed tool) within none =
      let (step, current) = current_step job front within (λ empty. none Early empty) in
      right_feed a b feed speed tool step current none
  right_act End within none = tt

-- The whole.

no_cause : (job : Job) (acts : List Act) → AreRight job acts → HaveNoCause job [] acts
no_cause job acts right front act back is cause h = right cause (record { front = front; act = act; back = back; all = is; causes = h })

in_front : (acts front back : List Act) (act : Act) → acts ≡ front ++ act ∷ back → length (marks front) ≤ length (marks acts)
in_front acts front back act is =
    let all = ap length (ap marks is ∙ marks_append front (act ∷ back)) in
    omega (arith, length-append (marks front) (marks (act ∷ back)))

pub good_acts : (job : Job) (i j z : ℤ) (acts : List Act) → HasRawEnds job i j z → AreRight job acts → Contains acts End → length (marks acts) ≡ length job.steps
    → ((feature : ℕ) (c : Cell) → IsRequiredCell job feature c → ¬ IsLeft job acts c) → AreGood job acts
good_acts job i j z acts ends right ended count finished = record {
  ends = ended;
  marked = all_named job acts count (are_first job [] acts (no_cause job acts right) (numbers job, refl));
  right = λ front act back is.
      let few = in_front acts front back act is in
      right_act job i j z ends front act (omega arith) (λ cause h. no_cause job acts right front act back is cause h);
  finished = finished;
}
