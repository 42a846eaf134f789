-- The laws of the verdict.
use Rattle.std.proofs.Common.{ℕ, ◌≤◌, ◌<◌, ◌≡◌, ⊎_elim, Some, List, [], ◌∷◌, ◌++◌, length, slice_get, refl, sym, ap, subst, ◌∙◌, arith, length-append}
use Rattle.std.specs.Prelude.{Contains}
use Rattle.std.proofs.lemmas.Bool.{cases_lt}
use Rattle.std.proofs.lemmas.Option.{slice_get_within}
use Rattle.sn_geom.specs.declared.units.Cell.{Cell}
use Rattle.sn_open.specs.Region.{IsRequiredCell}
use Rattle.sn_raster.specs.Heights.{IsFirst}
use Rattle.sn_geom.specs.Acts.{Act, RunsTo}
use Rattle.sn_geom.specs.Acts.Act.{End}
use Rattle.sn_geom.specs.Block.{Block, lines_of}
use Rattle.sn_geom.specs.LineTextLaws.{HasOneBlock}
use Rattle.sn_geom.specs.Machine.{start}
use Rattle.sn_geom.specs.Meaning.{Means}
use Rattle.sn_outline.specs.Job.{Job}
use Rattle.sn_outline.specs.declared.job.StepJob.{StepJob}
use Rattle.sn_open.specs.Good.{marks, IsLeft, Good}
use Rattle.sn_open.specs.Verdict.{MeansRight, EndsRight, MarksAll, IsFirstLeft, IsVerdict, IsRequiredLeft, NamesNext}
use Rattle.sn_open.specs.VerdictLaws.{ProgramsHaveOneVerdict, NoLinesNoEnd, EndsAndMarksAreMissed, FeaturesGoByTheirSteps}
use Rattle.sn_open.specs.declared.verdict.Verdict.{Verdict}
use Rattle.sn_open.specs.declared.verdict.Verdict.TheVariants.{Yes, Line, NoEnd, Missing, Uncovered}
use Rattle.sn_open.proofs.CellLemmas.{one_first_cell}
use Rattle.sn_open.proofs.CauseLemmas.{LineFacts}
use Rattle.sn_open.proofs.ProgramLineLemmas.{same_blocks, same_acts, not_at_fault, one_at_fault}
use Rattle.sn_open.proofs.GoodActLemmas.{names_next, means_right, marks_all}

-- One verdict.

abbrev stage : Verdict → ℕ
stage (Line n c) = 0
stage NoEnd = 1
stage (Missing ws) = 2
stage (Uncovered feature c) = 3
stage Yes = 4

-- what each stage knows of the whole program
means_of : (job : Job) (program : List ℕ) (v : Verdict) → 1 ≤ stage v → IsVerdict job program v → (acts : List Act) × MeansRight job program acts
means_of job program Yes past (acts, means, good) = (acts, means_right job program acts means good)
means_of job program NoEnd past (acts, m, none) = (acts, m)
means_of job program (Missing ws) past (acts, m, next) = (acts, m.means)
means_of job program (Uncovered feature c) past (acts, m, first) = (acts, m.ends.means)
means_of job program (Line n c) past h = absurd (omega arith)

ends_of : (job : Job) (program : List ℕ) (v : Verdict) → 2 ≤ stage v → IsVerdict job program v → (acts : List Act) × EndsRight job program acts
ends_of job program Yes past (acts, means, good) = (acts, (marks_all job program acts means good).ends)
ends_of job program NoEnd past h = absurd (omega arith)
ends_of job program (Missing ws) past (acts, m, next) = (acts, m)
ends_of job program (Uncovered feature c) past (acts, m, first) = (acts, m.ends)
ends_of job program (Line n c) past h = absurd (omega arith)

marks_of : (job : Job) (program : List ℕ) (v : Verdict) → 3 ≤ stage v → IsVerdict job program v → (acts : List Act) × MarksAll job program acts
marks_of job program Yes past (acts, means, good) = (acts, marks_all job program acts means good)
marks_of job program NoEnd past h = absurd (omega arith)
marks_of job program (Missing ws) past h = absurd (omega arith)
marks_of job program (Uncovered feature c) past (acts, m, first) = (acts, m)
marks_of job program (Line n c) past h = absurd (omega arith)

good_of : (job : Job) (program : List ℕ) (v : Verdict) → 4 ≤ stage v → IsVerdict job program v → Good job program
good_of job program Yes past h = h
good_of job program NoEnd past h = absurd (omega arith)
good_of job program (Missing ws) past h = absurd (omega arith)
good_of job program (Uncovered feature c) past h = absurd (omega arith)
good_of job program (Line n c) past h = absurd (omega arith)

one_meaning : HasOneBlock → (program : List ℕ) (some others : List Act) → Means program some → Means program others → some ≡ others
one_meaning one program some others p q =
    let same = same_blocks one (lines_of program) p.blocks q.blocks p.says q.says in
    same_acts start p.blocks some others p.runs (subst (λ (blocks : List Block). RunsTo start blocks others) (sym same) q.runs)

none_next : (job : Job) (acts : List Act) (n : ℕ) → length (marks acts) ≡ length job.steps → ¬ NamesNext job acts n
none_next job acts n marked (step, here, own) = let h = slice_get_within job.steps (length (marks acts)) step here in omega arith

apart : LineFacts → (job : Job) (program : List ℕ) (v w : Verdict) → IsVerdict job program v → IsVerdict job program w → stage v < stage w → ⊥
apart facts job program (Line n c) w h k before =
    let (acts, m) = means_of job program w (omega arith) k in
    not_at_fault facts job program acts n c m h
apart facts job program NoEnd w (acts, m, none) k before =
    let (others, e) = ends_of job program w (omega arith) k in
    none (subst (λ (l : List Act). Contains l End) (one_meaning facts.one_block program others acts e.means.means m.means) e.ends)
apart facts job program (Missing ws) w (acts, m, next) k before =
    let (others, e) = marks_of job program w (omega arith) k in
    none_next job acts ws
    (subst (λ (l : List Act). length (marks l) ≡ length job.steps) (one_meaning facts.one_block program others acts e.ends.means.means m.means.means) e.marked) next
apart facts job program (Uncovered feature c) w (acts, m, first) k before =
    let (others, means, good) = good_of job program w (omega arith) k in
    let required = first.first.holds in
    let left = subst (λ (l : List Act). IsLeft job l c) (one_meaning facts.one_block program acts others m.ends.means.means means) required.left in
    good.finished feature c required.required left
apart facts job program Yes w h k before = absurd (omega (arith, last_stage w))
  where
    last_stage : (w : Verdict) → stage w ≤ 4
    last_stage (Line n c) = omega arith
    last_stage NoEnd = omega arith
    last_stage (Missing ws) = omega arith
    last_stage (Uncovered feature c) = omega arith
    last_stage Yes = omega arith

one_next : (job : Job) (acts : List Act) (m n : ℕ) → NamesNext job acts m → NamesNext job acts n → m ≡ n
one_next job acts m n (s, here, own) (t, here', own') = cc

-- of the places of two first features neither is before the other
no_earlier : (job : Job) (acts : List Act) (f g : ℕ) (c d : Cell) (p : IsFirstLeft job acts f c) (q : IsFirstLeft job acts g d) → ¬ (p.place < q.place)
no_earlier job acts f g c d p q before =
    q.earlier p.place p.step before p.executed c (subst (λ n. IsRequiredLeft job acts n c) (sym p.own) p.first.holds)

one_left : (job : Job) (acts : List Act) (f g : ℕ) (c d : Cell) → IsFirstLeft job acts f c → IsFirstLeft job acts g d → (f ≡ g) × (c ≡ d)
one_left job acts f g c d p q =
    let not_p = no_earlier job acts f g c d p q in
    let not_q = no_earlier job acts g f d c q p in
    let place : p.place ≡ q.place = one_place p.place q.place not_p not_q in
    let there = subst (λ n. slice_get job.steps n ≡ Some p.step) place p.executed in
    let step : p.step ≡ q.step = same_step p.step q.step (sym there ∙ q.executed) in
    let feature : f ≡ g = sym p.own ∙ ap (λ (s : StepJob). s.feature) step ∙ q.own in
    (feature, one_first_cell (IsRequiredLeft job acts f) c d p.first (subst (λ n. IsFirst (IsRequiredLeft job acts n) d) (sym feature) q.first))
  where
    one_place : (m n : ℕ) → ¬ (m < n) → ¬ (n < m) → m ≡ n
    one_place m n not_m not_n = omega arith

    same_step : (s t : StepJob) → Some s ≡ Some t → s ≡ t
    same_step s t e = cc

one_at_stage : LineFacts → (job : Job) (program : List ℕ) (v w : Verdict) → stage v ≡ stage w → IsVerdict job program v → IsVerdict job program w → v ≡ w
one_at_stage facts job program (Line n c) (Line n' c') e h k =
    let (lines, causes) = one_at_fault facts job program n n' c c' h k in
    λ i. Line (lines i) (causes i)
one_at_stage facts job program NoEnd NoEnd e h k = refl
one_at_stage facts job program (Missing m) (Missing n) e (acts, p, next) (others, q, next') =
    let same = one_meaning facts.one_block program others acts q.means.means p.means.means in
    ap Missing (one_next job acts m n next (subst (λ (l : List Act). NamesNext job l n) same next'))
one_at_stage facts job program (Uncovered f c) (Uncovered g d) e (acts, p, first) (others, q, first') =
    let same = one_meaning facts.one_block program others acts q.ends.means.means p.ends.means.means in
    let (features, cells) = one_left job acts f g c d first (subst (λ (l : List Act). IsFirstLeft job l g d) same first') in
    λ i. Uncovered (features i) (cells i)
one_at_stage facts job program Yes Yes e h k = refl
one_at_stage facts job program v w e h k = absurd (omega arith)

pub programs_have_one_verdict : LineFacts → ProgramsHaveOneVerdict
programs_have_one_verdict facts job program some other h k =
    ⊎_elim {C = some ≡ other}
    (λ before. absurd (apart facts job program some other h k before))
    (λ not_before. ⊎_elim {C = some ≡ other}
    (λ after. absurd (apart facts job program other some k h after))
    (λ not_after. one_at_stage facts job program some other (omega arith) h k)
    (cases_lt (stage other) (stage some)))
    (cases_lt (stage some) (stage other))

-- A program without lines.

pub no_lines_no_end : NoLinesNoEnd
no_lines_no_end job = (
  [],
  record {
    means = record { blocks = []; says = tt; runs = refl };
    right = λ cause h. none_among h.front h.back h.act h.all;
  },
  λ (k, below, is). none_below k below,
)
  where
    none_among : (front back : List Act) (act : Act) → [] ≡ front ++ act ∷ back → ⊥
    none_among front back act e = let h = ap length e in omega (arith, length-append front (act ∷ back))

    none_below : (k : ℕ) → k < length {A = Act} [] → ⊥
    none_below k below = omega arith

-- Stages.

pub ends_and_marks_are_missed : EndsAndMarksAreMissed
ends_and_marks_are_missed job program acts (means, right) = (
  λ none. (acts, record { means = means; right = right }, none),
  λ ws ends is. (acts, record { means = record { means = means; right = right }; ends = ends }, names_next job acts ws is),
)

left_too : (job : Job) (acts : List Act) (feature : ℕ) (c : Cell) → IsFirst (λ c. IsRequiredCell job feature c × IsLeft job acts c) c → IsFirst (IsRequiredLeft job acts feature) c
left_too job acts feature c f = record {
  holds = record { required = f.holds.0; left = f.holds.1 };
  first = λ other h. f.first other (h.required, h.left);
}

pub features_go_by_their_steps : FeaturesGoByTheirSteps
features_go_by_their_steps job program acts a b c (means, right) ends steps marked =
    let all : MarksAll job program acts =
    record { ends = record { means = record { means = means; right = right }; ends = ends }; marked = marked ∙ sym (ap length steps) } in (
      λ first. (
        acts,
        all,
        record {
          place = 0;
          step = a;
          executed = ap (λ l. slice_get l 0) steps;
          own = refl;
          earlier = λ k other before is c' h. none_below k before;
          first = left_too job acts a.feature c first;
        },
      ),
      λ none first. (
        acts,
        all,
        record {
          place = 1;
          step = b;
          executed = ap (λ l. slice_get l 1) steps;
          own = refl;
          earlier = λ k other before is c' h.
              let zero_is : k ≡ 0 = below_one k before in
              let at = subst (λ n. slice_get job.steps n ≡ Some other) zero_is is in
              let same = same_step a other (sym (ap (λ l. slice_get l 0) steps) ∙ at) in
              let own = subst (λ (s : StepJob). IsRequiredLeft job acts s.feature c') (sym same) h in
              none c' own.required own.left;
          first = left_too job acts b.feature c first;
        },
      ),
    )
  where
    none_below : (k : ℕ) → k < 0 → ⊥
    none_below k before = omega arith

    below_one : (k : ℕ) → k < 1 → k ≡ 0
    below_one k before = omega arith

    same_step : (s t : StepJob) → Some s ≡ Some t → s ≡ t
    same_step s t e = cc
