-- What texts of lines mean, whole and in pieces.
use Rattle.std.proofs.Common.{◌≡◌, ℕ, zero, suc, ◌==◌, Bool, true, false, Option, Some, None, List, [], ◌∷◌, ◌++◌, length, refl, sym, ◌∙◌, ap, subst, arith, append_assoc, length-append, ⊎_elim, inl, inr}
use Rattle.std.specs.Prelude.{◌||◌, Contains, is_some}
use Rattle.sn_geom.specs.declared.machine.Acts.{Acts}
use Rattle.sn_geom.specs.declared.machine.MachFault.{MachFault}
use Rattle.sn_geom.specs.declared.machine.MachFault.TheVariants.{AfterEnd}
use Rattle.sn_geom.specs.declared.machine.Word.{Word}
use Rattle.sn_geom.specs.Acts.{Act, act_list, RunsTo}
use Rattle.sn_geom.specs.Block.{Block, lines_of, with_byte}
use Rattle.sn_geom.specs.LineText.{LineText}
use Rattle.sn_geom.specs.Machine.{State, start, fault_of, acts_of, state_after, state_after_all, Runs}
use Rattle.sn_geom.specs.Meaning.{AreBlocks, MeansFrom, IsWholeLines}
use Rattle.sn_geom.specs.MeaningLaws.{ActsHaveAnOrder, ActsAreJoined, joined_acts, TextsHaveOneMeaning, ProgramsMeanFromTheStart, ProgramsHaveOneMeaning, LinesAreSplit, WholeLinesEnd, NothingMeansNothing, MeansInTurn, MeaningsAreInPieces, FaultyTextsMeanNothing, EndedTextsDoNothing}
use Rattle.sn_geom.proofs.LineReadings.{one_block}

-- ---- lines

by_test : (b : Bool) (R : Type 0) → (b ≡ true → R) → (b ≡ false → R) → R
by_test true R met other = met refl
by_test false R met other = other refl

-- lines of which the first is known
record HasLine (lines : List (List ℕ)) : Type 0 where
  pub line : List ℕ
  pub later : List (List ℕ)
  pub are : lines ≡ line ∷ later

has_line : (xs : List ℕ) → HasLine (lines_of (xs ++ 10 ∷ []))
has_line [] = record { line = []; later = []; are = refl }
has_line (x ∷ xs) =
    let rest = has_line xs in
    by_test (x == 10) (HasLine (lines_of (x ∷ (xs ++ 10 ∷ []))))
    (λ feed. record { line = []; later = lines_of (xs ++ 10 ∷ []); are = rw feed refl })
    (λ other. record { line = x ∷ rest.line; later = rest.later; are = rw (other, rest.are) refl })

byte_before : (byte : ℕ) (some others : List (List ℕ)) → HasLine some → with_byte byte (some ++ others) ≡ with_byte byte some ++ others
byte_before byte some others h = rw h.are refl

feed_lines : (xs back : List ℕ) → lines_of ((xs ++ 10 ∷ []) ++ back) ≡ lines_of (xs ++ 10 ∷ []) ++ lines_of back
feed_lines [] back = refl
feed_lines (x ∷ xs) back =
    let rest = feed_lines xs back in
    by_test (x == 10) (lines_of ((x ∷ (xs ++ 10 ∷ [])) ++ back) ≡ lines_of (x ∷ (xs ++ 10 ∷ [])) ++ lines_of back)
    (λ feed. rw feed (ap (λ lines. [] ∷ lines) rest))
    (λ other. rw other (ap (with_byte x) rest ∙ byte_before x (lines_of (xs ++ 10 ∷ [])) (lines_of back) (has_line xs)))

pub lines_in_pieces : (front back : List ℕ) → IsWholeLines front → lines_of (front ++ back) ≡ lines_of front ++ lines_of back
lines_in_pieces front back whole =
    ⊎_elim {C = lines_of (front ++ back) ≡ lines_of front ++ lines_of back}
    (λ none. rw none refl)
    (λ (line, ends). subst (λ (text : List ℕ). lines_of (text ++ back) ≡ lines_of text ++ lines_of back) (sym ends) (feed_lines line back))
    whole

-- the last byte, where there is one
abbrev last_of : ℕ → List ℕ → ℕ
last_of byte [] = byte
last_of byte (x ∷ xs) = last_of x xs

last_is : (byte : ℕ) (xs : List ℕ) (b : ℕ) → last_of byte (xs ++ b ∷ []) ≡ b
last_is byte [] b = refl
last_is byte (x ∷ xs) b = last_is x xs b

last_byte : (xs ys : List ℕ) (b c : ℕ) → xs ++ b ∷ [] ≡ ys ++ c ∷ [] → b ≡ c
last_byte xs ys b c e = sym (last_is 0 xs b) ∙ ap (last_of 0) e ∙ last_is 0 ys c

not_empty : (xs : List ℕ) (b : ℕ) → xs ++ b ∷ [] ≡ [] → ⊥
not_empty xs b e = let count = ap length e in omega (arith, length-append xs (b ∷ []))

pub whole_lines_end : WholeLinesEnd
whole_lines_end front = (
  inl refl,
  inr (front, refl),
  λ b other whole. ⊎_elim {C = ⊥} (λ none. not_empty front b none) (λ (line, ends). other (last_byte front line b 10 ends)) whole,
)

pub lines_are_split : LinesAreSplit
lines_are_split = (refl, refl, refl)

-- ---- blocks

blocks_joined : (lines others : List (List ℕ)) (bs cs : List Block) → AreBlocks lines bs → AreBlocks others cs → AreBlocks (lines ++ others) (bs ++ cs)
blocks_joined [] others [] cs h k = k
blocks_joined [] others (b ∷ bs) cs h k = absurd h
blocks_joined (line ∷ lines) others [] cs h k = absurd h
blocks_joined (line ∷ lines) others (b ∷ bs) cs h k = (h.0, blocks_joined lines others bs cs h.1 k)

record BlocksInTurn (lines others : List (List ℕ)) (blocks : List Block) : Type 0 where
  pub some : List Block
  pub back : List Block
  pub all : blocks ≡ some ++ back
  pub first : AreBlocks lines some
  pub second : AreBlocks others back

blocks_parted : (lines others : List (List ℕ)) (blocks : List Block) → AreBlocks (lines ++ others) blocks → BlocksInTurn lines others blocks
blocks_parted [] others blocks h = record { some = []; back = blocks; all = refl; first = tt; second = h }
blocks_parted (line ∷ lines) others [] h = absurd h
blocks_parted (line ∷ lines) others (b ∷ bs) h =
    let rest = blocks_parted lines others bs h.1 in
    record { some = b ∷ rest.some; back = rest.back; all = ap (λ more. b ∷ more) rest.all; first = (h.0, rest.first); second = rest.second }

same_blocks : (lines : List (List ℕ)) (some others : List Block) → AreBlocks lines some → AreBlocks lines others → some ≡ others
same_blocks [] [] [] p q = refl
same_blocks [] [] (c ∷ cs) p q = absurd q
same_blocks [] (b ∷ bs) others p q = absurd p
same_blocks (line ∷ lines) [] others p q = absurd p
same_blocks (line ∷ lines) (b ∷ bs) [] p q = absurd q
same_blocks (line ∷ lines) (b ∷ bs) (c ∷ cs) p q = λ i. one_block line b c p.0 q.0 i ∷ same_blocks lines bs cs p.1 q.1 i

-- ---- acts

pub acts_have_an_order : ActsHaveAnOrder
acts_have_an_order = (refl, λ n k m. refl)

join_runs : (state : State) (blocks : List Block) (lines : List Acts) → Runs state blocks lines → RunsTo state blocks (joined_acts lines)
join_runs state [] lines p = ap joined_acts p
join_runs state (b ∷ bs) lines (clean, (later, is, runs)) =
    (clean, (joined_acts later, ap joined_acts is, join_runs (state_after state b) bs later runs))

part_runs : (state : State) (blocks : List Block) (acts : List Act) → RunsTo state blocks acts
    → (lines : List Acts) × Runs state blocks lines × (acts ≡ joined_acts lines)
part_runs state [] acts p = ([], refl, p)
part_runs state (b ∷ bs) acts (clean, (later, is, runs)) =
    let (lines, ran, joined) = part_runs (state_after state b) bs later runs in
    (acts_of state b ∷ lines, (clean, (lines, refl, ran)), is ∙ ap (λ more. act_list (acts_of state b) ++ more) joined)

pub acts_are_joined : ActsAreJoined
acts_are_joined state blocks acts = (
  part_runs state blocks acts,
  λ (lines, ran, joined). subst (λ (all : List Act). RunsTo state blocks all) (sym joined) (join_runs state blocks lines ran),
)

same_acts : (state : State) (blocks : List Block) (some others : List Act) → RunsTo state blocks some → RunsTo state blocks others → some ≡ others
same_acts state [] some others p q = p ∙ sym q
same_acts state (b ∷ bs) some others (clean, (later, is, runs)) (clean', (later', is', runs')) =
    is ∙ ap (λ acts. act_list (acts_of state b) ++ acts) (same_acts (state_after state b) bs later later' runs runs') ∙ sym is'

runs_joined : (state : State) (bs cs : List Block) (some others : List Act) → RunsTo state bs some → RunsTo (state_after_all state bs) cs others
    → RunsTo state (bs ++ cs) (some ++ others)
runs_joined state [] cs some others p q = subst (λ (acts : List Act). RunsTo state cs (acts ++ others)) (sym p) q
runs_joined state (b ∷ bs) cs some others (clean, (later, is, runs)) q =
    let acts = act_list (acts_of state b) in
    (clean, (later ++ others, ap (λ all. all ++ others) is ∙ append_assoc acts later others, runs_joined (state_after state b) bs cs later others runs q))

states_joined : (state : State) (bs cs : List Block) → state_after_all state (bs ++ cs) ≡ state_after_all (state_after_all state bs) cs
states_joined state [] cs = refl
states_joined state (b ∷ bs) cs = states_joined (state_after state b) bs cs

record RunsInTurn (state : State) (bs cs : List Block) (acts : List Act) : Type 0 where
  pub some : List Act
  pub others : List Act
  pub all : acts ≡ some ++ others
  pub first : RunsTo state bs some
  pub second : RunsTo (state_after_all state bs) cs others

runs_parted : (state : State) (bs cs : List Block) (acts : List Act) → RunsTo state (bs ++ cs) acts → RunsInTurn state bs cs acts
runs_parted state [] cs acts runs = record { some = []; others = acts; all = refl; first = refl; second = runs }
runs_parted state (b ∷ bs) cs acts (clean, (later, is, runs)) =
    let rest = runs_parted (state_after state b) bs cs later runs in
    let own = act_list (acts_of state b) in
    record {
      some = own ++ rest.some;
      others = rest.others;
      all = is ∙ ap (λ more. own ++ more) rest.all ∙ sym (append_assoc own rest.some rest.others);
      first = (clean, (rest.some, refl, rest.first));
      second = rest.second;
    }

-- ---- meanings

pub texts_have_one_meaning : TextsHaveOneMeaning
texts_have_one_meaning state text some others after second p q =
    let same = same_blocks (lines_of text) p.blocks q.blocks p.says q.says in (
      same_acts state p.blocks some others p.runs (subst (λ (blocks : List Block). RunsTo state blocks others) (sym same) q.runs),
      p.ends ∙ ap (state_after_all state) same ∙ sym q.ends,
    )

pub programs_mean_from_the_start : ProgramsMeanFromTheStart
programs_mean_from_the_start program acts = (
  λ p. (state_after_all start p.blocks, record { blocks = p.blocks; says = p.says; runs = p.runs; ends = refl }),
  λ (after, p). record { blocks = p.blocks; says = p.says; runs = p.runs },
)

pub programs_have_one_meaning : ProgramsHaveOneMeaning
programs_have_one_meaning program some others p q =
    let same = same_blocks (lines_of program) p.blocks q.blocks p.says q.says in
    same_acts start p.blocks some others p.runs (subst (λ (blocks : List Block). RunsTo start blocks others) (sym same) q.runs)

pub nothing_means_nothing : NothingMeansNothing
nothing_means_nothing state = record { blocks = []; says = tt; runs = refl; ends = refl }

pub mean_in_turn : (state : State) (front back : List ℕ) (some others : List Act) (middle after : State) → IsWholeLines front
    → MeansFrom state front some middle → MeansFrom middle back others after → MeansFrom state (front ++ back) (some ++ others) after
mean_in_turn state front back some others middle after e p q =
    let runs = subst (λ (s : State). RunsTo s q.blocks others) p.ends q.runs in
    let reached = q.ends ∙ ap (λ s. state_after_all s q.blocks) p.ends in
    record {
      blocks = p.blocks ++ q.blocks;
      says = subst (λ (lines : List (List ℕ)). AreBlocks lines (p.blocks ++ q.blocks)) (sym (lines_in_pieces front back e))
          (blocks_joined (lines_of front) (lines_of back) p.blocks q.blocks p.says q.says);
      runs = runs_joined state p.blocks q.blocks some others p.runs runs;
      ends = reached ∙ sym (states_joined state p.blocks q.blocks);
    }

parted : (state : State) (front back : List ℕ) (acts : List Act) (after : State) → IsWholeLines front → MeansFrom state (front ++ back) acts after
    → MeansInTurn state front back acts after
parted state front back acts after e p =
    let says = subst (λ (lines : List (List ℕ)). AreBlocks lines p.blocks) (lines_in_pieces front back e) p.says in
    let blocks = blocks_parted (lines_of front) (lines_of back) p.blocks says in
    let runs = runs_parted state blocks.some blocks.back acts (subst (λ (all : List Block). RunsTo state all acts) blocks.all p.runs) in
    let middle = state_after_all state blocks.some in
    record {
      some = runs.some;
      middle = middle;
      others = runs.others;
      first = record { blocks = blocks.some; says = blocks.first; runs = runs.first; ends = refl };
      second = record {
        blocks = blocks.back;
        says = blocks.second;
        runs = runs.second;
        ends = p.ends ∙ ap (state_after_all state) blocks.all ∙ states_joined state blocks.some blocks.back;
      };
      all = runs.all;
    }

pub meanings_are_in_pieces : MeaningsAreInPieces
meanings_are_in_pieces state front back acts after e = (
  parted state front back acts after e,
  λ turn. subst (λ (all : List Act). MeansFrom state (front ++ back) all after) (sym turn.all)
      (mean_in_turn state front back turn.some turn.others turn.middle after e turn.first turn.second),
)

-- ---- faults

each_is_read : (lines : List (List ℕ)) (blocks : List Block) (line : List ℕ) → AreBlocks lines blocks → Contains lines line → (b : Block) × LineText line b
each_is_read [] blocks line says (k, below, is) = absurd (omega arith)
each_is_read (l ∷ ls) [] line says inside = absurd says
each_is_read (l ∷ ls) (b ∷ bs) line says (zero, below, is) = (b, subst (λ text. LineText text b) is says.0)
each_is_read (l ∷ ls) (b ∷ bs) line says (suc k, below, is) = each_is_read ls bs line says.1 (k, omega arith, is)

none_is_faulty : (state : State) (before behind : List Block) (b : Block) (fault : MachFault) (acts : List Act)
    → RunsTo state (before ++ b ∷ behind) acts → fault_of (state_after_all state before) b ≡ Some fault → ⊥
none_is_faulty state [] behind b fault acts runs faulty = let clean = runs.0 in cc
none_is_faulty state (c ∷ before) behind b fault acts (clean, (later, is, runs)) faulty =
    none_is_faulty (state_after state c) before behind b fault later runs faulty

pub faulty_texts_mean_nothing : FaultyTextsMeanNothing
faulty_texts_mean_nothing state after text acts = (
  λ line silent inside means. let (b, says) = each_is_read (lines_of text) means.blocks line means.says inside in silent b says,
  λ before behind b fault says faulty means.
      let same = same_blocks (lines_of text) means.blocks (before ++ b ∷ behind) means.says says in
      let runs = subst (λ (blocks : List Block). RunsTo state blocks acts) same means.runs in
      none_is_faulty state before behind b fault acts runs faulty,
)

-- ---- the end

-- a line after the end does no act, and the program has still ended
record IsIdle (s : State) (b : Block) : Type 0 where
  pub acts : act_list (acts_of s b) ≡ []
  pub ended : (state_after s b).ended ≡ true

or-true : (b : Bool) → (b || true) ≡ true
or-true true = refl
or-true false = refl

silent_line : (s : State) (b : Block) (words : List Word) (mark : Option ℕ) → s.ended ≡ true → s.closed ≡ false → b.percent ≡ false → b.words ≡ words → b.mark ≡ mark
    → fault_of s b ≡ None → IsIdle s b
silent_line s b [] None ended counts plain none unmarked clean = record { acts = rw (counts, plain, none, unmarked) refl; ended = rw (counts, plain, ended) refl }
silent_line s b [] (Some n) ended counts plain none marked clean =
    let faulty : fault_of s b ≡ Some AfterEnd = rw (counts, plain, ended, none, marked, or-true (is_some b.number)) refl in
    let both : None ≡ Some AfterEnd = sym clean ∙ faulty in cc
silent_line s b (w ∷ ws) mark ended counts plain some marked clean =
    let faulty : fault_of s b ≡ Some AfterEnd = rw (counts, plain, ended, some) refl in
    let both : None ≡ Some AfterEnd = sym clean ∙ faulty in cc

idle_line : (s : State) (b : Block) → s.ended ≡ true → fault_of s b ≡ None → IsIdle s b
idle_line s b ended clean =
    by_test s.closed (IsIdle s b)
    (λ closed. record { acts = rw closed refl; ended = rw (closed, ended) refl })
    (λ counts. by_test b.percent (IsIdle s b)
    (λ percent. record { acts = rw (counts, percent) refl; ended = rw (counts, percent, ended) refl })
    (λ plain. silent_line s b b.words b.mark ended counts plain refl refl clean))

idle_lines : (s : State) (blocks : List Block) (acts : List Act) → s.ended ≡ true → RunsTo s blocks acts → acts ≡ []
idle_lines s [] acts ended runs = runs
idle_lines s (b ∷ bs) acts ended (clean, (later, is, runs)) =
    let idle = idle_line s b ended clean in
    is ∙ ap (λ own. own ++ later) idle.acts ∙ idle_lines (state_after s b) bs later idle.ended runs

pub ended_texts_do_nothing : EndedTextsDoNothing
ended_texts_do_nothing state after text acts ended means = idle_lines state means.blocks acts ended means.runs
