-- Lines that say nothing.
use Rattle.std.proofs.Common.{◌≡◌, ◌≢◌, ℕ, true, false, ◌==◌, Bool, Option, Some, None, List, [], ◌∷◌, ◌++◌, refl, sym, ◌∙◌, ap, subst}
use Rattle.std.proofs.lemmas.List.Elements.{All-head, All-tail}
use Rattle.std.specs.Prelude.{All}
use Rattle.sn_geom.specs.declared.machine.Word.{Word}
use Rattle.sn_geom.specs.Acts.{Act, RunsTo, act_list}
use Rattle.sn_geom.specs.Block.{Block, lines_of, with_byte}
use Rattle.sn_geom.specs.LineText.{empty_block}
use Rattle.sn_geom.specs.Machine.{State, start, says_something, fault_of, acts_of, state_after, state_after_all}
use Rattle.sn_geom.specs.Meaning.{AreBlocks, MeansFrom, IsWholeLines}
use Rattle.sn_geom.specs.MeaningLaws.{TextsHaveOneMeaning, ProgramsMeanFromTheStart, MeaningsAreInPieces}
use Rattle.sn_program.specs.Layout.{IsSilent}
use Rattle.sn_program.specs.LayoutLaws.{SilentLinesDoNothing}
use Rattle.sn_program.proofs.AlikeLemmas.{equivalent}
use Rattle.sn_program.proofs.ReadLemmas.{by_test}
use Rattle.sn_program.proofs.SplitLemmas.{or-right, modes_stay, plain_after}

-- ---- one line

-- the machine does nothing with the line
record IsIdle (s : State) (b : Block) : Type 0 where
  pub fault : fault_of s b ≡ None
  pub acts : act_list (acts_of s b) ≡ []
  pub after : state_after s b ≡ s

idle_line : (s : State) → s.began ≡ true → IsIdle s (empty_block false)
idle_line s began =
    by_test s.closed (IsIdle s (empty_block false))
    (λ closed. record { fault = rw closed refl; acts = rw closed refl; after = rw closed refl })
    (λ counts. record {
      fault = by_test s.ended (fault_of s (empty_block false) ≡ None) (λ ended. rw (counts, ended) refl) (λ lasts. rw (counts, lasts) refl);
      acts = rw counts refl;
      after =
          let modes = modes_stay s.modes [] (λ tenths. refl) in
          plain_after s [] counts ∙ (λ i. record s { began = sym began i; modes = modes i; ended = or-right s.ended i });
    })

is_empty_block : (percent : Bool) (number mark : Option ℕ) (words : List Word) → percent ≡ false
    → says_something (record { percent = percent; number = number; mark = mark; words = words }) ≡ false
    → empty_block false ≡ record { percent = percent; number = number; mark = mark; words = words }
is_empty_block percent None None [] plain silent = λ i. empty_block (sym plain i)
is_empty_block percent None (Some n) [] plain silent = let wrong : true ≡ false = silent in cc
is_empty_block percent (Some n) mark [] plain silent = let wrong : true ≡ false = silent in cc
is_empty_block percent number mark (w ∷ words) plain silent = let wrong : true ≡ false = silent in cc

idle_block : (s : State) (b : Block) → s.began ≡ true → b.percent ≡ false → says_something b ≡ false → IsIdle s b
idle_block s b began plain silent =
    subst (λ (block : Block). IsIdle s block) (is_empty_block b.percent b.number b.mark b.words plain silent) (idle_line s began)

-- ---- lines

record AreIdle (s : State) (lines : List (List ℕ)) : Type 0 where
  pub blocks : List Block
  pub says : AreBlocks lines blocks
  pub runs : RunsTo s blocks []
  pub ends : s ≡ state_after_all s blocks

idle_lines : (s : State) (lines : List (List ℕ)) → s.began ≡ true → All IsSilent lines → AreIdle s lines
idle_lines s [] began silent = record { blocks = []; says = tt; runs = refl; ends = refl }
idle_lines s (line ∷ lines) began silent =
    let (b, read, plain, none) = All-head IsSilent line lines silent in
    let idle = idle_block s b began plain none in
    let rest = idle_lines s lines began (All-tail IsSilent line lines silent) in
    record {
      blocks = b ∷ rest.blocks;
      says = (read, rest.says);
      runs = (idle.fault, ([], ap (λ own. own ++ []) (sym idle.acts), subst (λ (t : State). RunsTo t rest.blocks []) (sym idle.after) rest.runs));
      ends = rest.ends ∙ ap (λ t. state_after_all t rest.blocks) (sym idle.after);
    }

idle_text : (s : State) (text : List ℕ) → s.began ≡ true → All IsSilent (lines_of text) → MeansFrom s text [] s
idle_text s text began silent =
    let idle = idle_lines s (lines_of text) began silent in
    record { blocks = idle.blocks; says = idle.says; runs = idle.runs; ends = idle.ends }

-- ---- a program has begun behind its first line

begins : (s : State) (b : Block) → s.closed ≡ false → (state_after s b).began ≡ true
begins s b counts =
    by_test b.percent ((state_after s b).began ≡ true) (λ percent. rw (counts, percent) refl) (λ plain. rw (counts, plain) refl)

goes_on : (s : State) (b : Block) → s.began ≡ true → (state_after s b).began ≡ true
goes_on s b began = by_test s.closed ((state_after s b).began ≡ true) (λ closed. rw closed began) (begins s b)

all_go_on : (s : State) (blocks : List Block) → s.began ≡ true → (state_after_all s blocks).began ≡ true
all_go_on s [] began = began
all_go_on s (b ∷ bs) began = all_go_on (state_after s b) bs (goes_on s b began)

some_line : (byte : ℕ) (lines : List (List ℕ)) → with_byte byte lines ≢ []
some_line byte [] e = cc
some_line byte (line ∷ lines) e = cc

some_lines : (text : List ℕ) → text ≢ [] → lines_of text ≢ []
some_lines [] some none = some refl
some_lines (x ∷ xs) some none =
    by_test (x == 10) ⊥ (λ feed. let first : [] ∷ lines_of xs ≡ [] = rw feed at none in cc) (λ other. some_line x (lines_of xs) (rw other at none))

begun : (lines : List (List ℕ)) (blocks : List Block) → lines ≢ [] → AreBlocks lines blocks → (state_after_all start blocks).began ≡ true
begun [] blocks some says = absurd (some refl)
begun (line ∷ lines) [] some says = absurd says
begun (line ∷ lines) (b ∷ bs) some says = all_go_on (state_after start b) bs (begins start b refl)

begun_after : (front : List ℕ) (acts : List Act) (middle : State) → front ≢ [] → MeansFrom start front acts middle → middle.began ≡ true
begun_after front acts middle some means =
    ap (λ (s : State). s.began) means.ends ∙ begun (lines_of front) means.blocks (some_lines front some) means.says

-- ---- programs

without : TextsHaveOneMeaning → MeaningsAreInPieces → (front silent back : List ℕ) (acts : List Act) (after : State) → front ≢ [] → IsWholeLines front
    → IsWholeLines silent → All IsSilent (lines_of silent) → MeansFrom start (front ++ (silent ++ back)) acts after → MeansFrom start (front ++ back) acts after
without one pieces front silent back acts after some whole silent_whole each means =
    let turn = (pieces start front (silent ++ back) acts after whole).0 means in
    let rest = (pieces turn.middle silent back turn.others after silent_whole).0 turn.second in
    let idle = idle_text turn.middle silent (begun_after front turn.some turn.middle some turn.first) each in
    let (nothing, still) = one turn.middle silent rest.some [] rest.middle turn.middle rest.first idle in
    (pieces start front back acts after whole).1 (record {
      some = turn.some;
      middle = turn.middle;
      others = rest.others;
      first = turn.first;
      second = subst (λ (s : State). MeansFrom s back rest.others after) still rest.second;
      all = turn.all ∙ ap (λ more. turn.some ++ more) (rest.all ∙ ap (λ own. own ++ rest.others) nothing);
    })

with_silent : MeaningsAreInPieces → (front silent back : List ℕ) (acts : List Act) (after : State) → front ≢ [] → IsWholeLines front
    → IsWholeLines silent → All IsSilent (lines_of silent) → MeansFrom start (front ++ back) acts after → MeansFrom start (front ++ (silent ++ back)) acts after
with_silent pieces front silent back acts after some whole silent_whole each means =
    let turn = (pieces start front back acts after whole).0 means in
    let idle = idle_text turn.middle silent (begun_after front turn.some turn.middle some turn.first) each in
    (pieces start front (silent ++ back) acts after whole).1 (record {
      some = turn.some;
      middle = turn.middle;
      others = turn.others;
      first = turn.first;
      second = (pieces turn.middle silent back turn.others after silent_whole).1 (record {
        some = [];
        middle = turn.middle;
        others = turn.others;
        first = idle;
        second = turn.second;
        all = refl;
      });
      all = turn.all;
    })

pub silent_lines_do_nothing : TextsHaveOneMeaning → MeaningsAreInPieces → ProgramsMeanFromTheStart → SilentLinesDoNothing
silent_lines_do_nothing one pieces from_start front silent back some whole silent_whole each =
    equivalent (front ++ (silent ++ back)) (front ++ back) (λ acts. (
      λ means.
          let (after, from) = (from_start (front ++ (silent ++ back)) acts).0 means in
          (from_start (front ++ back) acts).1 (after, without one pieces front silent back acts after some whole silent_whole each from),
      λ means.
          let (after, from) = (from_start (front ++ back) acts).0 means in
          (from_start (front ++ (silent ++ back)) acts).1 (after, with_silent pieces front silent back acts after some whole silent_whole each from),
    ))
