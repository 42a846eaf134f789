-- A line behind whole lines, and what is read of a text as far as its lines go.
use Rattle.std.proofs.Common.{ℕ, ◌+◌, ◌≡◌, ◌≢◌, ◌==◌, Bool, true, false, None, List, [], ◌∷◌, ◌++◌, length, refl, sym, ap, subst, ◌∙◌, arith, append_assoc, append-nil, length-append, ⊎_elim, inr}
use Rattle.std.proofs.lemmas.List.Elements.{All-head, All-tail}
use Rattle.std.proofs.lemmas.Bool.{eqb-true}
use Rattle.sn_geom.specs.Acts.{Act, act_list}
use Rattle.sn_geom.specs.Block.{Block, lines_of, with_byte}
use Rattle.sn_geom.specs.LineText.{LineText}
use Rattle.sn_geom.specs.Machine.{State, start, fault_of, acts_of, state_after}
use Rattle.sn_geom.specs.Meaning.{AreBlocks, MeansFrom, IsWholeLines}
use Rattle.sn_geom.specs.MeaningLaws.{MeaningsAreInPieces}
use Rattle.sn_outline.specs.Job.{Job}
use Rattle.sn_open.specs.Verdict.{AreRight, IsLineCause, IsFirstCause, IsFirstAtFault}
use Rattle.sn_open.specs.declared.verdict.Cause.{Cause}
use Rattle.sn_sweep.specs.Checking.{HasNoLineFeed}

by_test : (b : Bool) (R : Type 0) → (b ≡ true → R) → (b ≡ false → R) → R
by_test true R met other = met refl
by_test false R met other = other refl

-- Lines.

-- lines of which the first is known
record HasLine (lines : List (List ℕ)) : Type 0 where
  pub line : List ℕ
  pub later : List (List ℕ)
  pub are : lines ≡ line ∷ later

has_line : (xs : List ℕ) → HasLine (lines_of (xs ++ 10 ∷ []))
has_line [] = record { line = []; later = []; are = refl }
has_line (x ∷ xs) =
    let rest = has_line xs in
    by_test (x == 10) (HasLine (lines_of (x ∷ (xs ++ 10 ∷ []))))
    (λ feed. record { line = []; later = lines_of (xs ++ 10 ∷ []); are = rw feed refl })
    (λ other. record { line = x ∷ rest.line; later = rest.later; are = rw (other, rest.are) refl })

byte_before : (byte : ℕ) (some others : List (List ℕ)) → HasLine some → with_byte byte (some ++ others) ≡ with_byte byte some ++ others
byte_before byte some others h = rw h.are refl

ended_lines : (xs back : List ℕ) → lines_of ((xs ++ 10 ∷ []) ++ back) ≡ lines_of (xs ++ 10 ∷ []) ++ lines_of back
ended_lines [] back = refl
ended_lines (x ∷ xs) back =
    let rest = ended_lines xs back in
    by_test (x == 10) (lines_of ((x ∷ (xs ++ 10 ∷ [])) ++ back) ≡ lines_of (x ∷ (xs ++ 10 ∷ [])) ++ lines_of back)
    (λ feed. rw feed (ap (λ lines. [] ∷ lines) rest))
    (λ other. rw other (ap (with_byte x) rest ∙ byte_before x (lines_of (xs ++ 10 ∷ [])) (lines_of back) (has_line xs)))

-- the lines of whole lines, and those behind them
pub lines_behind : (front back : List ℕ) → IsWholeLines front → lines_of (front ++ back) ≡ lines_of front ++ lines_of back
lines_behind front back whole =
    ⊎_elim {C = lines_of (front ++ back) ≡ lines_of front ++ lines_of back}
    (λ none. rw none refl)
    (λ (line, ends). subst (λ (text : List ℕ). lines_of (text ++ back) ≡ lines_of text ++ lines_of back) (sym ends) (ended_lines line back))
    whole

-- the one line that ends with the one line feed
pub one_line : (line : List ℕ) → HasNoLineFeed line → lines_of (line ++ 10 ∷ []) ≡ line ∷ []
one_line [] none = refl
one_line (x ∷ xs) none =
    let rest = one_line xs (All-tail (λ byte. byte ≢ 10) x xs none) in
    by_test (x == 10) (lines_of (x ∷ (xs ++ 10 ∷ [])) ≡ (x ∷ xs) ∷ [])
    (λ feed. absurd (All-head (λ byte. byte ≢ 10) x xs none (eqb-true x 10 feed)))
    (λ other. rw (other, rest) refl)

-- the text with one more line
abbrev pub with_line : List ℕ → List ℕ → List ℕ
with_line text line = text ++ (line ++ 10 ∷ [])

pub one_more_line : (text line : List ℕ) → IsWholeLines text → HasNoLineFeed line → lines_of (with_line text line) ≡ lines_of text ++ line ∷ []
one_more_line text line whole none =
    lines_behind text (line ++ 10 ∷ []) whole ∙ ap (λ (lines : List (List ℕ)). lines_of text ++ lines) (one_line line none)

pub still_whole : (text line : List ℕ) → IsWholeLines (with_line text line)
still_whole text line = inr (text ++ line, sym (append_assoc text line (10 ∷ [])))

pub one_counted : (text line : List ℕ) → IsWholeLines text → HasNoLineFeed line → length (lines_of (with_line text line)) ≡ length (lines_of text) + 1
one_counted text line whole none =
    let more = ap (λ (lines : List (List ℕ)). length lines) (one_more_line text line whole none) in
    omega (arith, length-append (lines_of text) (line ∷ []))

-- Faults.

-- the first line at fault stays the first
pub fault_stays : (job : Job) (text line : List ℕ) (n : ℕ) (cause : Cause) → IsWholeLines text → HasNoLineFeed line → IsFirstAtFault job text n cause
    → IsFirstAtFault job (with_line text line) n cause
fault_stays job text line n cause whole none fault =
    let front = fault.comes.front in
    let back = fault.comes.back in
    let lines = one_more_line text line whole none ∙ ap (λ (lines : List (List ℕ)). lines ++ line ∷ []) fault.comes.lines ∙ append_assoc front (fault.line ∷ back) (line ∷ []) in
    record {
      line = fault.line;
      state = fault.state;
      before = fault.before;
      comes = record {
        front = front;
        back = back ++ line ∷ [];
        lines = lines;
        counted = fault.comes.counted;
        blocks = fault.comes.blocks;
        says = fault.comes.says;
        runs = fault.comes.runs;
        reaches = fault.comes.reaches;
        right = fault.comes.right;
      };
      first = fault.first;
    }

-- a line behind lines without a fault is the first at fault
pub fault_comes : (job : Job) (text line : List ℕ) (acts : List Act) (state : State) (cause : Cause) → IsWholeLines text → HasNoLineFeed line
    → MeansFrom start text acts state → AreRight job acts → IsFirstCause (IsLineCause job state acts line) cause
    → IsFirstAtFault job (with_line text line) (length (lines_of text) + 1) cause
fault_comes job text line acts state cause whole none means right first = record {
  line = line;
  state = state;
  before = acts;
  comes = record {
    front = lines_of text;
    back = [];
    lines = one_more_line text line whole none;
    counted = refl;
    blocks = means.blocks;
    says = means.says;
    runs = means.runs;
    reaches = means.ends;
    right = right;
  };
  first = first;
}

-- Meanings.

-- a line that is read and accepted means its acts
pub line_means : (state : State) (line : List ℕ) (block : Block) → HasNoLineFeed line → LineText line block → fault_of state block ≡ None
    → MeansFrom state (line ++ 10 ∷ []) (act_list (acts_of state block)) (state_after state block)
line_means state line block none says accepted =
    let acts = act_list (acts_of state block) in
    let lines = subst (λ (lines : List (List ℕ)). AreBlocks lines (block ∷ [])) (sym (one_line line none)) (says, tt) in
    record { blocks = block ∷ []; says = lines; runs = (accepted, ([], sym (append-nil acts), refl)); ends = refl }

-- the meaning of lines, and then of one more
pub meaning_goes_on : MeaningsAreInPieces → (text line : List ℕ) (acts : List Act) (state : State) (block : Block) → IsWholeLines text → HasNoLineFeed line
    → MeansFrom start text acts state → LineText line block → fault_of state block ≡ None
    → MeansFrom start (with_line text line) (acts ++ act_list (acts_of state block)) (state_after state block)
meaning_goes_on pieces text line acts state block whole none means says accepted =
    let more = act_list (acts_of state block) in
    (pieces start text (line ++ 10 ∷ []) (acts ++ more) (state_after state block) whole).1
    (record { some = acts; middle = state; others = more; first = means; second = line_means state line block none says accepted; all = refl })
