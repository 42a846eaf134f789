-- A line that is too long and its first bytes, as long as they show that: each has the one fault.
use Rattle.std.proofs.Common.{◌≡◌, ℕ, ◌<◌, ◌⊎◌, List, [], ◌∷◌, ◌++◌, length, take, refl, sym, ◌∙◌, ap, subst, arith, append_assoc, ⊎_elim, inl, inr}
use Rattle.std.proofs.lemmas.Bool.{cases_lt}
use Rattle.std.proofs.lemmas.List.{take_all, length-take-le}
use Rattle.std.proofs.lemmas.List.Elements.{All-take}
use Rattle.std.specs.Prelude.{Option, None, Some, ◌≢◌}
use Rattle.sn_geom.specs.declared.block.TheConstants.{MOST_LINE}
use Rattle.sn_geom.specs.declared.block.LineFault.{LineFault as Fault}
use Rattle.sn_geom.specs.declared.block.LineFault.TheVariants.{LongLine, BadChar, BadNumber, TooFine, OutOfRange, Twice, SameGroup, Unsupported, OpenComment}
use Rattle.sn_geom.specs.Acts.{Act}
use Rattle.sn_geom.specs.Block.{Block, lines_of}
use Rattle.sn_geom.specs.LineText.{LineText, IsLineFault, IsFirst, Kind}
use Rattle.sn_geom.specs.Machine.{State}
use Rattle.sn_geom.specs.Meaning.{AreBlocks, IsWholeLines}
use Rattle.sn_outline.specs.Job.{Job}
use Rattle.sn_open.specs.Verdict.{IsLineCause, IsCauseOfActs, IsFirstCause, IsFirstAtFault}
use Rattle.sn_open.specs.declared.verdict.Cause.{Cause}
use Rattle.sn_open.specs.declared.verdict.Cause.TheVariants.{LineFault, MachFault, WrongMark, LowEntry, Early, OtherTool, OtherFeed, OtherSpeed, Gouge, Deep, Crash}
use Rattle.sn_open.specs.declared.verdict.Verdict.{Verdict}
use Rattle.sn_open.specs.declared.verdict.Verdict.TheVariants.{Yes, Line, NoEnd, Missing, Uncovered}
use Rattle.sn_sweep.specs.Checking.{Checking, HasFault, HasRead, HasNoLineFeed}
use Rattle.sn_sweep.proofs.LineLemmas.{one_more_line, still_whole, one_counted}

-- two lines that are too long
record AreLong (some other : List ℕ) : Type 0 where
  pub first : MOST_LINE < length some
  pub second : MOST_LINE < length other

swapped : (some other : List ℕ) → AreLong some other → AreLong other some
swapped some other long = record { first = long.second; second = long.first }

-- ---- causes

not_a_block : (line : List ℕ) (block : Block) → MOST_LINE < length line → LineText line block → ⊥
not_a_block line block long says = let short = says.short in omega arith

no_other_fault : (line : List ℕ) (column : ℕ) (kind : Kind) → MOST_LINE < length line → IsFirst line column kind → ⊥
no_other_fault line column kind long first = let short = first.short in omega arith

no_cause_of_acts : (job : Job) (state : State) (before : List Act) (line : List ℕ) (cause : Cause) → MOST_LINE < length line
    → IsCauseOfActs job state before line cause → ⊥
no_cause_of_acts job state before line cause long h = not_a_block line h.block long h.says

same_fault : (some other : List ℕ) (fault : Fault) → AreLong some other → IsLineFault some fault → IsLineFault other fault
same_fault some other LongLine long h = long.second
same_fault some other (BadChar c) long h = absurd (no_other_fault some c _ long.first h)
same_fault some other (BadNumber c) long h = absurd (no_other_fault some c _ long.first h)
same_fault some other (TooFine c) long h = absurd (no_other_fault some c _ long.first h)
same_fault some other (OutOfRange c) long h = absurd (no_other_fault some c _ long.first h)
same_fault some other (Twice c) long h = absurd (no_other_fault some c _ long.first h)
same_fault some other (SameGroup c) long h = absurd (no_other_fault some c _ long.first h)
same_fault some other (Unsupported c) long h = absurd (no_other_fault some c _ long.first h)
same_fault some other (OpenComment c) long h = absurd (no_other_fault some c _ long.first h)

same_cause : (job : Job) (state : State) (before : List Act) (some other : List ℕ) (cause : Cause) → AreLong some other
    → IsLineCause job state before some cause → IsLineCause job state before other cause
same_cause job state before some other (LineFault fault) long h = same_fault some other fault long h
same_cause job state before some other (MachFault fault) long h = absurd (not_a_block some h.0 long.first h.1)
same_cause job state before some other WrongMark long h = absurd (no_cause_of_acts job state before some WrongMark long.first h)
same_cause job state before some other LowEntry long h = absurd (no_cause_of_acts job state before some LowEntry long.first h)
same_cause job state before some other Early long h = absurd (no_cause_of_acts job state before some Early long.first h)
same_cause job state before some other OtherTool long h = absurd (no_cause_of_acts job state before some OtherTool long.first h)
same_cause job state before some other OtherFeed long h = absurd (no_cause_of_acts job state before some OtherFeed long.first h)
same_cause job state before some other OtherSpeed long h = absurd (no_cause_of_acts job state before some OtherSpeed long.first h)
same_cause job state before some other (Gouge c) long h = absurd (no_cause_of_acts job state before some (Gouge c) long.first h)
same_cause job state before some other (Deep c) long h = absurd (no_cause_of_acts job state before some (Deep c) long.first h)
same_cause job state before some other (Crash c) long h = absurd (no_cause_of_acts job state before some (Crash c) long.first h)

same_first_cause : (job : Job) (state : State) (before : List Act) (some other : List ℕ) (cause : Cause) → AreLong some other
    → IsFirstCause (IsLineCause job state before some) cause → IsFirstCause (IsLineCause job state before other) cause
same_first_cause job state before some other cause long h = record {
  holds = same_cause job state before some other cause long h.holds;
  first = λ later holds. h.first later (same_cause job state before other some later (swapped some other long) holds);
}

-- ---- lines

-- a line of some lines and a last one is the last, or stands before it
record IsLast (lines front back : List (List ℕ)) (last line : List ℕ) : Type 0 where
  pub front_is : front ≡ lines
  pub line_is : line ≡ last
  pub back_is : back ≡ []

record IsEarlier (lines front back : List (List ℕ)) (last line : List ℕ) : Type 0 where
  pub later : List (List ℕ)
  pub lines_are : lines ≡ front ++ line ∷ later
  pub back_is : back ≡ later ++ last ∷ []

no_line_more : (front back : List (List ℕ)) (line : List ℕ) → [] ≡ front ++ line ∷ back → ⊥
no_line_more [] back line e = cc
no_line_more (f ∷ fs) back line e = cc

last_or_earlier : (lines front back : List (List ℕ)) (last line : List ℕ) → lines ++ last ∷ [] ≡ front ++ line ∷ back
    → IsLast lines front back last line ⊎ IsEarlier lines front back last line
last_or_earlier [] [] back last line e = inl (record { front_is = refl; line_is = cc; back_is = cc })
last_or_earlier (l ∷ ls) [] back last line e = inr (record { later = ls; lines_are = cc; back_is = cc })
last_or_earlier [] (f ∷ fs) back last line e = let none : [] ≡ fs ++ line ∷ back = cc in absurd (no_line_more fs back line none)
last_or_earlier (l ∷ ls) (f ∷ fs) back last line e =
    let rest : ls ++ last ∷ [] ≡ fs ++ line ∷ back = cc in
    let first : l ≡ f = cc in
    ⊎_elim {C = IsLast (l ∷ ls) (f ∷ fs) back last line ⊎ IsEarlier (l ∷ ls) (f ∷ fs) back last line}
    (λ at_end. inl (record { front_is = (let same = at_end.front_is in cc); line_is = at_end.line_is; back_is = at_end.back_is }))
    (λ earlier. inr (record { later = earlier.later; lines_are = (let same = earlier.lines_are in cc); back_is = earlier.back_is }))
    (last_or_earlier ls fs back last line rest)

last_is_read : (lines : List (List ℕ)) (last : List ℕ) (blocks : List Block) → AreBlocks (lines ++ last ∷ []) blocks → (block : Block) × LineText last block
last_is_read [] last [] says = absurd says
last_is_read [] last (b ∷ bs) says = (b, says.0)
last_is_read (l ∷ ls) last [] says = absurd says
last_is_read (l ∷ ls) last (b ∷ bs) says = last_is_read ls last bs says.1

-- two programs, the same but for the last line
record HaveLast (some other : List ℕ) (lines : List (List ℕ)) (last changed : List ℕ) : Type 0 where
  pub first : lines_of some ≡ lines ++ last ∷ []
  pub second : lines_of other ≡ lines ++ changed ∷ []

same_first_at_fault : (job : Job) (some other : List ℕ) (lines : List (List ℕ)) (last changed : List ℕ) (n : ℕ) (cause : Cause)
    → HaveLast some other lines last changed → AreLong last changed → IsFirstAtFault job some n cause → IsFirstAtFault job other n cause
same_first_at_fault job some other lines last changed n cause have long h =
    let comes = h.comes in
    ⊎_elim {C = IsFirstAtFault job other n cause}
    (λ at_end. record {
      line = changed;
      state = h.state;
      before = h.before;
      comes = record {
        front = comes.front;
        back = [];
        lines = have.second ∙ ap (λ (ls : List (List ℕ)). ls ++ changed ∷ []) (sym at_end.front_is);
        counted = comes.counted;
        blocks = comes.blocks;
        says = comes.says;
        runs = comes.runs;
        reaches = comes.reaches;
        right = comes.right;
      };
      first = same_first_cause job h.state h.before last changed cause long
          (subst (λ (line : List ℕ). IsFirstCause (IsLineCause job h.state h.before line) cause) at_end.line_is h.first);
    })
    (λ earlier. record {
      line = h.line;
      state = h.state;
      before = h.before;
      comes = record {
        front = comes.front;
        back = earlier.later ++ changed ∷ [];
        lines = have.second ∙ ap (λ (ls : List (List ℕ)). ls ++ changed ∷ []) earlier.lines_are ∙ append_assoc comes.front (h.line ∷ earlier.later) (changed ∷ []);
        counted = comes.counted;
        blocks = comes.blocks;
        says = comes.says;
        runs = comes.runs;
        reaches = comes.reaches;
        right = comes.right;
      };
      first = h.first;
    })
    (last_or_earlier lines comes.front comes.back last h.line (sym have.first ∙ comes.lines))

-- ---- what a checker keeps

same_kept_fault : (job : Job) (some other : List ℕ) (lines : List (List ℕ)) (last changed : List ℕ) (kept : Checking) (fault : Option Verdict)
    → HaveLast some other lines last changed → AreLong last changed → HasFault job some kept fault → HasFault job other kept fault
same_kept_fault job some other lines last changed kept None have long h =
    let says = subst (λ (all : List (List ℕ)). AreBlocks all h.means.blocks) have.first h.means.says in
    let (block, read) = last_is_read lines last h.means.blocks says in
    absurd (not_a_block last block long.first read)
same_kept_fault job some other lines last changed kept (Some Yes) have long h = h
same_kept_fault job some other lines last changed kept (Some (Line n cause)) have long h =
    same_first_at_fault job some other lines last changed n cause have long h
same_kept_fault job some other lines last changed kept (Some NoEnd) have long h = h
same_kept_fault job some other lines last changed kept (Some (Missing ws)) have long h = h
same_kept_fault job some other lines last changed kept (Some (Uncovered feature cell)) have long h = h

read_long : (job : Job) (text line cut : List ℕ) (kept : Checking) → IsWholeLines text → HasNoLineFeed line → HasNoLineFeed cut → AreLong cut line
    → HasRead job (text ++ (cut ++ 10 ∷ [])) kept → HasRead job (text ++ (line ++ 10 ∷ [])) kept
read_long job text line cut kept whole unended unended_cut long h =
    let first = one_more_line text cut whole unended_cut in
    let second = one_more_line text line whole unended in
    let have : HaveLast (text ++ (cut ++ 10 ∷ [])) (text ++ (line ++ 10 ∷ [])) (lines_of text) cut line = record { first = first; second = second } in
    record {
      job_is = h.job_is;
      grid = h.grid;
      planes = h.planes;
      whole = still_whole text line;
      counted = h.counted ∙ one_counted text cut whole unended_cut ∙ sym (one_counted text line whole unended);
      fault = same_kept_fault job (text ++ (cut ++ 10 ∷ [])) (text ++ (line ++ 10 ∷ [])) (lines_of text) cut line kept kept.fault have long h.fault;
    }

-- a line may be read by its first bytes, where they are more than a line may have
pub read_in_full : (job : Job) (text line : List ℕ) (most : ℕ) (kept : Checking) → MOST_LINE < most → IsWholeLines text → HasNoLineFeed line
    → HasRead job (text ++ (take most line ++ 10 ∷ [])) kept → HasRead job (text ++ (line ++ 10 ∷ [])) kept
read_in_full job text line most kept more whole unended h =
    ⊎_elim {C = HasRead job (text ++ (line ++ 10 ∷ [])) kept}
    (λ (over : most < length line).
    let cut : length (take most line) ≡ most = length-take-le most line (omega arith) in
    read_long job text line (take most line) kept whole unended (All-take (λ byte. byte ≢ 10) most line unended)
    (record { first = omega arith; second = omega arith }) h)
    (λ within. subst (λ (all : List ℕ). HasRead job (text ++ (all ++ 10 ∷ [])) kept) (take_all most line within) h)
    (cases_lt most (length line))
