-- The lines of forms, one after the other: how they are read, and how the machine runs them.
use Rattle.std.proofs.Common.{ℕ, ◌≡◌, ◌<◌, ◌^◌, Bool, true, ◌&&◌, List, [], ◌∷◌, ◌++◌, map, codes, decimal, Option, Some, None, refl, sym, ap, subst, ◌∙◌, arith, append_assoc, append-nil, inl, inr}
use Rattle.std.proofs.lemmas.Bool.{and_parts}
use Rattle.std.specs.Prelude.{is_none}
use Rattle.sn_geom.specs.declared.machine.MachFault.{MachFault}
use Rattle.sn_geom.specs.Acts.{Act, act_list, RunsTo}
use Rattle.sn_geom.specs.Block.{Block, lines_of}
use Rattle.sn_geom.specs.LineText.{LineText}
use Rattle.sn_geom.specs.Machine.{State, fault_of, acts_of, state_after, state_after_all}
use Rattle.sn_geom.specs.Meaning.{AreBlocks, IsWholeLines}
use Rattle.sn_gwrite.specs.Agreement.{Agrees, PartMeans}
use Rattle.sn_gwrite.specs.Program.{Form, ToolNote, form_text, form_block, AreProper, forms_text}
use Rattle.sn_gwrite.specs.ProgramLaws.{IsTextOf}
use Rattle.sn_gwrite.specs.Kept.{Kept}
use Rattle.sn_gwrite.proofs.FormReadings.{IsOneLine, form_line, first_line, one_line_append, decimal_line, forms-read, note_read}

-- the text of the form is a line that is read as its block
pub record IsRead (form : Form) : Type 0 where
  pub line : IsOneLine (form_text form)
  pub says : LineText (form_text form) (form_block form)

abbrev pub AreRead : List Form → Type 0
AreRead [] = Unit {0}
AreRead (form ∷ forms) = IsRead form × AreRead forms

pub proper_read : (forms : List Form) → AreProper forms → AreRead forms
proper_read [] h = tt
proper_read (form ∷ forms) h = (record { line = form_line form h.0; says = forms-read form h.0 }, proper_read forms h.1)

-- a tool note, whatever the number of the tool
pub note_is_read : (number instance : ℕ) → number < 2 ^ 64 → instance < 2 ^ 32 → IsRead (ToolNote number instance)
note_is_read number instance h k = record {
  line = one_line_append (codes "(T" ++ decimal number ++ codes " #" ++ decimal instance) (codes ")")
      (one_line_append (codes "(T" ++ decimal number ++ codes " #") (decimal instance)
      (refl, (refl, one_line_append (decimal number) (codes " #") (decimal_line number h) (refl, (refl, tt)))) (decimal_line instance (omega arith)))
      (refl, tt);
  says = note_read number instance h (omega arith);
}

-- ---- texts of forms

blocks_read : (forms : List Form) → AreRead forms → AreBlocks (lines_of (forms_text forms)) (map form_block forms)
blocks_read [] h = tt
blocks_read (form ∷ forms) h =
    subst (λ (lines : List (List ℕ)). AreBlocks lines (map form_block (form ∷ forms)))
    (sym (first_line (form_text form) (forms_text forms) h.0.line)) (h.0.says, blocks_read forms h.1)

ends_line : (form : Form) (forms : List Form) → (front : List ℕ) × (forms_text (form ∷ forms) ≡ front ++ 10 ∷ [])
ends_line form [] = (form_text form, refl)
ends_line form (next ∷ forms) =
    let (front, ends) = ends_line next forms in (
      form_text form ++ 10 ∷ front,
      ap (λ text. form_text form ++ 10 ∷ text) ends ∙ sym (append_assoc (form_text form) (10 ∷ front) (10 ∷ [])),
    )

-- what the machine does with the lines of forms
pub record Ran (state : State) (forms : List Form) (acts : List Act) (kept : Kept) : Type 0 where
  pub runs : RunsTo state (map form_block forms) acts
  pub agrees : Agrees kept (state_after_all state (map form_block forms))

whole_lines : (forms : List Form) → IsWholeLines (forms_text forms)
whole_lines [] = inl refl
whole_lines (form ∷ forms) = inr (ends_line form forms)

-- a part that is the text of forms which are read and which the machine runs
pub read_part_means : (old new : Kept) (text : List ℕ) (forms : List Form) (acts : List Act) → text ≡ forms_text forms → AreRead forms
    → ((state : State) → Agrees old state → Ran state forms acts new) → PartMeans old new text acts
read_part_means old new text forms acts is read runs = record {
  lines = subst IsWholeLines (sym is) (whole_lines forms);
  means = λ state agrees.
      let ran = runs state agrees in
      let blocks = map form_block forms in
      record {
        after = state_after_all state blocks;
        means = record {
          blocks = blocks;
          says = subst (λ (t : List ℕ). AreBlocks (lines_of t) blocks) (sym is) (blocks_read forms read);
          runs = ran.runs;
          ends = refl;
        };
        agrees = ran.agrees;
      };
}

-- a part that is the text of any proper forms which the machine runs
pub part_means : (old new : Kept) (text : List ℕ) (forms : List Form) (acts : List Act) → IsTextOf text forms
    → ((state : State) → Agrees old state → Ran state forms acts new) → PartMeans old new text acts
part_means old new text forms acts is runs = read_part_means old new text forms acts is.written (proper_read forms is.proper) runs

-- ---- lines that the machine runs

-- a line of the form is not faulty, gives the acts and leads to the state
pub record Runs (state : State) (form : Form) (acts : List Act) (after : State) : Type 0 where
  pub clean : fault_of state (form_block form) ≡ None
  pub gives : act_list (acts_of state (form_block form)) ≡ acts
  pub leads : state_after state (form_block form) ≡ after

pub one_line : (state after : State) (form : Form) (acts : List Act) (kept : Kept) → Runs state form acts after → Agrees kept after
    → Ran state (form ∷ []) acts kept
one_line state after form acts kept r agrees = record {
  runs = (r.clean, ([], sym (append-nil (act_list (acts_of state (form_block form))) ∙ r.gives), refl));
  agrees = subst (Agrees kept) (sym r.leads) agrees;
}

pub line_before : (state middle : State) (form : Form) (forms : List Form) (some others : List Act) (kept : Kept)
    → Runs state form some middle → Ran middle forms others kept → Ran state (form ∷ forms) (some ++ others) kept
line_before state middle form forms some others kept r later = record {
  runs = (
    r.clean,
    (
      others,
      ap (λ acts. acts ++ others) (sym r.gives),
      subst (λ s. RunsTo s (map form_block forms) others) (sym r.leads) later.runs,
    ),
  );
  agrees = subst (λ s. Agrees kept (state_after_all s (map form_block forms))) (sym r.leads) later.agrees;
}

-- ---- lines that are run by computing

abbrev pub are_accepted : State → List Block → Bool
are_accepted s [] = true
are_accepted s (b ∷ bs) = is_none (fault_of s b) && are_accepted (state_after s b) bs

abbrev pub acts_of_all : State → List Block → List Act
acts_of_all s [] = []
acts_of_all s (b ∷ bs) = act_list (acts_of s b) ++ acts_of_all (state_after s b) bs

is_none-true : (fault : Option MachFault) → is_none fault ≡ true → fault ≡ None
is_none-true None h = refl
is_none-true (Some fault) h = cc

pub blocks_are_run : (s : State) (blocks : List Block) → are_accepted s blocks ≡ true → RunsTo s blocks (acts_of_all s blocks)
blocks_are_run s [] h = refl
blocks_are_run s (b ∷ bs) h =
    let (first, later) = and_parts (is_none (fault_of s b)) (are_accepted (state_after s b) bs) h in
    (is_none-true (fault_of s b) first, (acts_of_all (state_after s b) bs, refl, blocks_are_run (state_after s b) bs later))
