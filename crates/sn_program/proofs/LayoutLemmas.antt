-- Layouts of lines and of a program.
use Rattle.std.proofs.Common.{◌≡◌, ℕ, true, List, [], ◌∷◌, arith, refl, subst}
use Rattle.std.specs.Prelude.{pos}
use Rattle.sn_geom.specs.LineText.{is_faulty, said_with, item_at, place_after, beginning, run, is_number, is_fine, size_of, whole, decimals, fraction, unsigned, is_negative, has_letter, mark_of, begins_mark, is_mark_number}
use Rattle.sn_geom.specs.LineTable.{places_of, has_unit, is_within, is_accepted, modal_word, modal_words, in_group}
use Rattle.sn_geom.specs.Acts.{Act}
use Rattle.sn_geom.specs.Machine.{says_something}
use Rattle.sn_geom.specs.Meaning.{Means}
use Rattle.sn_geom.specs.MachineExamples.{word}
use Rattle.sn_geom.specs.MeaningLaws.{ProgramsHaveOneMeaning}
use Rattle.sn_gwrite.specs.AgreementExamples.{one_hole, one_hole_acts, mm}
use Rattle.sn_gwrite.specs.Program.{end_text}
use Rattle.sn_program.specs.Layout.{HaveSameWords, SayTheSame}
use Rattle.sn_program.specs.LayoutExamples.{one_hole_otherwise, LayoutsOfALine, OtherLayoutsMeanTheSame}
use Rattle.sn_program.proofs.AlikeLemmas.{same_words, words_may_swap, equivalent}
use Rattle.sn_gwrite.proofs.ItemReadings.{clean}
use Rattle.sn_program.proofs.ReadLemmas.{can_be_read, block_of, line_is_read, program_means}

-- ---- lines

-- a line says the same as another one, whose words stand in this order
ordered : (line other : List ℕ) → can_be_read line ≡ true → can_be_read other ≡ true → (block_of line).percent ≡ (block_of other).percent
    → (block_of line).mark ≡ (block_of other).mark → HaveSameWords (block_of line).words (block_of other).words
    → says_something (block_of line) ≡ says_something (block_of other) → SayTheSame line other
ordered line other first second percent mark words says = record {
  block = block_of line;
  other_block = block_of other;
  reads = line_is_read line first;
  other_reads = line_is_read other second;
  alike = record { percent = percent; mark = mark; words = words; says = says };
}

-- its words stand in the same order
in_order : (line other : List ℕ) → can_be_read line ≡ true → can_be_read other ≡ true → (block_of line).percent ≡ (block_of other).percent
    → (block_of line).mark ≡ (block_of other).mark → (block_of line).words ≡ (block_of other).words
    → says_something (block_of line) ≡ says_something (block_of other) → SayTheSame line other
in_order line other first second percent mark words says =
    ordered line other first second percent mark (subst (HaveSameWords (block_of line).words) words (same_words (block_of line).words)) says

pub layouts_of_a_line : LayoutsOfALine
unfolding clean item_at place_after beginning run is_faulty said_with is_number is_fine fraction whole decimals unsigned is_negative size_of has_letter places_of has_unit is_within is_accepted modal_word modal_words in_group mark_of begins_mark is_mark_number
layouts_of_a_line = (
  (in_order _ _ refl refl refl refl refl refl, tt),
  (in_order _ _ refl refl refl refl refl refl, (in_order _ _ refl refl refl refl refl refl, tt)),
  (
    in_order _ _ refl refl refl refl refl refl,
    (in_order _ _ refl refl refl refl refl refl, (in_order _ _ refl refl refl refl refl refl, (in_order _ _ refl refl refl refl refl refl, tt))),
  ),
  (in_order _ _ refl refl refl refl refl refl, (in_order _ _ refl refl refl refl refl refl, tt)),
  (in_order _ _ refl refl refl refl refl refl, (ordered _ _ refl refl refl refl (words_may_swap [] [] _ _ (λ same. absurd (omega arith))) refl, tt)),
  (in_order _ _ refl refl refl refl refl refl, (ordered _ _ refl refl refl refl (words_may_swap [] [] _ _ (λ same. absurd (omega arith))) refl, tt)),
  (in_order _ _ refl refl refl refl refl refl, (ordered _ _ refl refl refl refl (words_may_swap [] [] _ _ (λ same. absurd (omega arith))) refl, tt)),
  (in_order _ _ refl refl refl refl refl refl, (in_order _ _ refl refl refl refl refl refl, tt)),
  (in_order _ _ refl refl refl refl refl refl, (ordered _ _ refl refl refl refl (words_may_swap [] [] _ _ (λ same. absurd (omega arith))) refl, tt)),
  (
    in_order _ _ refl refl refl refl refl refl,
    (in_order _ _ refl refl refl refl refl refl, (ordered _ _ refl refl refl refl (words_may_swap [] (word 89 (mm 10) ∷ []) _ _ (λ same. absurd (omega arith))) refl, tt)),
  ),
  (in_order _ _ refl refl refl refl refl refl, (in_order _ _ refl refl refl refl refl refl, tt)),
  (in_order _ _ refl refl refl refl refl refl, (in_order _ _ refl refl refl refl refl refl, tt)),
  (in_order _ _ refl refl refl refl refl refl, (in_order _ _ refl refl refl refl refl refl, tt)),
)

one_hole_means : Means one_hole one_hole_acts
unfolding end_text clean item_at place_after beginning run is_faulty said_with is_number is_fine fraction whole decimals unsigned is_negative size_of has_letter places_of has_unit is_within is_accepted modal_word modal_words in_group mark_of begins_mark is_mark_number
one_hole_means = program_means _ _ refl refl refl

otherwise_means : Means one_hole_otherwise one_hole_acts
unfolding clean item_at place_after beginning run is_faulty said_with is_number is_fine fraction whole decimals unsigned is_negative size_of has_letter places_of has_unit is_within is_accepted modal_word modal_words in_group mark_of begins_mark is_mark_number
otherwise_means = program_means _ _ refl refl refl

-- a program that means these acts means no others
means_too : ProgramsHaveOneMeaning → (text other : List ℕ) (all acts : List Act) → Means text all → Means other all → Means text acts → Means other acts
means_too one text other all acts means other_means found = subst (λ (some : List Act). Means other some) (one text all acts means found) other_means

pub other_layouts_mean_the_same : ProgramsHaveOneMeaning → OtherLayoutsMeanTheSame
other_layouts_mean_the_same one = (
  one_hole_means,
  otherwise_means,
  equivalent one_hole one_hole_otherwise (λ acts. (
    means_too one one_hole one_hole_otherwise one_hole_acts acts one_hole_means otherwise_means,
    means_too one one_hole_otherwise one_hole one_hole_acts acts otherwise_means one_hole_means,
  )),
)
