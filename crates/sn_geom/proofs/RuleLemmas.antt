-- Words and lines at the borders of their rules.
use Rattle.std.proofs.Common.{◌≡◌, ℕ, ◌+◌, ◌≤◌, ◌==◌, Bool, true, false, List, [], ◌∷◌, refl, arith}
use Rattle.std.proofs.lemmas.List.Elements.{All-head}
use Rattle.std.specs.Prelude.{count_by, pos, neg_ℤ}
use Rattle.sn_geom.specs.declared.limits.TheConstants.{REACH, MOST_TOOL, MOST_RATE}
use Rattle.sn_geom.specs.declared.machine.Word.{Word}
use Rattle.sn_geom.specs.LineTable.{is_accepted, is_within, is_modal, in_group, modal_word, modal_words}
use Rattle.sn_geom.specs.BlockRule.{IsLineWord, AreDistinct}
use Rattle.sn_geom.specs.MachineExamples.{word, x, f, t, g, m}
use Rattle.sn_geom.specs.RuleExamples.{WordsAreBounded, WordsAreDistinct}

true_is_false : (b : Bool) → b ≡ false → b ≡ true → ⊥
true_is_false true e h = absurd (cc)
true_is_false false e h = absurd (cc)

past : (w : Word) → is_within w.letter w.value ≡ false → IsLineWord w → ⊥
past w e h = true_is_false (is_within w.letter w.value) e h.within

refused : (w : Word) → is_accepted w ≡ false → IsLineWord w → ⊥
refused w e h = true_is_false (is_accepted w) e h.accepted

pub words_are_bounded : WordsAreBounded
unfolding is_accepted is_within modal_word modal_words
words_are_bounded = record {
  place = record { accepted = refl; within = refl; no_number = refl };
  far_place = past (x (REACH + 1)) refl;
  rate = record { accepted = refl; within = refl; no_number = refl };
  great_rate = past (f (MOST_RATE + 1)) refl;
  tool = record { accepted = refl; within = refl; no_number = refl };
  great_tool = past (t (MOST_TOOL + 1)) refl;
  negative_tool = past (word 84 (neg_ℤ (pos 1))) refl;
  arc = refused (g 20) refl;
  line_number = λ h. absurd (true_is_false true h.no_number refl);
  stands = λ w h. All-head IsLineWord w [] h.words;
}

two_at_most : (n : ℕ) → n ≡ 2 → n ≤ 1 → ⊥
two_at_most n e h = omega arith

letters_twice : (letter : ℕ) (ws : List Word) → is_modal letter ≡ false → count_by (λ w. w.letter == letter) ws ≡ 2 → AreDistinct ws → ⊥
letters_twice letter ws plain e h = two_at_most (count_by (λ w. w.letter == letter) ws) e (h.letters letter plain)

group_twice : (letter group : ℕ) (ws : List Word) → count_by (in_group letter group) ws ≡ 2 → AreDistinct ws → ⊥
group_twice letter group ws e h = two_at_most (count_by (in_group letter group) ws) e (h.groups letter group)

pub words_are_distinct : WordsAreDistinct
unfolding in_group modal_word modal_words
words_are_distinct = record {
  letters = λ h. letters_twice 88 (x 0 ∷ x 0 ∷ []) refl refl h.distinct;
  group = λ h. group_twice 71 1 (g 0 ∷ g 10 ∷ []) refl h.distinct;
  other_group = λ h. group_twice 77 7 (m 3 ∷ m 5 ∷ []) refl h.distinct;
}
