-- Words whose sizes are counted up to a limit: they are within their limits and in the table exactly where those of the
-- written sizes are.
use Rattle.std.proofs.Common.{◌≡◌, ℕ, ◌<◌, ◌≤◌, ◌==◌, Bool, true, false, List, [], ◌∷◌, refl, ap, sym, ◌∙◌, arith, lit≤, ⊎_elim, zero, suc}
use Rattle.std.proofs.lemmas.Bool.{cases_lt, and_parts, and_right, or_from, ltb-true, lt-leb, false_from_ne_true}
use Rattle.std.proofs.lemmas.Bool.Decides.{Decides-int_eq}
use Rattle.std.specs.Prelude.{min, ◌||◌, nat_le, nat_lt, ℤ, unsigned_abs, None, if◌then◌else◌}
use Rattle.std.specs.List.{find, list_all}
use Rattle.std.specs.Ordering.{int_eq}
use Rattle.sn_geom.specs.declared.limits.TheConstants.{REACH, MOST_TOOL, MOST_RATE}
use Rattle.sn_geom.specs.declared.machine.Word.{Word}
use Rattle.sn_geom.specs.declared.block.ModalWord.{ModalWord}
use Rattle.sn_geom.specs.Decimal.{with_sign}
use Rattle.sn_geom.specs.LineTable.{is_axis, is_number_letter, is_rate, is_plain, is_count_to, is_within, is_word, is_accepted, is_accepted_row, modal_word, modal_words}
use Rattle.sn_block.specs.declared.number.TheConstants.{MOST_SIZE}

-- the limits are below the sizes that are counted
most_reach : REACH < MOST_SIZE
most_reach = lit≤ tt

most_tool : MOST_TOOL < MOST_SIZE
most_tool = lit≤ tt

most_rate : MOST_RATE < MOST_SIZE
most_rate = lit≤ tt

size_with_sign : (negative : Bool) (n : ℕ) → unsigned_abs (with_sign negative n) ≡ n
size_with_sign true zero = refl
size_with_sign true (suc n) = refl
size_with_sign false n = refl

far_count : (most : ℕ) (negative : Bool) (n : ℕ) → most < MOST_SIZE → MOST_SIZE ≤ n → is_count_to most (with_sign negative n) ≡ false
far_count most true zero l h = absurd (omega arith)
far_count most true (suc n) l h = refl
far_count most false n l h = lt-leb n most (omega arith)

far_size : (negative : Bool) (n : ℕ) → MOST_SIZE ≤ n → nat_le (unsigned_abs (with_sign negative n)) REACH ≡ false
far_size negative n h = rw (size_with_sign negative n) (lt-leb n REACH (omega (arith, most_reach)))

-- what is said of values that are too great for all limits
abbrev has_no_limit : ℕ → Bool
has_no_limit letter = if is_axis letter then false else if is_number_letter letter then false else if is_rate letter then false else true

far_within : (letter : ℕ) (negative : Bool) (n : ℕ) → MOST_SIZE ≤ n → is_within letter (with_sign negative n) ≡ has_no_limit letter
unfolding is_within
far_within letter negative n h = rw (far_size negative n h, far_count MOST_TOOL negative n most_tool h, far_count MOST_RATE negative n most_rate h) refl

-- no word of the table is so great
abbrev is_small_row : ModalWord → Bool
is_small_row row = nat_lt (unsigned_abs row.value) 1000

small_rows : list_all is_small_row modal_words ≡ true
unfolding modal_words
small_rows = refl

other_value : (x y : ℤ) → (x ≡ y → ⊥) → int_eq x y ≡ false
other_value x y h = false_from_ne_true (int_eq x y) (λ e. h ((Decides-int_eq x y).0 e))

far_row : (w : Word) (row : ModalWord) → is_small_row row ≡ true → MOST_SIZE ≤ unsigned_abs w.value → is_word w row ≡ false
far_row w row e h =
    and_right (row.letter == w.letter) (int_eq row.value w.value)
    (other_value row.value w.value (λ same. let less : unsigned_abs row.value < 1000 = ltb-true (unsigned_abs row.value) 1000 e in let sizes : unsigned_abs row.value ≡ unsigned_abs w.value = ap unsigned_abs same in absurd (omega arith)))

far_find : (w : Word) (rows : List ModalWord) → list_all is_small_row rows ≡ true → MOST_SIZE ≤ unsigned_abs w.value → find (is_word w) rows ≡ None
far_find w [] e h = refl
far_find w (row ∷ rows) e h =
    let p : (is_small_row row ≡ true) × (list_all is_small_row rows ≡ true) = and_parts (is_small_row row) (list_all is_small_row rows) e in
    rw (far_row w row p.0 h) (far_find w rows p.1 h)

far_modal : (letter : ℕ) (negative : Bool) (n : ℕ) → MOST_SIZE ≤ n → modal_word (record { letter = letter; value = with_sign negative n }) ≡ None
unfolding modal_word
far_modal letter negative n h = far_find (record { letter = letter; value = with_sign negative n }) modal_words small_rows (rw (size_with_sign negative n) h)

-- ---- the counted size in place of the written one

counted : (s : ℕ) → s < MOST_SIZE → min MOST_SIZE s ≡ s
counted s h = grind arith

capped : (s : ℕ) → MOST_SIZE ≤ s → min MOST_SIZE s ≡ MOST_SIZE
capped s h = grind arith

module _ (letter : ℕ) (negative : Bool) (s : ℕ) where
  pub same_within : is_within letter (with_sign negative (min MOST_SIZE s)) ≡ is_within letter (with_sign negative s)
  same_within =
      ⊎_elim
      (λ lt. ap (λ n. is_within letter (with_sign negative n)) (counted s lt))
      (λ le. ap (λ n. is_within letter (with_sign negative n)) (capped s le) ∙ (far_within letter negative MOST_SIZE (omega arith) ∙ sym (far_within letter negative s le)))
      (cases_lt s MOST_SIZE)

  pub same_row : modal_word (record { letter = letter; value = with_sign negative (min MOST_SIZE s) }) ≡ modal_word (record { letter = letter; value = with_sign negative s })
  same_row =
      ⊎_elim
      (λ lt. ap (λ n. modal_word (record { letter = letter; value = with_sign negative n })) (counted s lt))
      (λ le. ap (λ n. modal_word (record { letter = letter; value = with_sign negative n })) (capped s le) ∙ (far_modal letter negative MOST_SIZE (omega arith) ∙ sym (far_modal letter negative s le)))
      (cases_lt s MOST_SIZE)

  pub same_accepted : is_accepted (record { letter = letter; value = with_sign negative (min MOST_SIZE s) }) ≡ is_accepted (record { letter = letter; value = with_sign negative s })
  unfolding is_accepted
  same_accepted = ap (λ row. is_plain letter || is_accepted_row row) same_row

-- a letter whose values have no limit is none that is read with any value
not_plain : (a b c : Bool) → (if a then false else if b then false else if c then false else true) ≡ true → (a || b || c) ≡ false
not_plain true b c h = absurd (cc)
not_plain false true c h = absurd (cc)
not_plain false false true h = absurd (cc)
not_plain false false false h = refl

far_refused : (letter : ℕ) (negative : Bool) (s : ℕ) → MOST_SIZE ≤ s → is_within letter (with_sign negative s) ≡ true → is_accepted (record { letter = letter; value = with_sign negative s }) ≡ false
unfolding is_accepted
far_refused letter negative s le h =
    or_from (is_plain letter) (is_accepted_row (modal_word (record { letter = letter; value = with_sign negative s })))
    (not_plain (is_axis letter) (is_number_letter letter) (is_rate letter) (sym (far_within letter negative s le) ∙ h))
    (ap is_accepted_row (far_modal letter negative s le))

-- the counted word is the written one, where that is accepted
pub same_word : (letter : ℕ) (negative : Bool) (s : ℕ) → is_within letter (with_sign negative s) ≡ true → is_accepted (record { letter = letter; value = with_sign negative s }) ≡ true → min MOST_SIZE s ≡ s
same_word letter negative s h a =
    ⊎_elim
    (λ lt. counted s lt)
    (λ le. let no = far_refused letter negative s le h in absurd (cc))
    (cases_lt s MOST_SIZE)
