-- A word, read whole: its first fault, or what is said with it.
use Rattle.std.proofs.Common.{◌≡◌, ℕ, ◌==◌, true, false, List, Ok, Err, refl, ap, sym, ◌∙◌}
use Rattle.std.specs.Prelude.{Some, not, ◌||◌, ◌&&◌, ℤ, min}
use Rattle.sn_geom.specs.declared.block.LineFault.TheVariants.{BadNumber, TooFine, OutOfRange, Twice, SameGroup, Unsupported}
use Rattle.sn_geom.specs.Decimal.{with_sign}
use Rattle.sn_geom.specs.LineTable.{has_unit, places_of, is_within, is_modal, is_accepted, modal_word}
use Rattle.sn_geom.specs.LineText.{Said, a_word, word_of, is_number, is_negative, size_of, is_fine, has_letter, has_group, with_word, is_faulty, said_with}
use Rattle.sn_block.specs.declared.number.Number.{Number}
use Rattle.sn_block.specs.declared.number.TheConstants.{MOST_SIZE}
use Rattle.sn_block.specs.Numbers.{ShowsNumber}
use Rattle.sn_block.specs.Steps.{step}
use Rattle.sn_block.proofs.Words.{same_within, same_row, same_accepted, same_word}

pub bad_step : (s : Said) (letter : ℕ) (text : List ℕ) (c : ℕ) → is_number text ≡ false → step s (Some (a_word letter text)) c ≡ Err (BadNumber c)
unfolding step is_faulty
bad_step s letter text c e = rw e refl

module _ (s : Said) (letter : ℕ) (text : List ℕ) (c : ℕ) (e : is_number text ≡ true) where
  pub fine_step : (has_unit letter && not (is_fine (places_of letter) text)) ≡ true → step s (Some (a_word letter text)) c ≡ Err (TooFine c)
  unfolding step is_faulty
  fine_step f = rw (e, f) refl

  pub range_step : (has_unit letter && not (is_fine (places_of letter) text)) ≡ false → (let w = word_of letter text in is_within letter w.value) ≡ false → step s (Some (a_word letter text)) c ≡ Err (OutOfRange c)
  unfolding step is_faulty
  range_step f g = rw (e, f, g) refl

  pub twice_step :
      (has_unit letter && not (is_fine (places_of letter) text)) ≡ false → (let w = word_of letter text in is_within letter w.value) ≡ true →
      (not (is_modal letter) && has_letter s.block letter) ≡ true → step s (Some (a_word letter text)) c ≡ Err (Twice c)
  unfolding step is_faulty
  twice_step f g h = rw (e, f, g, h) refl

  pub group_step :
      (has_unit letter && not (is_fine (places_of letter) text)) ≡ false → (let w = word_of letter text in is_within letter w.value) ≡ true →
      (not (is_modal letter) && has_letter s.block letter) ≡ false → has_group s.block.words (modal_word (word_of letter text)) ≡ true →
      step s (Some (a_word letter text)) c ≡ Err (SameGroup c)
  unfolding step is_faulty
  group_step f g h i = rw (e, f, g, h, i) refl

  pub refused_step :
      (has_unit letter && not (is_fine (places_of letter) text)) ≡ false → (let w = word_of letter text in is_within letter w.value) ≡ true →
      (not (is_modal letter) && has_letter s.block letter) ≡ false → has_group s.block.words (modal_word (word_of letter text)) ≡ false →
      (not (is_accepted (word_of letter text)) || (letter == 78 && s.begun)) ≡ true → step s (Some (a_word letter text)) c ≡ Err (Unsupported c)
  unfolding step is_faulty
  refused_step f g h i j = rw (e, f, g, h, i, j) refl

  pub word_step :
      (has_unit letter && not (is_fine (places_of letter) text)) ≡ false → (let w = word_of letter text in is_within letter w.value) ≡ true →
      (not (is_modal letter) && has_letter s.block letter) ≡ false → has_group s.block.words (modal_word (word_of letter text)) ≡ false →
      (not (is_accepted (word_of letter text)) || (letter == 78 && s.begun)) ≡ false →
      step s (Some (a_word letter text)) c ≡ Ok (record { block = with_word s.block (word_of letter text); begun = true })
  unfolding step is_faulty said_with
  word_step f g h i j = rw (e, f, g, h, i, j) refl

-- the number as the code has it: its size counted up to a limit

module _ (letter : ℕ) (text : List ℕ) (places : ℕ) (n : Number) (v : ℤ) (p_is : places ≡ places_of letter) (shows : ShowsNumber places text n) (v_is : v ≡ with_sign n.negative n.size) where
  counted_value : v ≡ with_sign (is_negative text) (min MOST_SIZE (size_of (places_of letter) text))
  counted_value =
      v_is ∙ (ap (λ b. with_sign b n.size) shows.negative ∙ (ap (λ k. with_sign (is_negative text) k) shows.size ∙ ap (λ k. with_sign (is_negative text) (min MOST_SIZE (size_of k text))) p_is))

  pub counted_fine : (has_unit letter && not (is_fine (places_of letter) text)) ≡ (has_unit letter && not n.fine)
  counted_fine = ap (λ b. has_unit letter && not b) (sym (shows.fine ∙ ap (λ k. is_fine k text) p_is))

  pub counted_within : (let w = word_of letter text in is_within letter w.value) ≡ is_within letter v
  counted_within = sym (ap (λ z. is_within letter z) counted_value ∙ same_within letter (is_negative text) (size_of (places_of letter) text))

  pub counted_row : modal_word (word_of letter text) ≡ modal_word (record { letter = letter; value = v })
  counted_row = sym (ap (λ z. modal_word (record { letter = letter; value = z })) counted_value ∙ same_row letter (is_negative text) (size_of (places_of letter) text))

  pub counted_accepted : is_accepted (word_of letter text) ≡ is_accepted (record { letter = letter; value = v })
  counted_accepted = sym (ap (λ z. is_accepted (record { letter = letter; value = z })) counted_value ∙ same_accepted letter (is_negative text) (size_of (places_of letter) text))

  pub counted_word : is_within letter v ≡ true → is_accepted (record { letter = letter; value = v }) ≡ true → v ≡ with_sign (is_negative text) (size_of (places_of letter) text)
  counted_word h a =
      counted_value ∙ ap (λ k. with_sign (is_negative text) k) (same_word letter (is_negative text) (size_of (places_of letter) text) (counted_within ∙ h) (counted_accepted ∙ a))
