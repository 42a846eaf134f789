-- A block with one more word keeps the rule of its type.
use Rattle.std.proofs.Common.{◌≡◌, ℕ, ◌+◌, ◌≤◌, ◌==◌, Bool, true, false, cond, List, [], ◌∷◌, ◌++◌, refl, ap, sym, ◌∙◌, arith, zero-add}
use Rattle.std.proofs.lemmas.Bool.{and_parts, or_parts, eqb-true, leb-true}
use Rattle.std.proofs.lemmas.List.Elements.{All-push}
use Rattle.std.proofs.lemmas.List.Sums.{sum_by-cons, sum_by_push}
use Rattle.std.specs.Prelude.{not, ◌&&◌, count_by, ℤ, pos, negsuc, unsigned_abs, Option, Some, None}
use Rattle.std.specs.List.{list_any}
use Rattle.sn_geom.specs.declared.limits.TheConstants.{MOST_TOOL}
use Rattle.sn_geom.specs.declared.machine.Word.{Word}
use Rattle.sn_geom.specs.declared.block.ModalWord.{ModalWord}
use Rattle.sn_geom.specs.Block.{Block}
use Rattle.sn_geom.specs.BlockRule.{IsBlock, IsLineWord}
use Rattle.sn_geom.specs.LineTable.{is_modal, is_within, is_count_to, is_row_of, in_group, modal_word}
use Rattle.sn_geom.specs.LineText.{has_letter, has_group}
use Rattle.sn_block.specs.Steps.{CanStand}

-- a line number

count_within : (v : ℤ) → is_count_to MOST_TOOL v ≡ true → unsigned_abs v ≤ MOST_TOOL
count_within (pos n) h = leb-true n MOST_TOOL h
count_within (negsuc n) h = absurd (cc)

number_within : (letter : ℕ) (v : ℤ) → letter ≡ 78 → is_within letter v ≡ true → unsigned_abs v ≤ MOST_TOOL
unfolding is_within
number_within letter v e h = count_within v (sym (ap (λ l. is_within l v) e) ∙ h)

pub numbered : (b : Block) (w : Word) (n : ℕ) → IsBlock b → b.percent ≡ false → CanStand b w → w.letter ≡ 78 → n ≡ unsigned_abs w.value → IsBlock (record b { number = Some n })
numbered b w n h plain_line s e v = record {
  number = rw v (number_within w.letter w.value e s.within);
  mark = h.mark;
  words = h.words;
  distinct = h.distinct;
  percent = λ p. absurd (cc);
}

-- a word more

none_counted : (p : Word → Bool) (ws : List Word) → list_any p ws ≡ false → count_by p ws ≡ 0
none_counted p [] h = refl
none_counted p (w ∷ ws) h =
    let parts : (p w ≡ false) × (list_any p ws ≡ false) = or_parts (p w) (list_any p ws) h in
    sum_by-cons (λ x. cond (p x) 1 0) w ws ∙ (ap (λ b. cond b 1 0 + count_by p ws) parts.0 ∙ (zero-add (count_by p ws) ∙ none_counted p ws parts.1))

one_case : (a : ℕ) (t : Bool) → a ≤ 1 → (t ≡ true → a ≡ 0) → a + cond t 1 0 ≤ 1
one_case a true h z = let e : a ≡ 0 = z refl in omega arith
one_case a false h z = omega arith

one_more : (p : Word → Bool) (ws : List Word) (w : Word) → count_by p ws ≤ 1 → (p w ≡ true → list_any p ws ≡ false) → count_by p (ws ++ w ∷ []) ≤ 1
one_more p ws w h never = rw (sum_by_push (λ x. cond (p x) 1 0) ws w) (one_case (count_by p ws) (p w) h (λ e. none_counted p ws (never e)))

and_rest : (x y : Bool) → x ≡ true → (x && y) ≡ false → y ≡ false
and_rest x y e h = sym (ap (λ t. t && y) e) ∙ h

other_letters : (b : Block) (w : Word) → CanStand b w → (w.letter == 78) ≡ false → is_modal w.letter ≡ false → list_any (λ v. v.letter == w.letter) b.words ≡ false
unfolding has_letter
other_letters b w s plain m =
    let free : has_letter b w.letter ≡ false = and_rest (not (is_modal w.letter)) (has_letter b w.letter) (ap not m) s.letter in
    rw plain at free

letter_once : (b : Block) (w : Word) (l : ℕ) → CanStand b w → (w.letter == 78) ≡ false → is_modal l ≡ false → (w.letter == l) ≡ true → list_any (λ v. v.letter == l) b.words ≡ false
letter_once b w l s plain m e =
    let same : w.letter ≡ l = eqb-true w.letter l e in
    ap (λ k. list_any (λ (v : Word). v.letter == k) b.words) (sym same) ∙ other_letters b w s plain (ap is_modal same ∙ m)

group_case : (b : Block) (l g : ℕ) (o : Option ModalWord) → has_group b.words o ≡ false → is_row_of l g o ≡ true → list_any (in_group l g) b.words ≡ false
group_case b l g None h e = absurd (cc)
group_case b l g (Some row) h e =
    let parts : ((row.letter == l) ≡ true) × ((row.group == g) ≡ true) = and_parts (row.letter == l) (row.group == g) e in
    ap (λ k. list_any (in_group k g) b.words) (sym (eqb-true row.letter l parts.0)) ∙ (ap (λ k. list_any (in_group row.letter k) b.words) (sym (eqb-true row.group g parts.1)) ∙ h)

group_once : (b : Block) (w : Word) (l g : ℕ) → CanStand b w → in_group l g w ≡ true → list_any (in_group l g) b.words ≡ false
unfolding in_group
group_once b w l g s e = group_case b l g (modal_word w) s.group e

pub with_more : (b : Block) (w : Word) → IsBlock b → b.percent ≡ false → CanStand b w → (w.letter == 78) ≡ false → IsBlock (record b { words = b.words ++ w ∷ [] })
with_more b w h plain_line s plain = record {
  number = h.number;
  mark = h.mark;
  words = All-push IsLineWord b.words w h.words (record { accepted = s.accepted; within = s.within; no_number = plain });
  distinct = record {
    letters = λ l m. one_more (λ v. v.letter == l) b.words w (let d = h.distinct in d.letters l m) (letter_once b w l s plain m);
    groups = λ l g. one_more (in_group l g) b.words w (let d = h.distinct in d.groups l g) (group_once b w l g s);
  };
  percent = λ p. absurd (cc);
}
