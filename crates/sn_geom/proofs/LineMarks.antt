-- Marks: "WS #" and a number.
use Rattle.std.proofs.Common.{◌≡◌, ℕ, ◌+◌, ◌*◌, ◌<◌, ◌≤◌, ◌==◌, Bool, true, false, List, [], ◌∷◌, ◌++◌, length, drop, refl, ap, sym, ◌∙◌, subst, arith, if◌then◌else◌}
use Rattle.std.proofs.lemmas.Bool.{and_parts, and_from, not-true, not_from_false, leb-true, le-leb, eqb-true, eqb-false, ne_eqb}
use Rattle.std.proofs.lemmas.Bool.Decides.{nat_tests}
use Rattle.std.specs.Prelude.{◌↔◌, ◌&&◌, not, nat_le, Some, None, slice_index, codes}
use Rattle.std.specs.List.{list_all}
use Rattle.std.specs.Char.{digit_value}
use Rattle.std.specs.Str.Parse.{AllDigits, IsNumeral, digits_value}
use Rattle.sn_geom.specs.LineText.{is_digit, is_mark_number, begins_mark, mark_of}
use Rattle.sn_geom.specs.LineTextLaws.{WritesPlainly}
use Rattle.sn_geom.proofs.DigitValues.{digits_value_after-le}
use Rattle.sn_geom.proofs.LineCounts.{digits_are}

digit_from : (b : ℕ) → digit_value b < 10 → is_digit b ≡ true
digit_from b h = grind (arith, nat_tests)

all_digits : (ds : List ℕ) → AllDigits 10 ds → list_all is_digit ds ≡ true
all_digits [] h = refl
all_digits (d ∷ ds) h = and_from (is_digit d) (list_all is_digit ds) (digit_from d h.0) (all_digits ds h.1)

some_digits : (ds : List ℕ) → 1 ≤ digits_value 10 ds → 0 < length ds
some_digits [] h = absurd (omega arith)
some_digits (d ∷ ds) h = omega arith

first_value : (d : ℕ) → digit_value d < 10 → (d ≡ 48 → ⊥) → 1 ≤ digit_value d
first_value d low h = grind (arith, nat_tests)

plain_value : (ds : List ℕ) → IsNumeral 10 ds → (slice_index ds 0 ≡ 48 → ⊥) → 1 ≤ digits_value 10 ds
plain_value [] h z = absurd (omega (arith, h.0))
plain_value (d ∷ ds) h z = let a : AllDigits 10 (d ∷ ds) = h.1 in omega (arith, first_value d a.0 z, digits_value_after-le (0 * 10 + digit_value d) ds)

pub record IsMarkNumber (ds : List ℕ) : Type 0 where
  pub each : list_all is_digit ds ≡ true
  pub first : (slice_index ds 0 == 48) ≡ false
  pub low : 1 ≤ digits_value 10 ds
  pub high : digits_value 10 ds ≤ 4294967295

number_parts : (ds : List ℕ) → is_mark_number ds ≡ true → IsMarkNumber ds
unfolding is_mark_number
number_parts ds h =
    let p = and_parts _ (nat_le (digits_value 10 ds) 4294967295) h in
    let q = and_parts _ (nat_le 1 (digits_value 10 ds)) p.0 in
    let r = and_parts (list_all is_digit ds) (not (slice_index ds 0 == 48)) q.0 in
    record { each = r.0; first = not-true (slice_index ds 0 == 48) r.1; low = leb-true 1 (digits_value 10 ds) q.1; high = leb-true (digits_value 10 ds) 4294967295 p.1 }

number_made : (ds : List ℕ) → IsMarkNumber ds → is_mark_number ds ≡ true
unfolding is_mark_number
number_made ds m =
    and_from _ (nat_le (digits_value 10 ds) 4294967295)
    (and_from _ (nat_le 1 (digits_value 10 ds))
    (and_from (list_all is_digit ds) (not (slice_index ds 0 == 48)) m.each (not_from_false (slice_index ds 0 == 48) m.first))
    (le-leb 1 (digits_value 10 ds) m.low))
    (le-leb (digits_value 10 ds) 4294967295 m.high)

begins : (body : List ℕ) → begins_mark body ≡ true → body ≡ codes "WS #" ++ drop 4 body
unfolding begins_mark
begins [] h = absurd (cc)
begins (a ∷ []) h = absurd (cc)
begins (a ∷ b ∷ []) h = absurd (cc)
begins (a ∷ b ∷ c ∷ []) h = absurd (cc)
begins (a ∷ b ∷ c ∷ d ∷ ds) h =
    let p = and_parts _ (d == 35) h in
    let q = and_parts _ (c == 32) p.0 in
    let r = and_parts _ (b == 83) q.0 in
    let s = and_parts _ (a == 87) r.0 in
    let e : a ≡ 87 = eqb-true a 87 s.1 in
    let f : b ≡ 83 = eqb-true b 83 r.1 in
    let g : c ≡ 32 = eqb-true c 32 q.1 in
    let i : d ≡ 35 = eqb-true d 35 p.1 in
    cc

begun : (ds : List ℕ) → begins_mark (codes "WS #" ++ ds) ≡ true
unfolding begins_mark
begun ds =
    let long : nat_le 4 (length (codes "WS #" ++ ds)) ≡ true = le-leb 4 (length (codes "WS #" ++ ds)) (omega arith) in
    rw long refl

mark_case : (t : Bool) (v n : ℕ) → (if t then Some v else None) ≡ Some n → (t ≡ true) × (v ≡ n)
mark_case true v n h = (refl, cc)
mark_case false v n h = absurd (cc)

mark_parts : (body : List ℕ) (n : ℕ) → mark_of body ≡ Some n → (digits : List ℕ) × (body ≡ codes "WS #" ++ digits) × WritesPlainly digits n × (n ≤ 4294967295)
unfolding mark_of
mark_parts body n h =
    let c = mark_case (begins_mark body && is_mark_number (drop 4 body)) (digits_value 10 (drop 4 body)) n h in
    let p = and_parts (begins_mark body) (is_mark_number (drop 4 body)) c.0 in
    let m = number_parts (drop 4 body) p.1 in (
      drop 4 body,
      begins body p.0,
      record { digits = (some_digits (drop 4 body) m.low, digits_are (drop 4 body) m.each); no_zero = eqb-false (slice_index (drop 4 body) 0) 48 m.first; value = c.1 },
      subst (λ k. k ≤ 4294967295) c.1 m.high,
    )

mark_made : (ds : List ℕ) (n : ℕ) → WritesPlainly ds n → n ≤ 4294967295 → mark_of (codes "WS #" ++ ds) ≡ Some n
unfolding mark_of
mark_made ds n w h =
    let m : IsMarkNumber ds = record {
      each = all_digits ds (let d = w.digits in d.1);
      first = ne_eqb (slice_index ds 0) 48 w.no_zero;
      low = plain_value ds w.digits w.no_zero;
      high = subst (λ k. k ≤ 4294967295) (sym w.value) h;
    } in
    rw (begun ds, number_made ds m) (ap Some w.value)

pub mark_is_number : (body : List ℕ) (n : ℕ) → (mark_of body ≡ Some n) ↔ ((digits : List ℕ) × (body ≡ codes "WS #" ++ digits) × WritesPlainly digits n × (n ≤ 4294967295))
mark_is_number body n = (mark_parts body n, (λ x. ap mark_of x.1 ∙ mark_made x.0 n x.2 x.3))
