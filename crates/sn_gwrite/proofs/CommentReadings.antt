-- Lines of a comment alone, and marks.
use Rattle.std.proofs.Common.{ℕ, ◌≡◌, ◌<◌, ◌≤◌, ◌+◌, ◌^◌, ◌==◌, ◌||◌, Bool, true, false, List, [], ◌∷◌, ◌++◌, length, decimal, refl, ap, arith, length-append}
use Rattle.std.proofs.lemmas.Bool.Decides.{nat_tests}
use Rattle.std.proofs.lemmas.Fmt.{decimal_is_IsNumeral, first_decimal}
use Rattle.std.proofs.lemmas.List.Sums.{take_while-cons}
use Rattle.std.proofs.lemmas.Str.Parse.{digit_from_value}
use Rattle.std.specs.Int.{IsInRange}
use Rattle.std.specs.List.{list_all}
use Rattle.std.specs.Str.Parse.{AllDigits}
use Rattle.std.specs.Prelude.{not, nat_le, slice_index, Some, None, codes}
use Rattle.sn_geom.specs.declared.block.TheConstants.{MOST_LINE}
use Rattle.sn_geom.specs.LineText.{Kind, Said, Says, LineText, a_comment, is_faulty, said_with, nothing, items_from, between, in_comment, item_at, place_after, beginning, is_digit, has_end, body_of, mark_of, begins_mark, is_mark_number}
use Rattle.sn_gwrite.proofs.NumberWords.{digits_all}
use Rattle.sn_gwrite.proofs.ItemReadings.{says_item, no_item, says_nothing_more, other_byte, reads}
use Rattle.sn_gwrite.proofs.WordReadings.{lower}

pub either_true : (a b : Bool) → b ≡ true → (a || b) ≡ true
either_true true b h = refl
either_true false b h = h

abbrev pub AreInner : List ℕ → Type 0
AreInner [] = Unit {0}
AreInner (b ∷ bs) = ((b == 40) ≡ false) × ((b == 41) ≡ false) × AreInner bs

pub inner_append : (xs ys : List ℕ) → AreInner xs → AreInner ys → AreInner (xs ++ ys)
inner_append [] ys h k = k
inner_append (x ∷ xs) ys h k = (h.0, h.1, inner_append xs ys h.2 k)

pub range_inner : (c : ℕ) → 48 ≤ c → ((c == 40) ≡ false) × ((c == 41) ≡ false)
range_inner c low = (grind (arith, nat_tests), grind (arith, nat_tests))

pub digits_inner : (ds : List ℕ) → AllDigits 10 ds → AreInner ds
digits_inner [] h = tt
digits_inner (d ∷ ds) h =
    let r : IsInRange 48 57 d = digit_from_value d h.0 in
    let i = range_inner d r.0 in
    (i.0, i.1, digits_inner ds h.1)

pub inner_byte : (b : ℕ) (rest : List ℕ) → (b == 40) ≡ false → (b == 41) ≡ false
    → (item_at in_comment b rest ≡ None) × (place_after in_comment b ≡ in_comment)
unfolding item_at place_after
inner_byte b rest h k = (rw h refl, rw k refl)

-- the bytes of a comment and its end
pub says_body : (body rest : List ℕ) (said all : Said) → AreInner body → Says said (items_from between rest) all
    → Says said (items_from in_comment (body ++ 41 ∷ rest)) all
unfolding item_at place_after
says_body [] rest said all h s = says_item in_comment between 41 rest None said said all refl refl (no_item said) (says_nothing_more said) s
says_body (b ∷ bs) rest said all h s =
    let byte = inner_byte b (bs ++ 41 ∷ rest) h.0 h.1 in
    says_item in_comment in_comment b (bs ++ 41 ∷ rest) None said said all byte.0 byte.1 (no_item said) (says_nothing_more said) (says_body bs rest said all h.2 s)

pub ends_somewhere : (body rest : List ℕ) → has_end (body ++ 41 ∷ rest) ≡ true
ends_somewhere [] rest = refl
ends_somewhere (b ∷ bs) rest = either_true (b == 41) (has_end (bs ++ 41 ∷ rest)) (ends_somewhere bs rest)

pub body_is : (body rest : List ℕ) → AreInner body → body_of (body ++ 41 ∷ rest) ≡ body
body_is [] rest h = refl
body_is (b ∷ bs) rest h = rw (take_while-cons (λ c. not (c == 41)) b (bs ++ 41 ∷ rest), h.1) (ap (λ xs. b ∷ xs) (body_is bs rest h.2))

pub comment_item : (body : List ℕ) → AreInner body
    → item_at between 40 (body ++ 41 ∷ []) ≡ Some (a_comment body)
unfolding item_at beginning
comment_item body h = rw (ends_somewhere body [], body_is body [] h) refl

pub comment_none : (said : Said) (body : List ℕ) (kind : Kind)
    → is_faulty said (Some (a_comment body)) kind ≡ false
unfolding is_faulty
comment_none said body kind = refl

-- a line of a comment alone
abbrev pub comment_said : List ℕ → Said
comment_said body = record { block = record { percent = false; number = None; mark = mark_of body; words = [] }; begun = true }

pub comment_says : (body : List ℕ) → said_with nothing (Some (a_comment body)) ≡ comment_said body
unfolding said_with
comment_says body = refl

pub comment_read : (body : List ℕ) → AreInner body → length body + 2 ≤ MOST_LINE
    → LineText (40 ∷ (body ++ 41 ∷ [])) (comment_said body).block
unfolding place_after
comment_read body inner short =
    reads (40 ∷ (body ++ 41 ∷ [])) (comment_said body) (omega (arith, length-append body (41 ∷ []))) (other_byte 40 _ (omega arith))
    (says_item between in_comment 40 (body ++ 41 ∷ []) (Some (a_comment body)) nothing (comment_said body) (comment_said body) (comment_item body inner) refl (comment_none nothing body) (comment_says body)
    (says_body body [] (comment_said body) (comment_said body) inner refl))

pub no_mark_by : (t : Bool) (rest : List ℕ) → nat_le 4 (length (84 ∷ rest)) ≡ t → mark_of (84 ∷ rest) ≡ None
unfolding mark_of begins_mark
no_mark_by true rest e = rw e refl
no_mark_by false rest e = rw e refl

pub no_mark : (rest : List ℕ) → mark_of (84 ∷ rest) ≡ None
no_mark rest = no_mark_by (nat_le 4 (length (84 ∷ rest))) rest refl

pub above : (c : ℕ) → 48 < c → (c == 48) ≡ false
above c h = grind (arith, nat_tests)

pub mark_is : (n : ℕ) → 1 ≤ n → n < 2 ^ 32 → mark_of (codes "WS #" ++ decimal n) ≡ Some n
unfolding mark_of begins_mark is_mark_number
mark_is n h k =
    let digits = decimal_is_IsNumeral n (omega arith) in
    let long : nat_le 4 (length (codes "WS #" ++ decimal n)) ≡ true = lower 4 (length (codes "WS #" ++ decimal n)) (omega arith) in
    let all : list_all is_digit (decimal n) ≡ true = digits_all (decimal n) digits.0.1 in
    let first : (slice_index (decimal n) 0 == 48) ≡ false = above (slice_index (decimal n) 0) (first_decimal n (omega arith) (omega arith)) in
    let least : nat_le 1 n ≡ true = lower 1 n h in
    let most : nat_le n 4294967295 ≡ true = lower n 4294967295 (omega arith) in
    rw (long, all, first, digits.1, least, most) refl
