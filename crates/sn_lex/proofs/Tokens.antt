-- What each kind of first byte leads to.
use Rattle.std.proofs.Common.{◌≡◌, ℕ, ◌≤◌, Bool, true, false, cond, eqb, ◌||◌, List, [], ◌∷◌, ◌++◌, length, append_assoc, append-nil, refl, sym, ap, ◌∙◌, subst, arith, inl, inr, ◌⊎◌, Option, Some, None, Result, Bor, MatchOption, MatchResult}
use Rattle.std.proofs.lemmas.Bool.{cases_Bool, cases_eq, true≢false, eqb-true}
use Rattle.std.proofs.lemmas.Bool.Decides.{nat_tests}
use Rattle.std.specs.Prelude.{ok_or}
use Rattle.std.specs.Char.{is_ascii_digit, is_ascii_whitespace}
use Rattle.sn_lex.specs.Character.{is_upper, is_sign, is_stray}
use Rattle.sn_lex.specs.Form.{IsCommentBody, IsTextOf, IsFaultyText, HeadFails}
use Rattle.sn_lex.specs.Reading.{NoLongerForm, offset_of}
use Rattle.sn_lex.specs.Split.{HasNoSeparator, LeavesComment, ReadsToken, ReadsFault}
use Rattle.sn_lex.specs.declared.token.Token.{Token}
use Rattle.sn_lex.specs.declared.token.Token.TheVariants.{LeftParen, RightParen, Comma, Semicolon, Equals, Dollar, Star}
use Rattle.sn_lex.specs.declared.token.LexFault.{LexFault}
use Rattle.sn_lex.specs.declared.token.LexFault.TheVariants.{BadByte, OpenComment}
use Rattle.sn_lex.specs.declared.opening.Opening.{Opening}
use Rattle.sn_lex.specs.declared.opening.Opening.TheVariants.{Word, Number, Hash, Apostrophe, Point, Exclamation, Quotation, Solidus, Mark, Other}
use Rattle.sn_lex.specs.Opening.{opening_of, mark_opening_of}
use Rattle.sn_lex.proofs.Competes.{Competes, no_longer}
use Rattle.sn_lex.proofs.Quoted.{whole_longest}

-- The byte from its kind.

pub hash_is : (c : ℕ) → opening_of c ≡ Hash → c ≡ 35
hash_is c h = grind (arith, nat_tests)

pub apostrophe_is : (c : ℕ) → opening_of c ≡ Apostrophe → c ≡ 39
apostrophe_is c h = grind (arith, nat_tests)

pub point_is : (c : ℕ) → opening_of c ≡ Point → c ≡ 46
point_is c h = grind (arith, nat_tests)

pub exclamation_is : (c : ℕ) → opening_of c ≡ Exclamation → c ≡ 33
exclamation_is c h = grind (arith, nat_tests)

pub quotation_is : (c : ℕ) → opening_of c ≡ Quotation → c ≡ 34
quotation_is c h = grind (arith, nat_tests)

pub solidus_is : (c : ℕ) → opening_of c ≡ Solidus → c ≡ 47
solidus_is c h = grind (arith, nat_tests)

pub word_is : (c : ℕ) → opening_of c ≡ Word → is_upper c ≡ true
word_is c h = grind (arith, nat_tests)

pub number_is : (c : ℕ) → opening_of c ≡ Number → (is_ascii_digit c || is_sign c) ≡ true
number_is c h = grind (arith, nat_tests)

pub other_is : (c : ℕ) → opening_of c ≡ Other → is_ascii_whitespace c ≡ false → is_stray c ≡ true
other_is c h dark = grind (arith, nat_tests)

-- Marks.

mark_of_level : (b : Bool) (k t : Token) (next : Opening) → cond b (Mark k) next ≡ Mark t → ((b ≡ true) × (k ≡ t)) ⊎ (next ≡ Mark t)
mark_of_level true k t next e = inl (refl, cc)
mark_of_level false k t next e = inr e

other_of_level : (b : Bool) (k next : Opening) (t : Token) → (k ≡ Mark t → ⊥) → cond b k next ≡ Mark t → next ≡ Mark t
other_of_level true k next t apart e = absurd (apart e)
other_of_level false k next t apart e = e

mark_at : (c d : ℕ) (k t : Token) → eqb c d ≡ true → k ≡ t → IsTextOf k (d ∷ []) → IsTextOf t (c ∷ [])
mark_at c d k t same is text = subst (λ (u : Token). IsTextOf u (c ∷ [])) is (subst (λ (n : ℕ). IsTextOf k (n ∷ [])) (sym (eqb-true c d same)) text)

mark_text_of : (c : ℕ) (t : Token) → mark_opening_of c ≡ Mark t → IsTextOf t (c ∷ [])
mark_text_of c t e0 = elim (mark_of_level (eqb c 40) LeftParen t _ e0) [
  | inl h ↦ mark_at c 40 LeftParen t h.0 h.1 refl
  | inr e1 ↦
      elim (mark_of_level (eqb c 41) RightParen t _ e1) [
        | inl h ↦ mark_at c 41 RightParen t h.0 h.1 refl
        | inr e2 ↦
            elim (mark_of_level (eqb c 44) Comma t _ e2) [
              | inl h ↦ mark_at c 44 Comma t h.0 h.1 refl
              | inr e3 ↦
                  elim (mark_of_level (eqb c 59) Semicolon t _ e3) [
                    | inl h ↦ mark_at c 59 Semicolon t h.0 h.1 refl
                    | inr e4 ↦
                        elim (mark_of_level (eqb c 61) Equals t _ e4) [
                          | inl h ↦ mark_at c 61 Equals t h.0 h.1 refl
                          | inr e5 ↦
                              elim (mark_of_level (eqb c 36) Dollar t _ e5) [
                                | inl h ↦ mark_at c 36 Dollar t h.0 h.1 refl
                                | inr e6 ↦
                                    elim (mark_of_level (eqb c 42) Star t _ e6) [ inl h ↦ mark_at c 42 Star t h.0 h.1 refl | inr e7 ↦ absurd cc ]
                              ]
                        ]
                  ]
            ]
      ]
]

pub mark_text : (c : ℕ) (t : Token) → opening_of c ≡ Mark t → IsTextOf t (c ∷ [])
mark_text c t e =
    mark_text_of c t
    (other_of_level (eqb c 47) Solidus _ t (λ x. cc) (other_of_level (eqb c 34) Quotation _ t (λ x. cc) (other_of_level (eqb c 33) Exclamation _ t (λ x. cc) (other_of_level (eqb c 46) Point _ t (λ x. cc)
    (other_of_level (eqb c 39) Apostrophe _ t (λ x. cc) (other_of_level (eqb c 35) Hash _ t (λ x. cc) (other_of_level (is_ascii_digit c || is_sign c) Number _ t (λ x. cc) (other_of_level (is_upper c) Word _ t (λ x. cc) e))))))))

pub reads_mark : (bytes : List ℕ) (c : ℕ) (after : List ℕ) (t : Token) → bytes ≡ c ∷ after → opening_of c ≡ Mark t → ReadsToken bytes t after
reads_mark bytes c after t same is = record { text = c ∷ []; whole = same; is_text = mark_text c t is; longest = subst (λ (l : List ℕ). NoLongerForm l 1) (sym same) (no_longer (Mark t) c after 1 is (λ text rest e one. omega (arith, one))) }

-- Faults.

pub with_fault : (bytes : List ℕ) (f g : LexFault) → ((text : List ℕ) → IsFaultyText f text → IsFaultyText g text) → ReadsFault bytes f → ReadsFault bytes g
with_fault bytes f g alike fault = record { text = fault.text; after = fault.after; whole = fault.whole; is_text = alike fault.text fault.is_text; longest = fault.longest }

-- what a reader gives, with the fault at its offset
pub read_or : (bytes whole : List ℕ) (r : Option (Token × Bor (List ℕ))) (f g : LexFault) (at : ℕ) (result : Result (Token × Bor (List ℕ)) LexFault)
    → bytes ≡ whole → MatchOption r (ReadsFault whole f) (λ found. ReadsToken whole found.0 found.1.now) → ((text : List ℕ) → IsFaultyText f text → IsFaultyText g text) → offset_of g ≡ at → result ≡ ok_or r g
    → MatchResult result (λ found. ReadsToken bytes found.0 found.1.now) (λ fault. ReadsFault bytes fault × (offset_of fault ≡ at))
read_or bytes whole None f g at result same cases alike place is =
    rw is (subst (λ (l : List ℕ). ReadsFault l g) (sym same) (with_fault whole f g alike cases), place)
read_or bytes whole (Some found) f g at result same cases alike place is =
    rw is (subst (λ (l : List ℕ). ReadsToken l found.0 found.1.now) (sym same) cases)

pub stray_byte : (bytes : List ℕ) (c : ℕ) (after : List ℕ) (at : ℕ) → bytes ≡ c ∷ after → HasNoSeparator bytes → opening_of c ≡ Other → ReadsFault bytes (BadByte at)
stray_byte bytes c after at same none is = record { text = c ∷ []; after = after; whole = same; is_text = (c, elim (cases_Bool (is_ascii_whitespace c)) [ inl white ↦ absurd (none (c ∷ []) after same (inl (c, white, refl))) | inr dark ↦ other_is c is dark ], refl); longest = subst (λ (l : List ℕ). NoLongerForm l 1) (sym same) (no_longer Other c after 1 is (λ text rest e one. omega (arith, one))) }

pub lone_solidus : (bytes : List ℕ) (c : ℕ) (after : List ℕ) (at : ℕ) → bytes ≡ c ∷ after → opening_of c ≡ Solidus → HeadFails (λ k. eqb k 42) after → ReadsFault bytes (BadByte at)
lone_solidus bytes c after at same is none = record { text = 47 ∷ []; after = after; whole = whole; is_text = (47, refl, refl); longest = subst (λ (l : List ℕ). NoLongerForm l 1) (sym whole) (no_longer Solidus 47 after 1 refl bounds) }
  where
    whole : bytes ≡ 47 ∷ after
    whole = same ∙ ap (λ (k : ℕ). k ∷ after) (solidus_is c is)

    bounds : (text rest : List ℕ) → 47 ∷ after ≡ text ++ rest → Competes Solidus text → length text ≤ 1
    bounds text rest e (inl one) = omega (arith, one)
    bounds text rest e (inr (body, f)) =
        let both : 47 ∷ after ≡ 47 ∷ 42 ∷ (body ++ rest) = e ∙ ap (λ l. l ++ rest) f in
        let tails : after ≡ 42 ∷ (body ++ rest) = cc in
        absurd (true≢false (subst (HeadFails (λ k. eqb k 42)) tails none))

-- a body is closed somewhere or nowhere
pub body_cases : (body : List ℕ) → IsCommentBody body ⊎ ((after : List ℕ) × LeavesComment body after)
body_cases [] = inl tt
body_cases (c ∷ []) = inl tt
body_cases (c ∷ d ∷ cs) = at_head (cases_eq c 42) (cases_eq d 47) (body_cases (d ∷ cs))
  where
    longer : ((c ≡ 42) × (d ≡ 47) → ⊥) → (front : List ℕ) (after : List ℕ) → IsCommentBody front → d ∷ cs ≡ front ++ (42 ∷ 47 ∷ after) → IsCommentBody (c ∷ front)
    longer apart [] after is same = tt
    longer apart (e ∷ front) after is same =
        let heads : e ≡ d = cc in
        (λ pair. apart (pair.0, sym heads ∙ pair.1), is)

    go_on : ((c ≡ 42) × (d ≡ 47) → ⊥) → IsCommentBody (d ∷ cs) ⊎ ((after : List ℕ) × LeavesComment (d ∷ cs) after) → IsCommentBody (c ∷ d ∷ cs) ⊎ ((after : List ℕ) × LeavesComment (c ∷ d ∷ cs) after)
    go_on apart (inl unclosed) = inl (apart, unclosed)
    go_on apart (inr (after, leaves)) = inr (after, record { body = c ∷ leaves.body; is_body = longer apart leaves.body after leaves.is_body leaves.whole; whole = ap (λ l. c ∷ l) leaves.whole })

    at_head : (c ≡ 42) ⊎ (c ≡ 42 → ⊥) → (d ≡ 47) ⊎ (d ≡ 47 → ⊥) → IsCommentBody (d ∷ cs) ⊎ ((after : List ℕ) × LeavesComment (d ∷ cs) after) → IsCommentBody (c ∷ d ∷ cs) ⊎ ((after : List ℕ) × LeavesComment (c ∷ d ∷ cs) after)
    at_head (inl star) (inl solidus) rest = inr (cs, record { body = []; is_body = tt; whole = cc })
    at_head (inl star) (inr apart) rest = go_on (λ pair. apart pair.1) rest
    at_head (inr apart) solidus rest = go_on (λ pair. apart pair.0) rest

pub open_comment_at : (bytes : List ℕ) (c : ℕ) (after body : List ℕ) (at : ℕ) → bytes ≡ c ∷ after → HasNoSeparator bytes → opening_of c ≡ Solidus → after ≡ 42 ∷ body → ReadsFault bytes (OpenComment at)
open_comment_at bytes c after body at same none is star = by_body (body_cases body)
  where
    whole : bytes ≡ 47 ∷ 42 ∷ body
    whole = same ∙ ap (λ (k : ℕ). k ∷ after) (solidus_is c is) ∙ ap (λ l. 47 ∷ l) star

    by_body : IsCommentBody body ⊎ ((rest : List ℕ) × LeavesComment body rest) → ReadsFault bytes (OpenComment at)
    by_body (inl unclosed) = record { text = bytes; after = []; whole = sym (append-nil bytes); is_text = (body, unclosed, whole); longest = whole_longest bytes }
    by_body (inr (rest, leaves)) = absurd (none (47 ∷ 42 ∷ (leaves.body ++ (42 ∷ 47 ∷ []))) rest (whole ∙ ap (λ l. 47 ∷ 42 ∷ l) (leaves.whole ∙ sym (append_assoc leaves.body (42 ∷ 47 ∷ []) rest))) (inr (leaves.body, leaves.is_body, refl)))
