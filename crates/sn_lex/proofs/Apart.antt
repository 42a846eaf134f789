-- No separator begins where a token or a faulty one does, so the separators before it are one text.
use Rattle.std.proofs.Common.{◌≡◌, ℕ, ◌<◌, ◌≤◌, true, List, [], ◌∷◌, ◌++◌, length, append_assoc, length-append, refl, sym, ap, ◌∙◌, subst, arith, inl, inr, ◌⊎◌, Result, Ok, Err}
use Rattle.std.proofs.lemmas.Bool.{true≢false}
use Rattle.std.proofs.lemmas.Bool.Decides.{nat_tests}
use Rattle.std.specs.Prelude.{codes}
use Rattle.std.specs.List.{concat, AllByRecursion}
use Rattle.std.specs.Char.{is_ascii_whitespace}
use Rattle.sn_lex.specs.Character.{is_stray}
use Rattle.sn_lex.specs.Form.{IsCommentBody, IsSeparator, IsTextOf, IsFaultyText}
use Rattle.sn_lex.specs.Reading.{NoLongerForm, separator}
use Rattle.sn_lex.specs.Split.{HasNoSeparator}
use Rattle.sn_lex.specs.declared.token.Token.{Token}
use Rattle.sn_lex.specs.declared.token.LexFault.{LexFault}
use Rattle.sn_lex.specs.declared.token.LexFault.TheVariants.{BadByte, OpenString, OpenComment, BadNumber, BadEnum}
use Rattle.sn_lex.specs.declared.opening.Opening.{Opening}
use Rattle.sn_lex.specs.declared.opening.Opening.TheVariants.{Word, Number, Hash, Apostrophe, Point, Exclamation, Quotation, Solidus, Mark, Other}
use Rattle.sn_lex.specs.Opening.{opening_of}
use Rattle.sn_lex.proofs.Comments.{comment_whole, not_closed, body_tail}
use Rattle.sn_lex.proofs.Competes.{blank_opening, first_same}
use Rattle.sn_lex.proofs.KindOf.{kind_at, kind_of, token_kind, fault_kind}

-- First bytes.

abbrev IsPlain : Result Token LexFault → Type 0
IsPlain (Ok t) = Unit {0}
IsPlain (Err (BadByte at)) = ⊥
IsPlain (Err (OpenString at)) = Unit {0}
IsPlain (Err (OpenComment at)) = ⊥
IsPlain (Err (BadNumber at)) = Unit {0}
IsPlain (Err (BadEnum at)) = Unit {0}

plain_opening : (o : Opening) (c : ℕ) (cs : List ℕ) (r : Result Token LexFault) → kind_at o c cs ≡ r → IsPlain r → (o ≡ Other) ⊎ (o ≡ Solidus) → ⊥
plain_opening Word c cs r kind plain (inl e) = cc
plain_opening Word c cs r kind plain (inr e) = cc
plain_opening Number c cs r kind plain (inl e) = cc
plain_opening Number c cs r kind plain (inr e) = cc
plain_opening Hash c cs r kind plain (inl e) = cc
plain_opening Hash c cs r kind plain (inr e) = cc
plain_opening Apostrophe c cs r kind plain (inl e) = cc
plain_opening Apostrophe c cs r kind plain (inr e) = cc
plain_opening Point c cs r kind plain (inl e) = cc
plain_opening Point c cs r kind plain (inr e) = cc
plain_opening Exclamation c cs r kind plain (inl e) = cc
plain_opening Exclamation c cs r kind plain (inr e) = cc
plain_opening Quotation c cs r kind plain (inl e) = cc
plain_opening Quotation c cs r kind plain (inr e) = cc
plain_opening Solidus c [] r kind plain e = subst IsPlain (sym kind) plain
plain_opening Solidus c (d ∷ cs) r kind plain e = subst IsPlain (sym kind) plain
plain_opening (Mark t) c cs r kind plain (inl e) = cc
plain_opening (Mark t) c cs r kind plain (inr e) = cc
plain_opening Other c cs r kind plain e = subst IsPlain (sym kind) plain

separator_opening : (c : ℕ) (cs : List ℕ) → IsSeparator (c ∷ cs) → (opening_of c ≡ Other) ⊎ (opening_of c ≡ Solidus)
separator_opening c cs (inl (w, white, e)) = inl (ap opening_of (first_same c w cs [] e) ∙ blank_opening w white)
separator_opening c cs (inr (body, is, e)) = inr (ap opening_of (first_same c 47 cs (42 ∷ (body ++ codes "*/")) e))

separator_bytes : (text : List ℕ) → IsSeparator text → 0 < length text
separator_bytes text (inl (w, white, e)) = omega (arith, ap length e)
separator_bytes text (inr (body, is, e)) = omega (arith, ap length e)

stray_no_blank : (c : ℕ) → is_stray c ≡ true → is_ascii_whitespace c ≡ true → ⊥
stray_no_blank c stray white = grind (arith, nat_tests)

-- A separator at the front is no form that is at most as long as another.

plain_apart : (text after front rest : List ℕ) (o : (c : ℕ) (cs : List ℕ) → text ≡ c ∷ cs → (opening_of c ≡ Other) ⊎ (opening_of c ≡ Solidus) → ⊥)
    → text ++ after ≡ front ++ rest → length front ≤ length text → IsSeparator front → ⊥
plain_apart text after [] rest o same shorter is = omega (arith, separator_bytes [] is)
plain_apart [] after (c ∷ cs) rest o same shorter is = omega arith
plain_apart (d ∷ ds) after (c ∷ cs) rest o same shorter is =
    let heads : c ≡ d = cc in
    o d ds refl (subst (λ (k : ℕ). (opening_of k ≡ Other) ⊎ (opening_of k ≡ Solidus)) heads (separator_opening c cs is))

kind_apart : (text after front rest : List ℕ) (r : Result Token LexFault) → kind_of text ≡ r → IsPlain r → text ++ after ≡ front ++ rest → length front ≤ length text → IsSeparator front → ⊥
kind_apart text after front rest r kind plain = plain_apart text after front rest (λ c cs e. plain_opening (opening_of c) c cs r (sym (ap kind_of e) ∙ kind) plain)

-- what is left of a text after a shorter front of the same bytes
pub longer_front : (text after front rest : List ℕ) → text ++ after ≡ front ++ rest → length front ≤ length text → (between : List ℕ) × (text ≡ front ++ between)
longer_front text after [] rest same shorter = (text, refl)
longer_front [] after (c ∷ front) rest same shorter = absurd (omega arith)
longer_front (d ∷ text) after (c ∷ front) rest same shorter =
    let tails : text ++ after ≡ front ++ rest = cc in
    let heads : d ≡ c = cc in
    let found = longer_front text after front rest tails (omega arith) in
    let more : text ≡ front ++ found.0 = found.1 in
    (found.0, cc)

pub comment_apart : (body after front rest : List ℕ) → IsCommentBody body → (47 ∷ 42 ∷ body) ++ after ≡ front ++ rest → length front ≤ length (47 ∷ 42 ∷ body) → IsSeparator front → ⊥
comment_apart body after front rest is same shorter (inl (w, white, e)) =
    let heads : 47 ≡ w = first_same 47 w (42 ∷ (body ++ after)) rest (same ∙ ap (λ l. l ++ rest) e) in
    true≢false (sym (subst (λ (k : ℕ). is_ascii_whitespace k ≡ true) (sym heads) white))
comment_apart body after front rest is same shorter (inr (inner, is_inner, e)) =
    let found = longer_front (47 ∷ 42 ∷ body) after front rest same shorter in
    let whole : 47 ∷ 42 ∷ body ≡ 47 ∷ 42 ∷ (inner ++ (42 ∷ 47 ∷ found.0)) = found.1 ∙ ap (λ l. l ++ found.0) e ∙ comment_whole inner found.0 in
    let bodies : body ≡ inner ++ (42 ∷ 47 ∷ found.0) = cc in
    not_closed body inner found.0 is bodies

stray_apart : (c : ℕ) (after front rest : List ℕ) → is_stray c ≡ true → (c ∷ []) ++ after ≡ front ++ rest → length front ≤ 1 → IsSeparator front → ⊥
stray_apart c after front rest stray same shorter (inl (w, white, e)) =
    let heads : c ≡ w = first_same c w after rest (same ∙ ap (λ l. l ++ rest) e) in
    stray_no_blank w (subst (λ (k : ℕ). is_stray k ≡ true) heads stray) white
stray_apart c after front rest stray same shorter (inr (inner, is_inner, e)) = omega (arith, ap length e, length-append inner (codes "*/"))

fault_front_apart : (f : LexFault) (text after front rest : List ℕ) → IsFaultyText f text → text ++ after ≡ front ++ rest → length front ≤ length text → IsSeparator front → ⊥
fault_front_apart (BadByte at) text after front rest (c, stray, e) same shorter = stray_apart c after front rest stray (sym (ap (λ l. l ++ after) e) ∙ same) (omega (arith, ap length e))
fault_front_apart (OpenString at) text after front rest is same shorter = kind_apart text after front rest _ (fault_kind (OpenString at) text is) tt same shorter
fault_front_apart (OpenComment at) text after front rest (body, is, e) same shorter = comment_apart body after front rest is (sym (ap (λ l. l ++ after) e) ∙ same) (subst (λ (l : List ℕ). length front ≤ length l) e shorter)
fault_front_apart (BadNumber at) text after front rest is same shorter = kind_apart text after front rest _ (fault_kind (BadNumber at) text is) tt same shorter
fault_front_apart (BadEnum at) text after front rest is same shorter = kind_apart text after front rest _ (fault_kind (BadEnum at) text is) tt same shorter

pub token_apart : (t : Token) (bytes text after : List ℕ) → bytes ≡ text ++ after → IsTextOf t text → NoLongerForm bytes (length text) → HasNoSeparator bytes
token_apart t bytes text after whole is longest front rest same is_separator =
    kind_apart text after front rest _ (token_kind t text is) tt (sym whole ∙ same) (longest front rest same (separator is_separator)) is_separator

pub fault_apart : (f : LexFault) (bytes text after : List ℕ) → bytes ≡ text ++ after → IsFaultyText f text → NoLongerForm bytes (length text) → HasNoSeparator bytes
fault_apart f bytes text after whole is longest front rest same is_separator =
    fault_front_apart f text after front rest is (sym whole ∙ same) (longest front rest same (separator is_separator)) is_separator

-- Separators in a row.

rest_same : (c d : ℕ) (cs ds : List ℕ) → c ∷ cs ≡ d ∷ ds → cs ≡ ds
rest_same c d cs ds same = cc

both_same : (c d : ℕ) (cs ds : List ℕ) → c ≡ d → cs ≡ ds → c ∷ cs ≡ d ∷ ds
both_same c d cs ds heads tails = cc

-- a body that begins with a byte does not end before it
not_at_once : (c : ℕ) (cs rest after : List ℕ) → IsCommentBody (c ∷ cs) → 42 ∷ 47 ∷ after ≡ c ∷ (cs ++ (42 ∷ 47 ∷ rest)) → ⊥
not_at_once c [] rest after is same = omega (arith, first_same 47 42 after (47 ∷ rest) (rest_same 42 c (47 ∷ after) (42 ∷ 47 ∷ rest) same))
not_at_once c (d ∷ cs) rest after is same =
    let tails = rest_same 42 c (47 ∷ after) (d ∷ (cs ++ (42 ∷ 47 ∷ rest))) same in
    is.0 (sym (first_same 42 c (47 ∷ after) (d ∷ (cs ++ (42 ∷ 47 ∷ rest))) same), sym (first_same 47 d after (cs ++ (42 ∷ 47 ∷ rest)) tails))

one_body : (body after other rest : List ℕ) → IsCommentBody body → IsCommentBody other → body ++ (42 ∷ 47 ∷ after) ≡ other ++ (42 ∷ 47 ∷ rest) → (body ≡ other) × (after ≡ rest)
one_body [] after [] rest is as_well same = (refl, rest_same 47 47 after rest (rest_same 42 42 (47 ∷ after) (47 ∷ rest) same))
one_body [] after (d ∷ other) rest is as_well same = absurd (not_at_once d other rest after as_well same)
one_body (c ∷ body) after [] rest is as_well same = absurd (not_at_once c body after rest is (sym same))
one_body (c ∷ body) after (d ∷ other) rest is as_well same =
    let tails = rest_same c d (body ++ (42 ∷ 47 ∷ after)) (other ++ (42 ∷ 47 ∷ rest)) same in
    let heads = first_same c d (body ++ (42 ∷ 47 ∷ after)) (other ++ (42 ∷ 47 ∷ rest)) same in
    let found = one_body body after other rest (body_tail c body is) (body_tail d other as_well) tails in
    (both_same c d body other heads found.0, found.1)

one_separator : (x a y b : List ℕ) → IsSeparator x → IsSeparator y → x ++ a ≡ y ++ b → (x ≡ y) × (a ≡ b)
one_separator x a y b (inl (v, white, e)) (inl (w, blank, f)) same =
    let whole : v ∷ a ≡ w ∷ b = sym (ap (λ l. l ++ a) e) ∙ same ∙ ap (λ l. l ++ b) f in
    let heads : v ≡ w = cc in
    (cc, cc)
one_separator x a y b (inl (v, white, e)) (inr (body, is, f)) same =
    let heads : v ≡ 47 = first_same v 47 a (42 ∷ (body ++ (42 ∷ 47 ∷ b))) (sym (ap (λ l. l ++ a) e) ∙ same ∙ ap (λ l. l ++ b) f ∙ comment_whole body b) in
    absurd (true≢false (sym (subst (λ (k : ℕ). is_ascii_whitespace k ≡ true) heads white)))
one_separator x a y b (inr (body, is, e)) (inl (w, blank, f)) same =
    let heads : w ≡ 47 = first_same w 47 b (42 ∷ (body ++ (42 ∷ 47 ∷ a))) (sym (ap (λ l. l ++ b) f) ∙ sym same ∙ ap (λ l. l ++ a) e ∙ comment_whole body a) in
    absurd (true≢false (sym (subst (λ (k : ℕ). is_ascii_whitespace k ≡ true) heads blank)))
one_separator x a y b (inr (body, is, e)) (inr (other, as_well, f)) same =
    let whole : 47 ∷ 42 ∷ (body ++ (42 ∷ 47 ∷ a)) ≡ 47 ∷ 42 ∷ (other ++ (42 ∷ 47 ∷ b)) = sym (ap (λ l. l ++ a) e ∙ comment_whole body a) ∙ same ∙ ap (λ l. l ++ b) f ∙ comment_whole other b in
    let tails : body ++ (42 ∷ 47 ∷ a) ≡ other ++ (42 ∷ 47 ∷ b) = cc in
    let found = one_body body a other b is as_well tails in
    (e ∙ ap (λ l. codes "/*" ++ l ++ codes "*/") found.0 ∙ sym f, found.1)

pub one_row : (ps qs : List (List ℕ)) (rest other : List ℕ) → AllByRecursion IsSeparator ps → AllByRecursion IsSeparator qs → HasNoSeparator rest → HasNoSeparator other
    → concat ps ++ rest ≡ concat qs ++ other → concat ps ≡ concat qs
one_row [] [] rest other all every none no_more same = refl
one_row [] (q ∷ qs) rest other all every none no_more same = absurd (none q (concat qs ++ other) (same ∙ append_assoc q (concat qs) other) every.0)
one_row (p ∷ ps) [] rest other all every none no_more same = absurd (no_more p (concat ps ++ rest) (sym same ∙ append_assoc p (concat ps) rest) all.0)
one_row (p ∷ ps) (q ∷ qs) rest other all every none no_more same =
    let whole : p ++ (concat ps ++ rest) ≡ q ++ (concat qs ++ other) = sym (append_assoc p (concat ps) rest) ∙ same ∙ append_assoc q (concat qs) other in
    let found = one_separator p (concat ps ++ rest) q (concat qs ++ other) all.0 every.0 whole in
    let rows = one_row ps qs rest other all.1 every.1 none no_more found.1 in
    ap (λ l. l ++ concat ps) found.0 ∙ ap (λ l. q ++ l) rows
