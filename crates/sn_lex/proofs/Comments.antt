-- Comments and separators.
use Rattle.std.proofs.Common.{◌≡◌, ℕ, suc, ◌+◌, ◌-◌, ◌<◌, ◌≤◌, List, [], ◌∷◌, ◌++◌, length, get_or, take, drop, append_assoc, append-nil, refl, sym, ap, ◌∙◌, subst, arith, inl, inr, true, false, Option, Some, None, Bor, MatchOption}
use Rattle.std.proofs.lemmas.Bool.{both_ways}
use Rattle.std.proofs.lemmas.List.{take-append-drop, get_or-take, drop_more, length-take-le, take_rest}
use Rattle.std.specs.Prelude.{codes}
use Rattle.std.specs.List.{concat, AllByRecursion}
use Rattle.std.specs.Char.{is_ascii_whitespace}
use Rattle.sn_lex.specs.Form.{IsCommentBody, IsSeparator}
use Rattle.sn_lex.specs.Split.{LeavesComment, LeavesSeparator, LeavesSeparators, HasNoSeparator}

-- no solidus follows an asterisk at the places before n
abbrev pub NoneClosedBefore : List ℕ → ℕ → Type 0
NoneClosedBefore bytes n = (k : ℕ) → k + 1 < n → get_or bytes k 0 ≡ 42 → get_or bytes (k + 1) 0 ≡ 47 → ⊥

body_from_places : (bytes : List ℕ) → NoneClosedBefore bytes (length bytes) → IsCommentBody bytes
body_from_places [] none = tt
body_from_places (c ∷ []) none = tt
body_from_places (c ∷ d ∷ cs) none =
    let later : NoneClosedBefore (d ∷ cs) (length (d ∷ cs)) = λ k below star solidus.
    let here : suc k ≡ k + 1 = omega arith in
    let next : suc (k + 1) ≡ k + 1 + 1 = omega arith in
    none (k + 1) (omega arith) (subst (λ (n : ℕ). get_or (c ∷ d ∷ cs) n 0 ≡ 42) here star) (subst (λ (n : ℕ). get_or (c ∷ d ∷ cs) n 0 ≡ 47) next solidus) in
    (λ pair. none 0 (omega arith) pair.0 pair.1, body_from_places (d ∷ cs) later)

pub open_comment : (bytes : List ℕ) (n : ℕ) → length bytes ≤ n → NoneClosedBefore bytes n → IsCommentBody bytes
open_comment bytes n all none = body_from_places bytes (λ k below star solidus. none k (omega arith) star solidus)

closed_at : (bytes : List ℕ) (m : ℕ) → m + 1 < length bytes → NoneClosedBefore bytes (m + 1) → get_or bytes m 0 ≡ 42 → get_or bytes (m + 1) 0 ≡ 47 → LeavesComment bytes (drop (m + 1 + 1) bytes)
closed_at bytes m inside none star solidus = record { body = take m bytes; is_body = body_from_places (take m bytes) places; whole = sym (take-append-drop m bytes) ∙ ap (λ l. take m bytes ++ l) tail }
  where
    size : length (take m bytes) ≡ m
    size = length-take-le m bytes (omega arith)

    places : NoneClosedBefore (take m bytes) (length (take m bytes))
    places k below first second =
        none k (omega (arith, size)) (sym (get_or-take m bytes k 0 (omega (arith, size))) ∙ first) (sym (get_or-take m bytes (k + 1) 0 (omega (arith, size))) ∙ second)

    tail : drop m bytes ≡ 42 ∷ 47 ∷ drop (m + 1 + 1) bytes
    tail =
        drop_more bytes m 0 (omega arith) ∙ ap (λ (c : ℕ). c ∷ drop (m + 1) bytes) star
        ∙ ap (λ l. 42 ∷ l) (drop_more bytes (m + 1) 0 inside ∙ ap (λ (c : ℕ). c ∷ drop (m + 1 + 1) bytes) solidus)

pub closed_comment : (bytes : List ℕ) (end : ℕ) → 1 ≤ end → end < length bytes → NoneClosedBefore bytes end → get_or bytes (end - 1) 0 ≡ 42 → get_or bytes end 0 ≡ 47
    → LeavesComment bytes (take (length bytes - (end + 1)) (drop (end + 1) bytes))
closed_comment bytes end from inside none star solidus =
    let m : ℕ = end - 1 in
    let is : end ≡ end - 1 + 1 = omega arith in
    let found : LeavesComment bytes (drop (end - 1 + 1 + 1) bytes) = closed_at bytes (end - 1) (omega arith) (subst (λ (n : ℕ). NoneClosedBefore bytes n) is none) star (subst (λ (n : ℕ). get_or bytes n 0 ≡ 47) is solidus) in
    subst (λ (l : List ℕ). LeavesComment bytes l) (ap (λ (n : ℕ). drop (n + 1) bytes) (sym is) ∙ sym (take_rest bytes (end + 1))) found

-- A body that is closed is no front of one that is not closed, and of two that are closed neither is longer.

pub body_tail : (c : ℕ) (cs : List ℕ) → IsCommentBody (c ∷ cs) → IsCommentBody cs
body_tail c [] body = tt
body_tail c (d ∷ cs) body = body.1

pub not_closed : (bytes front after : List ℕ) → IsCommentBody bytes → bytes ≡ front ++ (42 ∷ 47 ∷ after) → ⊥
not_closed [] [] after body same = cc
not_closed [] (d ∷ front) after body same = cc
not_closed (c ∷ []) [] after body same = omega (arith, ap length same)
not_closed (c ∷ d ∷ cs) [] after body same =
    let first : c ≡ 42 = cc in
    let second : d ≡ 47 = cc in
    body.0 (first, second)
not_closed (c ∷ cs) (d ∷ front) after body same =
    let tails : cs ≡ front ++ (42 ∷ 47 ∷ after) = cc in
    not_closed cs front after (body_tail c cs body) tails

-- What begins with a separator.

pub comment_whole : (body after : List ℕ) → (codes "/*" ++ body ++ codes "*/") ++ after ≡ 47 ∷ 42 ∷ (body ++ (42 ∷ 47 ∷ after))
comment_whole body after = ap (λ l. 47 ∷ 42 ∷ l) (append_assoc body (codes "*/") after)

pub leaves_blank : (bytes : List ℕ) (c : ℕ) (after : List ℕ) → is_ascii_whitespace c ≡ true → bytes ≡ c ∷ after → LeavesSeparator bytes after
leaves_blank bytes c after white same = record { separator = c ∷ []; is_separator = inl (c, white, refl); whole = same }

pub leaves_comment : (bytes inner body after : List ℕ) → bytes ≡ 47 ∷ inner → inner ≡ 42 ∷ body → LeavesComment body after → LeavesSeparator bytes after
leaves_comment bytes inner body after first second leaves = record { separator = codes "/*" ++ leaves.body ++ codes "*/"; is_separator = inr (leaves.body, leaves.is_body, refl); whole = first ∙ ap (λ l. 47 ∷ l) second ∙ ap (λ l. 47 ∷ 42 ∷ l) leaves.whole ∙ sym (comment_whole leaves.body after) }

-- a byte that is no blank begins no separator but a comment
comment_alone : (bytes : List ℕ) (c : ℕ) (after : List ℕ) → is_ascii_whitespace c ≡ false → bytes ≡ c ∷ after
    → ((body rest : List ℕ) → bytes ≡ 47 ∷ 42 ∷ (body ++ (42 ∷ 47 ∷ rest)) → ⊥) → HasNoSeparator bytes
comment_alone bytes c after dark same no_comment text rest front (inl (d, white, e)) =
    let whole : c ∷ after ≡ d ∷ rest = sym same ∙ front ∙ ap (λ l. l ++ rest) e in
    let heads : d ≡ c = cc in
    both_ways (is_ascii_whitespace c) dark (subst (λ (k : ℕ). is_ascii_whitespace k ≡ true) heads white)
comment_alone bytes c after dark same no_comment text rest front (inr (body, is_body, e)) = no_comment body rest (front ∙ ap (λ l. l ++ rest) e ∙ comment_whole body rest)

pub no_comment_end : (bytes : List ℕ) (c : ℕ) (after inner body : List ℕ) → is_ascii_whitespace c ≡ false → bytes ≡ c ∷ after → bytes ≡ 47 ∷ inner → inner ≡ 42 ∷ body → IsCommentBody body → HasNoSeparator bytes
no_comment_end bytes c after inner body dark same next star is_body = comment_alone bytes c after dark same no_comment
  where
    no_comment : (front rest : List ℕ) → bytes ≡ 47 ∷ 42 ∷ (front ++ (42 ∷ 47 ∷ rest)) → ⊥
    no_comment front rest e =
        let tails : inner ≡ 42 ∷ (front ++ (42 ∷ 47 ∷ rest)) = cc in
        let bodies : body ≡ front ++ (42 ∷ 47 ∷ rest) = cc in
        not_closed body front rest is_body bodies

-- what `after_comment` gives, of the bytes with the comment
pub comment_cases : (bytes body : List ℕ) (r : Option (Bor (List ℕ))) → (IsCommentBody body → HasNoSeparator bytes) → ((after : List ℕ) → LeavesComment body after → LeavesSeparator bytes after)
    → MatchOption r (IsCommentBody body) (λ after. LeavesComment body after.now) → MatchOption r (HasNoSeparator bytes) (λ after. LeavesSeparator bytes after.now)
comment_cases bytes body None none some cases = none cases
comment_cases bytes body (Some after) none some cases = some after.now cases

-- Separators in a row.

concat_push : (parts : List (List ℕ)) (last : List ℕ) → concat (parts ++ last ∷ []) ≡ concat parts ++ last
concat_push [] last = append-nil last
concat_push (part ∷ parts) last = ap (λ l. part ++ l) (concat_push parts last) ∙ sym (append_assoc part (concat parts) last)

all_push : (parts : List (List ℕ)) (last : List ℕ) → AllByRecursion IsSeparator parts → IsSeparator last → AllByRecursion IsSeparator (parts ++ last ∷ [])
all_push [] last all is = (is, tt)
all_push (part ∷ parts) last all is = (all.0, all_push parts last all.1 is)

pub one_more_separator : (bytes rest after : List ℕ) → LeavesSeparators bytes rest → LeavesSeparator rest after → LeavesSeparators bytes after
one_more_separator bytes rest after so_far next = record { separators = so_far.separators ++ next.separator; are_separators = (parts ++ next.separator ∷ [], all_push parts next.separator so_far.are_separators.1 next.is_separator, ap (λ l. l ++ next.separator) so_far.are_separators.2 ∙ sym (concat_push parts next.separator)); whole = so_far.whole ∙ ap (λ l. so_far.separators ++ l) next.whole ∙ sym (append_assoc so_far.separators next.separator after) }
  where
    parts : List (List ℕ)
    parts = so_far.are_separators.0
