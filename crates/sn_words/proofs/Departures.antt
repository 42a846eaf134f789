-- Where words depart from what is accepted.
use Rattle.std.proofs.Common.{◌≡◌, ℕ, ◌+◌, ◌-◌, ◌≤◌, ◌<◌, List, [], ◌∷◌, ◌++◌, length, take, drop, Some, refl, sym, ap, ◌∙◌, subst, arith, length-append, append_assoc}
use Rattle.std.proofs.lemmas.Bool.{cases_lt}
use Rattle.std.proofs.lemmas.List.{take-append-drop, take-take}
use Rattle.std.proofs.Math.Seq.{take-append-add}
use Rattle.std.proofs.Common.{⊎_elim}
use Rattle.std.specs.Prelude.{slice_get}
use Rattle.sn_words.specs.Command.{Begins, Departs}

module _ (accepted : List (List ℕ) → Type 0) where
  -- the first word can stand nowhere
  pub departs_first : (word : List ℕ) (after : List (List ℕ)) → Begins accepted [] → ((later : List (List ℕ)) → ¬ accepted (word ∷ later))
      → Departs accepted (word ∷ after) 1
  departs_first word after begins_here none = record {
    first = omega arith;
    before = begins_here;
    at = (λ within begins. none begins.0 begins.1, λ past. absurd (omega arith));
  }

  -- the first word is missing
  pub departs_empty : Begins accepted [] → ¬ accepted [] → Departs accepted [] 1
  departs_empty begins not = record {
    first = omega arith;
    before = begins;
    at = (λ within. absurd (omega arith), λ past. (refl, not));
  }

  -- the second word cannot stand there, or is missing
  pub departs_second : (word : List ℕ) (after : List (List ℕ)) → Begins accepted (word ∷ []) → ¬ accepted (word ∷ [])
      → ((second : List ℕ) (later : List (List ℕ)) → slice_get after 0 ≡ Some second → ¬ accepted (word ∷ second ∷ later)) → Departs accepted (word ∷ after) 2
  departs_second word [] begins alone none = record {
    first = omega arith;
    before = begins;
    at = (λ within. absurd (omega arith), λ past. (refl, alone));
  }
  departs_second word (second ∷ after) begins alone none = record {
    first = omega arith;
    before = begins;
    at = (λ within more. none second more.0 refl more.1, λ past. absurd (omega arith));
  }

  -- shorter words begin what longer ones begin
  begins_shorter : (words : List (List ℕ)) (j k : ℕ) → j ≤ k → Begins accepted (take k words) → Begins accepted (take j words)
  begins_shorter words j k less begins =
      let cut : take j words ++ drop j (take k words) ≡ take k words = ap (λ w. w ++ drop j (take k words)) (sym (take-take j k words less)) ∙ take-append-drop j (take k words) in (
        drop j (take k words) ++ begins.0,
        subst accepted (append_assoc (take j words) (drop j (take k words)) begins.0) (subst (λ w. accepted (w ++ begins.0)) (sym cut) begins.1),
      )

  no_earlier : (words : List (List ℕ)) (j k : ℕ) → Departs accepted words j → Departs accepted words k → j < k → ⊥
  no_earlier words j k d e less =
      ⊎_elim (λ past. let end = (d.at.1 past).0 in let last = (e.at.1 (omega arith)).0 in omega arith)
      (λ within. d.at.0 within (begins_shorter words j (k - 1) (omega arith) e.before)) (cases_lt (length words) j)

  pub one_place : (words : List (List ℕ)) (j k : ℕ) → Departs accepted words j → Departs accepted words k → j ≡ k
  one_place words j k d e =
      ⊎_elim (λ less. absurd (no_earlier words j k d e less)) (λ more. ⊎_elim (λ less. absurd (no_earlier words k j e d less)) (λ least. omega arith) (cases_lt k j)) (cases_lt j k)

  -- words that are accepted depart nowhere
  pub no_place : (words : List (List ℕ)) (k : ℕ) → accepted words → Departs accepted words k → ⊥
  no_place words k whole d =
      let cut : take k words ++ drop k words ≡ words = take-append-drop k words in
      ⊎_elim (λ past. (d.at.1 past).1 whole) (λ within. d.at.0 within (drop k words, subst accepted (sym cut) whole)) (cases_lt (length words) k)

-- what may follow some words is known, so words depart behind them as from that
pub departs_behind : (accepted next : List (List ℕ) → Type 0) (front tail : List (List ℕ)) (place : ℕ)
    → ((w : List (List ℕ)) → accepted (front ++ w) → next w) → ((w : List (List ℕ)) → next w → accepted (front ++ w))
    → Departs next tail place → Departs accepted (front ++ tail) (length front + place)
departs_behind accepted next front tail place to from d =
    let count : length front + place - 1 ≡ length front + (place - 1) = let first = d.first in omega arith in
    let short : take (length front + place - 1) (front ++ tail) ≡ front ++ take (place - 1) tail = rw count (take-append-add front tail (place - 1)) in
    let long : take (length front + place) (front ++ tail) ≡ front ++ take place tail = take-append-add front tail place in
    let size : length (front ++ tail) ≡ length front + length tail = length-append front tail in
    record {
      first = let first = d.first in omega arith;
      before = (d.before.0, subst (λ w. accepted (w ++ d.before.0)) (sym short) (subst accepted (sym (append_assoc front (take (place - 1) tail) d.before.0)) (from _ d.before.1)));
      at = (
        λ within begins. d.at.0 (omega arith) (begins.0, to _ (subst accepted (append_assoc front (take place tail) begins.0) (subst (λ w. accepted (w ++ begins.0)) long begins.1))),
        λ past. let end = d.at.1 (omega arith) in (let last = end.0 in omega arith, λ whole. end.1 (to tail whole)),
      );
    }
