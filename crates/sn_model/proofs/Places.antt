-- A list up to a place.
use Rattle.std.proofs.Common.{◌≡◌, ℕ, suc, ◌+◌, ◌<◌, List, [], ◌∷◌, ◌++◌, length, take, drop, slice_get, Some, sym, ap, ◌∙◌, add-one, drop-cons, take-append-drop}
use Rattle.std.proofs.Math.Seq.{take-suc}
use Rattle.std.proofs.lemmas.Option.{slice_get_within, get_or_from_slice_get}

pub take_next : {A : Type 0} (xs : List A) (n : ℕ) (x : A) → slice_get xs n ≡ Some x → take (n + 1) xs ≡ take n xs ++ x ∷ []
take_next xs n x h =
    rw add-one (take-suc xs n x (slice_get_within xs n x h)) ∙ ap (λ y. take n xs ++ y ∷ []) (get_or_from_slice_get xs n x x h)

pub split_at : {A : Type 0} (xs : List A) (n : ℕ) (x : A) → slice_get xs n ≡ Some x → xs ≡ take n xs ++ x ∷ drop (n + 1) xs
split_at xs n x h =
    let lt : n < length xs = slice_get_within xs n x h in
    let rest : drop n xs ≡ x ∷ drop (n + 1) xs = rw add-one (drop-cons xs n x lt ∙ ap (λ y. y ∷ drop (suc n) xs) (get_or_from_slice_get xs n x x h)) in
    sym (take-append-drop n xs) ∙ ap (λ ys. take n xs ++ ys) rest
