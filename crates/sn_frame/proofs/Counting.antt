-- The list of the signed rotations.
use Rattle.std.proofs.Common.{◌≡◌, ◌≢◌, ◌↔◌, Bool, true, ◌&&◌, not, List, [], ◌∷◌, refl, sym, ap, ◌∙◌, arith}
use Rattle.std.specs.List.{AllPairs, Contains, list_all, list_any}
use Rattle.std.specs.Bool.{Decides}
use Rattle.std.proofs.lemmas.Bool.{and_parts, and_from, not-true, true≢false}
use Rattle.std.proofs.lemmas.Bool.Decides.{Decides-int_eq, Decides-by_or}
use Rattle.std.proofs.lemmas.List.Elements.{All-weaker, All-contains, Contains-from_at}
use Rattle.std.proofs.lemmas.List.Sums.{AllPass-from_list_all}
use Rattle.std.proofs.lemmas.List.Kept.{AllPairs-cons}
use Rattle.sn_frame.specs.Matrix.{Vector, Matrix, IsSignedRotation}
use Rattle.sn_frame.specs.FrameLaws.{signed_rotations}
use Rattle.sn_frame.proofs.Checks.{vector_eq, matrix_eq, same_matrix, is_signed_rotation, rotation_from_test}
use Rattle.sn_frame.proofs.Rotations.{every_rotation, every_rotation-at}

vector_eq_of_same : (u v : Vector) → u ≡ v → vector_eq u v ≡ true
vector_eq_of_same u v e =
    and_from _ _ ((Decides-int_eq u.x v.x).1 (ap (λ (w : Vector). w.x) e))
    (and_from _ _ ((Decides-int_eq u.y v.y).1 (ap (λ (w : Vector). w.y) e)) ((Decides-int_eq u.z v.z).1 (ap (λ (w : Vector). w.z) e)))

matrix_eq_of_same : (m k : Matrix) → m ≡ k → matrix_eq m k ≡ true
matrix_eq_of_same m k e =
    and_from _ _ (vector_eq_of_same m.first k.first (ap (λ (n : Matrix). n.first) e))
    (and_from _ _ (vector_eq_of_same m.second k.second (ap (λ (n : Matrix). n.second) e))
    (vector_eq_of_same m.third k.third (ap (λ (n : Matrix). n.third) e)))

Decides-matrix_eq : (m k : Matrix) → Decides (matrix_eq m k) (m ≡ k)
Decides-matrix_eq m k = (same_matrix m k, matrix_eq_of_same m k)

abbrev is_listed : Matrix → Bool
is_listed m = list_any (λ k. matrix_eq k m) signed_rotations

listed : (m : Matrix) → is_listed m ≡ true → Contains signed_rotations m
listed m h =
    Contains-from_at signed_rotations m
    ((Decides-by_or (λ k. matrix_eq k m) (λ k. k ≡ m) (list_any (λ k. matrix_eq k m)) (λ k. Decides-matrix_eq k m) refl (λ _ _. refl) signed_rotations).0 h)

listed_everywhere : every_rotation is_listed ≡ true
listed_everywhere = refl

rotation_is_listed : (m : Matrix) → IsSignedRotation m → Contains signed_rotations m
rotation_is_listed m h = listed m (every_rotation-at is_listed listed_everywhere m h)

all_rotations : list_all is_signed_rotation signed_rotations ≡ true
all_rotations = refl

listed_is_rotation : (m : Matrix) → Contains signed_rotations m → IsSignedRotation m
listed_is_rotation m h =
    rotation_from_test m
    (All-contains (λ k. is_signed_rotation k ≡ true) signed_rotations m (AllPass-from_list_all is_signed_rotation signed_rotations all_rotations) h)

pub rotations_are_listed : (m : Matrix) → IsSignedRotation m ↔ Contains signed_rotations m
rotations_are_listed m = (rotation_is_listed m, listed_is_rotation m)

abbrev are_distinct : List Matrix → Bool
are_distinct [] = true
are_distinct (m ∷ ms) = list_all (λ k. not (matrix_eq m k)) ms && are_distinct ms

distinct_from_test : (ms : List Matrix) → are_distinct ms ≡ true → AllPairs (λ m k. m ≢ k) ms
distinct_from_test [] h = λ i j d less bound. absurd (omega arith)
distinct_from_test (m ∷ ms) h =
    let parts = and_parts _ _ h in
    AllPairs-cons (λ n k. n ≢ k) m ms
    (All-weaker (λ k. not (matrix_eq m k) ≡ true) (λ k. m ≢ k)
    (λ k differs same. true≢false (sym (matrix_eq_of_same m k same) ∙ not-true _ differs)) ms
    (AllPass-from_list_all (λ k. not (matrix_eq m k)) ms (parts.0)))
    (distinct_from_test ms (parts.1))

all_distinct : are_distinct signed_rotations ≡ true
all_distinct = refl

pub rotations_are_distinct : AllPairs (λ m k. m ≢ k) signed_rotations
rotations_are_distinct = distinct_from_test signed_rotations all_distinct
