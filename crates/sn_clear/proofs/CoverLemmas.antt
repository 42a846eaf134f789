-- What strokes cover, by their centres.
use Rattle.std.proofs.Common.{◌≡◌, ◌↔◌, ℕ, ◌≤◌, min, max, true, List, ap, ◌∙◌, arith}
use Rattle.std.specs.List.{Contains}
use Rattle.std.proofs.lemmas.Bool.{leb-true, le-leb}
use Rattle.std.proofs.lemmas.Nat.{mul-le}
use Rattle.std.proofs.lemmas.List.Folds.{Any-from_list_any, list_any_at}
use Rattle.sn_clear.specs.declared.spot.Spot.{Spot}
use Rattle.sn_clear.specs.declared.spot.Run.{Run}
use Rattle.sn_clear.specs.Field.{Field, apart, squared_distance, holds}
use Rattle.sn_clear.specs.Columns.{IsCentreOf, covers, is_covered, nearest_place, nearest_centre}

pub nearest_is_centre : (run : Run) (s : Spot) → IsCentreOf run (nearest_centre run s)
nearest_is_centre run s = record {
  column_from = from run.from.column run.to.column s.column;
  column_to = to run.from.column run.to.column s.column;
  row_from = from run.from.row run.to.row s.row;
  row_to = to run.from.row run.to.row s.row;
}
  where
    from : (a b k : ℕ) → min a b ≤ nearest_place a b k
    from a b k = omega arith

    to : (a b k : ℕ) → nearest_place a b k ≤ max a b
    to a b k = omega arith

nearer : (a b k c : ℕ) → min a b ≤ c → c ≤ max a b → apart (nearest_place a b k) k ≤ apart c k
nearer a b k c from to = omega (arith, from, to)

-- no centre of a stroke is nearer to a node than the nearest
pub nearest_is_nearest : (run : Run) (s c : Spot) → IsCentreOf run c → squared_distance (nearest_centre run s) s ≤ squared_distance c s
nearest_is_nearest run s c centre =
    let across = nearer run.from.column run.to.column s.column c.column centre.column_from centre.column_to in
    let along = nearer run.from.row run.to.row s.row c.row centre.row_from centre.row_to in
    let columns = mul-le _ _ _ _ across across in
    let rows = mul-le _ _ _ _ along along in
    omega (arith, columns, rows)

pub holds_is : (f : Field) (c s : Spot) → (holds f c s ≡ true) ↔ (squared_distance c s ≤ f.reach)
holds_is f c s = ((λ on. leb-true (squared_distance c s) f.reach on), (λ near. le-leb (squared_distance c s) f.reach near))

-- a centre of the stroke whose disc holds the node
abbrev pub HasCentre : Field → Run → Spot → Type 0
HasCentre f run s = (c : Spot) × IsCentreOf run c × (holds f c s ≡ true)

pub covers_is : (f : Field) (run : Run) (s : Spot) → (covers f run s ≡ true) ↔ HasCentre f run s
covers_is f run s = (
  (λ on. (nearest_centre run s, nearest_is_centre run s, on)),
  (λ (c, centre, near).
      let closer = nearest_is_nearest run s c centre in
      let within = (holds_is f c s).0 near in
      (holds_is f (nearest_centre run s) s).1 (omega (arith, closer, within))),
)

-- a stroke of the list that covers the node
abbrev pub HasStroke : Field → List Run → Spot → Type 0
HasStroke f strokes s = (run : Run) × Contains strokes run × (covers f run s ≡ true)

pub covered_is : (f : Field) (strokes : List Run) (s : Spot) → (is_covered f strokes s ≡ true) ↔ HasStroke f strokes s
covered_is f strokes s = (
  (λ on.
      let (k, run, below, is, covering) = Any-from_list_any (λ run. covers f run s) strokes on in (run, (k, below, is), covering)),
  (λ (run, (k, below, is), covering).
      list_any_at (λ r. covers f r s) strokes k run below (ap (λ r. covers f r s) is ∙ covering)),
)
