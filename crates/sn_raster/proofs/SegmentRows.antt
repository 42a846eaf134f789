-- Rows of nodes, marked node by node and segment by segment.
use Rattle.std.proofs.Common.{◌≡◌, ◌↔◌, ◌⊎◌, inl, inr, ℕ, zero, suc, ◌+◌, ◌<◌, ◌≤◌, ℤ, pos, ◌+ℤ◌, ◌≤ℤ◌, ◌<ℤ◌, List, [], ◌∷◌, length, get_or, drop, ⊎_elim, refl, sym, ap, ◌∙◌, subst, arith, add-one, drop-cons}
use Rattle.std.proofs.lemmas.Int.{by_lt_z}
use Rattle.std.proofs.lemmas.List.{drop_all}
use Rattle.std.specs.List.{Any}
use Rattle.sn_geom.proofs.Ring.{sums}
use Rattle.sn_geom.specs.declared.units.Pt.{Pt}
use Rattle.sn_geom.specs.declared.units.Seg.{Seg}
use Rattle.sn_outline.specs.Polygon.{path}
use Rattle.sn_raster.specs.Grid.{Grid, Node, IsInWindow}
use Rattle.sn_raster.specs.Plane.{Plane, Has}
use Rattle.sn_raster.specs.RowTurns.{at}
use Rattle.sn_raster.proofs.HeightMaps.{same_place}

along : {A B C : Type 0} → (A ↔ B) → (B ↔ C) → (A ↔ C)
along f g = ((λ a. g.0 (f.0 a)), (λ c. f.1 (g.1 c)))

-- ---- marking
-- the nodes of the row before column i that P holds of are put in, those from i on and the other rows are as before
pub record IsMarkedTo (P : Node → Type 0) (g : Grid) (j : ℤ) (old new : Plane) (i : ℤ) : Type 0 where
  pub grid : new.grid ≡ g
  pub row : (n : Node) → n.j ≡ j → IsInWindow g n → n.i <ℤ i → Has new n ↔ (Has old n ⊎ P n)
  pub ahead : (n : Node) → n.j ≡ j → i ≤ℤ n.i → Has new n ↔ Has old n
  pub others : (n : Node) → ¬ (n.j ≡ j) → Has new n ↔ Has old n

pub or_none : {A B : Type 0} → ¬ B → A ↔ (A ⊎ B)
or_none none = ((λ a. inl a), (λ either. ⊎_elim (λ a. a) (λ b. absurd (none b)) either))

pub or_as : {A B C : Type 0} → (A ↔ B) → (A ⊎ C) ↔ (B ⊎ C)
or_as f = ((λ e. ⊎_elim (λ a. inl (f.0 a)) (λ c. inr c) e), (λ e. ⊎_elim (λ b. inl (f.1 b)) (λ c. inr c) e))

pub marked_to_first : (P : Node → Type 0) (g : Grid) (j : ℤ) (plane : Plane) (i first : ℤ) → plane.grid ≡ g → i ≡ first → ((n : Node) → IsInWindow g n → n.j ≡ j → P n → first ≤ℤ n.i)
    → IsMarkedTo P g j plane plane i
marked_to_first P g j plane i first same is all = record {
  grid = same;
  row = λ n on window before. or_none (λ p. let from = all n window on p in omega (arith, sums));
  ahead = λ n on from. ((λ has. has), (λ has. has));
  others = λ n off. ((λ has. has), (λ has. has));
}

pub marked_one : (P : Node → Type 0) (g : Grid) (j : ℤ) (old mid new : Plane) (i next : ℤ) (n : Node) → next ≡ i +ℤ pos 1 → n ≡ at i j → new.grid ≡ g
    → ((m : Node) → m ≡ n → Has new m ↔ (Has mid m ⊎ P m)) → ((m : Node) → ¬ (m ≡ n) → Has new m ↔ Has mid m) → IsMarkedTo P g j old mid i → IsMarkedTo P g j old new next
marked_one P g j old mid new i next n is here same node others marked = record {
  grid = same;
  row = λ m on window before.
      by_lt_z m.i i
      (λ earlier. along (others m (λ e. let column : m.i ≡ i = ap (λ k. k.i) (e ∙ here) in absurd (omega (arith, sums)))) (marked.row m on window earlier))
      (λ reached. let column : m.i ≡ i = omega (arith, sums) in along (node m (same_place m.i i m.j j column on ∙ sym here)) (or_as (marked.ahead m on reached)));
  ahead = λ m on from. along (others m (λ e. let column : m.i ≡ i = ap (λ k. k.i) (e ∙ here) in absurd (omega (arith, sums)))) (marked.ahead m on (omega (arith, sums)));
  others = λ m off. along (others m (λ e. off (ap (λ k. k.j) (e ∙ here)))) (marked.others m off);
}

pub marked_all : (P : Node → Type 0) (g : Grid) (j : ℤ) (old new : Plane) (i last : ℤ) → last <ℤ i → ((n : Node) → IsInWindow g n → n.j ≡ j → P n → n.i ≤ℤ last)
    → IsMarkedTo P g j old new i → (n : Node) → n.j ≡ j → IsInWindow g n → Has new n ↔ (Has old n ⊎ P n)
marked_all P g j old new i last past all marked n on window =
    by_lt_z n.i i (marked.row n on window) (λ beyond. along (marked.ahead n on beyond) (or_none (λ p. let to = all n window on p in omega (arith, sums))))

pub past_rows : (j j' last last' k : ℤ) → j' ≡ j → last' ≡ last → last' <ℤ j' → k ≡ j → k ≤ℤ last → ⊥
past_rows j j' last last' k e f past is within = omega (arith, sums)

-- ---- paths
pub any_cases : {X : Type 0} (P : X → Type 0) (x : X) (xs : List X) → Any P (x ∷ xs) ↔ (P x ⊎ Any P xs)
any_cases P x xs = (
  any_parts P x xs,
  λ either. ⊎_elim (λ (h : P x). let some : Any P (x ∷ xs) = (0, x, omega arith, refl, h) in some) (λ later. any_later P x xs later) either,
)
  where
    any_parts : {X : Type 0} (P : X → Type 0) (x : X) (xs : List X) → Any P (x ∷ xs) → P x ⊎ Any P xs
    any_parts P x xs (zero, y, within, e, h) = inl (subst P (sym e) h)
    any_parts P x xs (suc k, y, within, e, h) = inr (k, y, omega arith, e, h)

    any_later : {X : Type 0} (P : X → Type 0) (x : X) (xs : List X) → Any P xs → Any P (x ∷ xs)
    any_later P x xs (k, y, within, e, h) = (suc k, y, omega arith, e, h)

pub any_none : {X : Type 0} (P : X → Type 0) → Any P [] → ⊥
any_none P (k, y, within, e, h) = omega arith

pub path_step : (start to : Pt) (points : List Pt) (i : ℕ) → i < length points → to ≡ get_or points i to
    → path start (drop i points) ≡ (record { a = start; b = to }) ∷ path to (drop (i + 1) points)
path_step start to points i h e = rw (add-one, drop-cons points i to h, ← e) refl

pub path_end : (start : Pt) (points : List Pt) (i : ℕ) → length points ≤ i → path start (drop i points) ≡ []
path_end start points i h = rw (drop_all i points h) refl

-- one segment more of a path
pub path_marked_one : {A B : Type 0} (P : Seg → Type 0) (Goal : Type 0) (start to : Pt) (points : List Pt) (i : ℕ) → i < length points → to ≡ get_or points i to
    → (B ↔ (A ⊎ P (record { a = start; b = to }))) → ((A ⊎ Any P (path start (drop i points))) ↔ Goal) → (B ⊎ Any P (path to (drop (i + 1) points))) ↔ Goal
path_marked_one {A} {B} P Goal start to points i h e step so_far =
    let edge : Seg = record { a = start; b = to } in
    let later = path to (drop (i + 1) points) in
    let cases = any_cases P edge later in
    let there = path_step start to points i h e in (
      λ either. so_far.0 (⊎_elim (λ (b : B). ⊎_elim (λ a. inl a) (λ here. inr (subst (Any P) (sym there) (cases.1 (inl here)))) (step.0 b)) (λ rest. inr (subst (Any P) (sym there) (cases.1 (inr rest)))) either),
      λ goal. ⊎_elim (λ a. inl (step.1 (inl a))) (λ some. ⊎_elim (λ here. inl (step.1 (inr here))) (λ rest. inr rest) (cases.0 (subst (Any P) there some))) (so_far.1 goal),
    )

pub path_marked_all : {A Goal : Type 0} (P : Seg → Type 0) (start : Pt) (points : List Pt) (i : ℕ) → length points ≤ i → ((A ⊎ Any P (path start (drop i points))) ↔ Goal) → A ↔ Goal
path_marked_all {A} P start points i h so_far =
    let there = path_end start points i h in
    ((λ a. so_far.0 (inl a)), (λ goal. ⊎_elim (λ (a : A). a) (λ some. absurd (any_none P (subst (Any P) there some))) (so_far.1 goal)))
