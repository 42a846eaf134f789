-- The plane of the nodes on strokes.
use Rattle.std.proofs.Common.{◌≡◌, ◌↔◌, ℕ, ◌+◌, ◌<◌, ◌≤◌, ◌⊎◌, inl, inr, ⊎_elim, min, max, ℤ, pos, ◌+ℤ◌, true, IsTrue, List, [], ◌∷◌, ◌++◌, length, take, get_or, refl, sym, ap, ◌∙◌, subst, arith}
use Rattle.std.specs.List.{Contains}
use Rattle.std.proofs.lemmas.Bool.{cases_eq}
use Rattle.std.proofs.lemmas.Int.{ints}
use Rattle.std.proofs.lemmas.List.{take_more, take_all, get_or_default}
use Rattle.std.proofs.lemmas.List.Elements.{Contains-append_left, Contains-push, Contains-push_cases}
use Rattle.sn_raster.specs.Grid.{Grid, Node}
use Rattle.sn_raster.specs.Plane.{Plane, Has}
use Rattle.sn_clear.specs.declared.spot.Run.{Run}
use Rattle.sn_clear.specs.Window.{columns, rows, node_at}
use Rattle.sn_clear.specs.Columns.{IsCentreOf}
use Rattle.sn_clear.specs.Strokes.{IsOnRuns}

same_count : (first : ℤ) (a b : ℕ) → first +ℤ pos a ≡ first +ℤ pos b → a ≡ b
same_count first a b same = omega (arith, ints)

-- a node of the window is in one column and one row
pub one_column : (g : Grid) (c r c' r' : ℕ) → node_at g c r ≡ node_at g c' r' → c ≡ c'
one_column g c r c' r' same = same_count g.i0 c c' (ap (λ n. n.i) same)

pub one_row : (g : Grid) (c r c' r' : ℕ) → node_at g c r ≡ node_at g c' r' → r ≡ r'
one_row g c r c' r' same = same_count g.j0 r r' (ap (λ n. n.j) same)

along : {A B C : Type 0} → (A ↔ B) → (B ↔ C) → (A ↔ C)
along f g = ((λ a. g.0 (f.0 a)), (λ c. f.1 (g.1 c)))

pub put_spot : (g : Grid) (old new : Plane) (column row : ℕ) → (Has new (node_at g column row) ↔ IsTrue true)
    → ((n : Node) → ¬ n ≡ node_at g column row → Has new n ↔ Has old n)
    → (c r : ℕ) → Has new (node_at g c r) ↔ (Has old (node_at g c r) ⊎ ((c ≡ column) × (r ≡ row)))
put_spot g old new column row here others c r =
    let other : ¬ node_at g c r ≡ node_at g column row → Has new (node_at g c r) ↔ (Has old (node_at g c r) ⊎ ((c ≡ column) × (r ≡ row))) =
    λ apart. (
      (λ has. inl ((others (node_at g c r) apart).0 has)),
      (λ either. ⊎_elim (λ (before : Has old (node_at g c r)). (others (node_at g c r) apart).1 before)
          (λ (same : (c ≡ column) × (r ≡ row)). absurd (apart (λ k. node_at g (same.0 k) (same.1 k)))) either),
    ) in
    elim (cases_eq c column) [
      | inl same_column ↦
          elim (cases_eq r row) [
            | inl same_row ↦ (
              (λ has. inr (same_column, same_row)),
              (λ either. subst (λ n. Has new n) (λ k. node_at g (sym same_column k) (sym same_row k)) (here.1 refl)),
            )
            | inr apart ↦ other (λ same. apart (one_row g c r column row same))
          ]
      | inr apart ↦ other (λ same. apart (one_column g c r column row same))
    ]

-- a node of a row, from the first column to before the end
pub record InSpan (row first end c r : ℕ) : Type 0 where
  pub row_is : r ≡ row
  pub from : first ≤ c
  pub before : c < end

-- the plane has the nodes that it had, and those of the span
pub record IsPut (g : Grid) (row first end : ℕ) (old new : Plane) : Type 0 where
  pub grid : new.grid ≡ g
  pub nodes : (c r : ℕ) → Has new (node_at g c r) ↔ (Has old (node_at g c r) ⊎ InSpan row first end c r)

pub none_put : (g : Grid) (row first : ℕ) (plane : Plane) → plane.grid ≡ g → IsPut g row first first plane plane
none_put g row first plane same = record {
  grid = same;
  nodes = λ c r. ((λ has. inl has), (λ either. ⊎_elim (λ (has : Has plane (node_at g c r)). has) (λ (span : InSpan row first first c r). absurd (omega (arith, span.from, span.before))) either));
}

pub one_put : (g : Grid) (row first column : ℕ) (old mid new : Plane) → first ≤ column → new.grid ≡ g
    → (Has new (node_at g column row) ↔ IsTrue true) → ((n : Node) → ¬ n ≡ node_at g column row → Has new n ↔ Has mid n)
    → IsPut g row first column old mid → IsPut g row first (column + 1) old new
one_put g row first column old mid new from same here others so_far = record {
  grid = same;
  nodes = λ c r.
      let step = put_spot g mid new column row here others c r in
      let before = so_far.nodes c r in (
        (λ has.
            ⊎_elim
            (λ (was : Has mid (node_at g c r)).
            ⊎_elim (λ (old_one : Has old (node_at g c r)). inl old_one)
            (λ (span : InSpan row first column c r). inr (record { row_is = span.row_is; from = span.from; before = omega (arith, span.before) })) (before.0 was))
            (λ (same : (c ≡ column) × (r ≡ row)). inr (record { row_is = same.1; from = omega (arith, same.0, from); before = omega (arith, same.0) })) (step.0 has)),
        (λ either.
            ⊎_elim (λ (old_one : Has old (node_at g c r)). step.1 (inl (before.1 (inl old_one))))
            (λ (span : InSpan row first (column + 1) c r).
            ⊎_elim (λ (is : c ≡ column). step.1 (inr (is, span.row_is)))
            (λ (other : ¬ c ≡ column). step.1 (inl (before.1 (inr (record { row_is = span.row_is; from = span.from; before = less c column span.before other })))))
            (cases_eq c column)) either),
      );
}
  where
    less : (c column : ℕ) → c < column + 1 → ¬ c ≡ column → c < column
    less c column below other = omega (arith, below, other)

-- the span of a stroke along a row is its centres
pub span_is : (run : Run) (row first last c r : ℕ) → run.from.row ≡ run.to.row → row ≡ run.from.row → first ≡ min run.from.column run.to.column
    → last ≡ max run.from.column run.to.column → InSpan row first (last + 1) c r ↔ IsCentreOf run (record { column = c; row = r })
span_is run row first last c r level is_row is_first is_last = (
  (λ span. record {
    column_from = omega (arith, span.from, is_first);
    column_to = omega (arith, span.before, is_last);
    row_from = omega (arith, span.row_is, is_row, level);
    row_to = omega (arith, span.row_is, is_row, level);
  }),
  (λ centre. record {
    row_is = omega (arith, centre.row_from, centre.row_to, is_row, level);
    from = omega (arith, centre.column_from, is_first);
    before = omega (arith, centre.column_to, is_last);
  }),
)

-- the nodes of the strokes so far
pub record AreSwept (g : Grid) (runs : List Run) (plane : Plane) : Type 0 where
  pub grid : plane.grid ≡ g
  pub nodes : (c r : ℕ) → c < columns g → r < rows g → Has plane (node_at g c r) ↔ IsOnRuns runs (record { column = c; row = r })

pub none_swept : (g : Grid) (runs : List Run) (plane : Plane) → plane.grid ≡ g → ((n : Node) → ¬ Has plane n) → AreSwept g (take 0 runs) plane
none_swept g runs plane same empty = record {
  grid = same;
  nodes = λ c r below_c below_r. (
    (λ has. absurd (empty (node_at g c r) has)),
    (λ (run, (k, below, is), centre). absurd (omega (arith, below))),
  );
}

pub one_swept : (g : Grid) (runs : List Run) (k : ℕ) (run : Run) (old new : Plane) → k < length runs → get_or runs k run ≡ run → new.grid ≡ g
    → ((c r : ℕ) → c < columns g → r < rows g
    → Has new (node_at g c r) ↔ (Has old (node_at g c r) ⊎ IsCentreOf run (record { column = c; row = r })))
    → AreSwept g (take k runs) old → AreSwept g (take (k + 1) runs) new
one_swept g runs k run old new below is same put so_far =
    let more : take (k + 1) runs ≡ take k runs ++ run ∷ [] = take_more runs k run below ∙ ap (λ r. take k runs ++ r ∷ []) is in
    let P : List Run → Type 0 = λ xs. AreSwept g xs new in
    subst P (sym more) (record {
      grid = same;
      nodes = λ c r below_c below_r.
          let step = put c r below_c below_r in
          let before = so_far.nodes c r below_c below_r in (
            (λ has.
                ⊎_elim
                (λ (was : Has old (node_at g c r)).
                let (other, there, centre) = before.0 was in (other, Contains-append_left (take k runs) (run ∷ []) other there, centre))
                (λ (centre : IsCentreOf run (record { column = c; row = r })). (run, Contains-push (take k runs) run, centre)) (step.0 has)),
            (λ (other, there, centre).
                ⊎_elim (λ (earlier : Contains (take k runs) other). step.1 (inl (before.1 (other, earlier, centre))))
                (λ (last : run ≡ other). step.1 (inr (subst (λ x. IsCentreOf x (record { column = c; row = r })) (sym last) centre)))
                (Contains-push_cases (take k runs) run other there)),
          );
    })

pub next_swept : (g : Grid) (runs : List Run) (k : ℕ) (d : Run) (old new : Plane) → k < length runs → new.grid ≡ g
    → ((c r : ℕ) → c < columns g → r < rows g
    → Has new (node_at g c r) ↔ (Has old (node_at g c r) ⊎ IsCentreOf (get_or runs k d) (record { column = c; row = r })))
    → AreSwept g (take k runs) old → AreSwept g (take (k + 1) runs) new
next_swept g runs k d old new below same put so_far =
    one_swept g runs k (get_or runs k d) old new below (get_or_default runs k (get_or runs k d) d below) same put so_far

pub all_swept : (g : Grid) (runs : List Run) (k : ℕ) (plane : Plane) → length runs ≤ k → AreSwept g (take k runs) plane → AreSwept g runs plane
all_swept g runs k plane all swept = let P : List Run → Type 0 = λ xs. AreSwept g xs plane in subst P (take_all k runs all) swept
