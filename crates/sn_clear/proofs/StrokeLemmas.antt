-- The strokes of a step, put together.
use Rattle.std.proofs.Common.{◌≡◌, ℕ, List, Bool, map, sym, ap, ◌∙◌, subst, arith}
use Rattle.std.specs.List.{All}
use Rattle.std.proofs.lemmas.List.Elements.{All-weaker}
use Rattle.sn_raster.specs.Grid.{Grid}
use Rattle.sn_raster.specs.Plane.{Plane}
use Rattle.sn_open.specs.declared.stroke.Stroke.{Stroke}
use Rattle.sn_clear.specs.declared.spot.Run.{Run}
use Rattle.sn_clear.specs.Field.{Field}
use Rattle.sn_clear.specs.Rows.{sweep}
use Rattle.sn_clear.specs.Columns.{with_columns, IsLeft}
use Rattle.sn_clear.specs.Strokes.{field_of, stroke_of, runs_of, IsInside}
use Rattle.sn_clear.specs.StrokeLaws.{IsUsefulRun}
use Rattle.sn_clear.proofs.LieLemmas.{sweep_is_useful, sweep_is_level, strokes_are_useful}

pub are_inside : (g : Grid) (d : ℕ) (centres targets : Plane) (f : Field) (runs : List Run) → f ≡ field_of g d centres targets
    → All (IsUsefulRun f) runs → All (IsInside g) runs
are_inside g d centres targets f runs is useful =
    All-weaker (IsUsefulRun f) (IsInside g) (λ run on. record {
      from_column = omega (arith, on.from.column, ap (λ h. h.columns) is);
      from_row = omega (arith, on.from.row, ap (λ h. h.rows) is);
      to_column = omega (arith, on.to.column, ap (λ h. h.columns) is);
      to_row = omega (arith, on.to.row, ap (λ h. h.rows) is);
    }) runs useful

all_of : (P : Run → Type 0) (xs ys : List Run) → xs ≡ ys → All P ys → All P xs
all_of P xs ys same all = let Q : List Run → Type 0 = λ zs. All P zs in subst Q (sym same) all

pub sweep_inside : (g : Grid) (d every : ℕ) (centres targets : Plane) (f : Field) (runs : List Run) → f ≡ field_of g d centres targets
    → runs ≡ sweep f every → All (IsInside g) runs
sweep_inside g d every centres targets f runs is made =
    all_of (IsInside g) runs (sweep f every) made (are_inside g d centres targets f (sweep f every) is (sweep_is_useful f every))

pub sweep_level : (f : Field) (every : ℕ) (runs : List Run) → runs ≡ sweep f every → All (λ run. run.from.row ≡ run.to.row) runs
sweep_level f every runs made = all_of (λ run. run.from.row ≡ run.to.row) runs (sweep f every) made (sweep_is_level f every)

pub left_passed : (f : Field) (targets left passed : List Bool) (runs strokes : List Run) → passed ≡ left → strokes ≡ runs
    → IsLeft f targets left strokes → IsLeft f targets passed runs
left_passed f targets left passed runs strokes is_left is_runs are =
    let P : List Bool → Type 0 = λ ms. IsLeft f targets ms runs in
    let Q : List Run → Type 0 = λ rs. IsLeft f targets left rs in
    subst P (sym is_left) (subst Q is_runs are)

pub all_runs : (f : Field) (every : ℕ) (targets : List Bool) (runs all : List Run) → runs ≡ sweep f every → all ≡ with_columns f targets runs
    → all ≡ with_columns f targets (sweep f every)
all_runs f every targets runs all made more = more ∙ ap (λ rs. with_columns f targets rs) made

pub strokes_inside : (g : Grid) (d every : ℕ) (centres targets : Plane) (f : Field) (all : List Run) → f ≡ field_of g d centres targets
    → all ≡ with_columns f targets.marks (sweep f every) → All (IsInside g) all
strokes_inside g d every centres targets f all is made =
    all_of (IsInside g) all (with_columns f targets.marks (sweep f every)) made
    (are_inside g d centres targets f (with_columns f targets.marks (sweep f every)) is (strokes_are_useful f every targets.marks))

pub strokes_are : (g : Grid) (d every step : ℕ) (centres targets : Plane) (f : Field) (all passed : List Run) (strokes : List Stroke)
    → f ≡ field_of g d centres targets → every ≡ step → all ≡ with_columns f targets.marks (sweep f every) → passed ≡ all → strokes ≡ map (stroke_of g) passed
    → strokes ≡ map (stroke_of g) (runs_of (field_of g d centres targets) step targets)
strokes_are g d every step centres targets f all passed strokes is same made is_passed put =
    put ∙ ap (λ rs. map (stroke_of g) rs) (is_passed ∙ made)
    ∙ ap (λ n. map (stroke_of g) (runs_of f n targets)) same
    ∙ ap (λ h. map (stroke_of g) (runs_of h step targets)) is
