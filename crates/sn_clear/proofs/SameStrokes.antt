-- Planes with the same nodes give the same strokes.
use Rattle.std.proofs.Common.{ℕ, zero, suc, ◌≡◌, ◌↔◌, ◌<◌, ◌*◌, ◌%◌, ◌/◌, Bool, false, not, ◌&&◌, if◌then◌else◌, List, [], ◌++◌, map, get_or, refl, sym, ap, ◌∙◌, add-one, arith}
use Rattle.std.specs.List.{range_with_len}
use Rattle.std.proofs.lemmas.List.{ext_get_or}
use Rattle.std.proofs.lemmas.List.FromFn.{length-map-range_with_len, get_or-map-range_with_len}
use Rattle.sn_outline.specs.declared.job.StepJob.{StepJob}
use Rattle.sn_raster.specs.Grid.{Grid}
use Rattle.sn_raster.specs.Plane.{Plane}
use Rattle.sn_clear.specs.Window.{columns, rows, node_at}
use Rattle.sn_clear.specs.Places.{passes_before}
use Rattle.sn_clear.specs.Field.{Field, holds, spot_of}
use Rattle.sn_clear.specs.Rows.{sweep}
use Rattle.sn_clear.specs.Columns.{is_covered, column_for, with_columns, with_columns_before}
use Rattle.sn_clear.specs.Strokes.{IsWindowOf, window_of, holds_target, useful_centres, field_of, row_step, stroke_of, clearing_strokes}
use Rattle.sn_clear.specs.ClearingLaws.{HaveSameNodes, SameNodesSameStrokes}
use Rattle.sn_clear.proofs.PlaceLemmas.{one_passes, which_passes}
use Rattle.sn_clear.proofs.ColumnLemmas.{columns-none, columns-next}
use Rattle.sn_clear.proofs.ReachLemmas.{numbered, numbered_mark, same_bool}
use Rattle.sn_clear.proofs.WindowLemmas.{in_window_at}

-- Planes over one grid that have the same nodes, by their marks.

same_mark : (g : Grid) (a b : Plane) (k : ℕ) → a.grid ≡ g → b.grid ≡ g
    → HaveSameNodes g a b → k < columns g * rows g → get_or a.marks k false ≡ get_or b.marks k false
same_mark g a b k of_a of_b same below =
    let f = window_of g 0 in
    let window : IsWindowOf f g 0 = record { columns_are = refl; rows_are = refl; reach_is = refl } in
    let here = numbered f g 0 k window below in
    let nodes = same (node_at g (k % columns g) (k / columns g)) (in_window_at g (k % columns g) (k / columns g) here.column here.row) in
    let first = numbered_mark f g 0 k a window below of_a in
    let second = numbered_mark f g 0 k b window below of_b in
    same_bool _ _ (λ on. second.0 (nodes.0 (first.1 on))) (λ on. first.0 (nodes.1 (second.1 on)))

passes_same : (p q : ℕ → Bool) (n : ℕ) → ((k : ℕ) → k < n → p k ≡ q k) → passes_before p n ≡ passes_before q n
passes_same p q n same =
    same_bool _ _
    (λ on. let (k, below, here) = which_passes p n on in one_passes q n k below (sym (same k below) ∙ here))
    (λ on. let (k, below, here) = which_passes q n on in one_passes p n k below (same k below ∙ here))

mapped_same : (f h : ℕ → Bool) (n : ℕ) → ((k : ℕ) → k < n → f k ≡ h k) → map f (range_with_len 0 n) ≡ map h (range_with_len 0 n)
mapped_same f h n same =
    let long = length-map-range_with_len f 0 n in
    ext_get_or false (map f (range_with_len 0 n)) (map h (range_with_len 0 n)) (long ∙ sym (length-map-range_with_len h 0 n)) (λ k below.
    let inside : k < n = omega (arith, below, long) in
    get_or-map-range_with_len f 0 n k k false inside (omega arith) ∙ same k inside ∙ sym (get_or-map-range_with_len h 0 n k k false inside (omega arith)))

-- Strokes.

holds_same : (f : Field) (a b : Plane) (k : ℕ) → ((m : ℕ) → m < f.columns * f.rows → get_or a.marks m false ≡ get_or b.marks m false)
    → holds_target f a k ≡ holds_target f b k
holds_same f a b k same =
    passes_same (λ m. get_or a.marks m false && holds f (spot_of f k) (spot_of f m)) (λ m. get_or b.marks m false && holds f (spot_of f k) (spot_of f m))
    (f.columns * f.rows) (λ m below. ap (λ (on : Bool). on && holds f (spot_of f k) (spot_of f m)) (same m below))

useful_same : (f : Field) (centres targets centres' targets' : Plane)
    → ((m : ℕ) → m < f.columns * f.rows → get_or centres.marks m false ≡ get_or centres'.marks m false)
    → ((m : ℕ) → m < f.columns * f.rows → get_or targets.marks m false ≡ get_or targets'.marks m false)
    → useful_centres f centres targets ≡ useful_centres f centres' targets'
useful_same f centres targets centres' targets' same_centres same_targets =
    mapped_same (λ k. get_or centres.marks k false && holds_target f targets k) (λ k. get_or centres'.marks k false && holds_target f targets' k)
    (f.columns * f.rows)
    (λ k below.
    ap (λ (on : Bool). on && holds_target f targets k) (same_centres k below)
    ∙ ap (λ (on : Bool). get_or centres'.marks k false && on) (holds_same f targets targets' k same_targets))

columns_same : (f : Field) (every : ℕ) (a b : List Bool) (n : ℕ) → ((k : ℕ) → k < n → get_or a k false ≡ get_or b k false)
    → with_columns_before f a (sweep f every) n ≡ with_columns_before f b (sweep f every) n
columns_same f every a b zero same = columns-none f a (sweep f every) ∙ sym (columns-none f b (sweep f every))
columns_same f every a b (suc n) same =
    let earlier = columns_same f every a b n (λ k below. same k (omega (arith, below))) in
    let strokes = with_columns_before f b (sweep f every) n in
    ap (with_columns_before f a (sweep f every)) (sym (add-one n))
    ∙ columns-next f a (sweep f every) n
    ∙ ap (λ r. r ++ (if get_or a n false && not (is_covered f r (spot_of f n)) then column_for f (spot_of f n) else [])) earlier
    ∙ ap (λ (on : Bool). strokes ++ (if on && not (is_covered f strokes (spot_of f n)) then column_for f (spot_of f n) else [])) (same n (omega arith))
    ∙ sym (columns-next f b (sweep f every) n)
    ∙ ap (with_columns_before f b (sweep f every)) (add-one n)

strokes_same : (step : StepJob) (g : Grid) (centres targets centres' targets' : Plane)
    → ((m : ℕ) → m < columns g * rows g → get_or centres.marks m false ≡ get_or centres'.marks m false)
    → ((m : ℕ) → m < columns g * rows g → get_or targets.marks m false ≡ get_or targets'.marks m false)
    → clearing_strokes step g centres targets ≡ clearing_strokes step g centres' targets'
strokes_same step g centres targets centres' targets' same_centres same_targets =
    let f = window_of g step.body.d in
    let fields : field_of g step.body.d centres targets ≡ field_of g step.body.d centres' targets' =
    ap (λ (u : List Bool). record f { useful = u }) (useful_same f centres targets centres' targets' same_centres same_targets) in
    let every = row_step step g.pitch in
    ap (λ (h : Field). map (stroke_of g) (with_columns h targets.marks (sweep h every))) fields
    ∙ ap (λ r. map (stroke_of g) r)
    (columns_same (field_of g step.body.d centres' targets') every targets.marks targets'.marks (columns g * rows g) same_targets)

pub same_nodes_same_strokes : SameNodesSameStrokes
same_nodes_same_strokes step g centres targets centres' targets' of_centres of_targets of_centres' of_targets' same_centres same_targets =
    strokes_same step g centres targets centres' targets'
    (λ m below. same_mark g centres centres' m of_centres of_centres' same_centres below)
    (λ m below. same_mark g targets targets' m of_targets of_targets' same_targets below)
