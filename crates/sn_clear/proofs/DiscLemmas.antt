-- Discs on nodes, by columns and rows.
use Rattle.std.proofs.Common.{◌≡◌, ℕ, zero, suc, ◌+◌, ◌-◌, ◌*◌, ◌/◌, ◌%◌, ◌<◌, ◌≤◌, ◌⊎◌, inl, inr, Bool, true, false, not, ◌&&◌, min, List, get_or, refl, sym, ap, ◌∙◌, arith}
use Rattle.std.proofs.lemmas.Bool.{cases_lt, le-leb, lt-leb}
use Rattle.std.proofs.lemmas.Nat.{mul-le, div-add-mod', mod_below}
use Rattle.sn_clear.specs.declared.spot.Spot.{Spot}
use Rattle.sn_clear.specs.declared.spot.Run.{Run}
use Rattle.sn_clear.specs.Field.{Field, apart, squared_distance, holds, spot_of}
use Rattle.sn_clear.specs.Columns.{covers, nearest_place, nearest_centre, IsColumn}

-- w is the greatest number whose square is at most n
pub record IsRoot (n w : ℕ) : Type 0 where
  pub square_le : w * w ≤ n
  pub next_square_gt : n < (w + 1) * (w + 1)

pub within_root : (n w m : ℕ) → IsRoot n w → m ≤ w → m * m ≤ n
within_root n w m root small = let square = mul-le m m w w small small in omega (arith, square, root.square_le)

pub beyond_root : (n w m : ℕ) → IsRoot n w → w < m → n < m * m
beyond_root n w m root large =
    let next : w + 1 ≤ m = omega arith in
    let square = mul-le (w + 1) (w + 1) m m next next in omega (arith, square, root.next_square_gt)

pub holds_near : (f : Field) (c s : Spot) → squared_distance c s ≤ f.reach → holds f c s ≡ true
holds_near f c s near = le-leb (squared_distance c s) f.reach near

pub holds_far : (f : Field) (c s : Spot) → f.reach < squared_distance c s → holds f c s ≡ false
holds_far f c s far = lt-leb (squared_distance c s) f.reach far

-- a disc holds no node that is too far across or along
pub holds_beside : (f : Field) (c s : Spot) → f.reach < apart c.column s.column * apart c.column s.column → holds f c s ≡ false
holds_beside f c s far = holds_far f c s (omega (arith, far))

pub holds_above : (f : Field) (c s : Spot) → f.reach < apart c.row s.row * apart c.row s.row → holds f c s ≡ false
holds_above f c s far = holds_far f c s (omega (arith, far))

one_place : (a b k : ℕ) → a ≡ b → nearest_place a b k ≡ a
one_place a b k same = omega (arith, same)

-- how far a node is from the nearest centre of a column stroke
column_distance : (f : Field) (run : Run) (s : Spot) (across along : ℕ) → IsColumn f run
    → across ≡ apart run.from.column s.column → along ≡ apart (nearest_place run.from.row run.to.row s.row) s.row
    → squared_distance (nearest_centre run s) s ≡ across * across + along * along
column_distance f run s across along column is_across is_along =
    rw (is_across, is_along)
    (ap (λ c. apart c s.column * apart c s.column + apart (nearest_place run.from.row run.to.row s.row) s.row * apart (nearest_place run.from.row run.to.row s.row) s.row)
    (one_place run.from.column run.to.column s.column column.column))

-- a column stroke covers in a row the nodes within the half width there
pub column_covers : (f : Field) (run : Run) (s : Spot) (across along width : ℕ) → IsColumn f run
    → across ≡ apart run.from.column s.column → along ≡ apart (nearest_place run.from.row run.to.row s.row) s.row
    → along * along ≤ f.reach → IsRoot (f.reach - along * along) width
    → (across ≤ width → covers f run s ≡ true) × (width < across → covers f run s ≡ false)
column_covers f run s across along width column is_across is_along near root =
    let distance = column_distance f run s across along column is_across is_along in (
      (λ within. let square = within_root _ _ _ root within in holds_near f (nearest_centre run s) s (omega (arith, distance, square, near))),
      (λ beyond. let square = beyond_root _ _ _ root beyond in holds_far f (nearest_centre run s) s (omega (arith, distance, square, near))),
    )

-- and none in a row that is too far
pub column_misses : (f : Field) (run : Run) (s : Spot) (along : ℕ) → IsColumn f run
    → along ≡ apart (nearest_place run.from.row run.to.row s.row) s.row → f.reach < along * along → covers f run s ≡ false
column_misses f run s along column is_along far =
    let distance = column_distance f run s (apart run.from.column s.column) along column refl is_along in
    holds_far f (nearest_centre run s) s (omega (arith, distance, far))

pub kept : (b c : Bool) → c ≡ false → b ≡ (b && not c)
kept true c off = sym (ap not off)
kept false c off = refl

pub taken : (b c : Bool) → c ≡ true → false ≡ (b && not c)
taken true c on = sym (ap not on)
taken false c on = refl

-- Numbers of nodes.

-- the numbers of a row
pub in_row : (k w row : ℕ) → k / w ≡ row → row * w + k % w ≡ k
in_row k w row is = ap (λ q. q * w + k % w) (sym is) ∙ div-add-mod' k w

pub other_row : (k w row : ℕ) → 0 < w → ¬ (k / w ≡ row) → (k < row * w) ⊎ (row * w + w ≤ k)
other_row k w row some other =
    let parts = div-add-mod' k w in
    let rest = mod_below k w some in
    elim (cases_lt (k / w) row) [
      | inl before ↦
          let lower : k / w + 1 ≤ row = omega (arith, before) in
          let scaled = mul-le (k / w + 1) w row w lower (omega arith) in
          inl (omega (arith, parts, rest, scaled))
      | inr from ↦
          elim (cases_lt row (k / w)) [
            | inl after ↦
                let higher : row + 1 ≤ k / w = omega (arith, after) in
                let scaled = mul-le (row + 1) w (k / w) w higher (omega arith) in
                inr (omega (arith, parts, rest, scaled))
            | inr upto ↦ absurd (other (omega arith))
          ]
    ]

pub some_columns : (k w h : ℕ) → k < w * h → 0 < w
some_columns k zero h below = absurd (omega (arith, below))
some_columns k (suc w) h below = omega arith

-- Taking away what a column stroke covers.

-- the numbers from first to before end are taken
pub record AreTaken (first end : ℕ) (old new : List Bool) : Type 0 where
  pub inside : (k : ℕ) → first ≤ k → k < end → get_or new k false ≡ false
  pub outside : (k : ℕ) → (k < first) ⊎ (end ≤ k) → get_or new k false ≡ get_or old k false

-- of a row those that the stroke covers, between first and end
pub record IsReached (f : Field) (run : Run) (row along width first end : ℕ) : Type 0 where
  pub column : IsColumn f run
  pub is_along : along ≡ apart (nearest_place run.from.row run.to.row row) row
  pub near : along * along ≤ f.reach
  pub is_width : IsRoot (f.reach - along * along) width
  pub is_first : first ≡ run.from.column - width
  pub is_end : end ≡ min (run.from.column + width + 1) f.columns

pub row_taken : (f : Field) (run : Run) (row along width first end start : ℕ) (old new : List Bool) → start ≡ row * f.columns
    → IsReached f run row along width first end → AreTaken (start + first) (start + end) old new
    → (k : ℕ) → k < f.columns * f.rows → k / f.columns ≡ row
    → get_or new k false ≡ (get_or old k false && not (covers f run (spot_of f k)))
row_taken f run row along width first end start old new is_start reached taken_away k below here =
    let number = in_row k f.columns row here in
    let inside = mod_below k f.columns (some_columns k f.columns f.rows below) in
    let is_along : along ≡ apart (nearest_place run.from.row run.to.row (k / f.columns)) (k / f.columns) =
    reached.is_along ∙ ap (λ r. apart (nearest_place run.from.row run.to.row r) r) (sym here) in
    let covering = column_covers f run (spot_of f k) (apart run.from.column (k % f.columns)) along width reached.column refl is_along reached.near reached.is_width in
    elim (cases_lt (k % f.columns) first) [
      | inl before ↦
          taken_away.outside k (inl (omega (arith, number, is_start, before)))
          ∙ kept (get_or old k false) _ (covering.1 (omega (arith, before, reached.is_first)))
      | inr from ↦
          elim (cases_lt (k % f.columns) end) [
            | inl upto ↦
                taken_away.inside k (omega (arith, number, is_start, from)) (omega (arith, number, is_start, upto))
                ∙ taken (get_or old k false) _ (covering.0 (omega (arith, from, upto, reached.is_first, reached.is_end)))
            | inr after ↦
                taken_away.outside k (inr (omega (arith, number, is_start, after)))
                ∙ kept (get_or old k false) _ (covering.1 (omega (arith, after, inside, reached.is_end)))
          ]
    ]

pub others_kept : (f : Field) (row first end start : ℕ) (old new : List Bool) → start ≡ row * f.columns → end ≤ f.columns
    → AreTaken (start + first) (start + end) old new
    → (k : ℕ) → k < f.columns * f.rows → ¬ (k / f.columns ≡ row) → get_or new k false ≡ get_or old k false
others_kept f row first end start old new is_start small taken_away k below other =
    elim (other_row k f.columns row (some_columns k f.columns f.rows below) other) [
      | inl before ↦ taken_away.outside k (inl (omega (arith, before, is_start)))
      | inr after ↦ taken_away.outside k (inr (omega (arith, after, is_start, small)))
    ]

-- a column stroke covers nothing in the rows farther than the root of the reach
pub stroke_misses : (f : Field) (run : Run) (k radius : ℕ) → IsColumn f run → IsRoot f.reach radius
    → (k / f.columns + radius < run.from.row) ⊎ (run.to.row + radius < k / f.columns) → covers f run (spot_of f k) ≡ false
stroke_misses f run k radius column root far =
    let along = apart (nearest_place run.from.row run.to.row (k / f.columns)) (k / f.columns) in
    let beyond : radius < along = elim far [ inl before ↦ omega (arith, before, column.rising) | inr after ↦ omega (arith, after, column.rising) ] in
    column_misses f run (spot_of f k) along column refl (beyond_root f.reach radius along root beyond)
