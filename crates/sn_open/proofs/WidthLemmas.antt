-- Half widths.
use Rattle.std.proofs.Common.{ℕ, ◌≡◌, ◌+◌, ◌*◌, ◌/◌, ◌<◌, ◌≤◌, ◌↔◌, List, length, get_or, set, sym, ap, ◌∙◌, subst, ⊎_elim, get_or-set_same, get_or-set_other, arith}
use Rattle.std.proofs.lemmas.List.{length-set}
use Rattle.std.proofs.lemmas.Bool.{cases_lt}
use Rattle.std.proofs.lemmas.Nat.{mul-le}
use Rattle.sn_geom.specs.Sweep.{IsHalfWidth}
use Rattle.sn_open.specs.Widths.{IsWithin, AreDiscWidths}
use Rattle.sn_open.specs.Spread.{AreHalfWidths}

pub square_le : (a b : ℕ) → a ≤ b → a * a ≤ b * b
square_le a b h = mul-le a a b b h h

scaled_le : (m w pitch : ℕ) → 0 < pitch → m < w / pitch + 1 → m * pitch ≤ w
scaled_le m w pitch some below =
    let h : m * pitch ≤ w / pitch * pitch = mul-le m pitch (w / pitch) pitch (omega arith) (omega arith) in
    let whole : w / pitch * pitch ≤ w = omega arith in
    omega arith

le_scaled : (m w pitch : ℕ) → 0 < pitch → m * pitch ≤ w → m < w / pitch + 1
le_scaled m w pitch some h =
    ⊎_elim
    (λ (beyond : w / pitch < m).
    let more : (w / pitch + 1) * pitch ≤ m * pitch = mul-le (w / pitch + 1) pitch m pitch (omega arith) (omega arith) in
    let rest : w < (w / pitch + 1) * pitch = omega arith in absurd (omega arith))
    (λ (within : m ≤ w / pitch). omega arith) (cases_lt (w / pitch) m)

-- the half width in whole columns
pub width_is : (d pitch m k w dy : ℕ) → 0 < pitch → dy ≡ k * pitch → IsHalfWidth d dy w → m < w / pitch + 1 ↔ IsWithin d pitch m k
width_is d pitch m k w dy some e is =
    let at : IsWithin d pitch m k ↔ (4 * (m * pitch * (m * pitch) + dy * dy) ≤ d * d) = rw e ((λ h. h), (λ h. h)) in (
      λ below. at.1 (let h = square_le (m * pitch) w (scaled_le m w pitch some below) in let inside = is.inside in omega arith),
      λ within. le_scaled m w pitch some (is.greatest (m * pitch) (at.0 within)),
    )

-- and none where the row is beyond the disc
pub no_width : (d pitch m k : ℕ) → d < 2 * (k * pitch) → m < 0 ↔ IsWithin d pitch m k
no_width d pitch m k beyond = (
  λ below. absurd (omega arith),
  λ within.
      let more : (d + 1) * (d + 1) ≤ 2 * (k * pitch) * (2 * (k * pitch)) = square_le (d + 1) (2 * (k * pitch)) (omega arith) in
      absurd (omega arith),
)

-- they fall
closer : (d pitch m k k' : ℕ) → k ≤ k' → IsWithin d pitch m k' → IsWithin d pitch m k
closer d pitch m k k' before within =
    let side : k * pitch ≤ k' * pitch = mul-le k pitch k' pitch before (omega arith) in
    let h = square_le (k * pitch) (k' * pitch) side in
    omega arith

pub disc_half_widths : (d pitch rows : ℕ) (widths : List ℕ) → AreDiscWidths d pitch rows widths → AreHalfWidths rows widths
disc_half_widths d pitch rows widths are = record {
  full = are.full;
  last = are.last;
  fall = λ k k' before within.
      ⊎_elim
      (λ (inside : k' < rows).
      ⊎_elim
      (λ (less : get_or widths k 0 < get_or widths k' 0).
      let there = (are.each k' inside (get_or widths k 0)).0 less in
      let here = (are.each k (omega arith) (get_or widths k 0)).1 (closer d pitch (get_or widths k 0) k k' before there) in absurd (omega arith))
      (λ (falls : get_or widths k' 0 ≤ get_or widths k 0). falls) (cases_lt (get_or widths k 0) (get_or widths k' 0)))
      (λ (end : rows ≤ k'). let same : k' ≡ rows = omega arith in let none = ap (λ r. get_or widths r 0) same ∙ are.last in omega arith) (cases_lt k' rows);
}

-- over an equal grid
pub disc_at : (d pitch pitch' rows rows' : ℕ) (widths : List ℕ) → pitch ≡ pitch' → rows ≡ rows' → AreDiscWidths d pitch rows widths → AreDiscWidths d pitch' rows' widths
disc_at d pitch pitch' rows rows' widths p r are = subst (λ n. AreDiscWidths d n rows' widths) p (subst (λ n. AreDiscWidths d pitch n widths) r are)

-- Lists that are written from the first on.

pub record AreSet (P : ℕ → ℕ → Type 0) (n : ℕ) (xs : List ℕ) (done : ℕ) : Type 0 where
  pub full : length xs ≡ n + 1
  pub each : (k : ℕ) → k < done → (m : ℕ) → m < get_or xs k 0 ↔ P m k

pub none_set : (P : ℕ → ℕ → Type 0) (n : ℕ) (xs : List ℕ) → length xs ≡ n + 1 → AreSet P n xs 0
none_set P n xs full = record { full = full; each = λ k below. absurd (omega arith) }

pub one_set : (P : ℕ → ℕ → Type 0) (n : ℕ) (xs : List ℕ) (done v : ℕ) → done < n → ((m : ℕ) → m < v ↔ P m done) → AreSet P n xs done → AreSet P n (set xs done v) (done + 1)
one_set P n xs done v inside is before = record {
  full = length-set xs done v ∙ before.full;
  each = λ k below m.
      ⊎_elim (λ (earlier : k < done). subst (λ w. m < w ↔ P m k) (sym (get_or-set_other xs done k v 0 (omega arith))) (before.each k earlier m))
      (λ (late : done ≤ k).
      let same : done ≡ k = omega arith in
      let here : m < get_or (set xs done v) done 0 ↔ P m done = subst (λ w. m < w ↔ P m done) (sym (get_or-set_same xs done v 0 (rw before.full (omega arith)))) (is m) in
      subst (λ j. m < get_or (set xs done v) j 0 ↔ P m j) same here) (cases_lt k done);
}

-- the last is 0
pub record AreAllSet (P : ℕ → ℕ → Type 0) (n : ℕ) (xs : List ℕ) : Type 0 where
  pub full : length xs ≡ n + 1
  pub each : (k : ℕ) → k < n → (m : ℕ) → m < get_or xs k 0 ↔ P m k
  pub last : get_or xs n 0 ≡ 0

pub all_set : (P : ℕ → ℕ → Type 0) (n : ℕ) (xs : List ℕ) (done : ℕ) → n ≤ done → AreSet P n xs done → AreAllSet P n (set xs n 0)
all_set P n xs done end are = record {
  full = length-set xs n 0 ∙ are.full;
  each = λ k below m. subst (λ w. m < w ↔ P m k) (sym (get_or-set_other xs n k 0 0 (omega arith))) (are.each k (omega arith) m);
  last = get_or-set_same xs n 0 0 (rw are.full (omega arith));
}
