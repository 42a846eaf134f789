-- The reads of a row, one after another.
use Rattle.std.proofs.Common.{◌≡◌, ℕ, zero, suc, ◌+◌, ◌-◌, ◌<◌, ◌≤◌, List, [], ◌∷◌, ◌++◌, length, get_or, take, drop, refl, sym, ap, subst, Some, arith, add-one}
use Rattle.std.specs.Prelude.{slice_get}
use Rattle.sn_p21.specs.declared.file.Param.{Param}
use Rattle.sn_p21.specs.declared.file.Entity.{Entity}
use Rattle.sn_entity.specs.declared.row.Read.{Read}
use Rattle.sn_entity.specs.declared.value.Value.{Value}
use Rattle.sn_entity.specs.Form.{ReadGives}
use Rattle.sn_entity.specs.Reads.{IsRising}
use Rattle.sn_entity.specs.Shows.{AreGiven, IsRead}
use Rattle.sn_entity.specs.Table.{last_place}

pub given_push : (e : Entity) (rs : List Read) (vs : List Value) (r : Read) (p : Param) (v : Value) → AreGiven e rs vs → IsRead e r p → ReadGives r p v → AreGiven e (rs ++ r ∷ []) (vs ++ v ∷ [])
given_push e [] vs r p v all read gives = rw all (p, v, [], read, gives, refl, refl)
given_push e (q ∷ qs) vs r p v all read gives =
    rw all.6 (all.0, all.1, all.2 ++ v ∷ [], all.3, all.4, given_push e qs all.2 r p v all.5 read gives, refl)

pub place_at : (above most : ℕ) (rs : List Read) (i : ℕ) (d : Read) → IsRising above most rs → i < length rs → (above < (get_or rs i d).place) × ((get_or rs i d).place ≤ most)
place_at above most [] i d h lt = absurd (omega arith)
place_at above most (q ∷ qs) zero d h lt = (h.0, h.1)
place_at above most (q ∷ qs) (suc i) d h lt = let rest = place_at q.place most qs i d h.2 (omega arith) in (omega (arith, rest.0, h.0), rest.1)

split : (rs : List Read) (i : ℕ) (d : Read) → i < length rs → rs ≡ take i rs ++ get_or rs i d ∷ drop (suc i) rs
split [] i d lt = absurd (omega arith)
split (q ∷ qs) zero d lt = refl
split (q ∷ qs) (suc i) d lt = ap (λ x. q ∷ x) (split qs i d (omega arith))

pub split_at : (rs : List Read) (i : ℕ) (d : Read) → i < length rs → rs ≡ take i rs ++ get_or rs i d ∷ drop (i + 1) rs
split_at rs i d lt = rw (add-one) (split rs i d lt)

pub param_at : (ps : List Param) (i : ℕ) (p : Param) → i < length ps → p ≡ get_or ps i p → slice_get ps i ≡ Some p
param_at [] i p lt e = absurd (omega arith)
param_at (q ∷ qs) zero p lt e = ap Some (sym e)
param_at (q ∷ qs) (suc i) p lt e = param_at qs i p (omega arith) e

-- the place of the last read
pub last_place_at : (above : ℕ) (rs : List Read) (n : ℕ) (r : Read) → suc n ≡ length rs → slice_get rs n ≡ Some r → r.place ≡ last_place above rs
last_place_at above [] n r l e = absurd (omega arith)
last_place_at above (q ∷ []) zero r l e = let s : q ≡ r = cc in ap (λ x. x.place) (sym s)
last_place_at above (q ∷ x ∷ xs) zero r l e = absurd (omega arith)
last_place_at above (q ∷ []) (suc n) r l e = absurd (omega arith)
last_place_at above (q ∷ x ∷ xs) (suc n) r l e = last_place_at q.place (x ∷ xs) n r (omega arith) e

-- the parameter at the place of a read
pub read_at : (ps qs : List Param) (i : ℕ) (p : Param) → qs ≡ ps → i < length qs → p ≡ get_or qs i p → slice_get ps i ≡ Some p
read_at ps qs i p e lt is = subst (λ x. slice_get x i ≡ Some p) e (param_at qs i p lt is)

pub last_read : (rs : List Read) (r : Read) → slice_get rs (length rs - 1) ≡ Some r → r.place ≡ last_place 0 rs
last_read [] r e = cc
last_read (q ∷ qs) r e =
    let n : length (q ∷ qs) - 1 ≡ length qs = omega arith in
    last_place_at 0 (q ∷ qs) (length qs) r refl (rw n at e)
