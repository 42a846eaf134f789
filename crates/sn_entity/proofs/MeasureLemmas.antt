-- What a number's text measures.
use Rattle.std.proofs.Common.{◌≡◌, ◌≤◌, ◌≤ℤ◌, ℕ, ℤ, pos, unsigned_abs, arith, List, Bool, true, false, cond, refl, sym, ap, ◌∙◌}
use Rattle.std.specs.Prelude.{IsTrue, ◌↔◌}
use Rattle.std.proofs.lemmas.Int.{ints}
use mir.Val.{SFits}
use mir.Syntax.{w32}
use Rattle.sn_geom.specs.Decimal.{Decimal, IsNumber, IsNumberText, IsPastLimits}
use Rattle.sn_geom.specs.declared.limits.TheConstants.{MOST_VALUE}
use Rattle.sn_entity.specs.Measure.{Measure, IsSmall, IsWithin, Measures}

-- what a text gives is a number's text
pub IsNumberText-from_number : (text : List ℕ) (d : Decimal) → IsNumber text d → IsNumberText text
IsNumberText-from_number text d h = (h.0, h.1)

pub IsNumberText-from_past : (text : List ℕ) → IsPastLimits text → IsNumberText text
IsNumberText-from_past text h = (h.0, h.1)

size-kept : (signed : Bool) (rounded : ℤ) → unsigned_abs (cond signed rounded (pos (unsigned_abs rounded))) ≡ unsigned_abs rounded
size-kept true rounded = refl
size-kept false rounded = refl

size-within : (most : ℕ) (least greatest z : ℤ) → unsigned_abs least ≤ most → unsigned_abs greatest ≤ most → least ≤ℤ z → z ≤ℤ greatest → unsigned_abs z ≤ most
size-within most least greatest z a b low high = omega (arith, ints)

-- a value within the limits was small when it was rounded
pub size-rounded : (m : Measure) (text : List ℕ) (z : ℤ) → IsSmall m → (h : Measures m text z) → unsigned_abs h.rounded ≤ MOST_VALUE
size-rounded m text z small h =
    let same = ap unsigned_abs h.value ∙ size-kept m.signed h.rounded in
    let within = size-within MOST_VALUE m.least m.greatest z small.least small.greatest h.within.low h.within.high in
    omega arith

-- such a number is an i32
pub SFits-from_size : (z : ℤ) → unsigned_abs z ≤ MOST_VALUE → SFits w32 z
SFits-from_size z h = omega (arith, ints)

-- what is found out of the limits is no value
pub not_measured : (m : Measure) (text : List ℕ) (rounded value : ℤ) (within : Bool) → value ≡ cond m.signed rounded (pos (unsigned_abs rounded)) → IsTrue within ↔ IsWithin m value → within ≡ false → (z : ℤ) (h : Measures m text z) → rounded ≡ h.rounded → ⊥
not_measured m text rounded value within is decides no_within z h same =
    let v : z ≡ value = h.value ∙ ap (λ r. cond m.signed r (pos (unsigned_abs r))) (sym same) ∙ sym is in
    let w : within ≡ true = decides.1 (rw v at h.within) in
    cc
