-- Numbers read from texts.
use Rattle.std.proofs.Common.{◌≡◌, ℕ, ◌≤◌, List}
use Rattle.std.specs.Prelude.{ℤ, Result, Ok, Err, IfOk, IfSome, IfNone, unsigned_abs}
use Rattle.std.specs.Result.{result_ok}
use Rattle.sn_geom.specs.Decimal.{Decimal, IsNumber, ScalesTo}
use Rattle.sn_geom.specs.declared.decimal.DecFault.{DecFault}
use Rattle.sn_geom.specs.declared.limits.TheConstants.{PER_MM, PER_ONE, REACH, MOST_VALUE}
use Rattle.sn_words.specs.WordForms.{IsLengthText, IsValueText}

pub length_found : (text : List ℕ) (d : Decimal) (r : Result ℤ DecFault) → IsNumber text d → IfOk r (λ um. ScalesTo d PER_MM um)
    → IfOk r (λ um. unsigned_abs um ≤ REACH) → IfSome (result_ok r) (λ um. IsLengthText text um)
length_found text d (Ok um) number scaled within = record { number = d; reads = number; value = scaled; within = within }
length_found text d (Err e) number scaled within = tt

pub length_missing : (text : List ℕ) (d : Decimal) (r : Result ℤ DecFault) → ((e : Decimal) → IsNumber text e → d ≡ e)
    → ((um : ℤ) → ScalesTo d PER_MM um → unsigned_abs um ≤ REACH → r ≡ Ok um) → IfNone (result_ok r) ((um : ℤ) → ¬ IsLengthText text um)
length_missing text d (Ok um) one every = tt
length_missing text d (Err e) one every = λ um h.
    let same : d ≡ h.number = one h.number h.reads in
    let found = every um (rw same h.value) h.within in
    cc

pub value_found : (text : List ℕ) (d : Decimal) (r : Result ℤ DecFault) → IsNumber text d → IfOk r (λ v. ScalesTo d PER_ONE v)
    → IfOk r (λ v. unsigned_abs v ≤ MOST_VALUE) → IfSome (result_ok r) (λ v. IsValueText text v × (unsigned_abs v ≤ MOST_VALUE))
value_found text d (Ok v) number scaled within = (record { number = d; reads = number; scaled = scaled }, within)
value_found text d (Err e) number scaled within = tt

pub value_missing : (text : List ℕ) (d : Decimal) (r : Result ℤ DecFault) → ((e : Decimal) → IsNumber text e → d ≡ e)
    → ((v : ℤ) → ScalesTo d PER_ONE v → unsigned_abs v ≤ MOST_VALUE → r ≡ Ok v)
    → IfNone (result_ok r) ((v : ℤ) → IsValueText text v → unsigned_abs v ≤ MOST_VALUE → ⊥)
value_missing text d (Ok v) one every = tt
value_missing text d (Err e) one every = λ v h within.
    let same : d ≡ h.number = one h.number h.reads in
    let found = every v (rw same h.scaled) within in
    cc
