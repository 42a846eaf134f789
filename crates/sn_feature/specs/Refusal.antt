-- MEANING (this project's own): refusals in an order. The first one decides.
use Rattle.std.specs.Prelude.{Bool, true, false, Result, Ok, Err, ℕ, ℤ, nat_le, unsigned_abs, if◌then◌else◌}
use Rattle.sn_geom.specs.declared.limits.TheConstants.{REACH}
use Rattle.sn_frame.specs.declared.frame.FrameFault.{FrameFault}
use Rattle.sn_frame.specs.declared.frame.FrameFault.TheVariants.{OutOfRange}
use Rattle.sn_feature.specs.declared.fault.StepFault.{StepFault}
use Rattle.sn_feature.specs.declared.fault.StepFault.TheVariants.{Frame}

-- what comes next, where there is no refusal so far
infixl 10 ◌>>=◌
abbrev pub ◌>>=◌ : {A B E : Type 0} → Result A E → (A → Result B E) → Result B E
(Ok x) >>= next = next x
(Err e) >>= next = Err e

-- refused where this holds
abbrev pub refused_where : {E : Type 0} → Bool → E → Result (Unit {0}) E
refused_where true e = Err e
refused_where false e = Ok tt

-- the length, where it is in the range of coordinates; the fault has the number of a placement
abbrev pub length_in_range : ℤ → ℕ → Result ℤ FrameFault
length_in_range z n = if nat_le (unsigned_abs z) REACH then Ok z else Err (OutOfRange n)

-- a fault of frames as the fault of a step
abbrev pub as_step_fault : {A : Type 0} → Result A FrameFault → Result A StepFault
as_step_fault (Ok x) = Ok x
as_step_fault (Err e) = Err (Frame e)
