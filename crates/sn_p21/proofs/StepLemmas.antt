-- What the reader does at a token.
use Rattle.std.proofs.Common.{◌≡◌, ℕ, List, [], ◌∷◌, ◌++◌, Some, Result, Ok, Err, refl, sym, ap}
use Rattle.sn_p21.specs.declared.fault.P21Fault.{P21Fault}
use Rattle.sn_p21.specs.declared.fault.P21Fault.TheVariants as fault
use Rattle.sn_p21.specs.declared.grammar.reader.Reader.{Reader}
use Rattle.sn_p21.specs.Reader.{parted, parted_behind, Steps, Gives}

pub parted_push : {A : Type 0} → (xs : List A) (y : A) → parted (xs ++ y ∷ []) ≡ Some (xs, y)
parted_push [] y = refl
parted_push (x ∷ xs) y = ap (λ p. Some (parted_behind x p)) (parted_push xs y)

pub steps_from_gives : {T : Type 0} → (r : Result T P21Fault) (at : ℕ) (s new : Reader) → Gives r (new ≡ s) → Steps (Ok s) at r new
steps_from_gives (Ok x) at s new h = ap Ok (sym h)
steps_from_gives (Err fault.Memory) at s new h = tt
steps_from_gives (Err (fault.Lex f)) at s new h = absurd h
steps_from_gives (Err (fault.Unexpected o)) at s new h = absurd h
steps_from_gives (Err (fault.Twice n o)) at s new h = absurd h
steps_from_gives (Err (fault.TooDeep o)) at s new h = absurd h
