-- How a text is written piece by piece.
use Rattle.std.proofs.Common.{ℕ, ℤ, ◌≡◌, List, ◌++◌, Result, IsErr, sym, subst, append_assoc}
use Rattle.std.specs.Prelude.{decimal}
use Rattle.std.specs.Fmt.{signed_decimal}
use Rattle.sn_io.specs.Sink.{SinkState, Takes, TakesFront, Writes}
use Rattle.sn_io.proofs.SinkLemmas.{writes-first, writes-later}

-- Words, what is shown behind them, and more behind that.

-- a write that stopped within the words and what they show
pub shown-first : {T E : Type 0} (r : Result T E) (a b : SinkState) (words shown after : List ℕ)
    → IsErr r → TakesFront a b (words ++ shown) → Writes r a b (words ++ (shown ++ after))
shown-first r a b words shown after stops front = writes-first r a b _ (words ++ shown) after stops (sym (append_assoc words shown after)) front

-- a write that goes on behind them
pub shown-later : {T E : Type 0} (r : Result T E) (a b c : SinkState) (words shown after : List ℕ)
    → Takes a b (words ++ shown) → Writes r b c after → Writes r a c (words ++ (shown ++ after))
shown-later r a b c words shown after taken later = writes-later r a b c _ (words ++ shown) after (sym (append_assoc words shown after)) taken later

-- the same where a number is shown
pub number-first : {T E : Type 0} (r : Result T E) (a b : SinkState) (words after : List ℕ) (n : ℕ)
    → IsErr r → TakesFront a b (words ++ decimal n) → Writes r a b (words ++ (decimal n ++ after))
number-first r a b words after n = shown-first r a b words (decimal n) after

pub number-later : {T E : Type 0} (r : Result T E) (a b c : SinkState) (words after : List ℕ) (n : ℕ)
    → Takes a b (words ++ decimal n) → Writes r b c after → Writes r a c (words ++ (decimal n ++ after))
number-later r a b c words after n = shown-later r a b c words (decimal n) after

-- the same where a coordinate is shown, which was passed on
pub coordinate-first : {T E : Type 0} (r : Result T E) (a b : SinkState) (words after : List ℕ) (passed z : ℤ)
    → passed ≡ z → IsErr r → TakesFront a b (words ++ signed_decimal passed) → Writes r a b (words ++ (signed_decimal z ++ after))
coordinate-first r a b words after passed z same stops front =
    shown-first r a b words (signed_decimal z) after stops (subst (λ (k : ℤ). TakesFront a b (words ++ signed_decimal k)) same front)

pub coordinate-later : {T E : Type 0} (r : Result T E) (a b c : SinkState) (words after : List ℕ) (passed z : ℤ)
    → passed ≡ z → Takes a b (words ++ signed_decimal passed) → Writes r b c after → Writes r a c (words ++ (signed_decimal z ++ after))
coordinate-later r a b c words after passed z same taken later =
    shown-later r a b c words (signed_decimal z) after (subst (λ (k : ℤ). Takes a b (words ++ signed_decimal k)) same taken) later

-- the same where nothing comes behind it
pub coordinate-alone : {T E : Type 0} (r : Result T E) (a b : SinkState) (words : List ℕ) (passed z : ℤ)
    → passed ≡ z → Writes r a b (words ++ signed_decimal passed) → Writes r a b (words ++ signed_decimal z)
coordinate-alone r a b words passed z same written = subst (λ (k : ℤ). Writes r a b (words ++ signed_decimal k)) same written

-- Lines.

-- words and a number, with the end of the line, as they are written
pub line_parts : (words shown after end : List ℕ) → (words ++ (shown ++ after)) ++ end ≡ (words ++ shown) ++ (after ++ end)
line_parts words shown after end = simp append_assoc

-- the same twice
pub two_parts : (words shown more number after end : List ℕ)
    → (words ++ (shown ++ (more ++ (number ++ after)))) ++ end ≡ (words ++ shown) ++ ((more ++ number) ++ (after ++ end))
two_parts words shown more number after end = simp append_assoc
