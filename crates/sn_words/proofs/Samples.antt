-- A word of each form, to show that some accepted list continues.
use Rattle.std.proofs.Common.{ℕ, [], ◌∷◌, None, refl, arith, codes, lit≤, lit<}
use Rattle.std.proofs.lemmas.Int.{ints}
use Rattle.std.specs.Prelude.{ℤ, pos}
use Rattle.sn_geom.specs.Decimal.{NumberParts, unsigned, decimal_of}
use Rattle.sn_geom.specs.Rounding.{RoundsTo}
use Rattle.sn_geom.specs.declared.limits.TheConstants.{PER_MM, LEAST_PITCH}
use Rattle.sn_words.specs.WordForms.{IsPitchWord, IsLengthText, IsBoxWord, IsSeedWord, IsFileWord}
use Rattle.sn_words.specs.declared.options.RawBox.{RawBox}

pub sample_pitch : IsPitchWord (codes "20") LEAST_PITCH
sample_pitch = record {
  digits = (lit< tt, (lit< tt, (lit< tt, tt)));
  value = refl;
  within = record { least = lit≤ tt; greatest = lit≤ tt };
}

pub sample_seed : IsSeedWord (codes "1") 1
sample_seed = record { digits = (lit< tt, (lit< tt, tt)); value = refl; within = lit≤ tt }

pub sample_file : IsFileWord (codes "p")
sample_file = λ e. absurd (omega arith)

exact : (n : ℤ) → RoundsTo n 1 n
exact n = record { nearest = λ w. omega (arith, ints); away = λ w e. omega (arith, ints) }

abbrev digit : ℕ → NumberParts
digit c = record { sign = unsigned; whole = c ∷ []; fraction = None; exponent = None }

zero_length : IsLengthText (codes "0") (pos 0)
zero_length = record {
  number = decimal_of (digit 48);
  reads = (
    digit 48,
    record { whole = (lit< tt, (lit< tt, tt)); fraction = tt; exponent = tt; spelled = refl },
    record { bytes = lit≤ tt; digits = lit≤ tt; exponent = lit≤ tt },
    refl,
  );
  value = exact (pos 0);
  within = lit≤ tt;
}

one_length : IsLengthText (codes "1") (pos PER_MM)
one_length = record {
  number = decimal_of (digit 49);
  reads = (
    digit 49,
    record { whole = (lit< tt, (lit< tt, tt)); fraction = tt; exponent = tt; spelled = refl },
    record { bytes = lit≤ tt; digits = lit≤ tt; exponent = lit≤ tt },
    refl,
  );
  value = exact (pos PER_MM);
  within = lit≤ tt;
}

abbrev pub sample_box : RawBox
sample_box = record {
  low = record { x = pos 0; y = pos 0; z = pos 0 };
  high = record { x = pos PER_MM; y = pos PER_MM; z = pos PER_MM };
}

pub sample_box_word : IsBoxWord (codes "0,0,0,1,1,1") sample_box
sample_box_word = record {
  x0 = codes "0";
  y0 = codes "0";
  z0 = codes "0";
  x1 = codes "1";
  y1 = codes "1";
  z1 = codes "1";
  order = refl;
  low = record { x_is = zero_length; y_is = zero_length; z_is = zero_length };
  high = record { x_is = one_length; y_is = one_length; z_is = one_length };
  box_is = record { x = omega (arith, ints); y = omega (arith, ints); z = omega (arith, ints) };
}
