use Rattle.std.proofs.Common.{Some, refl, ap, ◌∙◌, ◌∷◌}
use Rattle.sn_geom.proofs.decimal.text.split_fraction.Goals as goal

pub returns-in-Some : goal.returns-in-Some
returns-in-Some c = record {
  fraction = Some c.split_digits.result.0.now;
  told = refl;
  each = c.split_digits.ensures.each;
  joined = c.in-Some.ensures.found ∙ ap (λ t. 46 ∷ t) c.split_digits.ensures.joined;
  ends = c.split_digits.ensures.ends;
}
