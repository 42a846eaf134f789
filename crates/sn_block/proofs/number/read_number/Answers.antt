use Rattle.std.proofs.Common.{◌∙◌, sym, refl, drop}
use Rattle.sn_block.specs.declared.number.TheConstants.{MOST_SIZE}
use Rattle.sn_block.proofs.Digits.{no_fraction, no_digit, has_digit, size_is, fine_is, whole_digits, behind_digits}
use Rattle.sn_block.proofs.number.read_number.Goals as goal

pub returns-then-not-is_fraction : goal.returns-then-not-is_fraction
returns-then-not-is_fraction c =
    no_fraction c.args.text.now c.unsigned-digits.result.now c.behind-fraction.result.now (drop 1 c.behind-fraction.result.now) c.count_digits-point.result
    c.unsigned-digits.ensures c.count_digits-point.ensures.count c.behind-fraction.ensures refl
    c.count_digits-point.ensures.within (sym c.is_fraction.ensures ∙ c.if-not-is_fraction.true)

pub returns-then-point-decimals-eq0 : goal.returns-then-point-decimals-eq0
returns-then-point-decimals-eq0 c =
    no_digit c.args.text.now c.unsigned-digits.result.now c.behind-fraction.result.now c.behind_point-decimals.result.now c.count_digits-point.result
    c.unsigned-digits.ensures c.count_digits-point.ensures.count c.behind-fraction.ensures c.behind_point-decimals.ensures
    c.count_digits-point.ensures.within c.if-point-decimals-eq0.true

pub number_behind-whole-requires-clause-digits : goal.number_behind-whole-requires-clause-digits
number_behind-whole-requires-clause-digits c =
    whole_digits c.args.text.now c.unsigned-digits.result.now c.behind-fraction.result.now c.behind_point-decimals.result.now c.count_digits-point.result
    c.unsigned-digits.ensures c.count_digits-point.ensures.count c.behind-fraction.ensures c.behind_point-decimals.ensures

pub padded_size-requires-clause-digits : goal.padded_size-requires-clause-digits
padded_size-requires-clause-digits c =
    behind_digits c.args.text.now c.unsigned-digits.result.now c.behind-fraction.result.now c.behind_point-decimals.result.now c.count_digits-point.result
    c.unsigned-digits.ensures c.count_digits-point.ensures.count c.behind-fraction.ensures c.behind_point-decimals.ensures
    (sym c.is_fraction.ensures ∙ c.if-not-is_fraction.false)

pub returns : goal.returns
returns c = record {
  is =
      has_digit c.args.text.now c.unsigned-digits.result.now c.behind-fraction.result.now c.behind_point-decimals.result.now c.count_digits-point.result
      c.unsigned-digits.ensures c.count_digits-point.ensures.count c.behind-fraction.ensures c.behind_point-decimals.ensures
      c.count_digits-point.ensures.within (sym c.is_fraction.ensures ∙ c.if-not-is_fraction.false) c.if-point-decimals-eq0.false;
  negative = c.is_negative.ensures;
  size =
      size_is c.args.text.now c.unsigned-digits.result.now c.behind-fraction.result.now c.behind_point-decimals.result.now c.count_digits-point.result
      c.unsigned-digits.ensures c.count_digits-point.ensures.count c.behind-fraction.ensures c.behind_point-decimals.ensures
      MOST_SIZE c.args.places c.padded_size.result c.number_behind-whole.result c.number_behind-whole.ensures c.padded_size.ensures;
  fine =
      c.is_fine.ensures
      ∙ sym (fine_is c.args.text.now c.unsigned-digits.result.now c.behind-fraction.result.now c.behind_point-decimals.result.now c.count_digits-point.result
      c.unsigned-digits.ensures c.count_digits-point.ensures.count c.behind-fraction.ensures c.behind_point-decimals.ensures c.args.places);
}
