use Rattle.std.proofs.Common.{◌∙◌, sym}
use Rattle.sn_block.proofs.Digits.{digits_are}
use Rattle.sn_block.proofs.mark.mark_number.Goals as goal

pub number_behind-number-requires-clause-digits : goal.number_behind-number-requires-clause-digits
number_behind-number-requires-clause-digits c = digits_are c.args.digits.now (sym c.are_digits.ensures ∙ c.if-not-are_digits.false)
