use Rattle.std.proofs.Common.{◌∙◌}
use Rattle.sn_block.specs.declared.number.TheConstants.{MOST_SIZE}
use Rattle.sn_block.proofs.Digits.{digits_front, padded_size_is}
use Rattle.sn_block.proofs.number.padded_size.Goals as goal

pub number_behind-requires-clause-digits : goal.number_behind-requires-clause-digits
number_behind-requires-clause-digits c = digits_front c.args.places c.args.digits.now c.requires.digits

pub returns : goal.returns
returns c =
    c.with_zeros.ensures
    ∙ padded_size_is MOST_SIZE c.args.start c.number_behind-size.result c.args.places c.args.digits.now c.if-digits-places.false c.number_behind-size.ensures
