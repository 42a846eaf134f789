use Rattle.std.proofs.Common.{◌∙◌, ap, Err}
use Rattle.sn_entity.proofs.MeasureLemmas.{IsNumberText-from_past}
use Rattle.sn_entity.proofs.measure.decimal_of.Goals as goal

pub returns-in-Err-OutOfRange-clause-refused : goal.returns-in-Err-OutOfRange-clause-refused
returns-in-Err-OutOfRange-clause-refused c = (
  IsNumberText-from_past c.args.text.now (c.read_dec.ensures.out_of_range.0 (c.in-Err-OutOfRange.is ∙ ap Err c.in-Err-OutOfRange.field-0-is)),
  λ d number. let e = c.read_dec.ensures.every d number in cc (e, c.in-Err-OutOfRange.is),
)

pub returns-in-Ok-clause-every : goal.returns-in-Ok-clause-every
returns-in-Ok-clause-every c = λ d number. let e = c.read_dec.ensures.every d number in cc (e, c.in-Ok.is)

pub returns-in-Err-OutOfRange-clause-every : goal.returns-in-Err-OutOfRange-clause-every
returns-in-Err-OutOfRange-clause-every c = λ d number. let e = c.read_dec.ensures.every d number in cc (e, c.in-Err-OutOfRange.is)
