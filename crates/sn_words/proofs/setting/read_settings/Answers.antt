use Rattle.std.proofs.Common.{Err, sym, ap, arith}
use Rattle.sn_words.proofs.Leading.{leads_more, leads_end, leads_stop}
use Rattle.sn_words.proofs.setting.read_settings.Goals as goal

pub returns-in_err-at-clause-err : goal.returns-in_err-at-clause-err
returns-in_err-at-clause-err c =
    λ place e.
    let told = rw e at c.from_residual.ensures in
    leads_stop c.args.words.now c.args.first _ place _ c.loop-at.invariant (c.in_err-at.ensures.err place (ap Err (sym told.1)))

pub loop-at-preserved : goal.loop-at-preserved
loop-at-preserved c =
    leads_more c.one_reading.ensures.number c.one_rounding.ensures.product c.args.words.now c.args.first _ _ _ _ c.loop-at.invariant c.in_ok-at.ensures.ok

pub returns-clause-ok : goal.returns-clause-ok
returns-clause-ok c = leads_end c.args.words.now c.args.first _ _ c.loop-at.invariant (omega arith)
