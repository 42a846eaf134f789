use Rattle.std.proofs.Common.{◌≡◌, false, sym, ◌∙◌, ap}
use Rattle.sn_geom.specs.Block.{Block}
use Rattle.sn_machine.proofs.CountingLines.{fault_of-counting}
use Rattle.sn_machine.proofs.machine.Machine.step.Goals as goal

pub returns-else-is_after_end-clause-fault : goal.returns-else-is_after_end-clause-fault
returns-else-is_after_end-clause-fault c =
    let plain : c.args.b.now.percent ≡ false = sym (ap (λ (b : Block). b.percent) c.b.view_is) ∙ c.if-b.false in
    rw (fault_of-counting c.args.self.now c.args.b.now (sym c.is_closed.ensures ∙ c.if-is_closed.false) plain (sym c.is_after_end.ensures ∙ c.if-is_after_end.false))
    c.step_words.ensures.fault
