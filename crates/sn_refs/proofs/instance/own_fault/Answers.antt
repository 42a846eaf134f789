use Rattle.std.proofs.Common.{sym}
use Rattle.sn_refs.proofs.InstanceLemmas.{found_first_bad, all_of_kind}
use Rattle.sn_refs.proofs.instance.own_fault.Goals as goal

pub returns-in-Some-reference_fault : goal.returns-in-Some-reference_fault
returns-in-Some-reference_fault c =
    c.in-Some-reference_fault.ensures.1
    (found_first_bad c.args.model.now c.args.n c.args.references.now c.loop-reference.reference-index _ c.requires c.loop-reference-test.true c.loop-reference.invariant c.in-Some-reference_fault.ensures.0)

pub returns : goal.returns
returns c = (sym c.in_default.ensures, all_of_kind c.args.model.now c.args.n c.args.references.now c.loop-reference.reference-index c.requires c.loop-reference-test.false c.loop-reference.invariant)
