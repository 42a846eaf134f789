use Rattle.std.proofs.Common.{Option, MatchOption, subst, inl}
use Rattle.sn_refs.specs.declared.fault.RefFault.{RefFault}
use Rattle.sn_refs.specs.Sound.{IsSound, IsRanked, IsRefFault}
use Rattle.sn_entity.specs.declared.fault.EntFault.TheVariants.{Memory}
use Rattle.sn_refs.specs.declared.fault.RefFault.TheVariants as refusal
use Rattle.sn_refs.proofs.FaultLemmas.{one_fault, sound_or_fault}
use Rattle.sn_refs.proofs.ModelLemmas.{bad_is_no_memory}
use Rattle.sn_refs.proofs.checked.check.Goals as goal

pub returns-in-Some-clause-only : goal.returns-in-Some-clause-only
returns-in-Some-clause-only c = λ sound.
    let told : IsRefFault c.args.m c.in-Some.fault = subst (λ (o : Option RefFault). MatchOption o (IsSound c.args.m × IsRanked c.args.m) (λ why. IsRefFault c.args.m why)) c.in-Some.is c.in_ok-fault.ensures in
    absurd (sound_or_fault c.args.m c.in-Some.fault sound told)

pub returns-in-Some-clause-fault : goal.returns-in-Some-clause-fault
returns-in-Some-clause-fault c = λ why h.
    let told : IsRefFault c.args.m c.in-Some.fault = subst (λ (o : Option RefFault). MatchOption o (IsSound c.args.m × IsRanked c.args.m) (λ why. IsRefFault c.args.m why)) c.in-Some.is c.in_ok-fault.ensures in
    inl (one_fault c.args.m c.in-Some.fault why told h)

pub returns-in-None-clause-fault : goal.returns-in-None-clause-fault
returns-in-None-clause-fault c = λ why h.
    let told : IsSound c.args.m × IsRanked c.args.m = subst (λ (o : Option RefFault). MatchOption o (IsSound c.args.m × IsRanked c.args.m) (λ why. IsRefFault c.args.m why)) c.in-None.is c.in_ok-fault.ensures in
    sound_or_fault c.args.m why told.0 h

pub returns-in-Some-clause-entity : goal.returns-in-Some-clause-entity
returns-in-Some-clause-entity c = λ e.
    let told : IsRefFault c.args.m c.in-Some.fault = subst (λ (o : Option RefFault). MatchOption o (IsSound c.args.m × IsRanked c.args.m) (λ why. IsRefFault c.args.m why)) c.in-Some.is c.in_ok-fault.ensures in
    let least : IsRefFault c.args.m (refusal.Entity Memory) = subst (IsRefFault c.args.m) e told in
    bad_is_no_memory c.args.m least.number c.kept_by_row.ensures c.rule.ensures least.own
