use Rattle.std.proofs.Common.{MatchOption, Option, subst, sym}
use Rattle.sn_refs.specs.declared.fault.RefFault.{RefFault}
use Rattle.sn_refs.specs.Sound.{IsSound, IsRanked, IsRefFault}
use Rattle.sn_refs.proofs.EndLemmas.{ends}
use Rattle.sn_refs.proofs.ModelLemmas.{has_rows}
use Rattle.sn_refs.proofs.walk.first_fault.Goals as goal

pub returns : goal.returns
returns c =
    subst (λ (o : Option RefFault). MatchOption o (IsSound c.args.model.now × IsRanked c.args.model.now) (λ why. IsRefFault c.args.model.now why)) (sym c.verdict.ensures)
    (ends c.args.model.now (has_rows c.kept_by_row.ensures c.project_has_row.ensures c.args.model.now c.requires) _ _ _ _ _ _ c.in_ok-walk.ensures.0 c.in_ok-walk.ensures.1)
