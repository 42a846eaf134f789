use Rattle.sn_refs.proofs.FaultLemmas.{one_fault, sound_or_fault}
use Rattle.sn_refs.proofs.ModelLemmas.{has_rows}
use Rattle.sn_refs.proofs.SoundOrFault.{unsound_has_fault}
use Rattle.sn_refs.proofs.laws.one_verdict.Goals as goal

pub returns : goal.returns
returns c = (
  one_fault,
  sound_or_fault,
  λ m model. unsound_has_fault c.in_group_or_not.ensures m (has_rows c.kept_by_row.ensures c.project_has_row.ensures m model),
)
