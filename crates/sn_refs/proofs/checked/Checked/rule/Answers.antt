use Rattle.std.proofs.Common.{subst}
use Rattle.sn_refs.specs.Sound.{IsChecked, IsSound}
use Rattle.sn_refs.proofs.ModelLemmas.{has_rows}
use Rattle.sn_refs.proofs.TargetLemmas.{sound_outright}
use Rattle.sn_refs.proofs.checked.Checked.rule.Goals as goal

pub returns-clause-checked : goal.returns-clause-checked
returns-clause-checked c = subst IsChecked c.self.view_is c.self.invariant

pub returns-clause-sound : goal.returns-clause-sound
returns-clause-sound c =
    let m = c.self.inside.model in
    subst IsSound c.self.view_is (sound_outright m (has_rows c.kept_by_row.ensures c.project_has_row.ensures m c.self.invariant.model) c.in_group_or_not.ensures c.self.invariant.sound)
