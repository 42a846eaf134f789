use Rattle.std.proofs.Common.{◌-◌, length}
use Rattle.sn_words.proofs.Leading.{Leads}
use Rattle.sn_words.proofs.setting.read_settings.Given as goal

abbrev pub invariant-loop-at : goal.invariant-loop-at
invariant-loop-at l = Leads l.words l.first l.at l.seen

abbrev pub decreases-loop-at : goal.decreases-loop-at
decreases-loop-at l = length l.words - l.at
