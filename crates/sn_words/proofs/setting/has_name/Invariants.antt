use Rattle.std.proofs.Common.{◌≢◌, ℕ, ◌<◌, get_or}
use Rattle.sn_words.specs.declared.options.Assign.{Assign}
use Rattle.sn_words.proofs.setting.has_name.Given as goal

abbrev pub invariant-loop-set : goal.invariant-loop-set
invariant-loop-set l = (k : ℕ) (d : Assign) → k < l.set-index → (get_or l.sets k d).name ≢ l.name
