use Rattle.std.proofs.Common.{◌≤◌, ℕ, List, vec_len}
use Rattle.sn_model.specs.ModelContent.{ModelContent}
use Rattle.sn_refs.specs.Path.{Part}
use Rattle.sn_refs.proofs.MergeLemmas.{IsMerging, CanMerge}
use Rattle.sn_refs.proofs.walk.merge.Given as goal

abbrev pub invariant-loop-path : goal.invariant-loop-path
invariant-loop-path l = (vec_len l.path ≤ vec_len l.fn.path) × ((m : ModelContent) (settled : List ℕ) (parts : List Part) (n : ℕ) → CanMerge m settled parts n l.place l.fn.path.items → IsMerging m settled parts n l.path.items)

abbrev pub decreases-loop-path : goal.decreases-loop-path
decreases-loop-path l = vec_len l.path
