use Rattle.std.proofs.Common.{◌≡◌, ◌+◌, None, vec_len}
use Rattle.sn_model.specs.ModelContent.{ModelContent}
use Rattle.sn_refs.specs.Path.{IsWalk}
use Rattle.sn_refs.proofs.walk.Walk.next_target.Given as goal

abbrev pub invariant-loop-component : goal.invariant-loop-component
invariant-loop-component l = ((m : ModelContent) → IsWalk m None l.fn.self → IsWalk m None l.self) × (l.self.places ≡ l.fn.self.places)

abbrev pub decreases-loop-component : goal.decreases-loop-component
decreases-loop-component l = vec_len l.self.pending + vec_len l.self.path
