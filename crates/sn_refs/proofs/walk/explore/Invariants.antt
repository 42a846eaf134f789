use Rattle.std.proofs.Common.{◌≡◌, ◌-◌, [], MatchOption, length}
use Rattle.indexmap.specs.IndexMap.{index_map_len}
use Rattle.sn_refs.specs.Path.{IsVisited, IsWalk}
use Rattle.sn_refs.proofs.walk.explore.Given as goal

abbrev pub invariant-loop-next : goal.invariant-loop-next
invariant-loop-next l = IsWalk l.model l.next l.walk × MatchOption l.next (l.walk.path.items ≡ []) (λ n. ¬ IsVisited l.walk.places.entries n)

abbrev pub decreases-loop-next : goal.decreases-loop-next
decreases-loop-next l = length l.model.kept - index_map_len l.walk.places
