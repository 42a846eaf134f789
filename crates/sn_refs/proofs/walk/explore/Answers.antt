use Rattle.std.proofs.Common.{◌≡◌, ◌≤◌, ◌<◌, ◌-◌, ℕ, Option, Some, None, IfNone, IfSome, MatchOption, [], length, subst, sym, ap}
use Rattle.std.specs.Map.{keys_of}
use Rattle.std.proofs.lemmas.List.{length-map}
use Rattle.indexmap.specs.IndexMap.{index_map_len}
use Rattle.sn_refs.specs.Path.{IsVisited, IsWalk}
use Rattle.sn_refs.proofs.EndLemmas.{visits_within, none_visited, fewer_left}
use Rattle.sn_refs.proofs.ModelLemmas.{has_rows}
use Rattle.sn_refs.proofs.walk.explore.Goals as goal

pub loop-next-init : goal.loop-next-init
loop-next-init c = (
  subst (λ (n : ℕ). IsWalk c.args.model.now (Some n) c.new-walk.result) (sym c.project.ensures) (c.new-walk.ensures.kept c.args.model.now),
  none_visited c.new-walk.result.places.entries c.project.result c.new-walk.ensures.empty,
)

by_option : (o : Option ℕ) (P : Type 0) (Q : ℕ → Type 0) → IfNone o P → IfSome o Q → MatchOption o P Q
by_option None P Q none some = none
by_option (Some n) P Q none some = some

pub loop-next-preserved : goal.loop-next-preserved
loop-next-preserved c =
    let at : IsWalk c.args.model.now (Some c.in-Some.n) c.loop-next.walk = subst (λ (o : Option ℕ). IsWalk c.args.model.now o c.loop-next.walk) c.in-Some.is c.loop-next.invariant.0 in
    let fresh : IsVisited c.loop-next.walk.places.entries c.in-Some.n → ⊥ = subst (λ (o : Option ℕ). MatchOption o (c.loop-next.walk.path.items ≡ []) (λ n. IsVisited c.loop-next.walk.places.entries n → ⊥)) c.in-Some.is c.loop-next.invariant.1 in (
      c.next_target-next.ensures.kept c.args.model.now (c.in_ok-visit.ensures.kept at fresh),
      by_option c.next_target-next.result (c.next_target-next.new.self.path.items ≡ []) (λ n. IsVisited c.next_target-next.new.self.places.entries n → ⊥) c.next_target-next.ensures.ended c.next_target-next.ensures.fresh,
    )

pub loop-next-smaller : goal.loop-next-smaller
loop-next-smaller c =
    let at : IsWalk c.args.model.now (Some c.in-Some.n) c.loop-next.walk = subst (λ (o : Option ℕ). IsWalk c.args.model.now o c.loop-next.walk) c.in-Some.is c.loop-next.invariant.0 in
    let fresh : IsVisited c.loop-next.walk.places.entries c.in-Some.n → ⊥ = subst (λ (o : Option ℕ). MatchOption o (c.loop-next.walk.path.items ≡ []) (λ n. IsVisited c.loop-next.walk.places.entries n → ⊥)) c.in-Some.is c.loop-next.invariant.1 in
    let visited : IsWalk c.args.model.now None c.visit.new.self = c.in_ok-visit.ensures.kept at fresh in
    let within : length (keys_of c.visit.new.self.places.entries) ≤ length c.args.model.now.kept = visits_within c.args.model.now c.visit.new.self.places.entries (has_rows c.kept_by_row.ensures c.project_has_row.ensures c.args.model.now c.requires) visited.reached visited.unique in
    subst (λ (k : ℕ). length c.args.model.now.kept - k < length c.args.model.now.kept - index_map_len c.loop-next.walk.places) (sym (ap (λ p. index_map_len p) c.next_target-next.ensures.places))
    (fewer_left (length c.args.model.now.kept) (index_map_len c.loop-next.walk.places) (index_map_len c.visit.new.self.places) (c.in_ok-visit.ensures.counted fresh)
    (subst (λ (k : ℕ). k ≤ length c.args.model.now.kept) (length-map c.visit.new.self.places.entries (λ (e : ℕ × ℕ). e.0)) within))
