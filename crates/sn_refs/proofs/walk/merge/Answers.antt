use Rattle.std.proofs.Common.{◌≡◌, ◌≤◌, ◌-◌, ℕ, true, false, ltb, List, length, take, MatchOption, subst, sym, ap, ◌∙◌, vec_len, arith}
use Rattle.std.specs.List.{slice_get}
use Rattle.sn_refs.specs.declared.walk.Component.{Component}
use Rattle.sn_refs.specs.Path.{component, components_of}
use Rattle.sn_refs.proofs.MergeLemmas.{CanMerge, merging_begins, merging_goes_on, merging_ends, merging_holds_some, last_flagged}
use Rattle.sn_refs.proofs.walk.merge.Goals as goal

pub loop-path-init : goal.loop-path-init
loop-path-init c = (omega arith, λ m settled parts n can. merging_begins m settled parts n c.args.place c.args.path.now.items can)

pub loop-path-preserved : goal.loop-path-preserved
loop-path-preserved c =
    let long : length c.loop-path.path.items ≡ vec_len c.loop-path.path = sym (ap length c.deref.ensures.value) ∙ c.deref.ensures.len in (
      omega arith,
      λ m settled parts n can. merging_goes_on m settled parts n c.args.place c.args.path.now.items c.loop-path.path.items c.pop.new.self.items can (c.loop-path.invariant.1 m settled parts n can)
          (subst (λ (cs : List Component). MatchOption (slice_get cs (length cs - 1)) (true ≡ false) (λ d. true ≡ ltb c.args.place d.first_member)) c.deref.ensures.value c.loop-path-test.ensures)
          (c.pop.ensures.rest ∙ ap (λ (k : ℕ). take (k - 1) c.loop-path.path.items) (sym long)),
    )

pub returns-in-Some-clause-merged : goal.returns-in-Some-clause-merged
returns-in-Some-clause-merged c = λ m settled parts n stands path coming held at.
    let can : CanMerge m settled parts n c.args.place c.args.path.now.items = record { stands = stands; path = path; coming = coming; held = held; at = at } in
    merging_ends m settled parts n c.args.place c.args.path.now.items c.loop-path.path.items _ can (c.loop-path.invariant.1 m settled parts n can)
    (subst (λ (cs : List Component). MatchOption (slice_get cs (length cs - 1)) (false ≡ false) (λ d. false ≡ ltb c.args.place d.first_member)) c.deref.ensures.value c.loop-path-test.ensures)
    (λ outer flag is. let long : length c.loop-path.path.items ≡ vec_len c.loop-path.path = sym (ap length c.deref.ensures.value) ∙ c.deref.ensures.len in
    last_flagged c.loop-path.path.items (components_of outer) (component outer flag) c.in-Some.inmost c.index_mut.result.now is (c.in-Some.ensures.1 ∙ ap (λ (k : ℕ). k - 1) (c.len.ensures ∙ sym long)) c.index_mut.ensures.value)

pub returns-in_default-clause-merged : goal.returns-in_default-clause-merged
returns-in_default-clause-merged c = λ m settled parts n stands path coming held at.
    let can : CanMerge m settled parts n c.args.place c.args.path.now.items = record { stands = stands; path = path; coming = coming; held = held; at = at } in
    let long : length c.loop-path.path.items ≡ vec_len c.loop-path.path = sym (ap length c.deref.ensures.value) ∙ c.deref.ensures.len in
    absurd (merging_holds_some m settled parts n c.loop-path.path.items (c.loop-path.invariant.1 m settled parts n can) (let none : 1 ≤ c.len.result → ⊥ = c.in_default.ensures in omega (arith, c.len.ensures)))
