use Rattle.std.proofs.Common.{◌≡◌, ◌-◌, ◌<◌, ◌≤◌, ℕ, Some, List, [], ◌∷◌, ◌++◌, length, subst, sym, ap, ◌∙◌, arith, length-append}
use Rattle.std.specs.List.{slice_get}
use Rattle.sn_refs.specs.declared.walk.Component.{Component}
use Rattle.sn_refs.proofs.WalkLemmas.{takes, joins, passes}
use Rattle.sn_refs.proofs.walk.Walk.next_target.Goals as goal

last_of : (path seen : List Component) (c : Component) → seen ≡ path → Some c ≡ slice_get seen (length seen - 1) → slice_get path (length path - 1) ≡ Some c
last_of path seen c same is = subst (λ (cs : List Component). slice_get cs (length cs - 1) ≡ Some c) same (sym is)

long_enough : (pending rest : List ℕ) (t first length_of : ℕ) → first < length_of → length_of ≡ length pending → pending ≡ rest ++ t ∷ [] → first ≤ length rest
long_enough pending rest t first length_of within same is = omega (arith, ap length is, length-append rest (t ∷ []))

pub returns-in-New-clause-kept : goal.returns-in-New-clause-kept
returns-in-New-clause-kept c = λ m at.
    takes m _ _ _ _ _ _ _ c.in-Some.component c.in-Some-pop.target (c.loop-component.invariant.0 m at)
    (last_of _ _ c.in-Some.component c.deref.ensures.value (c.in-Some.ensures ∙ c.last.ensures.value))
    (long_enough _ _ c.in-Some-pop.target c.in-Some.component.first_pending c.len.result c.if-len-component.false (c.len.ensures ∙ c.loop-component.self.pending.ok.0) c.in-Some-pop.ensures.items)
    c.in-Some-pop.ensures.items

pub loop-component-preserved-in-OnPath : goal.loop-component-preserved-in-OnPath
loop-component-preserved-in-OnPath c = (
  λ m at. joins m _ _ _ _ _ _ _ c.in-Some-pop.target c.in-OnPath.place
      (takes m _ _ _ _ _ _ _ c.in-Some.component c.in-Some-pop.target (c.loop-component.invariant.0 m at)
      (last_of _ _ c.in-Some.component c.deref.ensures.value (c.in-Some.ensures ∙ c.last.ensures.value))
      (long_enough _ _ c.in-Some-pop.target c.in-Some.component.first_pending c.len.result c.if-len-component.false (c.len.ensures ∙ c.loop-component.self.pending.ok.0) c.in-Some-pop.ensures.items)
      c.in-Some-pop.ensures.items)
      c.in-OnPath.ensures
      (λ settled parts stands path coming held at. c.merge.ensures.merged m settled parts c.in-Some-pop.target stands path coming held at),
  c.loop-component.invariant.1,
)

pub loop-component-preserved-in-Done : goal.loop-component-preserved-in-Done
loop-component-preserved-in-Done c = (
  λ m at. passes m _ _ _ _ _ _ c.in-Some-pop.target
      (takes m _ _ _ _ _ _ _ c.in-Some.component c.in-Some-pop.target (c.loop-component.invariant.0 m at)
      (last_of _ _ c.in-Some.component c.deref.ensures.value (c.in-Some.ensures ∙ c.last.ensures.value))
      (long_enough _ _ c.in-Some-pop.target c.in-Some.component.first_pending c.len.result c.if-len-component.false (c.len.ensures ∙ c.loop-component.self.pending.ok.0) c.in-Some-pop.ensures.items)
      c.in-Some-pop.ensures.items)
      c.in-Done.ensures,
  c.loop-component.invariant.1,
)
