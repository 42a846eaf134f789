use Rattle.std.proofs.Common.{refl, subst, sym}
use Rattle.std.proofs.lemmas.Bool.{false≢true, both_ways}
use Rattle.sn_outline.specs.Polygon.{path}
use Rattle.sn_outline.proofs.Paths.{IsPassed, IsNear, segments, none_passed, pass_one, found_one, passed_all, near_segments, near_of_segments}
use Rattle.sn_outline.proofs.membership.near_trail.Goals as goal

pub loop-to-init : goal.loop-to-init
loop-to-init c =
    let here = none_passed (IsNear c.args.width c.args.p.now) (path c.in-Some.first.now c.in-Some.rest.now) in
    subst (λ ps. IsPassed (IsNear c.args.width c.args.p.now) (segments ps) (path c.in-Some.first.now c.in-Some.rest.now)) (sym c.in-Some.ensures.cases.0) here

pub returns-then-near : goal.returns-then-near
returns-then-near c =
    let near = c.near.ensures.0 c.if-near.true in
    let some = found_one (IsNear c.args.width c.args.p.now) (segments c.args.points.now) _ _ _ _ c.loop-to-test.true c.to-item.is near c.loop-to.invariant in
    (λ _. near_of_segments _ _ _ some, λ _. refl)

pub loop-to-preserved : goal.loop-to-preserved
loop-to-preserved c =
    pass_one (IsNear c.args.width c.args.p.now) (segments c.args.points.now) _ _ _ _ c.loop-to-test.true c.to-item.is (λ near. both_ways _ c.if-near.false (c.near.ensures.1 near)) c.loop-to.invariant

pub returns : goal.returns
returns c =
    let none = passed_all (IsNear c.args.width c.args.p.now) (segments c.args.points.now) _ _ _ c.loop-to-test.false c.loop-to.invariant in
    (λ e. absurd (false≢true e), λ h. absurd (none (near_segments _ _ _ h)))
