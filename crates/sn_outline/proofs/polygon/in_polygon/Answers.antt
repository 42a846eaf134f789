use Rattle.std.proofs.Common.{◌%◌, inl, inr, refl, sym, ap, ◌∙◌, subst, arith, eq-eqb}
use Rattle.std.proofs.lemmas.Bool.{both_ways, eqb-true}
use Rattle.sn_outline.specs.Polygon.{path, edges}
use Rattle.sn_outline.proofs.Paths.{IsPassed, IsNear, none_passed, pass_one, found_one, passed_all, edges_from_last}
use Rattle.sn_outline.proofs.Counting.{IsCounted, none_counted, count_yes, count_no, counted_all}
use Rattle.sn_outline.proofs.polygon.in_polygon.Goals as goal
use Rattle.sn_outline.proofs.polygon.in_polygon.Goals.{then-crosses_right, else-crosses_right}

pub loop-to-init : goal.loop-to-init
loop-to-init c =
    let from_last = edges_from_last c.args.points.now c.in-Some.last.now (sym c.in-Some.ensures.value) in
    let start = path c.in-Some.last.now c.args.points.now in
    record {
      few = omega arith;
      off = subst (λ es. IsPassed (IsNear 0 c.args.p.now) es start) (sym from_last) (none_passed (IsNear 0 c.args.p.now) start);
      counted = subst (λ es. IsCounted c.args.p.now 0 es start) (sym from_last) (none_counted c.args.p.now start);
    }

pub returns-then-near : goal.returns-then-near
returns-then-near c =
    let some = found_one (IsNear 0 c.args.p.now) (edges c.args.points.now) _ _ _ _ c.loop-to-test.true c.to-item.is (c.near.ensures.0 c.if-near.true) c.loop-to.invariant.off in
    (λ _. inl some, λ _. refl)

pub loop-to-preserved : goal.loop-to-preserved
loop-to-preserved c =
    let off = pass_one (IsNear 0 c.args.p.now) (edges c.args.points.now) _ _ _ _ c.loop-to-test.true c.to-item.is (λ near. both_ways _ c.if-near.false (c.near.ensures.1 near)) c.loop-to.invariant.off in
    let counts = c.loop-to.invariant.counted in
    elim c.if-crosses_right.branch [
      | then-crosses_right w ↦ record {
        few = omega arith;
        off = off;
        counted = count_yes c.args.p.now _ _ (edges c.args.points.now) _ _ _ _ c.loop-to-test.true c.to-item.is (sym w.if-crosses_right.ensures) w.crossings-is counts;
      }
      | else-crosses_right w ↦ record {
        few = omega arith;
        off = off;
        counted = rw w.crossings-is (count_no c.args.p.now _ (edges c.args.points.now) _ _ _ _ c.loop-to-test.true c.to-item.is (sym w.if-crosses_right.ensures) counts);
      }
    ]

pub returns : goal.returns
returns c =
    let none = passed_all (IsNear 0 c.args.p.now) (edges c.args.points.now) _ _ _ c.loop-to-test.false c.loop-to.invariant.off in
    let counted = counted_all c.args.p.now _ (edges c.args.points.now) _ _ _ c.loop-to-test.false c.loop-to.invariant.counted in (
      λ odd. inr (ap (λ n. n % 2) (sym counted) ∙ eqb-true _ _ odd),
      λ h. elim h [ inl some ↦ absurd (none some) | inr odd ↦ eq-eqb _ _ (ap (λ n. n % 2) counted ∙ odd) ],
    )
