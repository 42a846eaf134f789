use Rattle.std.proofs.Common.{ℕ, ◌≡◌, ◌∙◌, w32, sym, subst, arith}
use Rattle.std.proofs.lemmas.Int.{to_z-of_z}
use Rattle.sn_geom.specs.Sweep.{Near}
use Rattle.sn_raster.specs.Grid.{place}
use Rattle.sn_raster.proofs.Sides.{near_on_line, near_on_turned}
use Rattle.sn_raster.proofs.segments.columns_in_row.Goals as goal

pub returns-then-is_below-clause-all : goal.returns-then-is_below-clause-all
returns-then-is_below-clause-all c = λ n window on near.
    let e = c.args.e.now in
    let p = place c.args.g.now.pitch n in
    let N : ℕ → Type 0 = λ d. Near d e.a e.b p in
    let none : c.args.d ≡ 0 = omega (arith, c.if-d-ne0.false) in
    c.column_on.ensures.all n window (on ∙ sym (to_z-of_z w32 c.args.j c.ranges.j)) (near_on_line e.a e.b p (subst N none near))

pub returns-then-is_below-2-clause-all : goal.returns-then-is_below-2-clause-all
returns-then-is_below-2-clause-all c = λ n window on near.
    let e = c.args.e.now in
    let p = place c.args.g.now.pitch n in
    let N : ℕ → Type 0 = λ d. Near d e.a e.b p in
    let none : c.args.d ≡ 0 = omega (arith, c.if-d-ne0.false) in
    c.column_on-then-is_below-2.ensures.all n window (on ∙ sym (to_z-of_z w32 c.args.j c.ranges.j)) (near_on_turned e.a e.b p (subst N none near))
