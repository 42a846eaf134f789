use Rattle.std.proofs.Common.{◌≡◌, ◌*◌, ◌≤◌, ℕ, ℤ, pos, ◌-ℤ◌, ◌∙◌, unsigned_abs, ap, arith, get_or, length, subst}
use Rattle.std.proofs.lemmas.Int.{ints}
use Rattle.std.proofs.lemmas.List.{take_all}
use Rattle.std.proofs.lemmas.List.Sums.{sum_by_more}
use Rattle.std.proofs.lemmas.List.Elements.{All-get_or}
use Rattle.std.specs.List.{sum_by}
use Rattle.sn_geom.specs.Length.{IsLength}
use Rattle.sn_geom.specs.declared.limits.TheConstants.{REACH}
use Rattle.sn_raster.proofs.Axis.{kept, kept_as}
use Rattle.sn_raster.proofs.tops.sum_above.Goals as goal

-- what a height is above the bottom, computed
step_value : (h h' b b' : ℤ) (n : ℕ) → h' ≡ h → b' ≡ b → n ≡ unsigned_abs (h' -ℤ b') → IsLength h → IsLength b → (n ≡ unsigned_abs (h -ℤ b)) × (n ≤ 2 * REACH)
step_value h h' b b' n e f is length length' = (rw (← e, ← f) is, omega (arith, ints, length, length'))

pub loop-height-preserved : goal.loop-height-preserved
loop-height-preserved c =
    let bottom = c.args.g.now.bottom in
    let f : ℤ → ℕ = λ h. unsigned_abs (h -ℤ bottom) in
    let height = get_or c.args.heights.now c.loop-height.height-index (pos 0) in
    let more = sum_by_more f c.args.heights.now c.loop-height.height-index (pos 0) c.loop-height-test.true in
    let length = All-get_or IsLength c.args.heights.now c.loop-height.height-index (pos 0) c.loop-height-test.true c.requires.heights in
    let bottom_length : IsLength bottom = subst IsLength (ap (λ g. g.bottom) c.g.view_is) c.g.invariant.heights.0 in
    let step = step_value height _ bottom _ c.abs_diff.result (kept height length) (kept_as c.g.inside.bottom bottom (ap (λ g. g.bottom) c.g.view_is) bottom_length) c.abs_diff.ensures length bottom_length in
    record {
      sum = omega (arith, more, step.0, c.loop-height.invariant.sum, c.from-sum.ensures);
      size = omega (arith, step.1, c.loop-height.invariant.size, c.from-sum.ensures);
    }

pub returns : goal.returns
returns c =
    c.loop-height.invariant.sum ∙ ap (sum_by (λ (h : ℤ). unsigned_abs (h -ℤ c.args.g.now.bottom))) (take_all c.loop-height.height-index c.args.heights.now c.loop-height-test.false)
