use Rattle.std.proofs.Common.{◌≡◌, ℤ, pos, ◌+ℤ◌, ◌*ℤ◌, ◌≤ℤ◌, ◌<ℤ◌, w32, ap, ◌∙◌, sym, subst}
use Rattle.std.proofs.lemmas.Int.{to_z-of_z}
use Rattle.sn_raster.specs.RowTurns.{at, bit, differs, is_left, is_crossed}
use Rattle.sn_raster.proofs.Sides.{crossed_up, crossed_down}
use Rattle.sn_raster.proofs.turns.turn_edge.Goals as goal

pub returns-then-is_up-clause-row : goal.returns-then-is_up-clause-row
returns-then-is_up-clause-row c = λ i low high.
    let g = c.args.g.now in
    let e = c.args.e.now in
    let j = to_z-of_z w32 c.args.j c.ranges.j in
    let y = c.height_of_row-y.ensures ∙ ap (λ j. j *ℤ pos g.pitch) j in
    let ends = c.is_up.ensures.0 c.if-is_up.true in
    let F : ℤ → Type 0 = λ y. e.a.y ≤ℤ y in
    let T : ℤ → Type 0 = λ y. y <ℤ e.b.y in
    let P : ℤ → Type 0 = λ j. bit c.turn_left_of.new.row (at i j) ≡ differs (bit c.args.row.now (at i j)) (differs (is_left g j e i) (is_left g j e (i +ℤ pos 1))) in
    let crossed = crossed_up g c.args.j e i (subst F y ends.0) (subst T y ends.1) in
    let crossed' = crossed_up g c.args.j e (i +ℤ pos 1) (subst F y ends.0) (subst T y ends.1) in
    subst P j (c.turn_left_of.ensures.row i low high) ∙ ap (differs (bit c.args.row.now (at i c.args.j))) (ap (λ b. differs b (is_left g c.args.j e (i +ℤ pos 1))) (sym crossed) ∙ ap (differs (is_crossed g c.args.j e i)) (sym crossed'))

pub returns-then-is_up-clause-others : goal.returns-then-is_up-clause-others
returns-then-is_up-clause-others c = λ n off. c.turn_left_of.ensures.others n (λ on. off (on ∙ to_z-of_z w32 c.args.j c.ranges.j))

pub returns-then-is_up-2-clause-row : goal.returns-then-is_up-2-clause-row
returns-then-is_up-2-clause-row c = λ i low high.
    let g = c.args.g.now in
    let e = c.args.e.now in
    let j = to_z-of_z w32 c.args.j c.ranges.j in
    let y = c.height_of_row-y.ensures ∙ ap (λ j. j *ℤ pos g.pitch) j in
    let ends = c.is_up-2.ensures.0 c.if-is_up-2.true in
    let F : ℤ → Type 0 = λ y. e.b.y ≤ℤ y in
    let T : ℤ → Type 0 = λ y. y <ℤ e.a.y in
    let P : ℤ → Type 0 = λ j. bit c.turn_left_of-then-is_up-2.new.row (at i j) ≡ differs (bit c.args.row.now (at i j))
    (differs (is_left g j (record { a = e.b; b = e.a }) i) (is_left g j (record { a = e.b; b = e.a }) (i +ℤ pos 1))) in
    let crossed = crossed_down g c.args.j e i (subst F y ends.0) (subst T y ends.1) in
    let crossed' = crossed_down g c.args.j e (i +ℤ pos 1) (subst F y ends.0) (subst T y ends.1) in
    subst P j (c.turn_left_of-then-is_up-2.ensures.row i low high)
    ∙ ap (differs (bit c.args.row.now (at i c.args.j))) (ap (λ b. differs b (is_left g c.args.j (record { a = e.b; b = e.a }) (i +ℤ pos 1))) (sym crossed) ∙ ap (differs (is_crossed g c.args.j e i)) (sym crossed'))

pub returns-then-is_up-2-clause-others : goal.returns-then-is_up-2-clause-others
returns-then-is_up-2-clause-others c = λ n off. c.turn_left_of-then-is_up-2.ensures.others n (λ on. off (on ∙ to_z-of_z w32 c.args.j c.ranges.j))
