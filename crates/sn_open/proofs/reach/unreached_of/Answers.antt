use Rattle.std.proofs.Common.{◌↔◌, pos, ◌+ℤ◌, refl, sym, ap, ◌∙◌, subst, arith}
use Rattle.std.specs.Prelude.{Contains}
use Rattle.sn_raster.specs.Grid.{Node}
use Rattle.sn_raster.specs.Plane.{Plane, Has}
use Rattle.sn_open.specs.Reach.{IsUnreached}
use Rattle.sn_open.specs.Search.{IsOpenedAt}
use Rattle.sn_open.specs.Update.{IsFirstAlone}
use Rattle.sn_open.specs.Window.{columns}
use Rattle.sn_open.proofs.WindowLemmas.{small, kept, place_within}
use Rattle.sn_open.proofs.ReachLemmas.{IsSearching, least_under, proper_step, all_reached, nothing_required, first_cell, passed_cell, at_most, less_than}
use Rattle.sn_open.proofs.reach.unreached_of.Goals as goal

pub returns-in_err-deepest-clause-none : goal.returns-in_err-deepest-clause-none
returns-in_err-deepest-clause-none c = λ _ cell required.
    let (step, of) = c.requires.executed in
    absurd (c.in_err-deepest.ensures.none refl step (subst (λ xs. Contains xs step) (sym c.steps.ensures) of.executed) of.cuts)

pub lowest_height-z-requires : goal.lowest_height-z-requires
lowest_height-z-requires c =
    let d = c.in_ok-deepest.deepest.now in
    proper_step c.args.j.now d c.rule.ensures (subst (λ xs. Contains xs d) c.steps.ensures c.in_ok-deepest.ensures.some.among)

pub returns-then-above_height-z-clause-none : goal.returns-then-above_height-z-clause-none
returns-then-above_height-z-clause-none c = λ _.
    let job = c.args.j.now in
    let g = c.args.g.now in
    let feature = c.args.feature in
    let d = c.in_ok-deepest.deepest.now in
    let z = c.lowest_height-z.result in
    let s : IsSearching job g feature d z = record {
      rule = c.rule.ensures;
      grid_rule = c.rule-2.ensures;
      of = c.requires.grid;
      least = least_under job feature d c.steps.result.now c.steps.ensures c.in_ok-deepest.ensures.some;
      lowest = c.lowest_height-z.ensures;
    } in
    nothing_required job g feature d z c.above_height.result s c.above_height.ensures
    (at_most c.above_height.result z _ _ (small _ c.above_height.type_inv) (small _ c.lowest_height-z.type_inv) c.if-above_height-z.true)

pub returns-in_err-spot-clause-none : goal.returns-in_err-spot-clause-none
returns-in_err-spot-clause-none c = λ _.
    let job = c.args.j.now in
    let g = c.args.g.now in
    let feature = c.args.feature in
    let d = c.in_ok-deepest.deepest.now in
    let z = c.lowest_height-z.result in
    let s : IsSearching job g feature d z = record {
      rule = c.rule.ensures;
      grid_rule = c.rule-2.ensures;
      of = c.requires.grid;
      least = least_under job feature d c.steps.result.now c.steps.ensures c.in_ok-deepest.ensures.some;
      lowest = c.lowest_height-z.ensures;
    } in
    let kept_z = small z c.lowest_height-z.type_inv in
    let opened = subst (λ z. (n : Node) → Has c.open_at.new.reached n ↔ IsOpenedAt job feature z n) kept_z c.open_at.ensures.nodes in
    all_reached job g feature d z c.above_height.result c.refill.new.self c.open_at.new.reached s c.above_height.ensures c.refill.ensures.required opened
    (subst (λ (p : Plane). (n : Node) → Has p n → Has c.open_at.new.reached n) c.nodes.ensures (c.in_err-spot.ensures.none refl))

pub place_after-requires-clause-count : goal.place_after-requires-clause-count
place_after-requires-clause-count c =
    let g = c.args.g.now in
    let first = subst (λ (p : Plane). IsFirstAlone p c.open_at.new.reached c.in_ok-spot.spot.column c.in_ok-spot.spot.row) c.nodes.ensures c.in_ok-spot.ensures.some in
    let long = ap columns c.refill.ensures.grid in
    let below = first.in_row.column_in in
    place_within g.i0 g.i1 c.in_ok-spot.spot.column c.rule-2.ensures.ends.columns.0 c.rule-2.ensures.ends.columns.1 (omega arith)

pub returns-clause-some : goal.returns-clause-some
returns-clause-some c =
    let job = c.args.j.now in
    let g = c.args.g.now in
    let feature = c.args.feature in
    let d = c.in_ok-deepest.deepest.now in
    let z = c.lowest_height-z.result in
    let s : IsSearching job g feature d z = record {
      rule = c.rule.ensures;
      grid_rule = c.rule-2.ensures;
      of = c.requires.grid;
      least = least_under job feature d c.steps.result.now c.steps.ensures c.in_ok-deepest.ensures.some;
      lowest = c.lowest_height-z.ensures;
    } in
    let kept_z = small z c.lowest_height-z.type_inv in
    let opened = subst (λ z. (n : Node) → Has c.open_at.new.reached n ↔ IsOpenedAt job feature z n) kept_z c.open_at.ensures.nodes in
    let first = subst (λ (p : Plane). IsFirstAlone p c.open_at.new.reached c.in_ok-spot.spot.column c.in_ok-spot.spot.row) c.nodes.ensures c.in_ok-spot.ensures.some in
    passed_cell (IsUnreached job feature) c.place_after.result c.place_after-2.result z _ _ _ (small _ c.place_after.type_inv) (small _ c.place_after-2.type_inv) kept_z
    (first_cell job g feature d z c.above_height.result c.place_after.result c.place_after-2.result c.in_ok-spot.spot.column c.in_ok-spot.spot.row c.refill.new.self c.open_at.new.reached
    s c.above_height.ensures (less_than c.above_height.result z _ _ (small _ c.above_height.type_inv) (small _ c.lowest_height-z.type_inv) c.if-above_height-z.false) c.refill.ensures.grid c.refill.ensures.required opened first
    (c.place_after.ensures ∙ ap (λ z. z +ℤ pos c.in_ok-spot.spot.column) (kept _ c.g.invariant.ends.columns.0 ∙ ap (λ g. g.i0) c.g.view_is))
    (c.place_after-2.ensures ∙ ap (λ z. z +ℤ pos c.in_ok-spot.spot.row) (kept _ c.g.invariant.ends.rows.0 ∙ ap (λ g. g.j0) c.g.view_is)))
