-- Which nodes a window has, by the coordinates of their places.
use Rattle.std.proofs.Common.{ℕ, ◌≡◌, ◌*◌, ◌≤◌, ◌<◌, ◌↔◌, ℤ, pos, ◌*ℤ◌, ◌≤ℤ◌, [], ◌∷◌, arith}
use Rattle.std.proofs.lemmas.List.Elements.{All-nil, All-cons, All-head, All-tail}
use Rattle.std.proofs.lemmas.Int.{ints, clamps}
use Rattle.sn_outline.specs.declared.job.StepJob.{StepJob}
use Rattle.sn_raster.specs.Grid.{Node, place, places, first_place, last_place, IsPoint}
use Rattle.sn_raster.specs.GridLaws.{MarginIsGreatest, PlacesAreBetween, PlacesAreCounted, WindowIsGrown, RawNodesAreTheJobs, FitsByItsNodes}
use Rattle.sn_raster.proofs.Axis.{from, up_to, in_range, some_place}
use Rattle.sn_raster.proofs.GridParts.{fits_iff, some_product, some_left, some_right}

abbrev pub IsWithin : ℕ → StepJob → Type 0
IsWithin m s = (s.body.d ≤ 2 * m) × (s.side ≤ m) × (s.corner ≤ 2 * m)

pub margin_is_greatest : MarginIsGreatest
margin_is_greatest [] m = ((λ _. All-nil (IsWithin m)), (λ _. omega arith))
margin_is_greatest (s ∷ steps) m =
    let rest = margin_is_greatest steps m in (
      (λ h. All-cons (IsWithin m) s steps (omega arith, omega arith, omega arith) (rest.0 (omega arith))),
      (λ all.
          let here = All-head (IsWithin m) s steps all in
          let later = rest.1 (All-tail (IsWithin m) s steps all) in
          omega (arith, here.0, here.1, here.2)),
    )

pub places_are_between : PlacesAreBetween
places_are_between pitch k z some = (from k z pitch some, up_to k z pitch some)

pub places_are_counted : PlacesAreCounted
places_are_counted first last = ((λ none. omega (arith, ints, clamps)), (λ some. omega (arith, ints, clamps)))

low_end : (a k z : ℤ) (p : ℕ) → 0 < p → a ≡ first_place p z → a ≤ℤ k ↔ (z ≤ℤ (k *ℤ pos p))
low_end a k z p some is = rw is (from k z p some)

high_end : (a k z : ℤ) (p : ℕ) → 0 < p → a ≡ last_place p z → k ≤ℤ a ↔ ((k *ℤ pos p) ≤ℤ z)
high_end a k z p some is = rw is (up_to k z p some)

pub window_is_grown : WindowIsGrown
window_is_grown g job n some of =
    let left = low_end g.i0 n.i _ job.pitch some of.columns.0 in
    let right = high_end g.i1 n.i _ job.pitch some of.columns.1 in
    let front = low_end g.j0 n.j _ job.pitch some of.rows.0 in
    let back = high_end g.j1 n.j _ job.pitch some of.rows.1 in (
      (λ w. record { left = left.0 w.left; right = right.0 w.right; front = front.0 w.front; back = back.0 w.back }),
      (λ w. record { left = left.1 w.left; right = right.1 w.right; front = front.1 w.front; back = back.1 w.back }),
    )

pub raw_nodes_are_the_jobs : RawNodesAreTheJobs
raw_nodes_are_the_jobs g job n some of =
    let left = low_end g.ri0 n.i job.low.x job.pitch some of.raw_columns.0 in
    let right = high_end g.ri1 n.i job.high.x job.pitch some of.raw_columns.1 in
    let front = low_end g.rj0 n.j job.low.y job.pitch some of.raw_rows.0 in
    let back = high_end g.rj1 n.j job.high.y job.pitch some of.raw_rows.1 in (
      (λ w. record { left = left.0 w.left; right = right.0 w.right; front = front.0 w.front; back = back.0 w.back }),
      (λ w. record { left = left.1 w.left; right = right.1 w.right; front = front.1 w.front; back = back.1 w.back }),
    )

ordered : (first last : ℤ) → 0 < places first last → first ≤ℤ last
ordered first last some = omega (arith, ints, clamps)

itself : (z : ℤ) → z ≤ℤ z
itself z = omega (arith, ints)

pub fits_by_its_nodes : FitsByItsNodes
fits_by_its_nodes g job of =
    let iff = fits_iff job g.pitch g.i0 g.i1 g.j0 g.j1 of.pitch of.columns.0 of.columns.1 of.rows.0 of.rows.1 in (
      (λ fits.
          let parts = iff.1 fits in (
            parts.0,
            λ n w.
                let some = some_product _ _ (some_place g.i0 g.i1 n.i w.left w.right) (some_place g.j0 g.j1 n.j w.front w.back) in
                record { x = in_range g.pitch g.i0 g.i1 n.i (parts.1 some) w.left w.right; y = in_range g.pitch g.j0 g.j1 n.j (parts.2 some) w.front w.back },
          )),
      (λ (few, nodes).
          let low : Node = record { i = g.i0; j = g.j0 } in
          let high : Node = record { i = g.i1; j = g.j1 } in
          let across : 0 < places g.i0 g.i1 * places g.j0 g.j1 → g.i0 ≤ℤ g.i1 = λ some. ordered g.i0 g.i1 (some_left _ _ some) in
          let up : 0 < places g.i0 g.i1 * places g.j0 g.j1 → g.j0 ≤ℤ g.j1 = λ some. ordered g.j0 g.j1 (some_right (places g.i0 g.i1) _ some) in
          let at_low : 0 < places g.i0 g.i1 * places g.j0 g.j1 → IsPoint (place g.pitch low) =
          λ some. nodes low (record { left = itself g.i0; right = across some; front = itself g.j0; back = up some }) in
          let at_high : 0 < places g.i0 g.i1 * places g.j0 g.j1 → IsPoint (place g.pitch high) =
          λ some. nodes high (record { left = across some; right = itself g.i1; front = up some; back = itself g.j1 }) in
          iff.0 (few, (λ some. ((at_low some).x, (at_high some).x)), (λ some. ((at_low some).y, (at_high some).y)))),
    )
