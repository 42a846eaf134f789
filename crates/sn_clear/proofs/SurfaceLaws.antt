-- Useful centres, discs and targets as nodes of the grid.
use Rattle.std.proofs.Common.{◌≡◌, ℕ, ◌+◌, ◌*◌, ◌/◌, ◌%◌, ◌<◌, true, false, ◌&&◌, get_or, refl, sym, ◌∙◌, subst, arith}
use Rattle.std.proofs.lemmas.Bool.{and_parts, and_from}
use Rattle.std.proofs.lemmas.List.FromFn.{get_or-map-range_with_len}
use Rattle.sn_raster.specs.Grid.{Grid, Node, IsInWindow, InDisc, place}
use Rattle.sn_raster.specs.Plane.{Plane, Has}
use Rattle.sn_clear.specs.declared.spot.Spot.{Spot}
use Rattle.sn_clear.specs.Window.{columns, rows, node_at}
use Rattle.sn_clear.specs.Field.{is_useful, holds, spot_of}
use Rattle.sn_clear.specs.Strokes.{field_of, window_of, holds_target, IsWindowOf}
use Rattle.sn_clear.specs.StrokeLaws.{UsefulCentresHoldTargets, StrokesCoverByTheirCentres, DiscsAreThoseOfTheGrid, HeldByCentres}
use Rattle.sn_clear.proofs.CoverLemmas.{covers_is, holds_is}
use Rattle.sn_clear.proofs.ReachLemmas.{disc_reach, number_below, spot_of_number, numbered, numbered_mark, target_near, some_pitch}
use Rattle.sn_clear.proofs.WindowLemmas.{has_mark, at_window, column_of, row_of}

pub cover_by_centres : StrokesCoverByTheirCentres
cover_by_centres f run s = covers_is f run s

pub discs_of_grid : DiscsAreThoseOfTheGrid
discs_of_grid g d centres targets c s rule =
    let near = holds_is (field_of g d centres targets) c s in
    let disc = disc_reach g d c.column c.row s.column s.row (some_pitch g.pitch rule) in
    ((λ on. disc.1 (near.0 on)), (λ in_disc. near.1 (disc.0 in_disc)))

-- the mark of a useful centre
useful_mark : (g : Grid) (d : ℕ) (centres targets : Plane) (c r : ℕ) → c < columns g → r < rows g
    → is_useful (field_of g d centres targets) (record { column = c; row = r })
    ≡ (get_or centres.marks (r * columns g + c) false && holds_target (window_of g d) targets (r * columns g + c))
useful_mark g d centres targets c r below_c below_r =
    get_or-map-range_with_len (λ k. get_or centres.marks k false && holds_target (window_of g d) targets k) 0 (columns g * rows g)
    (r * columns g + c) (r * columns g + c) false (number_below c r (columns g) (rows g) below_c below_r) (omega arith)

pub useful_hold_targets : UsefulCentresHoldTargets
useful_hold_targets g d centres targets c r rule of_centres of_targets below_c below_r =
    let f = window_of g d in
    let k = r * columns g + c in
    let some = some_pitch g.pitch rule in
    let mark = useful_mark g d centres targets c r below_c below_r in
    let free = has_mark centres g c r of_centres below_c below_r in
    let number = number_below c r (columns g) (rows g) below_c below_r in
    let near = target_near g d k targets of_targets number in
    let here : spot_of f k ≡ record { column = c; row = r } = spot_of_number f c r below_c in (
      (λ on.
          let parts = and_parts _ _ (sym mark ∙ on) in
          let (tc, tr, below_tc, below_tr, has, near_by) = near.1 parts.1 in
          let Q : Spot → Type 0 = λ s. holds f s (record { column = tc; row = tr }) ≡ true in
          let close = (holds_is f (record { column = c; row = r }) (record { column = tc; row = tr })).0 (subst Q here near_by) in
          (free.1 parts.0, (node_at g tc tr, has, (disc_reach g d c r tc tr some).1 close))),
      (λ (has_centre, (t, has, disc)).
          let P : Grid → Type 0 = λ h. IsInWindow h t in
          let at = at_window g t (subst P of_targets has.in_window) in
          let tc = column_of g t in
          let tr = row_of g t in
          let Q : Node → Type 0 = λ n. InDisc g.pitch d (place g.pitch (node_at g c r)) n in
          let close = (disc_reach g d c r tc tr some).0 (subst Q at.is disc) in
          let R : Spot → Type 0 = λ s. holds f s (record { column = tc; row = tr }) ≡ true in
          let near_by = subst R (sym here) ((holds_is f (record { column = c; row = r }) (record { column = tc; row = tr })).1 close) in
          let there : Has targets (node_at g tc tr) = subst (λ n. Has targets n) at.is has in
          mark ∙ and_from _ _ (free.0 has_centre) (near.0 (tc, tr, at.column_in, at.row_in, there, near_by))),
    )

-- where each target is in the disc of a free centre it is in that of a useful one
pub held_by_centres : HeldByCentres
held_by_centres g d centres targets rule of_centres of_targets each k below on =
    let f = field_of g d centres targets in
    let some = some_pitch g.pitch rule in
    let window : IsWindowOf (window_of g d) g d = record { columns_are = refl; rows_are = refl; reach_is = refl } in
    let here = numbered (window_of g d) g d k window below in
    let c = k % columns g in
    let r = k / columns g in
    let has = (numbered_mark (window_of g d) g d k targets window below of_targets).1 on in
    let (centre, is_centre, disc) = each (node_at g c r) has in
    let P : Grid → Type 0 = λ h. IsInWindow h centre in
    let at = at_window g centre (subst P of_centres is_centre.in_window) in
    let cc' = column_of g centre in
    let cr = row_of g centre in
    let free : Has centres (node_at g cc' cr) = subst (λ n. Has centres n) at.is is_centre in
    let Q : Node → Type 0 = λ n. InDisc g.pitch d (place g.pitch n) (node_at g c r) in
    let in_disc = subst Q at.is disc in
    let close = (disc_reach g d cc' cr c r some).0 in_disc in (
      record { column = cc'; row = cr },
      record {
        inside = record { column = at.column_in; row = at.row_in };
        useful = (useful_hold_targets g d centres targets cc' cr rule of_centres of_targets at.column_in at.row_in).1 (free, (node_at g c r, has, in_disc));
        near = (holds_is f (record { column = cc'; row = cr }) (record { column = c; row = r })).1 close;
      },
    )
