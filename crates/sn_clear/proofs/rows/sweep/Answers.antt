use Rattle.std.proofs.Common.{◌≡◌, ◌+◌, ◌≤◌, sym, ◌∙◌, arith}
use Rattle.sn_clear.specs.Rows.{has_useful, is_selected, row_number, row_place, sweep_before}
use Rattle.sn_clear.proofs.PlaceLemmas.{count_none, one_counted, none_counted}
use Rattle.sn_clear.proofs.RowLemmas.{sweep-none, row_swept, row_passed}
use Rattle.sn_clear.proofs.rows.sweep.Goals as goal
use Rattle.sn_clear.proofs.rows.sweep.Goals.{then-is_selected+in_ok-push_runs, else-is_selected, then-has_useful, else-has_useful}

pub loop-row-init : goal.loop-row-init
loop-row-init c =
    let f = c.args.f.now in
    record {
      number = sym (count_none (has_useful f));
      numbers = omega arith;
      place = sym (count_none (is_selected f c.args.every));
      places = omega arith;
      made = c.new-strokes.ensures.items ∙ sym (sweep-none f c.args.every);
    }

pub loop-row-preserved : goal.loop-row-preserved
loop-row-preserved c =
    let f = c.args.f.now in
    let every = c.args.every in
    let row = c.loop-row.row in
    let so_far = c.loop-row.invariant in
    let number : c.if-has_useful.number ≡ row_number f (row + 1) = elim c.if-has_useful.branch [
      | then-has_useful w ↦
          w.number-is ∙ one_counted (has_useful f) row c.loop-row.number (sym c.has_useful.ensures ∙ w.if-has_useful.true) so_far.number
      | else-has_useful w ↦
          w.number-is ∙ none_counted (has_useful f) row c.loop-row.number (sym c.has_useful.ensures ∙ w.if-has_useful.false) so_far.number
    ] in
    let numbers : c.if-has_useful.number ≤ row + 1 = elim c.if-has_useful.branch [
      | then-has_useful w ↦ omega (arith, w.number-is, so_far.numbers)
      | else-has_useful w ↦ omega (arith, w.number-is, so_far.numbers)
    ] in
    let place : c.if-is_selected.place ≡ row_place f every (row + 1) = elim c.if-is_selected.branch [
      | then-is_selected+in_ok-push_runs w ↦
          w.place-is ∙ one_counted (is_selected f every) row c.loop-row.place (sym c.is_selected.ensures ∙ w.if-is_selected.true) so_far.place
      | else-is_selected w ↦
          w.place-is ∙ none_counted (is_selected f every) row c.loop-row.place (sym c.is_selected.ensures ∙ w.if-is_selected.false) so_far.place
    ] in
    let places : c.if-is_selected.place ≤ row + 1 = elim c.if-is_selected.branch [
      | then-is_selected+in_ok-push_runs w ↦ omega (arith, w.place-is, so_far.places)
      | else-is_selected w ↦ omega (arith, w.place-is, so_far.places)
    ] in
    let made : c.if-is_selected.strokes.items ≡ sweep_before f every (row + 1) = elim c.if-is_selected.branch [
      | then-is_selected+in_ok-push_runs w ↦
          rw w.strokes-is
          (row_swept f every row c.loop-row.place c.loop-row.strokes.items w.push_runs.new.strokes.items w.line_of.result
          (sym c.is_selected.ensures ∙ w.if-is_selected.true) w.line_of.ensures so_far.place so_far.made w.in_ok-push_runs.ensures)
      | else-is_selected w ↦
          rw w.strokes-is
          (row_passed f every row c.loop-row.strokes.items (sym c.is_selected.ensures ∙ w.if-is_selected.false) so_far.made)
    ] in
    record { number = number; numbers = numbers; place = place; places = places; made = made }
