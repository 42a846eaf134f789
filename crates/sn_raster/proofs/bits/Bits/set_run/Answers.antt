use Rattle.std.proofs.Common.{◌+◌, w32, length, get_or, false, ap, sym, ◌∙◌}
use Rattle.std.specs.Vec.{with_items}
use Rattle.std.proofs.lemmas.List.{with_items_is}
use Rattle.std.proofs.lemmas.Int.{to_z-of_z}
use Rattle.sn_raster.proofs.Axis.{kept}
use Rattle.sn_raster.proofs.MarkRuns.{ends_in_window, run_of, in_order, run_set, run_kept}
use Rattle.sn_raster.proofs.Marks.{with_marks}
use Rattle.sn_raster.proofs.bits.Bits.set_run.Goals as goal

pub mark-from-requires : goal.mark-from-requires
mark-from-requires c =
    let columns = c.args.columns.now in
    (ends_in_window c.self.inside.grid c.args.self.now.grid columns.first columns.last _ _ c.args.j _ (ap (λ p. p.grid) c.self.view_is) (kept columns.first columns.first_in) (kept columns.last columns.last_in) (to_z-of_z w32 c.args.j c.ranges.j)
    c.if-columns.false c.requires.left c.requires.right c.requires.front c.requires.back).0

pub mark-end-requires : goal.mark-end-requires
mark-end-requires c =
    let columns = c.args.columns.now in
    (ends_in_window c.self.inside.grid c.args.self.now.grid columns.first columns.last _ _ c.args.j _ (ap (λ p. p.grid) c.self.view_is) (kept columns.first columns.first_in) (kept columns.last columns.last_in) (to_z-of_z w32 c.args.j c.ranges.j)
    c.if-columns.false c.requires.left c.requires.right c.requires.front c.requires.back).1

pub set_marks-requires-clause-order : goal.set_marks-requires-clause-order
set_marks-requires-clause-order c =
    let columns = c.args.columns.now in
    let run = run_of c.self.inside.grid c.args.self.now.grid columns.first columns.last _ _ c.args.j _ c.mark-from.result c.mark-end.result (ap (λ p. p.grid) c.self.view_is) (kept columns.first columns.first_in) (kept columns.last columns.last_in)
    (to_z-of_z w32 c.args.j c.ranges.j) c.if-columns.false c.requires.left c.requires.right c.requires.front c.requires.back c.mark-from.ensures.value c.mark-end.ensures.value in
    in_order c.self.inside.grid columns.first columns.last c.args.j c.mark-from.result (c.mark-end.result + 1) run

pub returns-clause-run : goal.returns-clause-run
returns-clause-run c =
    let columns = c.args.columns.now in
    let v = c.self.inside.marks in
    let is = with_items_is v c.set_marks.new.marks (c.set_marks.ensures.full ∙ ap length c.deref_mut.ensures.value ∙ sym v.ok.0) in
    let run = run_of c.self.inside.grid c.args.self.now.grid columns.first columns.last _ _ c.args.j _ c.mark-from.result c.mark-end.result (ap (λ p. p.grid) c.self.view_is) (kept columns.first columns.first_in) (kept columns.last columns.last_in)
    (to_z-of_z w32 c.args.j c.ranges.j) c.if-columns.false c.requires.left c.requires.right c.requires.front c.requires.back c.mark-from.ensures.value c.mark-end.ensures.value in
    run_set c.self.inside.grid (with_items v c.set_marks.new.marks).items columns.first columns.last c.args.j c.mark-from.result (c.mark-end.result + 1) c.args.on run
    (λ k low high. ap (λ xs. get_or xs k false) is ∙ c.set_marks.ensures.between k low high)

pub returns-clause-others : goal.returns-clause-others
returns-clause-others c =
    let columns = c.args.columns.now in
    let v = c.self.inside.marks in
    let marks = c.deref_mut.ensures.value in
    let is = with_items_is v c.set_marks.new.marks (c.set_marks.ensures.full ∙ ap length marks ∙ sym v.ok.0) in
    let run = run_of c.self.inside.grid c.args.self.now.grid columns.first columns.last _ _ c.args.j _ c.mark-from.result c.mark-end.result (ap (λ p. p.grid) c.self.view_is) (kept columns.first columns.first_in) (kept columns.last columns.last_in)
    (to_z-of_z w32 c.args.j c.ranges.j) c.if-columns.false c.requires.left c.requires.right c.requires.front c.requires.back c.mark-from.ensures.value c.mark-end.ensures.value in
    run_kept c.args.self.now c.self.inside.grid c.deref_mut.result.now (with_items v c.set_marks.new.marks).items columns.first columns.last c.args.j c.mark-from.result (c.mark-end.result + 1)
    (with_marks _ _ _ marks ∙ c.self.view_is) run (λ k low. ap (λ xs. get_or xs k false) is ∙ c.set_marks.ensures.before k low) (λ k high. ap (λ xs. get_or xs k false) is ∙ c.set_marks.ensures.after k high)

pub invariant_of-self : goal.invariant_of-self
invariant_of-self c =
    let v = c.self.inside.marks in
    let marks = c.deref_mut.ensures.value in
    let is = with_items_is v c.set_marks.new.marks (c.set_marks.ensures.full ∙ ap length marks ∙ sym v.ok.0) in
    record { grid = c.self.invariant.grid; full = ap length is ∙ c.set_marks.ensures.full ∙ ap length marks ∙ c.self.invariant.full }
