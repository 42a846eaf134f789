use Rattle.std.proofs.Common.{length, sym, ◌∙◌}
use Rattle.std.proofs.lemmas.Bool.{eqb-true}
use Rattle.std.proofs.lemmas.List.{nil_from_length}
use Rattle.sn_link.specs.Plan.{passes_by}
use Rattle.sn_link.proofs.CellLemmas.{left_at_most, none_removed, removed_by, taken_of}
use Rattle.sn_link.proofs.planner.Progress.cut.Goals as goal

pub returns-then-is_empty-clause-removed : goal.returns-then-is_empty-clause-removed
returns-then-is_empty-clause-removed c = λ job passes stands.
    none_removed job c.args.step.now passes c.args.tip.now c.args.moves.now c.args.self.now.heights c.left-before.result
    (nil_from_length c.args.moves.now (eqb-true (length c.args.moves.now) 0 (sym c.is_empty.ensures ∙ c.if-is_empty.true)))
    stands c.left-before.ensures.count

pub overflow_sub-result : goal.overflow_sub-result
overflow_sub-result c =
    let (job, passes, stands) = c.requires.left in
    left_at_most c.materials.ensures.stays job passes (passes_by c.args.step.now.body c.args.tip.now c.args.moves.now) c.args.self.now.heights c.cut_by_moves-self.new.heights
    c.left-before.result c.left.result stands (c.cut_by_moves-self.ensures.material job passes stands) c.left-before.ensures.count c.left.ensures.count

pub returns-clause-removed : goal.returns-clause-removed
returns-clause-removed c = λ job passes stands.
    let less = left_at_most c.materials.ensures.stays job passes (passes_by c.args.step.now.body c.args.tip.now c.args.moves.now) c.args.self.now.heights c.cut_by_moves-self.new.heights
    c.left-before.result c.left.result stands (c.cut_by_moves-self.ensures.material job passes stands) c.left-before.ensures.count c.left.ensures.count in
    removed_by job c.args.step.now passes c.args.tip.now c.args.moves.now c.args.self.now.heights c.cut_by_moves-self.new.heights
    c.left-before.result c.left.result _ stands (c.cut_by_moves-self.ensures.material job passes stands) c.left-before.ensures.count c.left.ensures.count
    (taken_of c.left-before.result c.left.result less)
