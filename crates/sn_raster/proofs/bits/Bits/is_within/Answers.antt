use Rattle.std.proofs.Common.{length, ap, ◌∙◌}
use Rattle.sn_raster.proofs.Marks.{with_marks}
use Rattle.sn_raster.proofs.Planes.{lone_node}
use Rattle.sn_raster.proofs.bits.Bits.is_within.Goals as goal

pub returns-clause-no : goal.returns-clause-no
returns-clause-no c = λ none.
    lone_node c.args.self.now c.args.other.now c.self.inside.grid c.other.inside.grid c.deref.result.now c.deref-2.result.now (with_marks _ _ _ c.deref.ensures.value ∙ c.self.view_is)
    (with_marks _ _ _ c.deref-2.ensures.value ∙ c.other.view_is) c.requires (ap length c.deref.ensures.value ∙ c.self.invariant.full) (c.are_all_in.ensures.no none)
