use Rattle.std.proofs.Common.{◌≡◌, ◌++◌, length, map}
use Rattle.std.specs.Vec.Iter.{into_iter_items, into_iter_len}
use Rattle.sn_flow.specs.Steps.{step_among}
use Rattle.sn_flow.proofs.steps.with_corners.Given as goal

abbrev pub invariant-loop-part : goal.invariant-loop-part
invariant-loop-part l =
    record {
      split : l.yielded ++ into_iter_items l.part-iterator ≡ into_iter_items l.initial.part-iterator;
      left : into_iter_len l.part-iterator ≡ length (into_iter_items l.part-iterator);
      count : l.k ≡ length l.yielded;
      made : l.steps ≡ map (step_among l.fn.parts.items) l.yielded;
    }
