use Rattle.std.proofs.Common.{◌≡◌, ◌++◌, length}
use Rattle.std.specs.Vec.Iter.{into_iter_items, into_iter_len}
use Rattle.sn_report.proofs.generated.by_number.Given as goal

-- the instances so far are those that were yielded
abbrev pub invariant-loop-row : goal.invariant-loop-row
invariant-loop-row l =
    record {
      split : l.yielded ++ into_iter_items l.row-iterator ≡ into_iter_items l.initial.row-iterator;
      left : into_iter_len l.row-iterator ≡ length (into_iter_items l.row-iterator);
      made : l.instances ≡ l.yielded;
    }
