use Rattle.std.proofs.Common.{◌≡◌, ◌++◌}
use Rattle.std.specs.Iterator.Adapters.{zip_first, zip_second}
use Rattle.std.specs.Slice.Iter.{iter_rest}
use Rattle.sn_refs.specs.Reference.{references_of_values}
use Rattle.sn_refs.proofs.reference.add_values.Given as goal

abbrev pub invariant-loop-read : goal.invariant-loop-read
invariant-loop-read l = l.found.items ++ references_of_values l.model (iter_rest (zip_first l.read-iterator)) (iter_rest (zip_second l.read-iterator)) ≡ l.fn.found.items ++ references_of_values l.model l.reads l.values
