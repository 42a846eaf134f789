use Rattle.std.proofs.Common.{is_some, ap}
use Rattle.std.specs.Ordering.{nat_cmp}
use Rattle.std.specs.Cmp.Lexicographic.{slice_cmp}
use Rattle.std.specs.FinMap.{get-empty}
use Rattle.sn_io.proofs.mem_files.MemFiles.new.Goals as goal

pub returns-clause-none : goal.returns-clause-none
returns-clause-none c = λ name. rw c.new.ensures.items (ap is_some (get-empty (slice_cmp nat_cmp) name))
