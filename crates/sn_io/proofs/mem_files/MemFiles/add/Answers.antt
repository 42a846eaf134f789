use Rattle.std.proofs.Common.{rules}
use Rattle.sn_io.proofs.MemFilesLemmas.{adds-inserted}
use Rattle.sn_io.proofs.mem_files.MemFiles.add.Goals as goal

pub returns-clause-ok : goal.returns-clause-ok
returns-clause-ok c = search rules

pub returns-clause-adds : goal.returns-clause-adds
returns-clause-adds c = adds-inserted _ _ _ _ (returns-clause-ok c)
