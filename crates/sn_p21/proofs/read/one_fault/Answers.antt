use Rattle.sn_p21.proofs.FileOrFault.{file_or_fault}
use Rattle.sn_p21.proofs.FirstFaults.{one_first, part_no_fault}
use Rattle.sn_p21.proofs.WordsRead.{end_is_next}
use Rattle.sn_p21.proofs.read.one_fault.Goals as goal

pub returns : goal.returns
returns c =
    let ends = end_is_next c.tokens_have_bytes.ensures in
    (one_first c.one_next.ensures ends, part_no_fault c.one_next.ensures ends, file_or_fault c.one_next.ensures c.tokens_have_bytes.ensures)
