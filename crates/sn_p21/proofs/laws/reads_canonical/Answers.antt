use Rattle.sn_p21.proofs.CanonicalRead.{canonical_is_read}
use Rattle.sn_p21.proofs.laws.reads_canonical.Goals as goal

pub returns : goal.returns
returns c = canonical_is_read c.reads_written.ensures
