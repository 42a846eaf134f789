use Rattle.std.proofs.Common.{sym}
use Rattle.sn_entity.proofs.ReadLemmas.{last_read}
use Rattle.sn_entity.proofs.reads.wanted.Goals as goal

pub returns-in-Some : goal.returns-in-Some
returns-in-Some c = last_read c.args.reads.now c.in-Some.read.now (sym c.in-Some.ensures.value)
