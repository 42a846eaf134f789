use Rattle.sn_words.specs.Command.{IsAccepted}
use Rattle.sn_words.proofs.Departures.{one_place, no_place}
use Rattle.sn_words.proofs.laws.departs_once.Goals as goal

pub returns-clause-once : goal.returns-clause-once
returns-clause-once c = one_place IsAccepted

pub returns-clause-either : goal.returns-clause-either
returns-clause-either c = no_place IsAccepted
