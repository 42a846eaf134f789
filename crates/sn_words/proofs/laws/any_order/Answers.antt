use Rattle.sn_words.proofs.Orders.{options_change_places}
use Rattle.sn_words.proofs.laws.any_order.Goals as goal

pub returns : goal.returns
returns c = options_change_places
