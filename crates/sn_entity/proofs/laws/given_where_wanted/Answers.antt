use Rattle.sn_entity.proofs.GivenAt.{given_where_wanted}
use Rattle.sn_entity.proofs.laws.given_where_wanted.Goals as goal

pub returns : goal.returns
returns c = given_where_wanted
