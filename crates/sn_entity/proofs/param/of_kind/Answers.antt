use Rattle.sn_entity.specs.declared.row.Kind.TheVariants as kind
use Rattle.sn_entity.proofs.KindLemmas.{as_kind, given_as}
use Rattle.sn_entity.proofs.param.of_kind.Goals as goal

pub returns-in-L-clause-refused : goal.returns-in-L-clause-refused
returns-in-L-clause-refused c = as_kind c.args.kind kind.L c.args.param.now c.numeric.result c.in-L.is (rw c.coordinate.ensures at c.numeric.ensures.refused)

pub returns-in-L0-clause-refused : goal.returns-in-L0-clause-refused
returns-in-L0-clause-refused c = as_kind c.args.kind kind.L0 c.args.param.now c.numeric-in-L0.result c.in-L0.is (rw c.length_from.ensures at c.numeric-in-L0.ensures.refused)

pub returns-in-L1-clause-refused : goal.returns-in-L1-clause-refused
returns-in-L1-clause-refused c = as_kind c.args.kind kind.L1 c.args.param.now c.numeric-in-L1.result c.in-L1.is (rw c.length_from-in-L1.ensures at c.numeric-in-L1.ensures.refused)

pub returns-in-Dia-clause-refused : goal.returns-in-Dia-clause-refused
returns-in-Dia-clause-refused c = as_kind c.args.kind kind.Dia c.args.param.now c.numeric-in-Dia.result c.in-Dia.is (rw c.diameter.ensures at c.numeric-in-Dia.ensures.refused)

pub returns-in-Edge-clause-refused : goal.returns-in-Edge-clause-refused
returns-in-Edge-clause-refused c = as_kind c.args.kind kind.Edge c.args.param.now c.numeric-in-Edge.result c.in-Edge.is (rw c.edge_radius.ensures at c.numeric-in-Edge.ensures.refused)

pub returns-in-Feed-clause-refused : goal.returns-in-Feed-clause-refused
returns-in-Feed-clause-refused c = as_kind c.args.kind kind.Feed c.args.param.now c.numeric-in-Feed.result c.in-Feed.is (rw c.feed.ensures at c.numeric-in-Feed.ensures.refused)

pub returns-in-Speed-clause-refused : goal.returns-in-Speed-clause-refused
returns-in-Speed-clause-refused c = as_kind c.args.kind kind.Speed c.args.param.now c.numeric-in-Speed.result c.in-Speed.is (rw c.speed.ensures at c.numeric-in-Speed.ensures.refused)

pub returns-in-N-clause-refused : goal.returns-in-N-clause-refused
returns-in-N-clause-refused c = as_kind c.args.kind kind.N c.args.param.now c.numeric-in-N.result c.in-N.is (rw c.thousandths.ensures at c.numeric-in-N.ensures.refused)

pub returns-in-V-clause-refused : goal.returns-in-V-clause-refused
returns-in-V-clause-refused c = as_kind c.args.kind kind.V c.args.param.now c.triple.result c.in-V.is (rw c.ratio.ensures at c.triple.ensures.refused)

pub returns-in-P-clause-refused : goal.returns-in-P-clause-refused
returns-in-P-clause-refused c = as_kind c.args.kind kind.P c.args.param.now c.point.result c.in-P.is (rw c.coordinate-in-P.ensures at c.point.ensures.refused)

pub returns-in-T-clause-refused : goal.returns-in-T-clause-refused
returns-in-T-clause-refused c = as_kind c.args.kind kind.T c.args.param.now c.text.result c.in-T.is c.text.ensures.refused

pub returns-in-R-clause-refused : goal.returns-in-R-clause-refused
returns-in-R-clause-refused c = as_kind c.args.kind (kind.R c.in-R.field-0) c.args.param.now c.one.result c.in-R.is c.one.ensures.refused

pub returns-in-RL-clause-refused : goal.returns-in-RL-clause-refused
returns-in-RL-clause-refused c = as_kind c.args.kind (kind.RL c.in-RL.field-0) c.args.param.now c.many.result c.in-RL.is c.many.ensures.refused

pub returns-in-V-clause-found : goal.returns-in-V-clause-found
returns-in-V-clause-found c = given_as c.args.kind kind.V c.args.param.now c.triple.result c.in-V.is (rw c.ratio.ensures at c.triple.ensures.found)

pub returns-in-P-clause-found : goal.returns-in-P-clause-found
returns-in-P-clause-found c = given_as c.args.kind kind.P c.args.param.now c.point.result c.in-P.is (rw c.coordinate-in-P.ensures at c.point.ensures.found)
