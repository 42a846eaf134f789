use Rattle.sn_entity.proofs.param.one.Goals as goal

pub returns-in-None-clause-refused : goal.returns-in-None-clause-refused
returns-in-None-clause-refused c = λ given. c.in-None.ensures.none given.1.0 given.1.1
