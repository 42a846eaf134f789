use Rattle.sn_part_tests.proofs.refs.check_places.Goals as goal

pub fields-requires : goal.fields-requires
fields-requires g c = (c.many-2.ensures.targets c.in-Some-first.step c.in-Some-first.ensures).reached

pub one-requires-clause-reached : goal.one-requires-clause-reached
one-requires-clause-reached g c = (c.many-2.ensures.targets c.in-Some-first.step c.in-Some-first.ensures).reached
