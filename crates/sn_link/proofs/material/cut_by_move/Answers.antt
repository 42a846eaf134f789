use Rattle.sn_link.proofs.material.cut_by_move.Goals as goal

pub returns-in-At-clause-material : goal.returns-in-At-clause-material
returns-in-At-clause-material c = λ job passes stands. rw (c.in-Feed.is, c.in-At.is) (c.cut.ensures.material job passes stands)
