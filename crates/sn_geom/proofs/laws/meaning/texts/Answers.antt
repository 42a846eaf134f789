use Rattle.sn_geom.proofs.Meanings.{texts_have_one_meaning, lines_are_split, whole_lines_end, nothing_means_nothing, meanings_are_in_pieces, faulty_texts_mean_nothing, ended_texts_do_nothing}
use Rattle.sn_geom.proofs.laws.meaning.texts.Goals as goal

pub returns-clause-one_meaning : goal.returns-clause-one_meaning
returns-clause-one_meaning c = texts_have_one_meaning

pub returns-clause-lines : goal.returns-clause-lines
returns-clause-lines c = lines_are_split

pub returns-clause-whole : goal.returns-clause-whole
returns-clause-whole c = whole_lines_end

pub returns-clause-nothing : goal.returns-clause-nothing
returns-clause-nothing c = nothing_means_nothing

pub returns-clause-in_pieces : goal.returns-clause-in_pieces
returns-clause-in_pieces c = meanings_are_in_pieces

pub returns-clause-ended : goal.returns-clause-ended
returns-clause-ended c = ended_texts_do_nothing

pub returns-clause-faulty : goal.returns-clause-faulty
returns-clause-faulty c = faulty_texts_mean_nothing
