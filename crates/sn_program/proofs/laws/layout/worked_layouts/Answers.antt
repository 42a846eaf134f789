use Rattle.sn_program.proofs.LayoutLemmas.{layouts_of_a_line, other_layouts_mean_the_same}
use Rattle.sn_program.proofs.laws.layout.worked_layouts.Goals as goal

pub returns-clause-forms : goal.returns-clause-forms
returns-clause-forms c = layouts_of_a_line

pub returns-clause-program : goal.returns-clause-program
returns-clause-program c = other_layouts_mean_the_same c.programs.ensures.one_meaning
