use Rattle.sn_link.proofs.LayeringLemmas.{strokes_of_clear}
use Rattle.sn_link.proofs.planes.Planes.strokes.Goals as goal

pub returns-in_ok-strokes-in-Clear : goal.returns-in_ok-strokes-in-Clear
returns-in_ok-strokes-in-Clear c = λ job planes.
    strokes_of_clear job c.args.step.now c.args.g.now c.args.self.now.centres c.args.self.now.targets c.in_ok-strokes-in-Clear.strokes
    c.in-Clear.is c.requires.over.centres c.in_ok-strokes-in-Clear.ensures (planes.centres c.in-Clear.is) (planes.targets c.in-Clear.is)
