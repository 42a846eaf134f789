use Rattle.sn_outline.specs.declared.job.Way.TheVariants as way
use Rattle.sn_open.proofs.OpeningLemmas.{opening_plane}
use Rattle.sn_open.proofs.opening.Opening.refill.Goals as goal

pub returns-in-Clear-clause-opening : goal.returns-in-Clear-clause-opening
returns-in-Clear-clause-opening c = λ job of.
    opening_plane c.args.g.now job c.args.s.now way.Clear c.clear_area.new.self c.in-Clear.is c.clear_area.ensures.grid of (c.clear_area.ensures.opening job of)

pub returns-in-Trail-clause-opening : goal.returns-in-Trail-clause-opening
returns-in-Trail-clause-opening c = λ job of.
    opening_plane c.args.g.now job c.args.s.now way.Trail c.follow.new.self c.in-Trail.is c.follow.ensures.grid of (c.follow.ensures.opening job of)

pub returns-in-Drill-clause-opening : goal.returns-in-Drill-clause-opening
returns-in-Drill-clause-opening c = λ job of.
    opening_plane c.args.g.now job c.args.s.now way.Drill c.drill.new.self c.in-Drill.is c.drill.ensures.grid of (c.drill.ensures.opening job of)
