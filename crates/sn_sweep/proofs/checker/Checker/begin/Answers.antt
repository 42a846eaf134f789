use Rattle.std.proofs.Common.{refl}
use Rattle.sn_sweep.proofs.ReadLemmas.{nothing_taken, planes_grid}
use Rattle.sn_sweep.proofs.checker.Checker.begin.Goals as goal

pub returns-clause-nothing : goal.returns-clause-nothing
returns-clause-nothing c = nothing_taken _ _ (record {
  job_is = refl;
  grid = c.requires;
  grids = record { heights = c.in_ok-heights.ensures.0; allowed = planes_grid c.args.g.now c.args.j.now.steps c.in_ok-planes.planes c.in_ok-planes.ensures };
  material = c.in_ok-heights.ensures.1;
  machine = c.new.ensures;
  lines = refl;
  marks = refl;
  ended = refl;
  fault = refl;
  rest = c.new-2.ensures;
})
