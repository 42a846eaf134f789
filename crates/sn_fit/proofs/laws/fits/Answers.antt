use Rattle.sn_fit.proofs.FitLemmas.{from_points, to_points, one_stroke}
use Rattle.sn_fit.proofs.laws.fits.Goals as goal

pub returns-clause-along : goal.returns-clause-along
returns-clause-along c = (from_points, to_points)

pub returns-clause-one_stroke : goal.returns-clause-one_stroke
returns-clause-one_stroke c = one_stroke
