use Rattle.sn_open.proofs.RegionLawLemmas.{rounded_fits_discs, one_step_is_required, least_allowances_count}
use Rattle.sn_open.proofs.laws.required.Goals as goal

pub returns-clause-rounded : goal.returns-clause-rounded
returns-clause-rounded c = rounded_fits_discs

pub returns-clause-one_step : goal.returns-clause-one_step
returns-clause-one_step c = one_step_is_required

pub returns-clause-least_allowances : goal.returns-clause-least_allowances
returns-clause-least_allowances c = least_allowances_count
