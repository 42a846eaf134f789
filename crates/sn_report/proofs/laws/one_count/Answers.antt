use Rattle.sn_report.proofs.JobCountLemmas.{one_list_of_counts}
use Rattle.sn_report.proofs.laws.one_count.Goals as goal

pub returns : goal.returns
returns c = one_list_of_counts c.plans.ensures.one_plan
