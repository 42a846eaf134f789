use Rattle.sn_open.proofs.PassLemmas.{feed_cuts_above_its_point, only_feeds_cut, cut_stays_cut, same_acts_leave_the_same}
use Rattle.sn_open.proofs.good_laws.left.Goals as goal

pub returns-clause-above_the_point : goal.returns-clause-above_the_point
returns-clause-above_the_point c = feed_cuts_above_its_point

pub returns-clause-only_feeds : goal.returns-clause-only_feeds
returns-clause-only_feeds c = only_feeds_cut

pub returns-clause-stays_cut : goal.returns-clause-stays_cut
returns-clause-stays_cut c = cut_stays_cut

pub returns-clause-same_acts : goal.returns-clause-same_acts
returns-clause-same_acts c = same_acts_leave_the_same
