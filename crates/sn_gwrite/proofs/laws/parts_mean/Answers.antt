use Rattle.sn_gwrite.proofs.PartMeanings.{head_means, mark_means, change_means, rates_mean, rapid_means, feed_means, end_means}
use Rattle.sn_gwrite.proofs.laws.parts_mean.Goals as goal

pub returns : goal.returns
returns c = record {
  head = head_means;
  mark = mark_means;
  change = change_means;
  rates = rates_mean;
  rapid = rapid_means;
  feed = feed_means;
  end = end_means;
}
