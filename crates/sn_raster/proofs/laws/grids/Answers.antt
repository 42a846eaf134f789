use Rattle.sn_raster.proofs.Windows.{margin_is_greatest, places_are_between, places_are_counted, window_is_grown, raw_nodes_are_the_jobs, fits_by_its_nodes}
use Rattle.sn_raster.proofs.laws.grids.Goals as goal

pub returns : goal.returns
returns c = record {
  margin = margin_is_greatest;
  between = places_are_between;
  count = places_are_counted;
  window = window_is_grown;
  raw = raw_nodes_are_the_jobs;
  fits = fits_by_its_nodes;
}
