use Rattle.sn_clear.proofs.ThriftRows.{rows_are_maximal_runs, selected_is, last_row_is_selected, numbers_count, places_count, directions_alternate}
use Rattle.sn_clear.proofs.laws.rows.Goals as goal

pub returns : goal.returns
returns c = record {
  runs = rows_are_maximal_runs;
  selected = selected_is;
  last = last_row_is_selected;
  numbers = numbers_count;
  places = places_count;
  directions = directions_alternate;
}
