use Rattle.sn_clear.proofs.SurfaceLaws.{held_by_centres}
use Rattle.sn_clear.proofs.ThriftColumns.{strokes_are_thrifty, columns_cover, one_list_is_thrifty}
use Rattle.sn_clear.proofs.laws.thrift.Goals as goal

pub returns : goal.returns
returns c = record { held = held_by_centres; strokes = strokes_are_thrifty; columns = columns_cover; one_list = one_list_is_thrifty }
