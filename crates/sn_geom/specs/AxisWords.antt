-- MEANING: the values of the axis words of a line (this project's own).
use Rattle.std.specs.Prelude.{List}
use Rattle.std.specs.Option.{ForSome}
use Rattle.sn_geom.specs.declared.machine.Word.{Word}
use Rattle.sn_geom.specs.Length.{IsLength}
use Rattle.sn_geom.specs.Block.{x_of, y_of, z_of}

-- the values of the axis words are lengths
pub record AxesAreLengths (words : List Word) : Type 0 where
  pub x : ForSome (x_of words) IsLength
  pub y : ForSome (y_of words) IsLength
  pub z : ForSome (z_of words) IsLength
