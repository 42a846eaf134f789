-- MEANING: what a command line says, and the limits of it (this project's own).
use Rattle.std.specs.Prelude.{◌≢◌, ◌≤◌, ℕ, List, Option, unsigned_abs, ◌<ℤ◌, All}
use Rattle.std.specs.List.{AllPairs}
use Rattle.std.specs.Option.{ForSome}
use Rattle.sn_geom.specs.declared.limits.TheConstants.{LEAST_PITCH, MOST_PITCH, MOST_VALUE}
use Rattle.sn_words.specs.declared.options.Assign.{Assign}
use Rattle.sn_words.specs.declared.options.Command.{Command}
use Rattle.sn_words.specs.declared.options.RawBox.{RawBox}

-- a command with its file words or its seed, the pitch, the raw box where one is given, and the assignments in order
pub record Options : Type 0 where
  pub command : Command
  pub files : List (List ℕ)
  pub seed : ℕ
  pub pitch : ℕ
  pub raw : Option RawBox
  pub sets : List Assign

-- a pitch within its limits
pub record IsPitch (pitch : ℕ) : Type 0 where
  pub least : LEAST_PITCH ≤ pitch
  pub greatest : pitch ≤ MOST_PITCH

-- each low coordinate is below its high one
pub record IsBox (box : RawBox) : Type 0 where
  pub x : box.low.x <ℤ box.high.x
  pub y : box.low.y <ℤ box.high.y
  pub z : box.low.z <ℤ box.high.z

-- the value is within its limit
abbrev pub HasValue : Assign → Type 0
HasValue a = unsigned_abs a.value ≤ MOST_VALUE

-- two assignments of two names
abbrev pub HaveTwoNames : Assign → Assign → Type 0
HaveTwoNames a b = a.name ≢ b.name

-- everything is within its limits, and no two assignments have one name
pub record IsWithinLimits (o : Options) : Type 0 where
  pub pitch : IsPitch o.pitch
  pub raw : ForSome o.raw IsBox
  pub values : All HasValue o.sets
  pub names : AllPairs HaveTwoNames o.sets
