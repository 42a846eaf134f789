-- MEANING: laws of the forms of line that are written.
use Rattle.std.specs.Prelude.{◌+◌, pos, neg_ℤ}
use Rattle.sn_geom.specs.declared.limits.TheConstants.{REACH, MOST_TOOL, MOST_RATE}
use Rattle.sn_gwrite.specs.Program.{IsProper}
use Rattle.sn_gwrite.specs.Program.Form.{StepMark, ToolChange, LengthOffset, SpindleSpeed, FeedRate, HeightMotion, PlaneMotion}
use Rattle.sn_geom.specs.declared.tip.MotionMode.TheVariants as mode

-- the greatest numbers of a line that is written
abbrev pub WordsHaveLimits : Type 0
WordsHaveLimits =
    IsProper (ToolChange MOST_TOOL) × (¬ IsProper (ToolChange (MOST_TOOL + 1))) × IsProper (LengthOffset MOST_TOOL) × (¬ IsProper (LengthOffset (MOST_TOOL + 1)))
    × IsProper (SpindleSpeed MOST_RATE) × (¬ IsProper (SpindleSpeed (MOST_RATE + 1))) × IsProper (FeedRate MOST_RATE) × (¬ IsProper (FeedRate (MOST_RATE + 1)))
    × IsProper (StepMark 4294967295) × (¬ IsProper (StepMark 4294967296)) × (¬ IsProper (StepMark 0))
    × IsProper (HeightMotion mode.Feed (neg_ℤ (pos REACH))) × (¬ IsProper (HeightMotion mode.Feed (pos (REACH + 1))))
    × (¬ IsProper (PlaneMotion mode.Feed (pos (REACH + 1)) (pos 0))) × (¬ IsProper (PlaneMotion mode.Feed (pos 0) (pos (REACH + 1))))
