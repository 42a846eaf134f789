-- MEANING: how much of the place of the tip a motion leaves known (this project's own).
use Rattle.sn_geom.specs.declared.units.Pt3.{Pt3}
use Rattle.sn_geom.specs.declared.tip.Tip.{Tip}
use Rattle.sn_geom.specs.declared.tip.Tip.TheVariants.{Unknown, Height, At}

-- the tip after a motion to the point: of the first after a tool change the height alone is known
abbrev pub tip_after : Tip → Pt3 → Tip
tip_after Unknown point = Height point.z
tip_after (Height z) point = At point
tip_after (At before) point = At point
