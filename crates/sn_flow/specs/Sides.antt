-- PRIVATE: boxes with three sides.
use Rattle.std.specs.Prelude.{ℕ, pos, ◌≤ℤ◌, Result, Ok}
use Rattle.sn_geom.specs.declared.units.Pt3.{Pt3}
use Rattle.sn_frame.specs.declared.frame.FrameFault.{FrameFault}
use Rattle.sn_frame.specs.Matrix.{IsSignedRotation}
use Rattle.sn_frame.specs.Frame.{Transform, applied}
use Rattle.sn_words.specs.Options.{IsBox}
use Rattle.sn_words.specs.declared.options.RawBox.{RawBox}
use Rattle.sn_feature.specs.Refusal.{◌>>=◌}
use Rattle.sn_flow.specs.Setup.{applied_at, box_of_corners}

-- no coordinate of the corner is below 1
pub record HasSides (far : Pt3) : Type 0 where
  pub x : pos 1 ≤ℤ far.x
  pub y : pos 1 ≤ℤ far.y
  pub z : pos 1 ≤ℤ far.z

-- the box from the origin of a frame to an opposite corner
abbrev pub box_at : Transform → ℕ → Pt3 → Result RawBox FrameFault
box_at frame n far = do
  corner ← applied_at frame n far
  Ok (box_of_corners frame.shift corner)

-- the box of a turned block has three sides
abbrev pub TurnedBoxHasSides : Type 0
TurnedBoxHasSides = (f : Transform) (far : Pt3) → IsSignedRotation f.matrix → HasSides far → IsBox (box_of_corners f.shift (applied f far))
