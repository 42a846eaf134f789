-- A program that is written, worked by hand: its bytes, and its acts in the machine (this project's own).
use Rattle.std.specs.Prelude.{ℕ, ◌*◌, ℤ, pos, List, [], ◌∷◌, ◌++◌, codes}
use Rattle.sn_geom.specs.Acts.{Act, Mark, PutTool, Enter, Locate, Rapid, Feed, End}
use Rattle.sn_geom.specs.Meaning.{Means}
use Rattle.sn_geom.specs.declared.limits.TheConstants.{PER_MM}
use Rattle.sn_geom.specs.declared.units.Pt3.{Pt3}
use Rattle.sn_gwrite.specs.Program.{end_text}

-- so many millimetres, in units of length
abbrev pub mm : ℕ → ℤ
mm n = pos (n * PER_MM)

-- ten millimetres along X and Y, at this height in millimetres
abbrev pub over : ℕ → Pt3
over z = record { x = mm 10; y = mm 10; z = mm z }

abbrev pub one_hole : List ℕ
one_hole = codes "%\nG21 G90 G17 G94 G40 G61\n(T1 #17)\n(WS #4)\nT1 M6\nG43 H1\nS720 M3\nF300\nG0 Z20.0000\nG0 X10.0000 Y10.0000\nG0 Z11.0000\nG1 Z4.0000\nG0 Z20.0000\n" ++ end_text

-- a hole that one tool drills
abbrev pub one_hole_acts : List Act
one_hole_acts =
    Mark 4 ∷ PutTool 1 ∷ Enter (mm 20) ∷ Locate (over 20) ∷ Rapid (over 20) (over 11) 1 ∷ Feed (over 11) (over 4) 300 720 1
    ∷ Rapid (over 4) (over 20) 1 ∷ End ∷ []

abbrev pub OneHoleMeans : Type 0
OneHoleMeans = Means one_hole one_hole_acts
