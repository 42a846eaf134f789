-- MEANING: other layouts of lines as they are written, and of a whole program (after RS274/NGC version 3, NISTIR 6556, in this
-- project's profile).
use Rattle.std.specs.Prelude.{ℕ, List, [], ◌∷◌, ◌++◌, codes}
use Rattle.sn_geom.specs.Meaning.{Means}
use Rattle.sn_gwrite.specs.AgreementExamples.{one_hole, one_hole_acts}
use Rattle.sn_program.specs.Layout.{AreEquivalent, EachSaysTheSame}

-- lines as they are written, each with other layouts of it: lower-case letters, blanks and tabs, comments, line numbers, other
-- texts of numbers, another order of words
abbrev pub LayoutsOfALine : Type 0
LayoutsOfALine =
    EachSaysTheSame (codes "%") (codes "\t% \r" ∷ [])
    × EachSaysTheSame (codes "G21 G90 G17 G94 G40 G61") (codes "n1 g21g90g17g94g40g61" ∷ codes "G21.0 G 9 0 G017 (the plane of X and Y) G94 G40 G61." ∷ [])
    × EachSaysTheSame (codes "(T1 #17)") (codes "" ∷ codes " \t\r" ∷ codes "(tool 1, a drill)" ∷ codes "( ws #4 )(WS#4)" ∷ [])
    × EachSaysTheSame (codes "(WS #4)") (codes "N40 (WS #4)" ∷ codes "\t(the first hole) (WS #4) (WS #5)" ∷ [])
    × EachSaysTheSame (codes "T1 M6") (codes "t01m06" ∷ codes "N50M6(drill)T1" ∷ [])
    × EachSaysTheSame (codes "G43 H1") (codes "(length offset)\tg43\th1\r" ∷ codes "H1.0G43.0" ∷ [])
    × EachSaysTheSame (codes "S720 M3") (codes "s720m3" ∷ codes "n60 m 03 s 7 2 0 ." ∷ [])
    × EachSaysTheSame (codes "F300") (codes "f300." ∷ codes "n99999 F+0300.00" ∷ [])
    × EachSaysTheSame (codes "G0 Z20.0000") (codes "g00z20" ∷ codes "Z+20. G0" ∷ [])
    × EachSaysTheSame (codes "G0 X10.0000 Y10.0000") (codes "n10 g0 x10 y10.0" ∷ codes " G 0 X 10 . Y10 (to the hole)" ∷ codes "x10g0y10" ∷ [])
    × EachSaysTheSame (codes "G1 X-0.5000 Y0.0000") (codes "g1x-.5y0" ∷ codes "G01.0 X - 0 . 5 Y-.00000" ∷ [])
    × EachSaysTheSame (codes "G1 Z4.0000") (codes "g1z4" ∷ codes "N80 g 1 (down) z +4." ∷ [])
    × EachSaysTheSame (codes "M2") (codes "m02" ∷ codes "(the end) M2.0" ∷ [])

-- the program of one hole with lower-case letters, blanks, comments and line numbers, with lines that say nothing, words on
-- lines of their own, and the rapid left out where it is active
abbrev pub one_hole_otherwise : List ℕ
one_hole_otherwise =
    codes " %\n(one hole)\nn10 g21 g90 (millimetres, absolute)\nn20 g17g94g40\tg61.0\n\nN30 (WS #4) t1\nm6\nh1 g43\ns 720\r\nm03 (clockwise)\nF 300.\n"
    ++ codes "z20 g00\nx10.y+10.0\nz11\ng 1 z 4 (down)\ng0z2 0.\nm30\n\n%\n"

-- both layouts of the program mean the same acts, and are good for the same jobs
abbrev pub OtherLayoutsMeanTheSame : Type 0
OtherLayoutsMeanTheSame = Means one_hole one_hole_acts × Means one_hole_otherwise one_hole_acts × AreEquivalent one_hole one_hole_otherwise
