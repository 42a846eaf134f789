-- MEANING: laws of the part that is generated from a number.
use Rattle.std.specs.Prelude.{◌≡◌, ◌∷◌, ◌++◌, ℕ, List, [], length, codes}
use Rattle.sn_p21.specs.Canonical.{canonical_text}
use Rattle.sn_report.specs.declared.feature.Feature.TheVariants.{Slot}
use Rattle.sn_report.specs.Generated.{next, draw_features, feature_count, part_of}

-- the first states from the seed 0, and the first feature that they give
abbrev pub SeedNoneBeginsSo : Type 0
SeedNoneBeginsSo =
    (next 0 ≡ 1013904223) × (next 1013904223 ≡ 1196435762) × (next 1196435762 ≡ 3519870697)
    × (draw_features 1 0 ≡ Slot 8 3 ∷ [])

-- the lines of a slot of 8 mm by 8 mm, 3 mm deep, at the first place
abbrev pub SlotsAreWritten : Type 0
SlotsAreWritten =
    (front : List ℕ) × (back : List ℕ)
    × (canonical_text (part_of (Slot 8 3 ∷ [])) ≡ front
    ++ codes "#100=SLOT('',#3,(),#101,#103,#106,#107,());\n#101=AXIS2_PLACEMENT_3D('',#102,$,$);\n#102=CARTESIAN_POINT('',(20.,20.,20.));\n#103=PLANE('',#104);\n#104=AXIS2_PLACEMENT_3D('',#105,$,$);\n#105=CARTESIAN_POINT('',(0.,0.,-3.));\n#106=LINEAR_PATH($,#108,#19);\n#107=SQUARE_U_PROFILE($,#23,$,$,$,$);\n#108=TOLERANCED_LENGTH_MEASURE(8.,$);\n#109=BOTTOM_AND_SIDE_FINISH_MILLING($,$,'',$,$,#12,#18,$,$,$,$,$,2.,$,$,$);\n#110=MACHINING_WORKINGSTEP('',#6,#100,#109,$);\n"
    ++ back)

-- each seed gives sixteen features
abbrev pub SeedsGiveSixteen : Type 0
SeedsGiveSixteen = (seed : ℕ) → length (draw_features feature_count seed) ≡ 16
