-- MEANING: laws of moves.
use Rattle.std.specs.Prelude.{◌≡◌, ◌+◌, ◌*◌, ◌∷◌, pos, [], ◌-◌}
use Rattle.sn_geom.specs.declared.units.Pt.{Pt}
use Rattle.sn_geom.specs.declared.limits.TheConstants.{REACH, GAP, PER_MM}
use Rattle.sn_geom.specs.declared.tip.Tip.TheVariants.{Height, At}
use Rattle.sn_link.specs.declared.moves.Move.TheVariants.{Rapid, Feed}
use Rattle.sn_link.specs.Moves.{over, made, lift, plunge}
use Rattle.sn_link.specs.Examples.{plate, drill, at, mm}

-- a plunge begins at the security height, goes in rapid to the approach distance over the material or to the security
-- height where that is lower, at feed to the floor and up by the point length, and in rapid to the security height; the feed
-- up ends at the end of the range where that is lower
abbrev pub PlungesGoDownAndUp : Type 0
PlungesGoDownAndUp =
    (p : Pt)
    → (plunge (plate drill) drill p (mm 10)
    ≡ Rapid (over p (mm 20)) ∷ Rapid (over p (pos (10 * PER_MM + GAP))) ∷ Feed (over p (mm 4)) ∷ Feed (over p (mm 5)) ∷ Rapid (over p (mm 20)) ∷ [])
    × (plunge (plate drill) drill p (pos (20 * PER_MM - 1))
    ≡ Rapid (over p (mm 20)) ∷ Rapid (over p (mm 20)) ∷ Feed (over p (mm 4)) ∷ Feed (over p (mm 5)) ∷ Rapid (over p (mm 20)) ∷ [])
    × (lift (mm 20) p (pos (REACH - 1)) PER_MM ≡ Feed (over p (pos REACH)) ∷ Rapid (over p (mm 20)) ∷ [])

-- moves that end where they start are left out; a rapid from a height alone is always made
abbrev pub MovesThatStayAreLeftOut : Type 0
MovesThatStayAreLeftOut =
    let p = over (at (pos 1) (pos 2)) (pos 3) in
    let q = over (at (pos 1) (pos 2)) (pos 4) in
    (made (Height (pos 3)) (Rapid p ∷ Feed p ∷ Feed q ∷ Rapid q ∷ Rapid p ∷ []) ≡ Rapid p ∷ Feed q ∷ Rapid p ∷ [])
    × (made (At p) (Rapid p ∷ Feed q ∷ []) ≡ Feed q ∷ [])
