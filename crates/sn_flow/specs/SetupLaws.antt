-- Laws of the workpiece, the raw box and the security height (this project's own).
use Rattle.std.specs.Prelude.{◌≡◌, ◌≢◌, ◌↔◌, ℕ, ℤ, pos, ◌≤ℤ◌, IsTrue, List, [], ◌∷◌, ◌++◌, Some, None, Ok}
use Rattle.std.specs.List.{All, Contains}
use Rattle.sn_geom.specs.declared.units.Pt3.{Pt3}
use Rattle.sn_model.specs.ModelContent.{ModelContent}
use Rattle.sn_refs.specs.Reference.{names_block}
use Rattle.sn_frame.specs.Matrix.{IsSignedRotation}
use Rattle.sn_frame.specs.Frame.{Transform, applied, identity}
use Rattle.sn_walk.specs.Node.{main_setup}
use Rattle.sn_feature.specs.Entities.{named, named_if}
use Rattle.sn_feature.specs.Placement.{placement_of}
use Rattle.sn_flow.specs.Setup.{workpiece_of, listed_of, workpiece_frame, block_of, raw_block_of, box_of_corners, security_heights, security_height}

-- the setup's first WORKPIECE_SETUP that names the workpiece, of which those before it name others, tells its frame
abbrev pub FirstNamingTells : Type 0
FirstNamingTells =
    (m : ModelContent) (workpiece setting : ℕ) (before after : List ℕ) → workpiece_of m ≡ Some workpiece
    → listed_of m (main_setup m) 1 ≡ before ++ setting ∷ after → All (λ n. named m n 0 ≢ workpiece) before → named m setting 0 ≡ workpiece
    → workpiece_frame m ≡ placement_of m (named m setting 1)

-- where there is no workpiece, or none of the setup's WORKPIECE_SETUPs names it, its frame is the identity
abbrev pub UnnamedStandsAtOrigin : Type 0
UnnamedStandsAtOrigin =
    (m : ModelContent) → ((workpiece : ℕ) → workpiece_of m ≡ Some workpiece → All (λ n. named m n 0 ≢ workpiece) (listed_of m (main_setup m) 1))
    → workpiece_frame m ≡ Ok identity

-- a workpiece is bounded by what it names as its bounding geometry, where that is a BLOCK
abbrev pub BoundedByBlock : Type 0
BoundedByBlock =
    (m : ModelContent) (workpiece block : ℕ) →
    (block_of m workpiece ≡ Some block) ↔ ((named_if m workpiece 1 ≡ Some block) × IsTrue (names_block block m))

-- the rawpiece's BLOCK goes before the workpiece's own
abbrev pub RawpieceFirst : Type 0
RawpieceFirst =
    (m : ModelContent) (workpiece rawpiece block : ℕ) → named_if m workpiece 0 ≡ Some rawpiece → block_of m rawpiece ≡ Some block
    → raw_block_of m workpiece ≡ Some block

-- a workpiece without a rawpiece, or whose rawpiece has no BLOCK, keeps its own
abbrev pub OwnBlockElse : Type 0
OwnBlockElse =
    (m : ModelContent) (workpiece : ℕ) → ((rawpiece : ℕ) → named_if m workpiece 0 ≡ Some rawpiece → block_of m rawpiece ≡ None)
    → raw_block_of m workpiece ≡ block_of m workpiece

-- each coordinate of p is from that of low to that of high
pub record IsBetween (low high p : Pt3) : Type 0 where
  pub x : (low.x ≤ℤ p.x) × (p.x ≤ℤ high.x)
  pub y : (low.y ≤ℤ p.y) × (p.y ≤ℤ high.y)
  pub z : (low.z ≤ℤ p.z) × (p.z ≤ℤ high.z)

abbrev pub zero : Pt3
zero = record { x = pos 0; y = pos 0; z = pos 0 }

-- A block from the origin of its placement to an opposite corner lies in the box of its two corners, whatever the rotation.
abbrev pub BlockInBox : Type 0
BlockInBox =
    (f : Transform) (far p : Pt3) → IsSignedRotation f.matrix → IsBetween zero far p
    → let box = box_of_corners f.shift (applied f far) in IsBetween box.low box.high (applied f p)

-- no security plane is above the security height, which is that of one of them; where there is none it is the raw top
pub record GreatestOrRawTop : Type 0 where
  pub bound : (m : ModelContent) (steps : List ℕ) (raw_top : ℤ) → All (λ z. z ≤ℤ security_height m steps raw_top) (security_heights m steps)
  pub reached : (m : ModelContent) (steps : List ℕ) (raw_top : ℤ) → security_heights m steps ≢ [] → Contains (security_heights m steps) (security_height m steps raw_top)
  pub none : (m : ModelContent) (steps : List ℕ) (raw_top : ℤ) → security_heights m steps ≡ [] → security_height m steps raw_top ≡ raw_top
