-- Straight ways, and what they touch.
use Rattle.std.proofs.Common.{ℕ, ℤ, ◌≤ℤ◌, ◌<ℤ◌, List, inr, refl, arith}
use Rattle.std.specs.Int.{int_min}
use Rattle.std.proofs.lemmas.Int.{int_min_is}
use Rattle.sn_geom.proofs.Ring.{sums}
use Rattle.sn_geom.proofs.Nearness.{near_one_place}
use Rattle.sn_geom.proofs.Touching.{touch_by_height_and_plan}
use Rattle.sn_geom.specs.Sweep.{Disc, Touch, plan, IsHorizontalOrVertical}
use Rattle.sn_geom.specs.declared.units.Pt.{Pt}
use Rattle.sn_geom.specs.declared.units.Pt3.{Pt3}
use Rattle.sn_outline.specs.Job.{Job}
use Rattle.sn_outline.specs.declared.job.StepJob.{StepJob}
use Rattle.sn_raster.specs.Heights.{low_end, Pass}
use Rattle.sn_link.specs.Moves.{over}
use Rattle.sn_link.specs.Safe.{IsClearWay}

-- Heights.

pub not_lower : (k a b z : ℤ) → k ≤ℤ a → k ≤ℤ b → int_min a b ≤ℤ z → k ≤ℤ z
not_lower k a b z to_a to_b low = let m = int_min_is a b in omega (arith, sums)

over_and_under : (top a b z : ℤ) → top ≤ℤ a → top ≤ℤ b → int_min a b ≤ℤ z → z <ℤ top → ⊥
over_and_under top a b z over_a over_b low below = let m = int_min_is a b in omega (arith, sums)

-- Vertical ways.

-- what such a way touches lies in the disc about its place, and not under its lower end
pub touched : (d : ℕ) (centre : Pt) (a b : ℤ) (c : Pt3) → Touch d (over centre a) (over centre b) c → (int_min a b ≤ℤ c.z) × Disc d centre (plan c)
touched d centre a b c touch =
    let h = (touch_by_height_and_plan d (over centre a) (over centre b) c (inr (refl, refl))).0 touch in
    (h.0, (near_one_place d centre (plan c)).0 h.1)

pub touches : (d : ℕ) (centre : Pt) (a b : ℤ) (c : Pt3) → int_min a b ≤ℤ c.z → Disc d centre (plan c) → Touch d (over centre a) (over centre b) c
touches d centre a b c low close =
    (touch_by_height_and_plan d (over centre a) (over centre b) c (inr (refl, refl))).1 (low, (near_one_place d centre (plan c)).1 close)

-- Ways over the raw box.

-- a way that does not go under the raw top touches no material
pub clear_over : (job : Job) (step : StepJob) (passes : List Pass) (from to : Pt3) → IsHorizontalOrVertical from to
    → job.high.z ≤ℤ from.z → job.high.z ≤ℤ to.z → IsClearWay job step passes from to
clear_over job step passes from to straight over_from over_to c left touch =
    let met = (touch_by_height_and_plan step.body.d from to (low_end job.pitch c) straight).0 touch in
    over_and_under job.high.z from.z to.z c.z over_from over_to met.0 left.raw.below
