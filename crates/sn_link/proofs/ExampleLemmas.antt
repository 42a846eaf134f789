-- The plans of the jobs of the examples: a hole that is drilled, and a trail that is followed.
use Rattle.std.proofs.Common.{◌≡◌, ◌*◌, ◌-◌, inl, inr, List, [], ◌∷◌, ◌++◌, ℤ, pos, ◌+ℤ◌, ◌≤ℤ◌, ◌<ℤ◌, refl, arith}
use Rattle.sn_geom.proofs.Ring.{sums}
use Rattle.sn_geom.proofs.Nearness.{near_one_place}
use Rattle.sn_geom.specs.declared.limits.TheConstants.{PER_MM}
use Rattle.sn_geom.specs.declared.units.Pt.{Pt}
use Rattle.sn_geom.specs.declared.tip.Tip.TheVariants.{Height}
use Rattle.sn_outline.specs.Job.{Job}
use Rattle.sn_outline.specs.declared.job.StepJob.{StepJob}
use Rattle.sn_raster.specs.Grid.{Node, IsRawNode, InDisc, place}
use Rattle.sn_open.specs.Region.{InAllowed, IsDrilled, IsOpening}
use Rattle.sn_fit.specs.Fit.{strokes_along}
use Rattle.sn_link.specs.declared.moves.Move.{Move}
use Rattle.sn_link.specs.declared.moves.Move.TheVariants.{Feed}
use Rattle.sn_link.specs.Examples.{at, drill, mm, plate, trail}
use Rattle.sn_link.specs.Layers.{IsFreeWay}
use Rattle.sn_link.specs.Moves.{over, approach, lift, made}
use Rattle.sn_link.specs.Plan.{IsHighest, IsStepPlan}
use Rattle.sn_link.proofs.LayerLemmas.{AreFree, under_end}
use Rattle.sn_link.proofs.TrailLemmas.{near_of_disc, trail_is_free}

-- before any move material stands up to the raw top over an allowed node
untouched : (job : Job) (step : StepJob) (n : Node) (z : ℤ) → IsRawNode job n → InAllowed job step n → job.low.z ≤ℤ z → job.high.z ≡ z +ℤ pos 1
    → IsHighest job step [] job.high.z
untouched job step n z raw allowed above is = record {
  bounds = λ c left allowed'. left.raw.below;
  reached = inr (
    record { i = n.i; j = n.j; z = z },
    record { raw = record { node = raw; above = above; below = below z job.high.z is }; uncut = λ pass (k, inside, same). absurd (omega (arith, inside)) },
    allowed,
    is,
  );
}
  where
    below : (low high : ℤ) → high ≡ low +ℤ pos 1 → low <ℤ high
    below low high e = omega (arith, sums)

-- The hole.

abbrev centre : Pt
centre = at (mm 10) (mm 10)

abbrev middle : Node
middle = record { i = pos 10; j = pos 10 }

middle_is_raw : IsRawNode (plate drill) middle
middle_is_raw = record { left = omega (arith, sums); right = omega (arith, sums); front = omega (arith, sums); back = omega (arith, sums) }

-- the side allowance is none, so each node in the hole is allowed
hole_is_allowed : (n : Node) → InDisc PER_MM (8 * PER_MM) centre n → InAllowed (plate drill) drill n
hole_is_allowed n disc m same raw =
    let c = centre in
    let near = near_of_disc (8 * PER_MM) 0 c c (place PER_MM n) (place PER_MM m) ((near_one_place (8 * PER_MM) c (place PER_MM n)).1 disc) same in
    (near_one_place (8 * PER_MM) c (place PER_MM m)).0 near

middle_is_drilled : IsDrilled (plate drill) drill centre middle
middle_is_drilled = record { under = record { close = omega arith }; free = hole_is_allowed }

middle_is_opened : IsOpening (plate drill) drill middle
middle_is_opened = record { raw = middle_is_raw; reached = middle_is_drilled }

abbrev hole_moves : List Move
hole_moves = approach (mm 20) centre (mm 10) (mm 4) ++ Feed (over centre (mm 4)) ∷ lift (mm 20) centre (mm 4) PER_MM

pub hole_plan : IsStepPlan (plate drill) drill [] (Height (mm 20)) (made (Height (mm 20)) hole_moves)
hole_plan = record {
  above = mm 10;
  highest = untouched (plate drill) drill middle (pos (10 * PER_MM - 1)) middle_is_raw (hole_is_allowed middle middle_is_drilled.under) (omega (arith, sums)) refl;
  strokes = record { from = centre; to = centre } ∷ [];
  strokes_are = inl ((middle, middle_is_opened), refl);
  moves_are = inr (record {
    high = omega (arith, sums);
    some = λ none. cc;
    tips = mm 4 ∷ [];
    layers = refl;
    all = hole_moves;
    all_are = (hole_moves, [], (_, refl, refl), refl, refl);
    moves_are = refl;
  });
}

-- The trail.

abbrev a : Pt
a = at (mm 10) (mm 10)

abbrev b : Pt
b = at (mm 30) (mm 10)

abbrev c : Pt
c = at (mm 30) (mm 25)

abbrev points : List Pt
points = a ∷ b ∷ c ∷ []

abbrev along : Node
along = record { i = pos 20; j = pos 10 }

segments_are_free : AreFree (plate trail) trail (strokes_along points)
segments_are_free = trail_is_free (plate trail) trail points (8 * PER_MM) refl refl

turn_is_free : IsFreeWay (plate trail) trail b b
turn_is_free n near =
    segments_are_free.0 n (under_end (plate trail) trail a b n ((near_one_place (8 * PER_MM) b (place PER_MM n)).0 near))

along_is_raw : IsRawNode (plate trail) along
along_is_raw = record { left = omega (arith, sums); right = omega (arith, sums); front = omega (arith, sums); back = omega (arith, sums) }

along_is_allowed : InAllowed (plate trail) trail along
along_is_allowed = segments_are_free.0 along (1, 2, record { fraction = record { some_parts = omega arith; within = omega arith }; close = omega arith })

-- the moves from the second point on
abbrev turn_moves : List Move
turn_moves = Feed (over c (mm 8)) ∷ lift (mm 20) c (mm 8) PER_MM

abbrev trail_moves : List Move
trail_moves =
    approach (mm 20) a (mm 10) (mm 8)
    ++ Feed (over b (mm 8)) ∷ Feed (over b (mm 8)) ∷ turn_moves

pub trail_plan : IsStepPlan (plate trail) trail [] (Height (mm 20)) (made (Height (mm 20)) trail_moves)
trail_plan = record {
  above = mm 10;
  highest = untouched (plate trail) trail along (pos (10 * PER_MM - 1)) along_is_raw along_is_allowed (omega (arith, sums)) refl;
  strokes = strokes_along points;
  strokes_are = refl;
  moves_are = inr (record {
    high = omega (arith, sums);
    some = λ none. cc;
    tips = mm 8 ∷ [];
    layers = (refl, omega (arith, sums));
    all = trail_moves;
    all_are = (trail_moves, [], (_, (Feed (over b (mm 8)) ∷ [], turn_moves, inl (turn_is_free, refl), refl, refl), refl), refl, refl);
    moves_are = refl;
  });
}
