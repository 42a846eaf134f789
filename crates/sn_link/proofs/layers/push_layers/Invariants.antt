use Rattle.std.proofs.Common.{◌≡◌, ◌+ℤ◌, ◌-ℤ◌, ◌≤ℤ◌, ◌<ℤ◌, pos, unsigned_abs}
use Rattle.sn_outline.specs.Job.{Job, tip_floor}
use Rattle.sn_open.specs.Planes.{AreAllowed}
use Rattle.sn_link.proofs.LayeringLemmas.{AreCutTo}
use Rattle.sn_link.proofs.layers.push_layers.Given as goal

abbrev pub invariant-loop-low : goal.invariant-loop-low
invariant-loop-low l =
    record {
      over : tip_floor l.step <ℤ l.top;
      few : pos l.layers ≤ℤ (pos 1 +ℤ (l.fn.above -ℤ l.top));
      so_far : (job : Job) → job.sec ≡ l.sec → AreAllowed l.allowed job l.step
          → AreCutTo job l.step l.strokes l.fn.above l.fn.moves l.top l.start l.moves l.layers;
    }

abbrev pub decreases-loop-low : goal.decreases-loop-low
decreases-loop-low l = unsigned_abs (l.top -ℤ tip_floor l.step)
