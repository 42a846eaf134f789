-- MEANING: examples that laws are worked on: points, steps, a raw plate. Their lengths are whole millimetres.
use Rattle.std.specs.Prelude.{ℕ, ◌*◌, ◌∷◌, ℤ, pos, []}
use Rattle.sn_geom.specs.declared.limits.TheConstants.{NO_DEPTH, PER_MM}
use Rattle.sn_geom.specs.declared.units.Pt.{Pt}
use Rattle.sn_outline.specs.Job.{Job}
use Rattle.sn_outline.specs.declared.job.StepJob.{StepJob}
use Rattle.sn_outline.specs.declared.job.Bottom.TheVariants.{Flat}
use Rattle.sn_outline.specs.declared.outline.Shape.TheVariants.{Circle, Trail}
use Rattle.sn_outline.specs.declared.job.Way.TheVariants as way

-- so many millimetres, in units of length
abbrev pub mm : ℕ → ℤ
mm n = pos (n * PER_MM)

abbrev pub at : ℤ → ℤ → Pt
at x y = record { x = x; y = y }

-- a step that drills a hole of 8 mm from the height 10 mm to the height 4 mm, with a point length of 1 mm
abbrev pub drill : StepJob
drill = record {
  ws = 4;
  feature = 8;
  outline = record { shape = Circle (at (mm 10) (mm 10)) (8 * PER_MM); islands = [] };
  top = mm 10;
  floor = mm 4;
  bottom = Flat;
  corner = 0;
  side = 0;
  under = 0;
  axial = NO_DEPTH;
  radial = 4 * PER_MM;
  tool = 1;
  body = record { d = 8 * PER_MM; e = PER_MM };
  feed = 300;
  speed = 2000;
  way = way.Drill;
}

-- a step of the same tool that follows a trail of three points, 2 mm deep in one layer
abbrev pub trail : StepJob
trail = record drill {
  outline = record { shape = Trail (at (mm 10) (mm 10) ∷ at (mm 30) (mm 10) ∷ at (mm 30) (mm 25) ∷ []) (8 * PER_MM); islands = [] };
  floor = mm 8;
  axial = 2 * PER_MM;
  way = way.Trail;
}

-- a raw plate of 40 mm by 40 mm, 10 mm high, on a grid of the pitch 1 mm, that one step cuts, with the security height 20 mm
abbrev pub plate : StepJob → Job
plate step = record {
  pitch = PER_MM;
  low = record { x = mm 0; y = mm 0; z = mm 0 };
  high = record { x = mm 40; y = mm 40; z = mm 10 };
  sec = mm 20;
  steps = step ∷ [];
  tools = 17 ∷ [];
}
