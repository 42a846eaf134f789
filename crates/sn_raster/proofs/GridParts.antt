-- Grids of jobs: that they fit, and that they keep the rule of grids.
use Rattle.std.proofs.Common.{ℕ, zero, suc, ◌≡◌, ◌*◌, ◌≤◌, ◌<◌, ◌↔◌, ℤ, ◌≤ℤ◌, arith}
use Rattle.std.proofs.lemmas.Nat.{mul-lt}
use Rattle.sn_geom.proofs.Ring.{sums}
use Rattle.sn_geom.specs.declared.limits.TheConstants.{MOST_NODES}
use Rattle.sn_geom.specs.Length.{IsLength}
use Rattle.sn_outline.specs.Job.{Job}
use Rattle.sn_outline.specs.JobRule.{IsJob}
use Rattle.sn_raster.specs.Grid.{Grid, IsGrid, IsGridOf, HasPlaces, FitsGrid, AreInRange, places, first_column, last_column, first_row, last_row, greatest_margin}
use Rattle.sn_raster.proofs.Axis.{in_range, some_place, first_grown, last_grown}

-- the test of the window of a job, by its ends
pub fits_iff : (job : Job) (pitch : ℕ) (i0 i1 j0 j1 : ℤ) → pitch ≡ job.pitch
    → i0 ≡ first_column job → i1 ≡ last_column job → j0 ≡ first_row job → j1 ≡ last_row job
    → ((places i0 i1 * places j0 j1 ≤ MOST_NODES) × (0 < places i0 i1 * places j0 j1 → AreInRange pitch i0 i1)
    × (0 < places i0 i1 * places j0 j1 → AreInRange pitch j0 j1)) ↔ FitsGrid job
fits_iff job pitch i0 i1 j0 j1 p a b c d =
    rw (p, a, b, c, d) ((λ t. record { few = t.0; across = t.1; up = t.2 }), (λ f. (f.few, f.across, f.up)))

pub some_product : (a b : ℕ) → 0 < a → 0 < b → 0 < a * b
some_product a b h k = mul-lt 0 0 a b h k

pub some_left : (a b : ℕ) → 0 < a * b → 0 < a
some_left zero b h = omega arith
some_left (suc a) b h = omega arith

pub some_right : (a b : ℕ) → 0 < a * b → 0 < b
some_right a zero h = omega arith
some_right a (suc b) h = omega arith

-- a grid of a job that fits keeps the rule
pub grid_rule : (g : Grid) (job : Job) → IsJob job → FitsGrid job → IsGridOf g job → HasPlaces g → IsLength g.bottom → IsLength g.top → IsGrid g
grid_rule g job rule fits of ends bottom top =
    let few : places g.i0 g.i1 * places g.j0 g.j1 ≤ MOST_NODES = (rw (of.columns.0, of.columns.1, of.rows.0, of.rows.1) fits.few) in
    let across : 0 < places g.i0 g.i1 * places g.j0 g.j1 → AreInRange g.pitch g.i0 g.i1 = (rw (of.pitch, of.columns.0, of.columns.1, of.rows.0, of.rows.1) fits.across) in
    let up : 0 < places g.i0 g.i1 * places g.j0 g.j1 → AreInRange g.pitch g.j0 g.j1 = (rw (of.pitch, of.columns.0, of.columns.1, of.rows.0, of.rows.1) fits.up) in
    let margin = greatest_margin job.steps in
    let some_pitch : 0 < job.pitch = let least = rule.pitch.at_least in omega arith in
    let left = first_grown job.low.x margin job.pitch some_pitch in
    let right = last_grown job.high.x margin job.pitch some_pitch in
    let front = first_grown job.low.y margin job.pitch some_pitch in
    let back = last_grown job.high.y margin job.pitch some_pitch in
    record {
      pitch = rw of.pitch rule.pitch;
      ends = ends;
      heights = (bottom, top);
      few = few;
      in_range = λ n in_window.
          let some = some_product _ _ (some_place g.i0 g.i1 n.i in_window.left in_window.right) (some_place g.j0 g.j1 n.j in_window.front in_window.back) in
          record {
            x = in_range g.pitch g.i0 g.i1 n.i (across some) in_window.left in_window.right;
            y = in_range g.pitch g.j0 g.j1 n.j (up some) in_window.front in_window.back;
          };
      raw = λ n in_raw. record {
        left = lower _ _ _ _ _ of.columns.0 of.raw_columns.0 left in_raw.left;
        right = higher _ _ _ _ _ of.columns.1 of.raw_columns.1 right in_raw.right;
        front = lower _ _ _ _ _ of.rows.0 of.raw_rows.0 front in_raw.front;
        back = higher _ _ _ _ _ of.rows.1 of.raw_rows.1 back in_raw.back;
      };
    }
  where
    lower : (a b c d k : ℤ) → a ≡ c → b ≡ d → c ≤ℤ d → b ≤ℤ k → a ≤ℤ k
    lower a b c d k e f h l = omega (arith, sums)

    higher : (a b c d k : ℤ) → a ≡ c → b ≡ d → d ≤ℤ c → k ≤ℤ b → k ≤ℤ a
    higher a b c d k e f h l = omega (arith, sums)
