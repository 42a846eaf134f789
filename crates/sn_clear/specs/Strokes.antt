-- MEANING: the strokes of a step that clears its feature (this project's own).
use Rattle.std.specs.Prelude.{◌≡◌, ℕ, ◌*◌, ◌/◌, ◌<◌, max, Bool, false, ◌&&◌, List, [], map, slice_index_or}
use Rattle.std.specs.List.{range_with_len, Contains}
use Rattle.sn_outline.specs.declared.job.StepJob.{StepJob}
use Rattle.sn_raster.specs.Grid.{Grid, place}
use Rattle.sn_raster.specs.Plane.{Plane}
use Rattle.sn_open.specs.declared.stroke.Stroke.{Stroke}
use Rattle.sn_clear.specs.declared.spot.Spot.{Spot}
use Rattle.sn_clear.specs.declared.spot.Run.{Run}
use Rattle.sn_clear.specs.Window.{columns, rows, node_at}
use Rattle.sn_clear.specs.Places.{passes_before}
use Rattle.sn_clear.specs.Field.{Field, holds, spot_of}
use Rattle.sn_clear.specs.Rows.{sweep}
use Rattle.sn_clear.specs.Columns.{with_columns, IsCentreOf}

-- how far a disc of diameter d reaches: the greatest squared distance, in pitches, of a node that it holds from its centre
abbrev pub reach_of : ℕ → ℕ → ℕ
reach_of d pitch = d * d / (4 * (pitch * pitch))

-- the window of a grid, with no useful centre
abbrev pub window_of : Grid → ℕ → Field
window_of g d = record { columns = columns g; rows = rows g; reach = reach_of d g.pitch; useful = [] }

-- the disc about the node of number k holds a target
abbrev pub holds_target : Field → Plane → ℕ → Bool
holds_target f targets k =
    passes_before (λ m. slice_index_or targets.marks m false && holds f (spot_of f k) (spot_of f m)) (f.columns * f.rows)

-- the useful centres: free centres whose disc holds a target
abbrev pub useful_centres : Field → Plane → Plane → List Bool
useful_centres f centres targets =
    map (λ k. slice_index_or centres.marks k false && holds_target f targets k) (range_with_len 0 (f.columns * f.rows))

-- the window with the useful centres of a tool of diameter d
abbrev pub field_of : Grid → ℕ → Plane → Plane → Field
field_of g d centres targets = record (window_of g d) { useful = useful_centres (window_of g d) centres targets }

-- each how many-th row is selected: as many pitches as the radial depth has, and at least one
abbrev pub row_step : StepJob → ℕ → ℕ
row_step step pitch = max 1 (step.radial / pitch)

-- the stroke of a run of nodes
abbrev pub stroke_of : Grid → Run → Stroke
stroke_of g run = record {
  from = place g.pitch (node_at g run.from.column run.from.row);
  to = place g.pitch (node_at g run.to.column run.to.row);
}

-- the strokes over a field: the sweep, and the columns for the targets that it leaves
abbrev pub runs_of : Field → ℕ → Plane → List Run
runs_of f every targets = with_columns f targets.marks (sweep f every)

-- the strokes of a step with its free centres and its targets
abbrev pub clearing_strokes : StepJob → Grid → Plane → Plane → List Stroke
clearing_strokes step g centres targets =
    map (stroke_of g) (runs_of (field_of g step.body.d centres targets) (row_step step g.pitch) targets)

-- both ends of the run are in the window of the grid
pub record IsInside (g : Grid) (run : Run) : Type 0 where
  pub from_column : run.from.column < columns g
  pub from_row : run.from.row < rows g
  pub to_column : run.to.column < columns g
  pub to_row : run.to.row < rows g

-- the field is over the window of the grid, and its discs are those of diameter d
pub record IsWindowOf (f : Field) (g : Grid) (d : ℕ) : Type 0 where
  pub columns_are : f.columns ≡ columns g
  pub rows_are : f.rows ≡ rows g
  pub reach_is : f.reach ≡ reach_of d g.pitch

-- the node is on one of the strokes
abbrev pub IsOnRuns : List Run → Spot → Type 0
IsOnRuns runs s = (run : Run) × Contains runs run × IsCentreOf run s
