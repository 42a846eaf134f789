-- Laws of the limits of steps and of jobs: the least and the greatest keep to them, and those beyond do not (this project's own).
use Rattle.std.specs.Prelude.{◌↔◌, ℕ, ◌+◌, ◌-◌, ◌*◌, ◌/◌, ◌≤◌}
use Rattle.sn_geom.specs.declared.limits.TheConstants.{PER_MM}
use Rattle.sn_geom.specs.declared.units.Body.{Body}
use Rattle.sn_outline.specs.declared.job.StepJob.{StepJob}
use Rattle.sn_outline.specs.JobRule.{IsToolBody, HasAllowances, HasDepths, IsRate, IsPitch}

-- micrometres in units of length
abbrev pub um : ℕ → ℕ
um n = n * PER_MM / 1000

-- a pitch is from 20 to 2,000 micrometres
abbrev pub PitchesHaveLimits : Type 0
PitchesHaveLimits = IsPitch (um 20) × IsPitch (um 2000) × (¬ IsPitch (um 20 - 1)) × (¬ IsPitch (um 2000 + 1))

abbrev pub tool : ℕ → ℕ → Body
tool d e = record { d = d; e = e }

-- a tool has a diameter from 10 to 200,000 micrometres
abbrev pub ToolsHaveLimits : Type 0
ToolsHaveLimits =
    IsToolBody (tool (um 10) 0) × IsToolBody (tool (um 200000) 0)
    × (¬ IsToolBody (tool (um 10 - 1) 0)) × (¬ IsToolBody (tool (um 200000 + 1) 0))

-- the point of a tool is at most half its diameter long, and of an odd diameter half a unit more
abbrev pub PointsHaveLimits : Type 0
PointsHaveLimits =
    (r : ℕ) → um 10 ≤ 2 * r → 2 * r + 1 ≤ um 200000
    → IsToolBody (tool (2 * r) r) × (¬ IsToolBody (tool (2 * r) (r + 1)))
    × IsToolBody (tool (2 * r + 1) (r + 1)) × (¬ IsToolBody (tool (2 * r + 1) (r + 2)))

-- a feed or a speed is from 1 to 100,000
abbrev pub RatesHaveLimits : Type 0
RatesHaveLimits = IsRate 1 × IsRate 100000 × (¬ IsRate 0) × (¬ IsRate 100001)

-- allowances are at most 2 m, and a corner diameter is at most 4 m
abbrev pub AllowancesHaveLimits : Type 0
AllowancesHaveLimits =
    (step : StepJob) → HasAllowances step ↔ ((step.side ≤ 2000 * PER_MM) × (step.under ≤ 2000 * PER_MM) × (step.corner ≤ 4000 * PER_MM))

-- an axial depth is from one unit to 4 m, and a radial one at most the diameter of the tool
abbrev pub DepthsHaveLimits : Type 0
DepthsHaveLimits = (step : StepJob) → HasDepths step ↔ ((1 ≤ step.axial) × (step.axial ≤ 4000 * PER_MM) × (step.radial ≤ step.body.d))
