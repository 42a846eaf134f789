-- MEANING: jobs, and what follows from a step alone (this project's own, after ISO 14649-10 and ISO 14649-11).
use Rattle.std.specs.Prelude.{ℕ, ℤ, pos, ◌+ℤ◌, ◌-ℤ◌, List}
use Rattle.sn_geom.specs.declared.units.Pt3.{Pt3}
use Rattle.sn_outline.specs.declared.job.StepJob.{StepJob}
use Rattle.sn_outline.specs.declared.job.Bottom.TheVariants.{Flat, Conical, Through}

-- A job: the pitch of the grid, the raw box from its low to its high corner, the security height, the executed steps in
-- order, and the instance numbers of the tools in the order of their numbers in the program, from 1.
pub record Job : Type 0 where
  pub pitch : ℕ
  pub low : Pt3
  pub high : Pt3
  pub sec : ℤ
  pub steps : List StepJob
  pub tools : List ℕ

-- the lowest tip of a step: a pointed or a through bottom lets the point of the tool pass the floor
abbrev pub tip_floor : StepJob → ℤ
tip_floor step = elim step.bottom [
  | Flat ↦ step.floor +ℤ pos step.under
  | Conical ↦ step.floor +ℤ pos step.under -ℤ pos step.body.e
  | Through ↦ step.floor +ℤ pos step.under -ℤ pos step.body.e
]
