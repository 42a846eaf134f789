-- Regions by a grid, and what holds outside the window.
use Rattle.std.proofs.Common.{ℕ, ◌≡◌, ◌*◌, ◌<◌, ◌↔◌, sym, ap, ◌∙◌, subst, ⊎_elim, arith}
use Rattle.sn_outline.specs.declared.outline.Outline.{Outline}
use Rattle.sn_outline.specs.declared.job.StepJob.{StepJob}
use Rattle.sn_outline.specs.Outline.{InOutline}
use Rattle.sn_outline.specs.Job.{Job}
use Rattle.sn_raster.specs.Grid.{Grid, Node, place, InDisc, IsGrid, IsGridOf, IsInWindow, IsInRaw, IsRawNode}
use Rattle.sn_raster.specs.GridLaws.{RawNodesAreTheJobs}
use Rattle.sn_raster.specs.Plane.{Plane, Has}
use Rattle.sn_open.specs.Region.{InAllowed, KeepsSide, IsFreeCentre}
use Rattle.sn_open.specs.Planes.{IsGridWith, CellSet, AreAllowed}
use Rattle.sn_open.specs.PlaneLaws.{OutsideIsAllowed}
use Rattle.sn_open.specs.OnGrid.{KeepsSideOn}
use Rattle.sn_open.specs.Morphology.{HasDisc}
use Rattle.sn_open.proofs.WindowLemmas.{in_own_window}
use Rattle.sn_open.proofs.MorphologyLemmas.{has_or_lacks}

-- The raw nodes of a grid are those of its job.

pub some_pitch : (g : Grid) (job : Job) → IsGrid g → IsGridOf g job → 0 < job.pitch
some_pitch g job rule of = let least = rule.pitch.at_least in let same = of.pitch in omega arith

pub raw_of_job : RawNodesAreTheJobs → (g : Grid) (job : Job) (n : Node) → IsGrid g → IsGridOf g job → IsInRaw g n ↔ IsRawNode job n
raw_of_job law g job n rule of = law g job n (some_pitch g job rule of) of

-- what a grid says of the side allowance is what its job says
pub keeps_side : RawNodesAreTheJobs → (g : Grid) (job : Job) (outline : Outline) (side : ℕ) (n : Node) → IsGrid g → IsGridOf g job
    → KeepsSideOn g outline side n ↔ KeepsSide job outline side n
keeps_side law g job outline side n rule of = (
  λ on q near raw.
      subst (λ p. InOutline outline (place p q)) of.pitch
      (on q (subst (λ p. InDisc p (2 * side) (place p n) q) (sym of.pitch) near) ((raw_of_job law g job q rule of).1 raw)),
  λ by q near raw.
      subst (λ p. InOutline outline (place p q)) (sym of.pitch)
      (by q (subst (λ p. InDisc p (2 * side) (place p n) q) of.pitch near) ((raw_of_job law g job q rule of).0 raw)),
)

-- the nodes that are outside the raw rectangle or in the outline, as planes give them
pub kept_side : (g : Grid) (outline : Outline) (side : ℕ) (filled refused kept spare nodes : Plane) → IsGrid g → filled.grid ≡ g → refused.grid ≡ g → kept.grid ≡ g → spare.grid ≡ g
    → ((n : Node) → Has filled n ↔ (IsInWindow g n × InOutline outline (place g.pitch n)))
    → ((n : Node) → Has refused n ↔ (IsInWindow filled.grid n × (¬ Has filled n)))
    → ((n : Node) → Has kept n ↔ (Has refused n × IsInRaw g n))
    → ((n : Node) → Has spare n ↔ (IsInWindow kept.grid n × (¬ Has kept n)))
    → ((n : Node) → Has nodes n ↔ (IsInWindow g n × HasDisc spare (2 * side) n))
    → (n : Node) → Has nodes n ↔ (IsInWindow g n × KeepsSideOn g outline side n)
kept_side g outline side filled refused kept spare nodes rule filled_grid refused_grid kept_grid spare_grid is_filled is_refused is_kept is_spare is_clear n =
    let near_of : (q : Node) → InDisc spare.grid.pitch (2 * side) (place spare.grid.pitch n) q ↔ InDisc g.pitch (2 * side) (place g.pitch n) q =
    (λ q. subst (λ h. InDisc spare.grid.pitch (2 * side) (place spare.grid.pitch n) q ↔ InDisc h.pitch (2 * side) (place h.pitch n) q) spare_grid ((λ d. d), (λ d. d))) in (
      λ has.
          let (window, clear) = (is_clear n).0 has in (
            window,
            λ q near raw.
                let q_in = rule.raw q raw in
                let free = ((is_spare q).0 (clear q (in_own_window spare.grid g q spare_grid q_in) ((near_of q).1 near))).1 in
                ⊎_elim (λ (has' : Has filled q). ((is_filled q).0 has').1)
                (λ (lacks : ¬ Has filled q). absurd (free ((is_kept q).1 ((is_refused q).1 (in_own_window filled.grid g q filled_grid q_in, lacks), raw))))
                (has_or_lacks filled q (in_own_window filled.grid g q filled_grid q_in)),
          ),
      λ (window, keeps).
          (is_clear n).1 (
            window,
            λ q q_in near.
                let window' = in_own_window g spare.grid q (sym spare_grid) q_in in
                (is_spare q).1 (
                  in_own_window kept.grid g q kept_grid window',
                  λ has'.
                      let (refused', raw) = (is_kept q).0 has' in
                      ((is_refused q).0 refused').1 ((is_filled q).1 (window', keeps q ((near_of q).0 near) raw)),
                ),
          ),
    )

-- the plane of allowed nodes, for each job of its grid
pub allowed_by_side : RawNodesAreTheJobs → (g h : Grid) (job : Job) (step : StepJob) (nodes : Plane) → IsGrid g → h ≡ g → nodes.grid ≡ h
    → ((n : Node) → Has nodes n ↔ (IsInWindow h n × KeepsSideOn h step.outline step.side n)) → IsGridOf g job
    → (n : Node) → IsInWindow nodes.grid n → Has nodes n ↔ InAllowed job step n
allowed_by_side law g h job step nodes rule same own is of n window =
    let rule' : IsGrid h = subst IsGrid (sym same) rule in
    let of' : IsGridOf h job = subst (λ k. IsGridOf k job) (sym same) of in
    let side = keeps_side law h job step.outline step.side n rule' of' in
    ((λ has. side.0 ((is n).0 has).1), (λ allowed. (is n).1 (in_own_window h nodes.grid n (sym own) window, side.1 allowed)))

-- The free centres, by the allowed nodes in the window.

pub free_centres : OutsideIsAllowed → (g : Grid) (job : Job) (step : StepJob) (cells : CellSet) (nodes : Plane) → IsGridWith g step → IsGridOf g job → cells.plane.grid ≡ g
    → AreAllowed cells job step → ((n : Node) → Has nodes n ↔ (IsInWindow cells.plane.grid n × HasDisc cells.plane step.body.d n))
    → (n : Node) → IsInWindow g n → Has nodes n ↔ IsFreeCentre job step n
free_centres law g job step cells nodes with of same are clear n window =
    let pitch : job.pitch ≡ cells.plane.grid.pitch = sym of.pitch ∙ ap (λ h. h.pitch) (sym same) in
    let own = in_own_window cells.plane.grid g n same window in (
      λ has m near.
          ⊎_elim
          (λ (inside : IsInWindow g m).
          let there = in_own_window cells.plane.grid g m same inside in
          (are.nodes m there).0 (((clear n).0 has).1 m there (subst (λ p. InDisc p step.body.d (place p n) m) pitch near)))
          (λ (allowed : InAllowed job step m). allowed) (law g job step m with of),
      λ free.
          (clear n).1 (own, λ q inside near. (are.nodes q inside).1 (free q (subst (λ p. InDisc p step.body.d (place p n) q) (sym pitch) near))),
    )
