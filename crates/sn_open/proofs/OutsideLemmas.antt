-- What the window has to do with.
use Rattle.std.proofs.Common.{ℕ, ◌≡◌, ◌+◌, ◌*◌, ◌<◌, ◌≤◌, ◌⊎◌, inl, inr, ℤ, pos, ◌+ℤ◌, ◌-ℤ◌, ◌*ℤ◌, ◌≤ℤ◌, unsigned_abs, sym, ◌∙◌, subst, ⊎_elim, arith}
use Rattle.std.specs.Prelude.{Contains}
use Rattle.std.proofs.lemmas.Bool.{cases_lt}
use Rattle.std.proofs.lemmas.List.Elements.{All-contains}
use Rattle.sn_raster.specs.Heights.{node_of}
use Rattle.std.proofs.lemmas.Int.{ints, by_lt_z}
use Rattle.std.proofs.lemmas.Nat.{mul-le}
use Rattle.sn_outline.specs.declared.job.StepJob.{StepJob}
use Rattle.sn_outline.specs.Job.{Job}
use Rattle.sn_raster.specs.Grid.{Grid, Node, place, InDisc, IsGridOf, IsInWindow, IsRawNode, greatest_margin}
use Rattle.sn_raster.specs.GridLaws.{MarginIsGreatest, WindowIsGrown, RawNodesAreTheJobs}
use Rattle.sn_open.specs.PlaneLaws.{OutsideIsAllowed, WindowHasDiscs, AllowedCellsAreTheSteps}

-- a doubled side of a distance is not more than the diameter
side_of : (x y d : ℕ) → 4 * (x * x + y * y) ≤ d * d → 2 * x ≤ d
side_of x y d close =
    ⊎_elim (λ (more : d < 2 * x). let h : (d + 1) * (d + 1) ≤ 2 * x * (2 * x) = mul-le (d + 1) (d + 1) (2 * x) (2 * x) (omega arith) (omega arith) in absurd (omega arith))
    (λ (less : 2 * x ≤ d). less) (cases_lt d (2 * x))

along : (low high at z : ℤ) (m : ℕ) → unsigned_abs (at -ℤ z) ≤ m → low ≤ℤ at → at ≤ℤ high → ((low -ℤ pos m) ≤ℤ z) × (z ≤ℤ (high +ℤ pos m))
along low high at z m close from to = (omega (arith, ints), omega (arith, ints))

halved : (x m d : ℕ) → 2 * x ≤ d → d ≤ 2 * m → x ≤ m
halved x m d h k = omega arith

pub window_has_discs : WindowIsGrown → WindowHasDiscs
window_has_discs grown g job c n d rule of small raw near =
    let m = greatest_margin job.steps in
    let close = near.close in
    let dx = unsigned_abs (n.i *ℤ pos job.pitch -ℤ c.i *ℤ pos job.pitch) in
    let dy = unsigned_abs (n.j *ℤ pos job.pitch -ℤ c.j *ℤ pos job.pitch) in
    let across = halved dx m d (side_of dx dy d close) small in
    let up = halved dy m d (side_of dy dx d (omega (arith, close))) small in
    let x = along job.low.x job.high.x (n.i *ℤ pos job.pitch) (c.i *ℤ pos job.pitch) m across raw.left raw.right in
    let y = along job.low.y job.high.y (n.j *ℤ pos job.pitch) (c.j *ℤ pos job.pitch) m up raw.front raw.back in
    (grown g job c (let least = rule.pitch.at_least in omega arith) of).1 (record { left = x.0; right = x.1; front = y.0; back = y.1 })

-- Each margin of an executed step is at most the greatest.

pub record IsWide (margin : ℕ) (step : StepJob) : Type 0 where
  pub tool : step.body.d ≤ 2 * margin
  pub side : step.side ≤ margin
  pub corner : step.corner ≤ 2 * margin

pub margins : MarginIsGreatest → (job : Job) (step : StepJob) → Contains job.steps step → IsWide (greatest_margin job.steps) step
margins law job step executed =
    let all = (law job.steps (greatest_margin job.steps)).0 (omega arith) in
    let of = All-contains (λ (s : StepJob). (s.body.d ≤ 2 * greatest_margin job.steps) × (s.side ≤ greatest_margin job.steps) × (s.corner ≤ 2 * greatest_margin job.steps)) job.steps step all executed in
    record { tool = of.0; side = of.1; corner = of.2 }

-- A node is in the window or not.

between : (low high z : ℤ) → ((low ≤ℤ z) × (z ≤ℤ high)) ⊎ (¬ ((low ≤ℤ z) × (z ≤ℤ high)))
between low high z =
    by_lt_z z low (λ below. inr (λ both. absurd (omega (arith, ints, both.0))))
    (λ from. by_lt_z high z (λ above. inr (λ both. absurd (omega (arith, ints, both.1)))) (λ to. inl (from, to)))

pub in_or_out : (g : Grid) (n : Node) → IsInWindow g n ⊎ (¬ IsInWindow g n)
in_or_out g n =
    ⊎_elim
    (λ (i : (g.i0 ≤ℤ n.i) × (n.i ≤ℤ g.i1)).
    ⊎_elim (λ (j : (g.j0 ≤ℤ n.j) × (n.j ≤ℤ g.j1)). inl (record { left = i.0; right = i.1; front = j.0; back = j.1 }))
    (λ (j : ¬ ((g.j0 ≤ℤ n.j) × (n.j ≤ℤ g.j1))). inr (λ window. j (window.front, window.back))) (between g.j0 g.j1 n.j))
    (λ (i : ¬ ((g.i0 ≤ℤ n.i) × (n.i ≤ℤ g.i1))). inr (λ window. i (window.left, window.right))) (between g.i0 g.i1 n.i)

-- jobs of one grid have the same raw nodes and the same discs
pub raw_of_other : RawNodesAreTheJobs → (g : Grid) (job other : Job) (n : Node) → 0 < job.pitch → IsGridOf g job → IsGridOf g other → IsRawNode other n → IsRawNode job n
raw_of_other law g job other n some of of' raw =
    let same : other.pitch ≡ job.pitch = sym of'.pitch ∙ of.pitch in
    (law g job n some of).0 ((law g other n (omega arith) of').1 raw)

pub outside_is_allowed : MarginIsGreatest → WindowIsGrown → RawNodesAreTheJobs → OutsideIsAllowed
outside_is_allowed margin grown raws g job step n with of =
    ⊎_elim (λ (window : IsInWindow g n). inl window)
    (λ (out : ¬ IsInWindow g n).
    inr (λ q near raw.
    let wide = margins margin with.job step with.executed in
    let side = wide.side in
    let same : job.pitch ≡ with.job.pitch = sym of.pitch ∙ with.grid.pitch in
    let some : 0 < with.job.pitch = (let least = with.rule.pitch.at_least in omega arith) in
    absurd (out (window_has_discs grown g with.job n q (2 * step.side) with.rule with.grid (omega arith) (raw_of_other raws g with.job job q some with.grid of raw)
    (subst (λ p. InDisc p (2 * step.side) (place p n) q) same near))))) (in_or_out g n)

pub allowed_cells : AllowedCellsAreTheSteps
allowed_cells cells job step c are window = (
  λ has. record { node = (are.nodes (node_of c) window).0 has.node; height = (are.heights c.z).0 has.height },
  λ allowed. record { node = (are.nodes (node_of c) window).1 allowed.node; height = (are.heights c.z).1 allowed.height },
)
