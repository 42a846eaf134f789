-- The first cell that has to be cut and is left.
use Rattle.std.proofs.Common.{ℕ, ◌≡◌, ◌↔◌, ◌⊎◌, inl, inr, ◌+◌, ◌<◌, ◌≤◌, ⊎_elim, Some, List, take, length, get_or, slice_get, ℤ, pos, ◌+ℤ◌, ◌≤ℤ◌, ◌<ℤ◌, refl, sym, ap, subst, ◌∙◌, arith}
use Rattle.std.specs.Prelude.{Contains, min}
use Rattle.std.specs.Int.{int_max}
use Rattle.std.specs.List.{Any}
use Rattle.std.proofs.lemmas.Bool.{cases_lt}
use Rattle.std.proofs.lemmas.Int.{ints, clamps, by_lt_z}
use Rattle.std.proofs.lemmas.List.{get_or-take, get_or_default, length-take-le}
use Rattle.std.proofs.lemmas.Option.{slice_get-get_or}
use Rattle.sn_geom.proofs.Ring.{sums}
use Rattle.sn_geom.specs.declared.units.Cell.{Cell}
use Rattle.sn_geom.specs.Acts.{Act}
use Rattle.sn_outline.specs.Job.{Job}
use Rattle.sn_outline.specs.declared.job.StepJob.{StepJob}
use Rattle.sn_outline.specs.JobRule.{IsJob}
use Rattle.sn_raster.specs.Grid.{Grid, Node, IsInWindow, places}
use Rattle.sn_raster.specs.Plane.{Plane, Has}
use Rattle.sn_raster.specs.Heights.{HeightMap, StandsFor, IsFirst, height_of, node_of}
use Rattle.sn_open.specs.Good.{IsLeft, passes}
use Rattle.sn_open.specs.Planes.{AreRequired}
use Rattle.sn_open.specs.Region.{HasLeastUnder, IsRequiredCell}
use Rattle.sn_open.specs.Verdict.{IsRequiredLeft, IsFirstLeft}
use Rattle.sn_open.specs.Window.{columns, rows, node_at}
use Rattle.sn_sweep.specs.Left.{IsStanding, IsStandingIn, IsLeastUnder, IsBandOf}
use Rattle.sn_sweep.specs.declared.left.Band.{Band}

-- Over a node.

-- a column and a row of the window are those of a node of it
pub in_window_at : (g : Grid) (column row : ℕ) → column < columns g → row < rows g → IsInWindow g (node_at g column row)
in_window_at g column row c r = record { left = low g.i0 column; right = high g.i0 g.i1 column c; front = low g.j0 row; back = high g.j0 g.j1 row r }
  where
    low : (first : ℤ) (k : ℕ) → first ≤ℤ (first +ℤ pos k)
    low first k = omega (arith, sums)

    high : (first last : ℤ) (k : ℕ) → k < places first last → (first +ℤ pos k) ≤ℤ last
    high first last k h = omega (arith, ints, clamps)

-- the lowest cell over a node that is not below the raw bottom or the band
abbrev pub lowest_over : Grid → Band → ℕ → ℕ → Cell
lowest_over g band column row = record { i = g.i0 +ℤ pos column; j = g.j0 +ℤ pos row; z = int_max g.bottom band.from }

-- no cell over the node stands below it
lowest_stands : (plane : Plane) (map : HeightMap) (g : Grid) (band : Band) (low c : Cell) (column row : ℕ) → map.grid ≡ g → low ≡ lowest_over g band column row
    → IsStandingIn plane map band c → low.z ≤ℤ c.z
lowest_stands plane map g band low c column row same is standing =
    greatest low.z g.bottom band.from c.z (ap (λ (d : Cell). d.z) is) (subst (λ (h : Grid). h.bottom ≤ℤ c.z) same standing.left.above) standing.from
  where
    greatest : (z bottom from k : ℤ) → z ≡ int_max bottom from → bottom ≤ℤ k → from ≤ℤ k → z ≤ℤ k
    greatest z bottom from k is a b = omega (arith, sums, clamps)

-- where one stands the lowest is left
pub lowest_is_left : (plane : Plane) (map : HeightMap) (g : Grid) (band : Band) (low c : Cell) (column row : ℕ) → map.grid ≡ g → low ≡ lowest_over g band column row
    → node_of c ≡ node_at g column row → IsStandingIn plane map band c → (low.z <ℤ band.below) × (low.z <ℤ height_of map (node_of low))
lowest_is_left plane map g band low c column row same is there standing =
    let least = lowest_stands plane map g band low c column row same is standing in
    let top = subst (λ n. c.z <ℤ height_of map n) (there ∙ sym (ap node_of is)) standing.left.below in
    (up low.z c.z band.below least standing.below, up low.z c.z (height_of map (node_of low)) least top)
  where
    up : (a b c : ℤ) → a ≤ℤ b → b <ℤ c → a <ℤ c
    up a b c h k = omega (arith, sums)

-- and where it is left it is the first
pub lowest_is_first : (plane : Plane) (map : HeightMap) (g : Grid) (band : Band) (low : Cell) (column row : ℕ) → map.grid ≡ g → low ≡ lowest_over g band column row
    → IsInWindow g (node_at g column row) → Has plane (node_at g column row) → (low.z <ℤ band.below) × (low.z <ℤ height_of map (node_of low))
    → IsFirst (λ c. (node_of c ≡ node_at g column row) × IsStandingIn plane map band c) low
lowest_is_first plane map g band low column row same is window has left =
    let here : node_of low ≡ node_at g column row = ap node_of is in
    let high = both low.z g.bottom band.from (ap (λ (d : Cell). d.z) is) in
    record {
      holds = (
        here,
        record {
          node = subst (λ n. Has plane n) (sym here) has;
          left = record {
            in_window = subst (λ (h : Grid). IsInWindow h (node_of low)) (sym same) (subst (λ n. IsInWindow g n) (sym here) window);
            above = subst (λ (h : Grid). h.bottom ≤ℤ low.z) (sym same) high.0;
            below = left.1;
          };
          from = high.1;
          below = left.0;
        },
      );
      first = λ other (there, standing) before.
          let least = lowest_stands plane map g band low other column row same is standing in
          let column_is : other.i ≡ low.i = ap (λ (n : Node). n.i) (there ∙ sym here) in
          let row_is : other.j ≡ low.j = ap (λ (n : Node). n.j) (there ∙ sym here) in
          ⊎_elim {C = ⊥} (λ (less : other.j <ℤ low.j). omega (arith, sums))
          (λ (rest : (other.j ≡ low.j) × ((other.i <ℤ low.i) ⊎ ((other.i ≡ low.i) × (other.z <ℤ low.z)))).
          ⊎_elim {C = ⊥} (λ (less : other.i <ℤ low.i). omega (arith, sums)) (λ (under : (other.i ≡ low.i) × (other.z <ℤ low.z)). not_under low.z other.z least under.1) rest.1) before;
    }
  where
    both : (z bottom from : ℤ) → z ≡ int_max bottom from → (bottom ≤ℤ z) × (from ≤ℤ z)
    both z bottom from is = (omega (arith, sums, clamps), omega (arith, sums, clamps))

    not_under : (a b : ℤ) → a ≤ℤ b → b <ℤ a → ⊥
    not_under a b h k = omega (arith, sums)

-- a node in this row and up to this column is in it or before it
pub next_column : (g : Grid) (n : Node) (column row : ℕ) → n.j ≡ g.j0 +ℤ pos row → n.i <ℤ (g.i0 +ℤ pos (column + 1)) → (n.i <ℤ (g.i0 +ℤ pos column)) ⊎ (n ≡ node_at g column row)
next_column g n column row row_is before =
    by_lt_z n.i (g.i0 +ℤ pos column) (λ earlier. inl earlier) (λ from. let column_is = last g.i0 n.i column before from in inr (λ k. record { i = column_is k; j = row_is k }))
  where
    last : (first i : ℤ) (k : ℕ) → i <ℤ (first +ℤ pos (k + 1)) → (first +ℤ pos k) ≤ℤ i → i ≡ first +ℤ pos k
    last first i k below from = omega (arith, ints)

-- a node of the window is in a column before its end
pub before_end : (g : Grid) (n : Node) → IsInWindow g n → n.i <ℤ (g.i0 +ℤ pos (columns g))
before_end g n window = within g.i0 g.i1 n.i window.left window.right
  where
    within : (first last i : ℤ) → first ≤ℤ i → i ≤ℤ last → i <ℤ (first +ℤ pos (places first last))
    within first last i a b = omega (arith, ints, clamps)

pub past_all : (i first : ℤ) (count end column : ℕ) → i <ℤ (first +ℤ pos count) → end ≡ count → end ≤ column → i <ℤ (first +ℤ pos column)
past_all i first count end column below is past = omega (arith, sums)

-- Of a feature.

-- What is known where a feature is searched.
pub record IsSearchOf (job : Job) (step : StepJob) (plane : Plane) (band : Band) : Type 0 where
  pub rule : IsJob job
  pub executed : Contains job.steps step
  pub required : AreRequired plane job step.feature
  pub heights : IsBandOf job.steps step band

deepest_step : (job : Job) (feature under : ℕ) → (least : IsLeastUnder job.steps feature under) → HasLeastUnder job feature least.deepest
deepest_step job feature under least = record {
  of_feature = record { executed = least.among; cuts = least.cuts };
  least = λ other of. subst (λ u. u ≤ other.under) (sym least.own) (least.least other of.executed of.cuts);
}

-- the cells that stand over the nodes of the plane are those of the feature
pub stands_in_it : (job : Job) (map : HeightMap) (step : StepJob) (plane : Plane) (band : Band) → IsSearchOf job step plane band
    → (c : Cell) → IsStandingIn plane map band c ↔ IsStanding job map step.feature c
stands_in_it job map step plane band s c = (
  λ standing.
      let least = s.heights.least in
      let d = least.deepest in
      let alike = s.rule.features d step least.among s.executed least.cuts in
      record {
        node = (s.required.nodes (node_of c)).0 standing.node;
        deepest = d;
        least = deepest_step job step.feature s.heights.under least;
        height = record {
          above = from_floor band.from step.floor d.floor c.z s.heights.under d.under s.heights.from alike.floor least.own standing.from;
          below = under_top band.below step.top d.top c.z s.heights.below alike.top standing.below;
        };
        left = standing.left;
      },
  λ standing.
      let least = s.heights.least in
      let d = standing.deepest in
      let of = standing.least.of_feature in
      let alike = s.rule.features d step of.executed s.executed of.cuts in
      let a = least.least d of.executed of.cuts in
      let b = standing.least.least least.deepest (record { executed = least.among; cuts = least.cuts }) in
      record {
        node = (s.required.nodes (node_of c)).1 standing.node;
        left = standing.left;
        from = to_floor band.from step.floor d.floor c.z s.heights.under d.under least.deepest.under s.heights.from alike.floor least.own a b standing.height.above;
        below = to_top band.below step.top d.top c.z s.heights.below alike.top standing.height.below;
      },
)
  where
    from_floor : (from floor floor' z : ℤ) (under under' : ℕ) → from ≡ floor +ℤ pos under → floor' ≡ floor → under' ≡ under → from ≤ℤ z → (floor' +ℤ pos under') ≤ℤ z
    from_floor from floor floor' z under under' e f g h = omega (arith, sums)

    to_floor : (from floor floor' z : ℤ) (under under' least : ℕ) → from ≡ floor +ℤ pos under → floor' ≡ floor → least ≡ under → under ≤ under' → under' ≤ least
        → (floor' +ℤ pos under') ≤ℤ z → from ≤ℤ z
    to_floor from floor floor' z under under' least e f g h k l = omega (arith, sums)

    under_top : (below top top' z : ℤ) → below ≡ top → top' ≡ top → z <ℤ below → z <ℤ top'
    under_top below top top' z e f h = omega (arith, sums)

    to_top : (below top top' z : ℤ) → below ≡ top → top' ≡ top → z <ℤ top' → z <ℤ below
    to_top below top top' z e f h = omega (arith, sums)

pub first_alike : (P Q : Cell → Type 0) → ((c : Cell) → P c ↔ Q c) → (c : Cell) → IsFirst P c → IsFirst Q c
first_alike P Q same c first = record { holds = (same c).0 first.holds; first = λ other q before. first.first other ((same other).1 q) before }

-- Of all features.

-- nothing stands of the features of the steps before the k-th
pub record IsPassed (job : Job) (map : HeightMap) (k : ℕ) : Type 0 where
  pub none : (m : ℕ) (s : StepJob) → m < k → slice_get job.steps m ≡ Some s → (c : Cell) → ¬ IsStanding job map s.feature c

-- a step of an equal list, at its place
pub step_at : (xs steps : List StepJob) (k : ℕ) (step : StepJob) → xs ≡ steps → k < length xs → step ≡ get_or xs k step → slice_get steps k ≡ Some step
step_at xs steps k step same within is = ap (λ l. slice_get l k) (sym same) ∙ slice_get-get_or xs k step within ∙ ap Some (sym is)

pub one_passed : (job : Job) (map : HeightMap) (k : ℕ) (step : StepJob) → slice_get job.steps k ≡ Some step → ((c : Cell) → ¬ IsStanding job map step.feature c)
    → IsPassed job map k → IsPassed job map (k + 1)
one_passed job map k step here none before = record {
  none = λ m s below at c standing.
      ⊎_elim {C = ⊥} (λ (earlier : m < k). before.none m s earlier at c standing)
      (λ (late : k ≤ m).
      let same : m ≡ k = omega arith in
      let found : step ≡ s = one step s (sym here ∙ ap (λ i. slice_get job.steps i) (sym same) ∙ at) in
      none c (subst (λ (t : StepJob). IsStanding job map t.feature c) (sym found) standing)) (cases_lt m k);
}
  where
    one : (s t : StepJob) → Some s ≡ Some t → s ≡ t
    one s t e = cc

-- a feature that was passed already
pub passed_again : (job : Job) (map : HeightMap) (xs : List StepJob) (k feature : ℕ) → xs ≡ job.steps → k ≤ length xs
    → Any (λ (s : StepJob). s.feature ≡ feature) (take k xs) → IsPassed job map k → (c : Cell) → ¬ IsStanding job map feature c
passed_again job map xs k feature same within (m, s, inside, at, cuts) before c standing =
    let short : m < k = omega (arith, length-take-le k xs within) in
    let there = ap (λ l. slice_get l m) (sym same) ∙ slice_get-get_or xs m s (omega arith) ∙ ap Some (sym (get_or-take k xs m s short) ∙ at) in
    before.none m s short there c (subst (λ f. IsStanding job map f c) (sym cuts) standing)

-- what is said of the cells of the heights is said of the cells that are left
stands_for : (job : Job) (map : HeightMap) (acts : List Act) (feature : ℕ) → StandsFor map job (passes job.steps acts)
    → (c : Cell) → IsStanding job map feature c ↔ IsRequiredLeft job acts feature c
stands_for job map acts feature stands c = (
  λ standing.
      let left = (stands.cells c).0 standing.left in
      record {
        required = record { raw = left.raw; node = standing.node; deepest = standing.deepest; least = standing.least; height = standing.height };
        left = left;
      },
  λ both. record {
    node = both.required.node;
    deepest = both.required.deepest;
    least = both.required.least;
    height = both.required.height;
    left = (stands.cells c).1 both.left;
  },
)

pub first_is_left : (job : Job) (map : HeightMap) (k : ℕ) (step : StepJob) (c : Cell) → slice_get job.steps k ≡ Some step → IsPassed job map k
    → IsFirst (IsStanding job map step.feature) c → (acts : List Act) → StandsFor map job (passes job.steps acts) → IsFirstLeft job acts step.feature c
first_is_left job map k step c here before first acts stands = record {
  place = k;
  step = step;
  executed = here;
  own = refl;
  earlier = λ m s below at other left. before.none m s below at other ((stands_for job map acts s.feature stands other).1 left);
  first = first_alike (IsStanding job map step.feature) (IsRequiredLeft job acts step.feature) (stands_for job map acts step.feature stands) c first;
}

pub nothing_is_left : (job : Job) (map : HeightMap) (k : ℕ) → length job.steps ≤ k → IsPassed job map k → (acts : List Act) → StandsFor map job (passes job.steps acts)
    → (feature : ℕ) (c : Cell) → IsRequiredCell job feature c → ¬ IsLeft job acts c
nothing_is_left job map k end before acts stands feature c required left =
    let (s, least, by) = required.node in
    let of = least.of_feature in
    let (m, below, at) = of.executed in
    let there = slice_get-get_or job.steps m s below ∙ ap Some at in
    before.none m s (omega arith) there c
    (subst (λ f. IsStanding job map f c) (sym of.cuts) ((stands_for job map acts feature stands c).1 (record { required = required; left = left })))

-- The least bottom allowance.

-- that of the steps before the n-th and of one more
pub record IsLeastSoFar (steps : List StepJob) (feature n under : ℕ) : Type 0 where
  pub deepest : StepJob
  pub among : Contains steps deepest
  pub cuts : deepest.feature ≡ feature
  pub own : deepest.under ≡ under
  pub least : (m : ℕ) (s : StepJob) → m < n → m < length steps → get_or steps m s ≡ s → s.feature ≡ feature → under ≤ s.under

same_step : (steps : List StepJob) (n m : ℕ) (step s : StepJob) → n < length steps → step ≡ get_or steps n step → m ≡ n → get_or steps m s ≡ s → step ≡ s
same_step steps n m step s within is same at = is ∙ sym (get_or_default steps n s step within) ∙ ap (λ k. get_or steps k s) (sym same) ∙ at

pub other_feature : (steps : List StepJob) (feature n under : ℕ) (step : StepJob) → n < length steps → step ≡ get_or steps n step → ¬ (step.feature ≡ feature)
    → IsLeastSoFar steps feature n under → IsLeastSoFar steps feature (n + 1) under
other_feature steps feature n under step within is other before = record {
  deepest = before.deepest;
  among = before.among;
  cuts = before.cuts;
  own = before.own;
  least = λ m s below inside at cuts.
      ⊎_elim (λ (earlier : m < n). before.least m s earlier inside at cuts)
      (λ (late : n ≤ m). absurd (other (ap (λ (t : StepJob). t.feature) (same_step steps n m step s within is (omega arith) at) ∙ cuts))) (cases_lt m n);
}

pub own_feature : (steps : List StepJob) (feature n under least : ℕ) (step : StepJob) → n < length steps → step ≡ get_or steps n step → step.feature ≡ feature
    → least ≡ min under step.under → IsLeastSoFar steps feature n under → IsLeastSoFar steps feature (n + 1) least
own_feature steps feature n under least step within is own least_is before =
    ⊎_elim
    (λ (more : step.under < under). record { deepest = step; among = (n, within, sym is); cuts = own; own = omega arith; least = below_all })
    (λ (up_to : under ≤ step.under). record {
      deepest = before.deepest;
      among = before.among;
      cuts = before.cuts;
      own = let was = before.own in omega arith;
      least = below_all;
    }) (cases_lt step.under under)
  where
    below_all : (m : ℕ) (s : StepJob) → m < n + 1 → m < length steps → get_or steps m s ≡ s → s.feature ≡ feature → least ≤ s.under
    below_all m s below inside at cuts =
        ⊎_elim (λ (earlier : m < n). let h = before.least m s earlier inside at cuts in omega arith)
        (λ (late : n ≤ m). let e = ap (λ (t : StepJob). t.under) (same_step steps n m step s within is (omega arith) at) in omega arith) (cases_lt m n)
