-- The search for small features and unreached cells.
use Rattle.std.proofs.Common.{ℕ, true, false, ◌≡◌, ◌+◌, ◌<◌, ◌≤◌, ◌↔◌, ◌⊎◌, inl, inr, List, [], ◌∷◌, ◌++◌, take, length, get_or, append_assoc, length-append, ℤ, pos, ◌+ℤ◌, ◌≤ℤ◌, ◌<ℤ◌, refl, sym, ap, ◌∙◌, subst, ⊎_elim, arith}
use lib.Signed.{le_z}
use Rattle.std.specs.Prelude.{Contains}
use Rattle.std.specs.List.{Any}
use Rattle.std.specs.Int.{int_min, int_max}
use Rattle.std.proofs.lemmas.Bool.{cases_lt}
use Rattle.std.proofs.lemmas.Int.{ints, clamps}
use Rattle.std.proofs.lemmas.List.{get_or_default, get_or-take, get_or_at, get_or_append_left, length-take-le}
use Rattle.std.proofs.lemmas.List.Elements.{All-contains}
use Rattle.sn_geom.proofs.Ring.{sums}
use Rattle.sn_geom.specs.declared.units.Cell.{Cell}
use Rattle.sn_outline.specs.declared.job.StepJob.{StepJob}
use Rattle.sn_outline.specs.Job.{Job}
use Rattle.sn_outline.specs.JobRule.{IsJob, IsProper}
use Rattle.sn_raster.specs.Grid.{Grid, Node, IsGrid, IsGridOf}
use Rattle.sn_raster.specs.Heights.{node_of, IsFirst}
use Rattle.sn_raster.specs.Plane.{Plane, Has, IsEmpty}
use Rattle.sn_open.specs.Region.{HasLeastUnder, IsRequiredNode, IsRequiredCell}
use Rattle.sn_open.specs.Planes.{AreRequired, IsOpeningPlane}
use Rattle.sn_open.specs.Reach.{HasRequired, IsExecuted, IsExecutedBefore, IsReachedFeature, IsReachedCell, IsUnreached, full_width_from}
use Rattle.sn_open.specs.declared.least.Allowance.TheVariants.{Under}
use Rattle.sn_open.specs.Least.{IsLeast}
use Rattle.sn_open.specs.Window.{node_at}
use Rattle.sn_open.specs.Update.{IsAlone, IsFirstAlone}
use Rattle.sn_open.proofs.WindowLemmas.{node, same_place, at_window, column_of, row_of}
use Rattle.sn_open.specs.Search.{IsFullAt, OpensAt, IsOpenedAt, lowest_of_heights, above_heights}

pub proper_step : (job : Job) (step : StepJob) → IsJob job → Contains job.steps step → IsProper step
proper_step job step rule executed = All-contains IsProper job.steps step rule.proper executed

-- Features without a required node.

pub none_required : (job : Job) (feature : ℕ) (empty plane : Plane) → IsEmpty empty → AreRequired plane job feature → ((n : Node) → Has plane n → Has empty n) → ¬ HasRequired job feature
none_required job feature empty plane none are all (n, required) = none n (all n ((are.nodes n).1 required))

pub some_required : (job : Job) (feature : ℕ) (empty plane : Plane) → AreRequired plane job feature → ((n : Node) × Has plane n × (¬ Has empty n)) → HasRequired job feature
some_required job feature empty plane are (n, has, _) = (n, (are.nodes n).0 has)

-- Steps in order.

-- a step of a list, at its index
at_index : (steps : List StepJob) (k : ℕ) (step d : StepJob) → k < length steps → step ≡ get_or steps k step → get_or steps k d ≡ step
at_index steps k step d inside is = get_or_default steps k d step inside ∙ sym is

-- P holds of the feature of each step before k
pub IsPassed : (P : ℕ → Type 0) → List StepJob → ℕ → Type 0
IsPassed P steps k = (m : ℕ) (s : StepJob) → m < k → m < length steps → get_or steps m s ≡ s → P s.feature

pub one_passed : (P : ℕ → Type 0) (steps : List StepJob) (k : ℕ) (step : StepJob) → k < length steps → step ≡ get_or steps k step → P step.feature → IsPassed P steps k → IsPassed P steps (k + 1)
unfolding IsPassed
one_passed P steps k step inside is here before m s below within at =
    ⊎_elim (λ (earlier : m < k). before m s earlier within at)
    (λ (late : k ≤ m).
    let same : m ≡ k = omega arith in
    let found : step ≡ s = sym (at_index steps k step s inside is) ∙ ap (λ j. get_or steps j s) (sym same) ∙ at in
    subst P (ap (λ t. t.feature) found) here) (cases_lt m k)

pub none_before : (P : ℕ → Type 0) (steps : List StepJob) → IsPassed P steps 0
unfolding IsPassed
none_before P steps m s below within at = absurd (omega arith)

-- a feature that was passed already
pub passed_again : (P : ℕ → Type 0) (steps : List StepJob) (k feature : ℕ) → k ≤ length steps → Any (λ (s : StepJob). s.feature ≡ feature) (take k steps) → IsPassed P steps k → P feature
unfolding IsPassed
passed_again P steps k feature within (m, s, inside, at, cuts) before =
    let short : m < k = omega (arith, length-take-le k steps within) in
    subst P cuts (before m s short (omega arith) (sym (get_or-take k steps m s short) ∙ at))

pub all_features : (P : ℕ → Type 0) (job : Job) (k : ℕ) → length job.steps ≤ k → IsPassed P job.steps k → (feature : ℕ) → IsExecuted job feature → P feature
unfolding IsPassed
all_features P job k end before feature (step, of) =
    let (m, below, at) = of.executed in
    subst P of.cuts (before m step (omega arith) below at)

-- a feature that is executed before that of step k was passed
pub earlier_passed : (P : ℕ → Type 0) (job : Job) (k : ℕ) (step : StepJob) → k < length job.steps → step ≡ get_or job.steps k step → IsPassed P job.steps k
    → (earlier : ℕ) → IsExecutedBefore job earlier step.feature → P earlier
unfolding IsPassed
earlier_passed P job k step inside is before earlier (front, first, back, whole, cuts, none) =
    let m = length front in
    let at : get_or job.steps m first ≡ first = ap (λ xs. get_or xs m first) whole ∙ get_or_at front first back first m refl in
    let long = ap length whole in
    let size = length-append front (first ∷ back) in
    ⊎_elim (λ (earlier' : m < k). subst P cuts (before m first earlier' (omega arith) at))
    (λ (late : k ≤ m).
    let in_front : k < length (front ++ first ∷ []) = omega (arith, length-append front (first ∷ [])) in
    let here : get_or (front ++ first ∷ []) k step ≡ step =
    sym (get_or_append_left (front ++ first ∷ []) back step k in_front) ∙ ap (λ xs. get_or xs k step) (append_assoc front (first ∷ []) back ∙ sym whole) ∙ sym is in
    absurd (none k step in_front (ap (λ s. s.feature) here))) (cases_lt m k)

pub added_opening : (job : Job) (feature : ℕ) (z : ℤ) (step : StepJob) (old new opening : Plane) → IsFullAt feature z step → IsOpeningPlane opening job step
    → ((n : Node) → Has new n ↔ (Has old n ⊎ Has opening n)) → (n : Node) → Has new n ↔ (Has old n ⊎ OpensAt job feature z step n)
added_opening job feature z step old new opening full is added n = (
  λ has. ⊎_elim (λ (was : Has old n). inl was) (λ (here : Has opening n). inr (full, (is.nodes n).0 here)) ((added n).0 has),
  λ either. ⊎_elim (λ (was : Has old n). (added n).1 (inl was)) (λ (opens : OpensAt job feature z step n). (added n).1 (inr ((is.nodes n).1 opens.1))) either,
)

pub no_opening : (job : Job) (feature : ℕ) (z : ℤ) (step : StepJob) (plane : Plane) → ¬ IsFullAt feature z step → (n : Node) → Has plane n ↔ (Has plane n ⊎ OpensAt job feature z step n)
no_opening job feature z step plane none n = (
  λ has. inl has,
  λ either. ⊎_elim (λ (was : Has plane n). was) (λ (opens : OpensAt job feature z step n). absurd (none opens.0)) either,
)

-- what the steps before k open
pub record AreOpened (job : Job) (feature : ℕ) (z : ℤ) (plane : Plane) (k : ℕ) : Type 0 where
  pub opened : (n : Node) → Has plane n → IsOpenedAt job feature z n
  pub whole : (m : ℕ) (s : StepJob) (n : Node) → m < k → m < length job.steps → get_or job.steps m s ≡ s → OpensAt job feature z s n → Has plane n

pub none_opened : (job : Job) (feature : ℕ) (z : ℤ) (plane : Plane) → IsEmpty plane → AreOpened job feature z plane 0
none_opened job feature z plane empty = record { opened = λ n has. absurd (empty n has); whole = λ m s n below within at opens. absurd (omega arith) }

pub one_opened : (job : Job) (feature : ℕ) (z : ℤ) (step : StepJob) (old new : Plane) (k : ℕ) → k < length job.steps → step ≡ get_or job.steps k step
    → ((n : Node) → Has new n ↔ (Has old n ⊎ OpensAt job feature z step n)) → AreOpened job feature z old k → AreOpened job feature z new (k + 1)
one_opened job feature z step old new k inside is added before = record {
  opened = λ n has.
      ⊎_elim (λ (was : Has old n). before.opened n was) (λ (opens : OpensAt job feature z step n). (step, (k, inside, sym is), opens)) ((added n).0 has);
  whole = λ m s n below within at opens.
      ⊎_elim (λ (earlier : m < k). (added n).1 (inl (before.whole m s n earlier within at opens)))
      (λ (late : k ≤ m).
      let same : m ≡ k = omega arith in
      let found : step ≡ s = sym (at_index job.steps k step s inside is) ∙ ap (λ j. get_or job.steps j s) (sym same) ∙ at in
      (added n).1 (inr (subst (λ t. OpensAt job feature z t n) (sym found) opens))) (cases_lt m k);
}

pub all_opened : (job : Job) (feature : ℕ) (z : ℤ) (plane : Plane) (k : ℕ) → length job.steps ≤ k → AreOpened job feature z plane k
    → (n : Node) → Has plane n ↔ IsOpenedAt job feature z n
all_opened job feature z plane k end are n = (
  λ has. are.opened n has,
  λ (s, (m, below, at), opens). are.whole m s n (omega arith) below at opens,
)

-- heights, computed
pub lowest_value : (floor under bottom sum sum' bottom' most : ℤ) → sum ≡ floor +ℤ under → sum' ≡ sum → bottom' ≡ bottom → most ≡ int_max sum' bottom' → most ≡ int_max (floor +ℤ under) bottom
lowest_value floor under bottom sum sum' bottom' most a b c d = rw (d, b, a, c) refl

-- a step of an equal list, at its index
pub record IsStepAt (steps : List StepJob) (k : ℕ) (step : StepJob) : Type 0 where
  pub inside : k < length steps
  pub is : step ≡ get_or steps k step

pub step_at : (xs steps : List StepJob) (k : ℕ) (step : StepJob) → xs ≡ steps → k < length xs → step ≡ get_or xs k step → IsStepAt steps k step
step_at xs steps k step same inside is = subst (λ ys. IsStepAt ys k step) same (record { inside = inside; is = is })

-- The first unreached cell of a feature.

-- what is known where it is looked for: the step d has the least bottom allowance, and no required cell is below z
pub record IsSearching (job : Job) (g : Grid) (feature : ℕ) (d : StepJob) (z : ℤ) : Type 0 where
  pub rule : IsJob job
  pub grid_rule : IsGrid g
  pub of : IsGridOf g job
  pub least : HasLeastUnder job feature d
  pub lowest : z ≡ lowest_of_heights d g

pub least_under : (job : Job) (feature : ℕ) (d : StepJob) (steps : List StepJob) → steps ≡ job.steps → IsLeast steps feature Under d → HasLeastUnder job feature d
least_under job feature d steps same is =
    let of : IsLeast job.steps feature Under d = subst (λ xs. IsLeast xs feature Under d) same is in
    record {
      of_feature = record { executed = of.among; cuts = of.cuts };
      least = λ other other_of. of.least other other_of.executed (other_of.cuts ∙ sym of.cuts);
    }

from_to : (z floor floor' bottom low top top' high c above : ℤ) (under under' : ℕ) → z ≡ int_max (floor +ℤ pos under) bottom → above ≡ int_min top high → bottom ≡ low
    → floor' ≡ floor → under' ≡ under → top' ≡ top
    → low ≤ℤ c → c <ℤ high → (floor' +ℤ pos under') ≤ℤ c → c <ℤ top' → (z ≤ℤ c) × (c <ℤ above)
from_to z floor floor' bottom low top top' high c above under under' a b d e f g h i j k = (omega (arith, sums, clamps), omega (arith, sums, clamps))

-- required cells are from z up, and below the top
pub required_heights : (job : Job) (g : Grid) (feature : ℕ) (d : StepJob) (z above : ℤ) (c : Cell) → IsSearching job g feature d z → above ≡ above_heights d g
    → IsRequiredCell job feature c → (z ≤ℤ c.z) × (c.z <ℤ above)
required_heights job g feature d z above c s top required =
    let least = s.least in
    let other = required.least in
    let alike = s.rule.features required.deepest d other.of_feature.executed least.of_feature.executed (other.of_feature.cuts ∙ sym least.of_feature.cuts) in
    let a = other.least d least.of_feature in
    let b = least.least required.deepest other.of_feature in
    from_to z d.floor required.deepest.floor g.bottom job.low.z d.top required.deepest.top g.top c.z above d.under required.deepest.under s.lowest top s.of.heights.0 alike.floor (omega arith) alike.top
    required.raw.above (subst (λ h. c.z <ℤ h) (sym s.of.heights.1) required.raw.below) required.height.above required.height.below

high_enough : (z floor bottom low top high htop above : ℤ) (under : ℕ) → z ≡ int_max (floor +ℤ pos under) bottom → above ≡ int_min top htop → bottom ≡ low → htop ≡ high → z <ℤ above
    → (low ≤ℤ z) × (z <ℤ high) × ((floor +ℤ pos under) ≤ℤ z) × (z <ℤ top)
high_enough z floor bottom low top high htop above under a b c d e =
    (omega (arith, sums, clamps), omega (arith, sums, clamps), omega (arith, sums, clamps), omega (arith, sums, clamps))

abbrev pub cell_over : Node → ℤ → Cell
cell_over n z = record { i = n.i; j = n.j; z = z }

pub required_at : (job : Job) (g : Grid) (feature : ℕ) (d : StepJob) (z above : ℤ) (n : Node) → IsSearching job g feature d z → above ≡ above_heights d g → z <ℤ above
    → IsRequiredNode job feature n → IsRequiredCell job feature (cell_over n z)
required_at job g feature d z above n s top below (step, least, required) =
    let h = high_enough z d.floor g.bottom job.low.z d.top job.high.z g.top above d.under s.lowest top s.of.heights.0 s.of.heights.1 below in
    record {
      raw = record { node = required.raw; above = h.0; below = h.1 };
      node = (step, least, required);
      deepest = d;
      least = s.least;
      height = record { above = h.2; below = h.3 };
    }

opened_above : (job : Job) (feature : ℕ) (z : ℤ) (c : Cell) → z ≤ℤ c.z → IsOpenedAt job feature z (node_of c) → IsReachedCell job feature c
opened_above job feature z c above (step, executed, ((cuts, full), opening)) =
    (step, record { executed = executed; cuts = cuts }, record { node = opening; height = up (full_width_from step) z c.z full above })
  where
    up : (a b c : ℤ) → a ≤ℤ b → b ≤ℤ c → a ≤ℤ c
    up a b c h k = omega (arith, sums)

pub all_reached : (job : Job) (g : Grid) (feature : ℕ) (d : StepJob) (z above : ℤ) (required reached : Plane) → IsSearching job g feature d z → above ≡ above_heights d g
    → AreRequired required job feature → ((n : Node) → Has reached n ↔ IsOpenedAt job feature z n) → ((n : Node) → Has required n → Has reached n)
    → IsReachedFeature job feature
all_reached job g feature d z above required reached s top are opened all c cell_required =
    let low = (required_heights job g feature d z above c s top cell_required).0 in
    opened_above job feature z c low ((opened (node_of c)).0 (all (node_of c) ((are.nodes (node_of c)).1 cell_required.node)))

pub nothing_required : (job : Job) (g : Grid) (feature : ℕ) (d : StepJob) (z above : ℤ) → IsSearching job g feature d z → above ≡ above_heights d g → above ≤ℤ z
    → IsReachedFeature job feature
nothing_required job g feature d z above s top end c required =
    let h = required_heights job g feature d z above c s top required in
    absurd (past z c.z above h.0 h.1 end)
  where
    past : (z c above : ℤ) → z ≤ℤ c → c <ℤ above → above ≤ℤ z → ⊥
    past z c above a b d = omega (arith, sums)

-- the cell at height z over the first required node that is not opened there is the first unreached one
pub first_cell : (job : Job) (g : Grid) (feature : ℕ) (d : StepJob) (z above i j : ℤ) (column row : ℕ) (required reached : Plane)
    → IsSearching job g feature d z → above ≡ above_heights d g → z <ℤ above → required.grid ≡ g
    → AreRequired required job feature → ((n : Node) → Has reached n ↔ IsOpenedAt job feature z n) → IsFirstAlone required reached column row
    → i ≡ g.i0 +ℤ pos column → j ≡ g.j0 +ℤ pos row → IsFirst (IsUnreached job feature) (record { i = i; j = j; z = z })
first_cell job g feature d z above i j column row required reached s top below same are opened first i_is j_is =
    let n : Node = node_at required.grid column row in
    let here : node i j ≡ n = same_place i _ j _ (i_is ∙ ap (λ (h : Grid). h.i0 +ℤ pos column) (sym same)) (j_is ∙ ap (λ (h : Grid). h.j0 +ℤ pos row) (sym same)) in
    let alone : IsAlone required reached (node i j) = subst (λ m. IsAlone required reached m) (sym here) first.in_row.alone in
    record {
      holds = record {
        required = required_at job g feature d z above (node i j) s top below ((are.nodes (node i j)).0 alone.0);
        unreached = λ (step, of, opens). alone.1 ((opened (node i j)).1 (step, of.executed, ((of.cuts, opens.height), opens.node)));
      };
      first = λ other out before.
          let low = (required_heights job g feature d z above other s top out.required).0 in
          let has = (are.nodes (node_of other)).1 out.required.node in
          let alone' : IsAlone required reached (node_of other) = (has, λ there. out.unreached (opened_above job feature z other low ((opened (node_of other)).0 there))) in
          let at = at_window required.grid (node_of other) has.in_window in
          let moved = subst (λ m. IsAlone required reached m) at.is alone' in
          let c' = column_of required.grid (node_of other) in
          let r' = row_of required.grid (node_of other) in
          let other_i : other.i ≡ required.grid.i0 +ℤ pos c' = ap (λ m. m.i) at.is in
          let other_j : other.j ≡ required.grid.j0 +ℤ pos r' = ap (λ m. m.j) at.is in
          let own_i : i ≡ required.grid.i0 +ℤ pos column = i_is ∙ ap (λ (h : Grid). h.i0 +ℤ pos column) (sym same) in
          let own_j : j ≡ required.grid.j0 +ℤ pos row = j_is ∙ ap (λ (h : Grid). h.j0 +ℤ pos row) (sym same) in
          ⊎_elim (λ (row_before : other.j <ℤ j). first.earlier c' r' at.column_in (less required.grid.j0 other.j j r' row other_j own_j row_before) moved)
          (λ (rest : (other.j ≡ j) × ((other.i <ℤ i) ⊎ ((other.i ≡ i) × (other.z <ℤ z)))).
          ⊎_elim
          (λ (column_before : other.i <ℤ i).
          let row_is : r' ≡ row = equal required.grid.j0 other.j j r' row other_j own_j rest.0 in
          first.in_row.first c' (less required.grid.i0 other.i i c' column other_i own_i column_before) (subst (λ r. IsAlone required reached (node_at required.grid c' r)) row_is moved))
          (λ (lower : (other.i ≡ i) × (other.z <ℤ z)). below_itself z other.z low lower.1) rest.1) before;
    }
  where
    less : (first a b : ℤ) (k m : ℕ) → a ≡ first +ℤ pos k → b ≡ first +ℤ pos m → a <ℤ b → k < m
    less first a b k m e f h = omega (arith, ints)

    equal : (first a b : ℤ) (k m : ℕ) → a ≡ first +ℤ pos k → b ≡ first +ℤ pos m → a ≡ b → k ≡ m
    equal first a b k m e f h = omega (arith, ints)

    below_itself : (z c : ℤ) → z ≤ℤ c → c <ℤ z → ⊥
    below_itself z c a b = omega (arith, sums)

pub passed_cell : (P : Cell → Type 0) (i j z i' j' z' : ℤ) → i' ≡ i → j' ≡ j → z' ≡ z → IsFirst P (record { i = i; j = j; z = z }) → IsFirst P (record { i = i'; j = j'; z = z' })
passed_cell P i j z i' j' z' a b e first = rw (a, b, e) first

-- tests of numbers that were passed on
le_from : (a b : ℤ) → le_z a b ≡ true → a ≤ℤ b
le_from a b test = grind (arith, ints)

lt_from_not : (a b : ℤ) → le_z a b ≡ false → b <ℤ a
lt_from_not a b test = grind (arith, ints)

pub at_most : (a b a' b' : ℤ) → a' ≡ a → b' ≡ b → le_z a' b' ≡ true → a ≤ℤ b
at_most a b a' b' e f test = subst (λ x. x ≤ℤ b) e (subst (λ x. a' ≤ℤ x) f (le_from a' b' test))

pub less_than : (a b a' b' : ℤ) → a' ≡ a → b' ≡ b → le_z a' b' ≡ false → b <ℤ a
less_than a b a' b' e f test = subst (λ x. b <ℤ x) e (subst (λ x. x <ℤ a') f (lt_from_not a' b' test))

pub again_in : (xs steps : List StepJob) (k feature : ℕ) → xs ≡ steps → Any (λ (s : StepJob). s.feature ≡ feature) (take k xs) → Any (λ (s : StepJob). s.feature ≡ feature) (take k steps)
again_in xs steps k feature same some = subst (λ ys. Any (λ (s : StepJob). s.feature ≡ feature) (take k ys)) same some
