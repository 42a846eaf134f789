-- How many cells moves take away.
use Rattle.std.proofs.Common.{ℕ, zero, suc, ◌≡◌, ◌+◌, ◌-◌, ◌<◌, ◌≤◌, ◌↔◌, ◌⊎◌, inl, inr, ⊎_elim, ◌==◌, if◌then◌else◌, List, [], ◌++◌, refl, sym, ap, subst, ◌∙◌, append-nil, arith}
use Rattle.std.proofs.lemmas.Bool.{cases_eq, cases_lt, eq-eqb, ne_eqb}
use Rattle.sn_geom.specs.declared.units.Cell.{Cell}
use Rattle.sn_geom.specs.declared.tip.Tip.{Tip}
use Rattle.sn_outline.specs.Job.{Job}
use Rattle.sn_outline.specs.declared.job.StepJob.{StepJob}
use Rattle.sn_raster.specs.Heights.{AreNumbered, HasCell, HeightMap, IsCount, IsMaterial, Pass, StandsFor}
use Rattle.sn_raster.specs.HeightLaws.{CutStaysCut}
use Rattle.sn_link.specs.declared.moves.Move.{Move}
use Rattle.sn_link.specs.Counts.{IsRemoved}
use Rattle.sn_link.specs.Plan.{passes_by}

-- Different numbers below another are at most as many.

-- f gives each number below m a number below n of its own
pub record AreApart (m n : ℕ) (f : ℕ → ℕ) : Type 0 where
  pub below : (k : ℕ) → k < m → f k < n
  pub apart : (k l : ℕ) → k < m → l < m → f k ≡ f l → k ≡ l

-- f, with its value at m where it is n
abbrev without : ℕ → ℕ → (ℕ → ℕ) → ℕ → ℕ
without m n f k = if f k == n then f m else f k

without_here : (m n : ℕ) (f : ℕ → ℕ) (k : ℕ) → f k ≡ n → without m n f k ≡ f m
without_here m n f k is = rw (eq-eqb (f k) n is) refl

without_there : (m n : ℕ) (f : ℕ → ℕ) (k : ℕ) → (¬ (f k ≡ n)) → without m n f k ≡ f k
without_there m n f k other = rw (ne_eqb (f k) n other) refl

-- a number below another and the other itself are not the same
not_itself : (k m : ℕ) → k < m → k ≡ m → ⊥
not_itself k m below same = omega arith

less : (a n : ℕ) → a < suc n → (¬ (a ≡ n)) → a < n
less a n below other = omega (arith, other)

more : (k m : ℕ) → k < m → k < suc m
more k m below = omega arith

last : (m : ℕ) → m < suc m
last m = omega arith

module _ (m n : ℕ) (f : ℕ → ℕ) (are : AreApart (suc m) (suc n) f) where
  -- m has a value of its own
  other_value : (k : ℕ) → k < m → f k ≡ f m → ⊥
  other_value k below same = not_itself k m below (are.apart k m (more k m below) (last m) same)

  below_without : (k : ℕ) → k < m → without m n f k < n
  below_without k below =
      ⊎_elim
      (λ is. subst (λ v. v < n) (sym (without_here m n f k is)) (less (f m) n (are.below m (last m)) (λ here. other_value k below (is ∙ sym here))))
      (λ other. subst (λ v. v < n) (sym (without_there m n f k other)) (less (f k) n (are.below k (more k m below)) other))
      (cases_eq (f k) n)

  apart_without : (k l : ℕ) → k < m → l < m → without m n f k ≡ without m n f l → k ≡ l
  apart_without k l below below' same =
      ⊎_elim
      (λ is.
      ⊎_elim
      (λ is'. are.apart k l (more k m below) (more l m below') (is ∙ sym is'))
      (λ other'. absurd (other_value l below' (sym (sym (without_here m n f k is) ∙ same ∙ without_there m n f l other'))))
      (cases_eq (f l) n))
      (λ other.
      ⊎_elim
      (λ is'. absurd (other_value k below (sym (without_there m n f k other) ∙ same ∙ without_here m n f l is')))
      (λ other'. are.apart k l (more k m below) (more l m below') (sym (without_there m n f k other) ∙ same ∙ without_there m n f l other'))
      (cases_eq (f l) n))
      (cases_eq (f k) n)

  are_apart_without : AreApart m n (without m n f)
  are_apart_without = record { below = below_without; apart = apart_without }

none_below : (f : ℕ → ℕ) (m : ℕ) → AreApart (suc m) zero f → ⊥
none_below f m are = let here = are.below m (last m) in omega (arith, here)

at_most : (n m : ℕ) (f : ℕ → ℕ) → AreApart m n f → m ≤ n
at_most n zero f are = omega arith
at_most zero (suc m) f are = absurd (none_below f m are)
at_most (suc n) (suc m) f are = let before = at_most n m (without m n f) (are_apart_without m n f are) in omega (arith, before)

-- Counts.

module _ (P Q : Cell → Type 0) (m n : ℕ) (number number' : Cell → ℕ) (are : AreNumbered P m number) (are' : AreNumbered Q n number') (part : (c : Cell) → P c → Q c) where
  -- the other number of the cell with a number
  value : (k : ℕ) → (k < m) ⊎ (m ≤ k) → ℕ
  value k (inl below) = number' (are.each k below).0
  value k (inr over) = 0

  pub record IsValue (k v : ℕ) : Type 0 where
    pub cell : Cell
    pub holds : P cell
    pub number_is : number cell ≡ k
    pub value_is : v ≡ number' cell

  is_value : (k : ℕ) (where_it_is : (k < m) ⊎ (m ≤ k)) → k < m → IsValue k (value k where_it_is)
  unfolding value
  is_value k (inl below) h = let it = are.each k below in record { cell = it.0; holds = it.1; number_is = it.2; value_is = refl }
  is_value k (inr over) h = absurd (omega (arith, over, h))

  value_of : ℕ → ℕ
  value_of k = value k (cases_lt k m)

  of_value : (k : ℕ) → k < m → IsValue k (value_of k)
  unfolding value_of
  of_value k below = is_value k (cases_lt k m) below

  value_below : (k : ℕ) → k < m → value_of k < n
  value_below k below = let it = of_value k below in subst (λ v. v < n) (sym it.value_is) (are'.below it.cell (part it.cell it.holds))

  value_apart : (k l : ℕ) → k < m → l < m → value_of k ≡ value_of l → k ≡ l
  value_apart k l below below' same =
      let it = of_value k below in
      let other = of_value l below' in
      let cells = are'.apart it.cell other.cell (part it.cell it.holds) (part other.cell other.holds) (sym it.value_is ∙ same ∙ other.value_is) in
      sym it.number_is ∙ ap number cells ∙ other.number_is

  part_is_less : m ≤ n
  part_is_less = at_most n m value_of (record { below = value_below; apart = value_apart })

-- a part of some cells has at most as many
part_at_most : (P Q : Cell → Type 0) (m n : ℕ) → IsCount P m → IsCount Q n → ((c : Cell) → P c → Q c) → m ≤ n
part_at_most P Q m n (number, are) (number', are') part = part_is_less P Q m n number number' are are' part

-- the same cells have the same count
same_count : (P Q : Cell → Type 0) (n : ℕ) → ((c : Cell) → P c ↔ Q c) → IsCount P n → IsCount Q n
same_count P Q n same (number, are) = (
  number,
  record {
    below = λ c q. are.below c ((same c).1 q);
    apart = λ c d q r. are.apart c d ((same c).1 q) ((same d).1 r);
    each = λ k below. let it = are.each k below in (it.0, (same it.0).0 it.1, it.2);
  },
)

-- Material.

-- what is left of heights after passes is not more than before
pub left_at_most : CutStaysCut → (job : Job) (passes later : List Pass) (before after : HeightMap) (m n : ℕ) → StandsFor before job passes → StandsFor after job (passes ++ later)
    → IsCount (HasCell before) m → IsCount (HasCell after) n → n ≤ m
left_at_most stays job passes later before after m n start end all rest =
    part_at_most (HasCell after) (HasCell before) n m rest all (λ c has. (start.cells c).1 (stays job passes later c ((end.cells c).0 has)))

pub removed_by : (job : Job) (step : StepJob) (passes : List Pass) (tip : Tip) (moves : List Move) (before after : HeightMap) (m n cells : ℕ) → StandsFor before job passes
    → StandsFor after job (passes ++ passes_by step.body tip moves) → IsCount (HasCell before) m → IsCount (HasCell after) n → cells + n ≡ m
    → IsRemoved job step passes tip moves cells
removed_by job step passes tip moves before after m n cells start end all rest taken = record {
  before = m;
  after = n;
  all = same_count (HasCell before) (IsMaterial job passes) m start.cells all;
  rest = same_count (HasCell after) (IsMaterial job (passes ++ passes_by step.body tip moves)) n end.cells rest;
  taken = taken;
}

-- no moves take nothing away
pub none_removed : (job : Job) (step : StepJob) (passes : List Pass) (tip : Tip) (moves : List Move) (map : HeightMap) (m : ℕ) → moves ≡ [] → StandsFor map job passes
    → IsCount (HasCell map) m → IsRemoved job step passes tip moves 0
none_removed job step passes tip moves map m none stands all =
    let here : passes ++ passes_by step.body tip moves ≡ passes = ap (λ ms. passes ++ passes_by step.body tip ms) none ∙ append-nil passes in
    removed_by job step passes tip moves map map m m 0 stands (subst (StandsFor map job) (sym here) stands) all all (omega arith)

pub taken_of : (m n : ℕ) → n ≤ m → (m - n) + n ≡ m
taken_of m n less = omega (arith, less)
