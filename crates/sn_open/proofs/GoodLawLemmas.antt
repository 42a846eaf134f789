-- The laws of good programs.
use Rattle.std.proofs.Common.{ℕ, zero, suc, ◌≡◌, inl, inr, ⊎_elim, Some, List, [], ◌∷◌, ◌++◌, length, slice_get, ℤ, pos, ◌+ℤ◌, ◌≤ℤ◌, ◌<ℤ◌, refl, sym, ap, subst, arith}
use Rattle.std.specs.Prelude.{Contains}
use Rattle.std.specs.Int.{int_min}
use Rattle.std.proofs.lemmas.Int.{int_min_is}
use Rattle.sn_geom.proofs.Ring.{sums}
use Rattle.sn_geom.proofs.Touching.{touch_by_height_and_plan}
use Rattle.sn_geom.specs.Block.{Block, lines_of}
use Rattle.sn_geom.specs.Machine.{start}
use Rattle.sn_geom.specs.Sweep.{Touch, IsHorizontalOrVertical}
use Rattle.sn_geom.specs.declared.units.Cell.{Cell}
use Rattle.sn_geom.specs.declared.units.Pt3.{Pt3}
use Rattle.sn_outline.specs.Job.{Job}
use Rattle.sn_outline.specs.declared.job.StepJob.{StepJob}
use Rattle.sn_raster.specs.Heights.{low_end}
use Rattle.sn_open.specs.Region.{IsAllowed}
use Rattle.sn_geom.specs.Acts.{Act, RunsTo}
use Rattle.sn_geom.specs.Acts.Act.{Rapid, Feed, End}
use Rattle.sn_open.specs.Good.{IsCurrent, IsLeft, IsShallow, IsRightFeed, IsRight, IsRightRapid, AreGood}
use Rattle.sn_geom.specs.LineText.{LineText}
use Rattle.sn_geom.specs.Meaning.{AreBlocks}
use Rattle.sn_open.specs.GoodLaws.{over, CurrentStepIsMarked, GoodRapidsAreClear, GoodFeedsStayAllowed, GoodProgramsMoveClear, GoodProgramsAreRead}

-- Good programs.

pub good_rapids_are_clear : GoodRapidsAreClear
good_rapids_are_clear job before after from to tool = (
  λ strange good.
      let right : IsRightRapid job before from to tool = good.right before (Rapid from to tool) after refl in
      let first = right.tool_is.first in
      let last = right.tool_is.last in
      ⊎_elim (λ none. absurd (omega arith)) (λ beyond. absurd (omega arith)) strange,
  λ step c executed own left touch good.
      let right : IsRightRapid job before from to tool = good.right before (Rapid from to tool) after refl in
      right.clear step executed own c left touch,
)

current_is : (job : Job) (before : List Act) (s t : StepJob) → IsCurrent job before s → IsCurrent job before t → s ≡ t
current_is job before s t (k, count, is) (l, count', is') =
    let same : k ≡ l = omega arith in
    let moved = subst (λ n. slice_get job.steps n ≡ Some s) same is in
    cc

not_both_lower : (a b z : ℤ) (e depth : ℕ) → z <ℤ (a +ℤ pos e +ℤ pos depth) → z <ℤ (b +ℤ pos e +ℤ pos depth)
    → (int_min a b +ℤ pos e +ℤ pos depth) ≤ℤ z → ⊥
not_both_lower a b z e depth from_a from_b deep = let m = int_min_is a b in omega (arith, sums)

pub good_feeds_stay_allowed : GoodFeedsStayAllowed
good_feeds_stay_allowed job before after from to feed speed tool step c own left touch =
    let right : AreGood job (before ++ Feed from to feed speed tool ∷ after) → IsRightFeed job before from to feed speed tool =
    (λ good. good.right before (Feed from to feed speed tool) after refl) in (
      λ forbidden good.
          let r = right good in
          let same = current_is job before r.step step r.current own in
          let met = subst (λ (s : StepJob). Touch s.body.d from to (low_end job.pitch c)) (sym same) touch in
          let allowed : IsAllowed job step c = subst (λ s. IsAllowed job s c) same (r.allowed c left met) in
          ⊎_elim (λ beside. beside allowed.node) (λ below. below allowed.height) forbidden,
      λ sideways deep good.
          let r = right good in
          let same = current_is job before r.step step r.current own in
          let met = subst (λ (s : StepJob). Touch s.body.d from to (low_end job.pitch c)) (sym same) touch in
          ⊎_elim sideways
          (λ shallow.
          let shallow' = subst (λ s. IsShallow s from to c) same (shallow c left met) in
          not_both_lower from.z to.z c.z step.body.e step.axial shallow'.0 shallow'.1 deep)
          r.shallow,
    )

-- The current step.

at_length : (front back : List StepJob) (step : StepJob) → slice_get (front ++ step ∷ back) (length front) ≡ Some step
at_length [] back step = refl
at_length (s ∷ front) back step = at_length front back step

split_at : (steps : List StepJob) (k : ℕ) (step : StepJob) → slice_get steps k ≡ Some step
    → (front : List StepJob) × (back : List StepJob) × (steps ≡ front ++ step ∷ back) × (length front ≡ k)
split_at [] k step is = absurd (cc)
split_at (s ∷ steps) zero step is = ([], steps, (let same : s ≡ step = cc in ap (λ (t : StepJob). t ∷ steps) same), refl)
split_at (s ∷ steps) (suc k) step is =
    let (front, back, all, count) = split_at steps k step is in (s ∷ front, back, ap (λ (ts : List StepJob). s ∷ ts) all, ap suc count)

pub current_step_is_marked : CurrentStepIsMarked
current_step_is_marked job before step = (
  λ (k, count, is). let (front, back, all, same) = split_at job.steps k step is in (front, back, all, omega (arith, count, same)),
  λ (front, back, all, count). (
    length front,
    count,
    subst (λ (steps : List StepJob). slice_get steps (length front) ≡ Some step) (sym all) (at_length front back step),
  ),
)

never_ends : (blocks : List Block) (acts : List Act) → AreBlocks [] blocks → RunsTo start blocks acts → Contains acts End → ⊥
never_ends [] acts says runs (k, below, is) = let h = ap length runs in omega arith
never_ends (b ∷ bs) acts says runs ends = says

read_each : (lines : List (List ℕ)) (blocks : List Block) (line : List ℕ) → AreBlocks lines blocks → Contains lines line → (b : Block) × LineText line b
read_each [] blocks line says (k, below, is) = absurd (omega arith)
read_each (l ∷ ls) [] line says inside = absurd says
read_each (l ∷ ls) (b ∷ bs) line says (zero, below, is) = (b, subst (λ text. LineText text b) is says.0)
read_each (l ∷ ls) (b ∷ bs) line says (suc k, below, is) = read_each ls bs line says.1 (k, omega arith, is)

pub good_programs_are_read : GoodProgramsAreRead
good_programs_are_read job line program = (
  λ (acts, means, good). never_ends means.blocks acts means.says means.runs good.ends,
  λ silent inside (acts, means, good). let (b, says) = read_each (lines_of program) means.blocks line means.says inside in silent b says,
)

-- Motions over the raw box.

over_top : (top sec a b z : ℤ) → top ≤ℤ sec → sec ≤ℤ a → sec ≤ℤ b → int_min a b ≤ℤ z → z <ℤ top → ⊥
over_top top sec a b z secure from to low below = let m = int_min_is a b in omega (arith, sums)

-- a motion in height or in the plane whose ends are not below the security height touches nothing
nothing_touched : (job : Job) (acts : List Act) (d : ℕ) (a b : Pt3) (c : Cell) → IsHorizontalOrVertical a b → job.high.z ≤ℤ job.sec
    → job.sec ≤ℤ a.z → job.sec ≤ℤ b.z → IsLeft job acts c → ¬ Touch d a b (low_end job.pitch c)
nothing_touched job acts d a b c straight secure from to left touch =
    over_top job.high.z job.sec a.z b.z c.z secure from to ((touch_by_height_and_plan d a b (low_end job.pitch c) straight).0 touch).0 left.raw.below

pub good_programs_move_clear : GoodProgramsMoveClear
good_programs_move_clear job before after act secure good = record {
  enters = λ z is d p from c high left.
      let right : job.sec ≤ℤ z = subst (λ (a : Act). IsRight job before a) is (good.right before act after refl) in
      nothing_touched job before d (over p from) (over p z) c (inr (refl, refl)) secure high right left;
  locates = λ to is d from c left.
      let right : job.sec ≤ℤ to.z = subst (λ (a : Act). IsRight job before a) is (good.right before act after refl) in
      nothing_touched job before d (over from to.z) to c (inl refl) secure right right left;
  moves = λ from to tool is step c executed own left.
      let right : IsRightRapid job before from to tool = subst (λ (a : Act). IsRight job before a) is (good.right before act after refl) in
      right.clear step executed own c left;
}
