-- Moves of layers are safe where the whole tool is over allowed nodes along the strokes, and leave nothing under the strokes over
-- where the tool cuts with its whole diameter. Each lemma says so of some moves and of the rest of the moves after them.
use Rattle.std.proofs.Common.{ℕ, ◌≡◌, ◌⊎◌, inl, inr, ⊎_elim, List, [], ◌∷◌, ◌++◌, ℤ, pos, ◌+ℤ◌, ◌-ℤ◌, ◌≤ℤ◌, ◌<ℤ◌, refl, sym, ap, subst, arith, append_assoc}
use Rattle.std.specs.Int.{int_min}
use Rattle.std.proofs.lemmas.Int.{int_min_is, by_lt_z}
use Rattle.std.proofs.lemmas.List.Elements.{Contains-append_left, Contains-push}
use Rattle.sn_geom.proofs.Ring.{sums}
use Rattle.sn_geom.proofs.Nearness.{near_at_start, near_either_way, near_one_place}
use Rattle.sn_geom.proofs.Touching.{touch_by_height_and_plan}
use Rattle.sn_geom.specs.Sweep.{Near, IsHorizontalOrVertical}
use Rattle.sn_geom.specs.declared.limits.TheConstants.{GAP, REACH}
use Rattle.sn_geom.specs.declared.units.Cell.{Cell}
use Rattle.sn_geom.specs.declared.units.Pt.{Pt}
use Rattle.sn_geom.specs.declared.units.Pt3.{Pt3}
use Rattle.sn_geom.specs.declared.tip.Tip.{Tip}
use Rattle.sn_geom.specs.declared.tip.Tip.TheVariants.{Unknown, Height, At}
use Rattle.sn_outline.specs.Job.{Job, tip_floor}
use Rattle.sn_outline.specs.declared.job.Bottom.{Bottom}
use Rattle.sn_outline.specs.declared.job.Bottom.TheVariants.{Flat, Conical, Through}
use Rattle.sn_outline.specs.declared.job.StepJob.{StepJob}
use Rattle.sn_raster.specs.Grid.{Node, place, InDisc}
use Rattle.sn_raster.specs.Heights.{node_of, low_end, Pass, IsCutBy, IsMaterial}
use Rattle.sn_open.specs.Region.{InAllowed, IsAllowedHeight}
use Rattle.sn_open.specs.declared.stroke.Stroke.{Stroke}
use Rattle.sn_link.specs.declared.moves.Move.{Move}
use Rattle.sn_link.specs.declared.moves.Move.TheVariants.{Rapid, Feed}
use Rattle.sn_link.specs.Moves.{over, made, approach, lift, tip_after_moves, AreStraight}
use Rattle.sn_link.specs.Layers.{IsFreeWay, IsLink, AreStrokeMoves, IsLayer, AreLayerMoves}
use Rattle.sn_link.specs.Plan.{passes_by}
use Rattle.sn_link.specs.Safe.{IsClearWay, IsSafeWay, AreSafe, IsAtSecurity}
use Rattle.sn_link.proofs.MovesLemmas.{same_is, leaves, made_cases}
use Rattle.sn_link.proofs.WayLemmas.{not_lower, touched, touches, clear_over}

-- Heights.

not_over_itself : (z : ℤ) → z ≤ℤ z
not_over_itself z = omega (arith, sums)

higher : (low high : ℤ) → low <ℤ high → high ≡ low → ⊥
higher low high below e = omega (arith, sums)

-- what is not under the start of the feed is over the material or over the raw box
none_met : (above sec top z : ℤ) → top ≤ℤ sec → z <ℤ above → z <ℤ top → int_min sec (int_min sec (above +ℤ pos GAP)) ≤ℤ z → ⊥
none_met above sec top z safe low below reached =
    let m = int_min_is sec (above +ℤ pos GAP) in
    let n = int_min_is sec (int_min sec (above +ℤ pos GAP)) in
    omega (arith, sums)

-- the end of the feed down, less the length of the point
cut_from : (tip from e z : ℤ) → (tip +ℤ e) ≤ℤ z → int_min from tip ≤ℤ (z -ℤ e)
cut_from tip from e z high = let m = int_min_is from tip in omega (arith, sums)

-- the end of the feed up is not under the tip of the layer
end_over : (tip e reach : ℤ) → pos 0 ≤ℤ e → tip ≤ℤ reach → tip ≤ℤ int_min (tip +ℤ e) reach
end_over tip e reach some within = let m = int_min_is (tip +ℤ e) reach in omega (arith, sums)

-- a step may cut from its tip floor up
height_by : (step : StepJob) (z : ℤ) (bottom : Bottom) → step.bottom ≡ bottom → tip_floor step ≤ℤ z → IsAllowedHeight step z
height_by step z Flat e high = rw e (rw e at high)
height_by step z Conical e high = rw e (rw e at high)
height_by step z Through e high = rw e tt

low_enough : (z above depth : ℤ) → z <ℤ above → above ≤ℤ depth → z <ℤ depth
low_enough z above depth low shallow = omega (arith, sums)

level_from : (tip e z : ℤ) → (tip +ℤ e) ≤ℤ z → int_min tip tip ≤ℤ (z -ℤ e)
level_from tip e z high = let m = int_min_is tip tip in omega (arith, sums)

starts_higher : (tip above sec : ℤ) → tip <ℤ sec → tip <ℤ above → tip <ℤ int_min sec (above +ℤ pos GAP)
starts_higher tip above sec safe under = let m = int_min_is sec (above +ℤ pos GAP) in omega (arith, sums)

-- what is under the end of the feed up, and not over the raw box, is not met from there up
none_met_up : (full reach sec top z : ℤ) → sec ≤ℤ reach → top ≤ℤ sec → z <ℤ full → z <ℤ top → int_min (int_min full reach) sec ≤ℤ z → ⊥
none_met_up full reach sec top z within safe low below met =
    let m = int_min_is full reach in
    let n = int_min_is (int_min full reach) sec in
    omega (arith, sums)

not_over_reach : (tip sec reach : ℤ) → tip <ℤ sec → sec ≤ℤ reach → tip ≤ℤ reach
not_over_reach tip sec reach safe within = omega (arith, sums)

not_negative : (e : ℕ) → pos 0 ≤ℤ pos e
not_negative e = omega (arith, sums)

low_or_high : (z full : ℤ) → (full ≤ℤ z → ⊥) → z <ℤ full
low_or_high z full none = by_lt_z z full (λ low. low) (λ high. absurd (none high))

-- What is left.

-- what is left over some nodes is under a height
abbrev pub IsLow : Job → List Pass → (Node → Type 0) → ℤ → Type 0
IsLow job passes N z = (c : Cell) → IsMaterial job passes c → N (node_of c) → c.z <ℤ z

-- later passes leave no more
abbrev pub LeavesNoMore : Job → List Pass → List Pass → Type 0
LeavesNoMore job before later = (c : Cell) → IsMaterial job later c → IsMaterial job before c

pub more_left : (job : Job) (before more : List Pass) → LeavesNoMore job before (before ++ more)
more_left job before more c left = record { raw = left.raw; uncut = λ p inside. left.uncut p (Contains-append_left before more p inside) }

-- moves from a tip after some passes, and what holds of the passes at the end
pub record IsGoodRest (job : Job) (step : StepJob) (Q : List Pass → Type 0) (passes : List Pass) (tip : Tip) (moves : List Move) : Type 0 where
  pub safe : AreSafe job step passes tip moves
  pub straight : AreStraight tip moves
  pub ends : IsAtSecurity job (tip_after_moves tip moves)
  pub after : Q (passes ++ passes_by step.body tip moves)

-- the nodes along a segment, and those under a tool at a place
abbrev pub along : Job → StepJob → Pt → Pt → Node → Type 0
along job step a b n = Near step.body.d a b (place job.pitch n)

abbrev pub under : Job → StepJob → Pt → Node → Type 0
under job step p n = InDisc job.pitch step.body.d p n

pub under_start : (job : Job) (step : StepJob) (a b : Pt) (n : Node) → under job step a n → along job step a b n
under_start job step a b n disc = (0, 1, near_at_start step.body.d a b (place job.pitch n) disc.close)

pub under_end : (job : Job) (step : StepJob) (a b : Pt) (n : Node) → under job step b n → along job step a b n
under_end job step a b n disc = (near_either_way step.body.d b a (place job.pitch n)).0 (under_start job step b a n disc)

-- the nodes along strokes and along the free ways from one to the next
abbrev pub NearRest : Job → StepJob → Stroke → List Stroke → Node → Type 0
NearRest job step stroke [] n = along job step stroke.from stroke.to n
NearRest job step stroke (next ∷ strokes) n =
    along job step stroke.from stroke.to n
    ⊎ ((IsFreeWay job step stroke.to next.from × along job step stroke.to next.from n) ⊎ NearRest job step next strokes n)

abbrev pub NearAny : Job → StepJob → List Stroke → Node → Type 0
NearAny job step [] n = ⊥
NearAny job step (first ∷ strokes) n = NearRest job step first strokes n

-- along each stroke the whole tool is over allowed nodes
abbrev pub AreFree : Job → StepJob → List Stroke → Type 0
AreFree job step [] = Unit {0}
AreFree job step (stroke ∷ strokes) = IsFreeWay job step stroke.from stroke.to × AreFree job step strokes

near_first : (job : Job) (step : StepJob) (stroke : Stroke) (strokes : List Stroke) (n : Node) → along job step stroke.from stroke.to n → NearRest job step stroke strokes n
near_first job step stroke [] n near = near
near_first job step stroke (next ∷ strokes) n near = inl near

-- The heights of a layer: no material is left over above, and it is cut at tip.
pub record IsLayered (job : Job) (step : StepJob) (above tip : ℤ) : Type 0 where
  pub raw_top : job.high.z ≤ℤ job.sec
  pub sec_within : job.sec ≤ℤ pos REACH
  pub over_floor : tip_floor step ≤ℤ tip
  pub under_sec : tip <ℤ job.sec
  pub under_above : tip <ℤ above

-- sideways the tool cuts no deeper than it may
abbrev pub IsShallowLayer : StepJob → ℤ → ℤ → Type 0
IsShallowLayer step above tip = above ≤ℤ (tip +ℤ pos step.body.e +ℤ pos step.axial)

-- along strokes too; a single one may have no length, and then the tool stays where it is
abbrev pub AreShallowFrom : StepJob → ℤ → ℤ → Stroke → List Stroke → Type 0
AreShallowFrom step above tip stroke [] = (stroke.from ≡ stroke.to) ⊎ IsShallowLayer step above tip
AreShallowFrom step above tip stroke (next ∷ strokes) = IsShallowLayer step above tip

abbrev pub AreShallow : StepJob → ℤ → ℤ → List Stroke → Type 0
AreShallow step above tip [] = Unit {0}
AreShallow step above tip (first ∷ strokes) = AreShallowFrom step above tip first strokes

shallow_from : (step : StepJob) (above tip : ℤ) (stroke : Stroke) (strokes : List Stroke) → IsShallowLayer step above tip → AreShallowFrom step above tip stroke strokes
shallow_from step above tip stroke [] shallow = inr shallow
shallow_from step above tip stroke (next ∷ strokes) shallow = shallow

pub all_shallow : (step : StepJob) (above tip : ℤ) (strokes : List Stroke) → IsShallowLayer step above tip → AreShallow step above tip strokes
all_shallow step above tip [] shallow = tt
all_shallow step above tip (first ∷ strokes) shallow = shallow_from step above tip first strokes shallow

-- One move and the rest.

module _ (job : Job) (step : StepJob) (Q : List Pass → Type 0) where
  abbrev IsGood : List Pass → Tip → List Move → Type 0
  IsGood passes tip moves = IsGoodRest job step Q passes tip moves

  abbrev pass : Pt3 → Pt3 → Pass
  pass a b = record { body = step.body; from = a; to = b }

  -- the rest after a feed: it is left out, or what it cuts is gone
  abbrev AfterFeed : List Pass → Pt3 → Pt3 → List Move → Type 0
  AfterFeed before a b rest =
      (later : List Pass) → LeavesNoMore job before later
      → (a ≡ b) ⊎ ((c : Cell) → IsMaterial job later c → ¬ IsCutBy job.pitch (pass a b) c)
      → IsGood later (At b) (made (At b) rest)

  feed_on : (before : List Pass) (a b : Pt3) (rest : List Move) → IsHorizontalOrVertical a b → IsSafeWay job step before a b
      → AfterFeed before a b rest → IsGood before (At a) (made (At a) (Feed b ∷ rest))
  feed_on before a b rest level safe next =
      made_cases (IsGood before (At a)) (At a) (Feed b) rest
      (λ same.
      let e = same_is a b same in
      subst (λ (q : Pt3). IsGood before (At q) (made (At q) rest)) (sym e) (next before (λ c left. left) (inl e)))
      (λ other.
      let good = next (before ++ pass a b ∷ []) (more_left job before (pass a b ∷ []))
      (inr (λ c left. left.uncut (pass a b) (Contains-push before (pass a b)))) in
      record {
        safe = (safe, good.safe);
        straight = (record { moves = leaves a b other; straight = level }, good.straight);
        ends = good.ends;
        after = subst Q (append_assoc before (pass a b ∷ []) (passes_by step.body (At b) (made (At b) rest))) good.after;
      })

  rapid_on : (before : List Pass) (a b : Pt3) (rest : List Move) → IsHorizontalOrVertical a b → IsClearWay job step before a b
      → IsGood before (At b) (made (At b) rest) → IsGood before (At a) (made (At a) (Rapid b ∷ rest))
  rapid_on before a b rest level clear good =
      made_cases (IsGood before (At a)) (At a) (Rapid b) rest
      (λ same. subst (λ (q : Pt3). IsGood before (At q) (made (At q) rest)) (sym (same_is a b same)) good)
      (λ other. record {
        safe = (clear, good.safe);
        straight = (record { moves = leaves a b other; straight = level }, good.straight);
        ends = good.ends;
        after = good.after;
      })

  -- in rapid at the security height
  rapid_above : (before : List Pass) (tip : Tip) (p : Pt) (rest : List Move) → job.high.z ≤ℤ job.sec → IsAtSecurity job tip
      → IsGood before (At (over p job.sec)) (made (At (over p job.sec)) rest) → IsGood before tip (made tip (Rapid (over p job.sec) ∷ rest))
  rapid_above before Unknown p rest top at good = absurd at
  rapid_above before (Height z) p rest top at good = record {
    safe = (not_over_itself job.sec, good.safe);
    straight = (at, good.straight);
    ends = good.ends;
    after = good.after;
  }
  rapid_above before (At a) p rest top at good =
      rapid_on before a (over p job.sec) rest (inl at)
      (clear_over job step before a (over p job.sec) (inl at) (subst (λ z. job.high.z ≤ℤ z) (sym at) top) top) good

-- Safe ways, and what they leave.

module _ (job : Job) (step : StepJob) where
  -- straight up or down, not under the floor
  safe_upright : (before : List Pass) (p : Pt) (a b : ℤ) → tip_floor step ≤ℤ a → tip_floor step ≤ℤ b
      → ((n : Node) → under job step p n → InAllowed job step n) → IsSafeWay job step before (over p a) (over p b)
  safe_upright before p a b over_a over_b free = record {
    over = λ c touch. free (node_of c) (touched step.body.d p a b (low_end job.pitch c) touch).1;
    allowed = λ c left touch.
        let met = touched step.body.d p a b (low_end job.pitch c) touch in
        record { node = free (node_of c) met.1; height = height_by step c.z step.bottom refl (not_lower (tip_floor step) a b c.z over_a over_b met.0) };
    shallow = inl (refl, refl);
  }

  -- along a free way at the tip of a layer
  safe_along : (before : List Pass) (p q : Pt) (above tip : ℤ) → IsLayered job step above tip → (p ≡ q) ⊎ IsShallowLayer step above tip
      → IsFreeWay job step p q → IsLow job before (along job step p q) above → IsSafeWay job step before (over p tip) (over q tip)
  safe_along before p q above tip heights shallow free low = record {
    over = λ c touch.
        free (node_of c) ((touch_by_height_and_plan step.body.d (over p tip) (over q tip) (low_end job.pitch c) (inl refl)).0 touch).1;
    allowed = λ c left touch.
        let met = (touch_by_height_and_plan step.body.d (over p tip) (over q tip) (low_end job.pitch c) (inl refl)).0 touch in
        record {
          node = free (node_of c) met.1;
          height = height_by step c.z step.bottom refl (not_lower (tip_floor step) tip tip c.z heights.over_floor heights.over_floor met.0);
        };
    shallow = ⊎_elim
        (λ (same : p ≡ q). inl (ap (λ (r : Pt). r.x) same, ap (λ (r : Pt). r.y) same))
        (λ depth.
        inr (λ c left touch.
        let met = (touch_by_height_and_plan step.body.d (over p tip) (over q tip) (low_end job.pitch c) (inl refl)).0 touch in
        let under = low_enough c.z above (tip +ℤ pos step.body.e +ℤ pos step.axial) (low c left met.1) depth in
        (under, under))) shallow;
  }

  abbrev full : ℤ → ℤ
  full tip = tip +ℤ pos step.body.e

  -- after a feed along a way, made or left out
  low_along : (before later : List Pass) (p q : Pt) (tip : ℤ) → LeavesNoMore job before later → IsLow job before (under job step p) (full tip)
      → (over p tip ≡ over q tip) ⊎ ((c : Cell) → IsMaterial job later c → ¬ IsCutBy job.pitch (record { body = step.body; from = over p tip; to = over q tip }) c)
      → IsLow job later (along job step p q) (full tip)
  low_along before later p q tip keeps low (inl same) c left near =
      let one : p ≡ q = (λ i. record { x = ap (λ (r : Pt3). r.x) same i; y = ap (λ (r : Pt3). r.y) same i }) in
      let there = subst (λ (r : Pt). along job step p r (node_of c)) (sym one) near in
      low c (keeps c left) ((near_one_place step.body.d p (place job.pitch (node_of c))).0 there)
  low_along before later p q tip keeps low (inr none) c left near =
      low_or_high c.z (full tip) (λ high.
      none c left
      ((touch_by_height_and_plan step.body.d (over p tip) (over q tip) (record (low_end job.pitch c) { z = c.z -ℤ pos step.body.e }) (inl refl)).1
      (level_from tip (pos step.body.e) c.z high, near)))

  -- after a feed down
  low_under : (later : List Pass) (p : Pt) (start tip : ℤ)
      → ((c : Cell) → IsMaterial job later c → ¬ IsCutBy job.pitch (record { body = step.body; from = over p start; to = over p tip }) c)
      → IsLow job later (under job step p) (full tip)
  low_under later p start tip none c left disc =
      low_or_high c.z (full tip) (λ high.
      none c left
      (touches step.body.d p start tip (record (low_end job.pitch c) { z = c.z -ℤ pos step.body.e }) (cut_from tip start (pos step.body.e) c.z high) disc))

-- The parts of a layer and the rest.

module _ (job : Job) (step : StepJob) (Q : List Pass → Type 0) (above tip : ℤ) (heights : IsLayered job step above tip) where
  abbrev IsGoodHere : List Pass → Tip → List Move → Type 0
  IsGoodHere passes from moves = IsGoodRest job step Q passes from moves

  -- where the tool cut with its whole diameter
  abbrev cut : ℤ
  cut = tip +ℤ pos step.body.e

  abbrev IsRoom : Pt → Type 0
  IsRoom p = (n : Node) → under job step p n → InAllowed job step n

  -- at feed along a free way
  along_on : (before : List Pass) (p q : Pt) (rest : List Move) → (p ≡ q) ⊎ IsShallowLayer step above tip → IsFreeWay job step p q
      → IsLow job before (along job step p q) above → IsLow job before (under job step p) cut
      → ((later : List Pass) → LeavesNoMore job before later → IsLow job later (along job step p q) cut
      → IsGoodHere later (At (over q tip)) (made (At (over q tip)) rest))
      → IsGoodHere before (At (over p tip)) (made (At (over p tip)) (Feed (over q tip) ∷ rest))
  along_on before p q rest shallow free low here next =
      feed_on job step Q before (over p tip) (over q tip) rest (inl refl) (safe_along job step before p q above tip heights shallow free low)
      (λ later keeps gone. next later keeps (low_along job step before later p q tip keeps here gone))

  -- where the feed up ends
  abbrev end : ℤ
  end = int_min cut (pos REACH)

  clear_up : (later : List Pass) (p : Pt) → IsLow job later (under job step p) cut → IsClearWay job step later (over p end) (over p job.sec)
  clear_up later p low c left touch =
      let met = touched step.body.d p end job.sec (low_end job.pitch c) touch in
      none_met_up cut (pos REACH) job.sec job.high.z c.z heights.sec_within heights.raw_top (low c left met.1) left.raw.below met.0

  lift_on : (before : List Pass) (p : Pt) (rest : List Move) → IsRoom p → IsLow job before (under job step p) cut
      → ((later : List Pass) → LeavesNoMore job before later → IsGoodHere later (At (over p job.sec)) (made (At (over p job.sec)) rest))
      → IsGoodHere before (At (over p tip)) (made (At (over p tip)) (lift job.sec p tip step.body.e ++ rest))
  lift_on before p rest room low next =
      let within = not_over_reach tip job.sec (pos REACH) heights.under_sec heights.sec_within in
      let over_end = trans_le (tip_floor step) tip end heights.over_floor (end_over tip (pos step.body.e) (pos REACH) (not_negative step.body.e) within) in
      feed_on job step Q before (over p tip) (over p end) (Rapid (over p job.sec) ∷ rest) (inr (refl, refl))
      (safe_upright job step before p tip end heights.over_floor over_end room)
      (λ later keeps gone.
      rapid_on job step Q later (over p end) (over p job.sec) rest (inr (refl, refl))
      (clear_up later p (λ c left disc. low c (keeps c left) disc)) (next later keeps))
    where
      trans_le : (a b c : ℤ) → a ≤ℤ b → b ≤ℤ c → a ≤ℤ c
      trans_le a b c h k = omega (arith, sums)

  -- where the feed down begins
  abbrev start : ℤ
  start = int_min job.sec (above +ℤ pos GAP)

  clear_down : (before : List Pass) (p : Pt) → IsLow job before (under job step p) above → IsClearWay job step before (over p job.sec) (over p start)
  clear_down before p low c left touch =
      let met = touched step.body.d p job.sec start (low_end job.pitch c) touch in
      none_met above job.sec job.high.z c.z heights.raw_top (low c left met.1) left.raw.below met.0

  approach_on : (before : List Pass) (from : Tip) (p : Pt) (rest : List Move) → IsAtSecurity job from → IsRoom p
      → IsLow job before (under job step p) above
      → ((later : List Pass) → LeavesNoMore job before later → IsLow job later (under job step p) cut
      → IsGoodHere later (At (over p tip)) (made (At (over p tip)) rest))
      → IsGoodHere before from (made from (approach job.sec p above tip ++ rest))
  approach_on before from p rest at room low next =
      let high = starts_higher tip above job.sec heights.under_sec heights.under_above in
      let over_start = over_floor_too (tip_floor step) tip start heights.over_floor high in
      rapid_above job step Q before from p (Rapid (over p start) ∷ Feed (over p tip) ∷ rest) heights.raw_top at
      (rapid_on job step Q before (over p job.sec) (over p start) (Feed (over p tip) ∷ rest) (inr (refl, refl)) (clear_down before p low)
      (feed_on job step Q before (over p start) (over p tip) rest (inr (refl, refl))
      (safe_upright job step before p start tip over_start heights.over_floor room)
      (λ later keeps gone.
      next later keeps
      (⊎_elim (λ same. absurd (higher tip start high (ap (λ (q : Pt3). q.z) same))) (λ none. low_under job step later p start tip none) gone))))
    where
      over_floor_too : (floor a b : ℤ) → floor ≤ℤ a → a <ℤ b → floor ≤ℤ b
      over_floor_too floor a b h k = omega (arith, sums)

  -- the rest after a layer or its end: at the security height, and nothing is left over where the tool cut
  abbrev AfterLayer : (Node → Type 0) → List Pass → List Move → Type 0
  AfterLayer N before rest =
      (later : List Pass) (from : Tip) → IsAtSecurity job from → LeavesNoMore job before later → IsLow job later N cut
      → IsGoodHere later from (made from rest)

  -- the rest after the link to the next stroke
  abbrev AfterLink : Pt → Pt → List Pass → List Move → Type 0
  AfterLink p q before rest =
      (later : List Pass) → LeavesNoMore job before later → IsLow job later (under job step q) cut
      → IsLow job later (λ n. IsFreeWay job step p q × along job step p q n) cut
      → IsGoodHere later (At (over q tip)) (made (At (over q tip)) rest)

  link_on : (before : List Pass) (p q : Pt) (link rest : List Move) → IsShallowLayer step above tip → IsRoom p → IsRoom q
      → IsLow job before (under job step p) cut → IsLow job before (under job step q) above
      → IsLow job before (λ n. IsFreeWay job step p q × along job step p q n) above
      → IsLink job step above tip p q link → AfterLink p q before rest
      → IsGoodHere before (At (over p tip)) (made (At (over p tip)) (link ++ rest))
  link_on before p q link rest shallow room_p room_q low_p low_q low (inl (free, is)) next =
      subst (λ (ms : List Move). IsGoodHere before (At (over p tip)) (made (At (over p tip)) (ms ++ rest))) (sym is)
      (along_on before p q rest (inr shallow) free (λ c left near. low c left (free, near)) low_p
      (λ later keeps gone. next later keeps (λ c left disc. gone c left (under_end job step p q (node_of c) disc)) (λ c left (free', near). gone c left near)))
  link_on before p q link rest shallow room_p room_q low_p low_q low (inr (shut, is)) next =
      subst (λ (ms : List Move). IsGoodHere before (At (over p tip)) (made (At (over p tip)) (ms ++ rest))) (sym is)
      (lift_on before p (approach job.sec q above tip ++ rest) room_p low_p
      (λ later keeps.
      approach_on later (At (over p job.sec)) q rest refl room_q (λ c left disc. low_q c (keeps c left) disc)
      (λ last keeps' gone. next last (λ c left. keeps c (keeps' c left)) gone (λ c left (free, near). absurd (shut free)))))

  strokes_on : (strokes : List Stroke) (stroke : Stroke) (moves rest : List Move) (before : List Pass)
      → AreShallowFrom step above tip stroke strokes → IsFreeWay job step stroke.from stroke.to → AreFree job step strokes
      → AreStrokeMoves job step above tip stroke strokes moves
      → IsLow job before (NearRest job step stroke strokes) above → IsLow job before (under job step stroke.from) cut
      → AfterLayer (NearRest job step stroke strokes) before rest
      → IsGoodHere before (At (over stroke.from tip)) (made (At (over stroke.from tip)) (moves ++ rest))
  strokes_on [] stroke moves rest before shallow free others is low here next =
      subst (λ (ms : List Move). IsGoodHere before (At (over stroke.from tip)) (made (At (over stroke.from tip)) (ms ++ rest))) (sym is)
      (along_on before stroke.from stroke.to (lift job.sec stroke.to tip step.body.e ++ rest) shallow free low here
      (λ later keeps gone.
      lift_on later stroke.to rest (λ n disc. free n (under_end job step stroke.from stroke.to n disc))
      (λ c left disc. gone c left (under_end job step stroke.from stroke.to (node_of c) disc))
      (λ last keeps'. next last (At (over stroke.to job.sec)) refl (λ c left. keeps c (keeps' c left)) (λ c left near. gone c (keeps' c left) near))))
  strokes_on (second ∷ strokes) stroke moves rest before shallow free others (link, more, is_link, are_more, is) low here next =
      let split = append_assoc link more rest in
      let begun : IsGoodHere before (At (over stroke.from tip)) (made (At (over stroke.from tip)) (Feed (over stroke.to tip) ∷ link ++ (more ++ rest))) =
      along_on before stroke.from stroke.to (link ++ (more ++ rest)) (inr shallow) free (λ c left near. low c left (inl near)) here
      (λ later keeps gone.
      link_on later stroke.to second.from link (more ++ rest) shallow
      (λ n disc. free n (under_end job step stroke.from stroke.to n disc))
      (λ n disc. others.0 n (under_start job step second.from second.to n disc))
      (λ c left disc. gone c left (under_end job step stroke.from stroke.to (node_of c) disc))
      (λ c left disc. low c (keeps c left) (inr (inr (near_first job step second strokes (node_of c) (under_start job step second.from second.to (node_of c) disc)))))
      (λ c left near. low c (keeps c left) (inr (inl near)))
      is_link
      (λ linked keeps' at_second on_link.
      strokes_on strokes second more rest linked (shallow_from step above tip second strokes shallow) others.0 others.1 are_more
      (λ c left near. low c (keeps c (keeps' c left)) (inr (inr near))) at_second
      (λ last from at keeps'' low_last.
      next last from at (λ c left. keeps c (keeps' c (keeps'' c left)))
      (λ c left near.
      ⊎_elim (λ first. gone c (keeps' c (keeps'' c left)) first)
      (λ other. ⊎_elim (λ on. on_link c (keeps'' c left) on) (λ later_on. low_last c left later_on) other) near)))) in
      let P : List Move → Type 0 = λ ms. IsGoodHere before (At (over stroke.from tip)) (made (At (over stroke.from tip)) ms) in
      subst (λ (ms : List Move). P (ms ++ rest)) (sym is) (subst (λ (ms : List Move). P (Feed (over stroke.to tip) ∷ ms)) (sym split) begun)

  layer_on : (strokes : List Stroke) (moves rest : List Move) (before : List Pass) (from : Tip) → IsAtSecurity job from
      → AreShallow step above tip strokes → AreFree job step strokes → IsLayer job step above tip strokes moves → IsLow job before (NearAny job step strokes) above
      → AfterLayer (NearAny job step strokes) before rest
      → IsGoodHere before from (made from (moves ++ rest))
  layer_on [] moves rest before from at shallow free is low next =
      subst (λ (ms : List Move). IsGoodHere before from (made from (ms ++ rest))) (sym is)
      (next before from at (λ c left. left) (λ c left none. absurd none))
  layer_on (first ∷ strokes) moves rest before from at shallow free (more, are, is) low next =
      subst (λ (ms : List Move). IsGoodHere before from (made from (ms ++ rest))) (sym is)
      (approach_on before from first.from (more ++ rest) at (λ n disc. free.0 n (under_start job step first.from first.to n disc))
      (λ c left disc. low c left (near_first job step first strokes (node_of c) (under_start job step first.from first.to (node_of c) disc)))
      (λ later keeps gone.
      strokes_on strokes first more rest later shallow free.0 free.1 are (λ c left near. low c (keeps c left) near) gone
      (λ last end at' keeps' low'. next last end at' (λ c left. keeps c (keeps' c left)) low')))

-- All layers.

-- the heights of layers: each begins where the tool cut in the one before it, and the last is at the floor
abbrev pub AreLayered : Job → StepJob → List Stroke → ℤ → List ℤ → Type 0
AreLayered job step strokes above [] = ⊥
AreLayered job step strokes above (tip ∷ []) = IsLayered job step above tip × AreShallow step above tip strokes × (tip ≡ tip_floor step)
AreLayered job step strokes above (tip ∷ next ∷ tips) =
    IsLayered job step above tip × AreShallow step above tip strokes × AreLayered job step strokes (tip +ℤ pos step.body.e) (next ∷ tips)

-- what holds of the passes where nothing is left over where the tool cuts at the floor
abbrev pub HoldsAtFloor : Job → StepJob → (List Pass → Type 0) → List Stroke → Type 0
HoldsAtFloor job step Q strokes =
    (later : List Pass) → IsLow job later (NearAny job step strokes) (tip_floor step +ℤ pos step.body.e) → Q later

pub layers_on : (job : Job) (step : StepJob) (Q : List Pass → Type 0) (strokes : List Stroke) → AreFree job step strokes → HoldsAtFloor job step Q strokes
    → (tips : List ℤ) (above : ℤ) (moves : List Move) (before : List Pass) (from : Tip) → IsAtSecurity job from
    → AreLayered job step strokes above tips → AreLayerMoves job step strokes above tips moves → IsLow job before (NearAny job step strokes) above
    → IsGoodRest job step Q before from (made from moves)
layers_on job step Q strokes free holds [] above moves before from at heights are low = absurd heights
layers_on job step Q strokes free holds (tip ∷ []) above moves before from at heights (layer, rest, is_layer, none, is) low =
    let P : List Move → Type 0 = λ ms. IsGoodRest job step Q before from (made from ms) in
    subst P (sym is) (subst (λ (ms : List Move). P (layer ++ ms)) (sym none)
    (layer_on job step Q above tip heights.0 strokes layer [] before from at heights.1 free is_layer low
    (λ later end at' keeps gone. record {
      safe = tt;
      straight = tt;
      ends = at';
      after = holds (later ++ []) (λ c left near.
          let N : ℤ → Type 0 = λ z. c.z <ℤ (z +ℤ pos step.body.e) in
          subst N heights.2 (gone c (more_left job later [] c left) near));
    })))
layers_on job step Q strokes free holds (tip ∷ next ∷ tips) above moves before from at heights (layer, rest, is_layer, others, is) low =
    let P : List Move → Type 0 = λ ms. IsGoodRest job step Q before from (made from ms) in
    subst P (sym is)
    (layer_on job step Q above tip heights.0 strokes layer rest before from at heights.1 free is_layer low
    (λ later end at' keeps gone.
    layers_on job step Q strokes free holds (next ∷ tips) (tip +ℤ pos step.body.e) rest later end at' heights.2 others gone))
