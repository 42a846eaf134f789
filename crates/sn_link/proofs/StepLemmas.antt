-- The moves of a step are safe, straight, end at the security height, and leave nothing over its targets, where along its strokes the
-- whole tool is over allowed nodes and each target is along one of them.
use Rattle.std.proofs.Common.{ℕ, zero, suc, ◌≡◌, ◌⊎◌, inl, inr, ⊎_elim, List, [], ◌∷◌, ℤ, pos, ◌+ℤ◌, ◌-ℤ◌, ◌≤◌, ◌<◌, ◌≤ℤ◌, ◌<ℤ◌, length, get_or, sym, subst, arith}
use Rattle.std.specs.List.{All}
use Rattle.sn_geom.proofs.Ring.{sums}
use Rattle.sn_geom.specs.declared.limits.TheConstants.{REACH}
use Rattle.sn_geom.specs.declared.units.Cell.{Cell}
use Rattle.sn_geom.specs.declared.tip.Tip.{Tip}
use Rattle.sn_outline.specs.Job.{Job, tip_floor}
use Rattle.sn_outline.specs.declared.job.StepJob.{StepJob}
use Rattle.sn_raster.specs.Grid.{Node}
use Rattle.sn_raster.specs.Heights.{node_of, Pass, IsMaterial}
use Rattle.sn_open.specs.Reach.{IsOpenCell, full_width_from}
use Rattle.sn_open.specs.Region.{InAllowed, IsOpening, IsRequiredNode}
use Rattle.sn_open.specs.declared.stroke.Stroke.{Stroke}
use Rattle.sn_link.specs.declared.moves.Move.{Move}
use Rattle.sn_link.specs.Layers.{IsFreeWay, AreLayers, AreStepLayers}
use Rattle.sn_link.specs.Plan.{IsHighest, NeedsNoLayer, IsCutInLayers}
use Rattle.sn_link.specs.Safe.{IsAtSecurity}
use Rattle.sn_link.proofs.LayerLemmas.{IsGoodRest, IsLayered, IsShallowLayer, AreLayered, NearRest, NearAny, AreFree, along, all_shallow, more_left, layers_on}

-- Heights.

not_at_rest : (full floor z above : ℤ) → floor ≤ℤ full → full ≤ℤ z → z <ℤ above → above ≤ℤ floor → ⊥
not_at_rest full floor z above width high below idle = omega (arith, sums)

not_low : (full z : ℤ) → full ≤ℤ z → z <ℤ full → ⊥
not_low full z high low = omega (arith, sums)

wide : (floor : ℤ) (e : ℕ) → floor ≤ℤ (floor +ℤ pos e)
wide floor e = omega (arith, sums)

self : (x : ℤ) → x ≤ℤ x
self x = omega (arith, sums)

at_most : (x y z : ℤ) → x ≤ℤ y → y ≤ℤ z → x ≤ℤ z
at_most x y z h k = omega (arith, sums)

under : (x y z w : ℤ) → x ≡ y → y <ℤ z → z ≤ℤ w → x <ℤ w
under x y z w same h k = omega (arith, sums)

weak : (x y : ℤ) → x <ℤ y → x ≤ℤ y
weak x y h = omega (arith, sums)

at_least : (x y : ℤ) → x ≡ y → y ≤ℤ x
at_least x y same = omega (arith, sums)

-- The heights of the layers.

module _ (job : Job) (step : StepJob) (raw_top : job.high.z ≤ℤ job.sec) (sec_within : job.sec ≤ℤ pos REACH) where
  -- a layer at the floor, after one at a or from the height a down
  pub layer_at_floor : (a above tip : ℤ) → tip_floor step <ℤ a → a ≤ℤ job.sec → a ≤ℤ above → tip ≡ tip_floor step → IsLayered job step above tip
  layer_at_floor a above tip high safe from is = record {
    raw_top = raw_top;
    sec_within = sec_within;
    over_floor = at_least tip (tip_floor step) is;
    under_sec = under tip (tip_floor step) a job.sec is high safe;
    under_above = under tip (tip_floor step) a above is high from;
  }

  shallow_at_floor : (a above tip : ℤ) → above ≤ℤ (a +ℤ pos step.body.e) → tip ≡ tip_floor step → (a -ℤ pos step.axial) ≤ℤ tip_floor step → IsShallowLayer step above tip
  shallow_at_floor a above tip to is near = depth tip (tip_floor step) a above (pos step.body.e) (pos step.axial) is near to
    where
      depth : (x y z w e f : ℤ) → x ≡ y → (z -ℤ f) ≤ℤ y → w ≤ℤ (z +ℤ e) → w ≤ℤ (x +ℤ e +ℤ f)
      depth x y z w e f same h k = omega (arith, sums)

  module _ (some : 1 ≤ step.axial) where
    next_layer : (a above tip : ℤ) → a ≤ℤ job.sec → a ≤ℤ above → tip ≡ a -ℤ pos step.axial → tip_floor step <ℤ tip → IsLayered job step above tip
    next_layer a above tip safe from is high = record {
      raw_top = raw_top;
      sec_within = sec_within;
      over_floor = weak (tip_floor step) tip high;
      under_sec = deeper tip a job.sec step.axial some is safe;
      under_above = deeper tip a above step.axial some is from;
    }
      where
        deeper : (x y z : ℤ) (f : ℕ) → 1 ≤ f → x ≡ y -ℤ pos f → y ≤ℤ z → x <ℤ z
        deeper x y z f h is k = omega (arith, sums)

    next_shallow : (a above tip : ℤ) → above ≤ℤ (a +ℤ pos step.body.e) → tip ≡ a -ℤ pos step.axial → IsShallowLayer step above tip
    next_shallow a above tip to is = depth tip a above (pos step.body.e) (pos step.axial) is to
      where
        depth : (x y z e f : ℤ) → x ≡ y -ℤ f → z ≤ℤ (y +ℤ e) → z ≤ℤ (x +ℤ e +ℤ f)
        depth x y z e f is k = omega (arith, sums)

    layered_from : (strokes : List Stroke) (tips : List ℤ) (a above : ℤ) → tip_floor step <ℤ a → a ≤ℤ job.sec → a ≤ℤ above → above ≤ℤ (a +ℤ pos step.body.e)
        → AreLayers step.axial (tip_floor step) a tips → AreLayered job step strokes above tips
    layered_from strokes [] a above high safe from to layers = absurd layers
    layered_from strokes (tip ∷ []) a above high safe from to (is, near) =
        (layer_at_floor a above tip high safe from is, all_shallow step above tip strokes (shallow_at_floor a above tip to is near), is)
    layered_from strokes (tip ∷ next ∷ tips) a above high safe from to (is, over, layers) =
        let this = next_layer a above tip safe from is over in (
          this,
          all_shallow step above tip strokes (next_shallow a above tip to is),
          layered_from strokes (next ∷ tips) tip (tip +ℤ pos step.body.e) over (weak tip job.sec this.under_sec) (wide tip step.body.e) (self (tip +ℤ pos step.body.e)) layers,
        )

    pub layered : (strokes : List Stroke) (above : ℤ) (tips : List ℤ) → tip_floor step <ℤ above → above ≤ℤ job.sec → AreLayers step.axial (tip_floor step) above tips
        → AreLayered job step strokes above tips
    layered strokes above tips high safe layers = layered_from strokes tips above above high safe (self above) (wide above step.body.e) layers

-- Nodes along strokes.

pub all_free : (job : Job) (step : StepJob) (strokes : List Stroke) → All (λ (s : Stroke). IsFreeWay job step s.from s.to) strokes → AreFree job step strokes
all_free job step [] all = tt
all_free job step (s ∷ strokes) all = (all 0 s (omega arith), all_free job step strokes (λ k d below. all (suc k) d (omega (arith, below))))

rest_allowed : (job : Job) (step : StepJob) (strokes : List Stroke) (stroke : Stroke) (n : Node) → IsFreeWay job step stroke.from stroke.to → AreFree job step strokes
    → NearRest job step stroke strokes n → InAllowed job step n
rest_allowed job step [] stroke n free others near = free n near
rest_allowed job step (next ∷ strokes) stroke n free others (inl near) = free n near
rest_allowed job step (next ∷ strokes) stroke n free others (inr (inl (link, near))) = link n near
rest_allowed job step (next ∷ strokes) stroke n free others (inr (inr near)) = rest_allowed job step strokes next n others.0 others.1 near

any_allowed : (job : Job) (step : StepJob) (strokes : List Stroke) (n : Node) → AreFree job step strokes → NearAny job step strokes n → InAllowed job step n
any_allowed job step [] n free near = absurd near
any_allowed job step (s ∷ strokes) n free near = rest_allowed job step strokes s n free.0 free.1 near

-- what is along a stroke of the list
pub along_listed : (job : Job) (step : StepJob) (strokes : List Stroke) (s : Stroke) (n : Node) (k : ℕ) → k < length strokes → get_or strokes k s ≡ s
    → along job step s.from s.to n → NearAny job step strokes n
along_listed job step [] s n k below is near = absurd (omega (arith, below))
along_listed job step (first ∷ []) s n zero below is near = subst (λ (t : Stroke). along job step t.from t.to n) (sym is) near
along_listed job step (first ∷ next ∷ strokes) s n zero below is near = inl (subst (λ (t : Stroke). along job step t.from t.to n) (sym is) near)
along_listed job step (first ∷ []) s n (suc k) below is near = absurd (omega (arith, below))
along_listed job step (first ∷ next ∷ strokes) s n (suc k) below is near =
    inr (inr (along_listed job step (next ∷ strokes) s n k (omega (arith, below)) is near))

-- The step.

-- nothing is left of the cells that the step opens over nodes that are required for its feature
abbrev pub TargetsAreCut : Job → StepJob → List Pass → Type 0
TargetsAreCut job step passes = (c : Cell) → IsOpenCell job step c → IsRequiredNode job step.feature (node_of c) → ¬ IsMaterial job passes c

-- Along the strokes of a step the whole tool is over allowed nodes, each target is along one of them, and its layers are cut no
-- deeper sideways than they may be.
pub record AreSound (job : Job) (step : StepJob) (strokes : List Stroke) : Type 0 where
  pub free : AreFree job step strokes
  pub targets : (n : Node) → IsOpening job step n → IsRequiredNode job step.feature n → NearAny job step strokes n
  pub layered : (above : ℤ) (tips : List ℤ) → tip_floor step <ℤ above → above ≤ℤ job.sec → AreStepLayers step above tips → AreLayered job step strokes above tips

module _ (job : Job) (step : StepJob) (passes : List Pass) (tip : Tip) (at : IsAtSecurity job tip) (strokes : List Stroke) (sound : AreSound job step strokes)
    (above : ℤ) (highest : IsHighest job step passes above) (safe : above ≤ℤ job.sec) where
  abbrev IsKept : List Move → Type 0
  IsKept moves = IsGoodRest job step (TargetsAreCut job step) passes tip moves

  under_top : (c : Cell) → IsMaterial job passes c → NearAny job step strokes (node_of c) → c.z <ℤ above
  under_top c left near = highest.bounds c left (any_allowed job step strokes (node_of c) sound.free near)

  -- no moves
  rest_is_kept : NeedsNoLayer step strokes above → IsKept []
  rest_is_kept clear = record {
    safe = tt;
    straight = tt;
    ends = at;
    after = λ c opened required left.
        let near = sound.targets (node_of c) opened.node required in
        ⊎_elim
        (λ low. not_at_rest (full_width_from step) (tip_floor step) c.z above (wide (tip_floor step) step.body.e) opened.height (under_top c (more_left job passes [] c left) near) low)
        (λ none. subst (λ (ss : List Stroke). NearAny job step ss (node_of c)) none near) clear;
  }

  cut_is_kept : (moves : List Move) → IsCutInLayers job step strokes above tip moves → IsKept moves
  cut_is_kept moves cut =
      subst IsKept (sym cut.moves_are)
      (layers_on job step (TargetsAreCut job step) strokes sound.free
      (λ later low c opened required left. not_low (full_width_from step) c.z opened.height (low c left (sound.targets (node_of c) opened.node required)))
      cut.tips above cut.all passes tip at (sound.layered above cut.tips cut.high safe cut.layers) cut.all_are under_top)

  pub step_is_kept : (moves : List Move) → (NeedsNoLayer step strokes above × (moves ≡ [])) ⊎ IsCutInLayers job step strokes above tip moves → IsKept moves
  step_is_kept moves either =
      ⊎_elim (λ (clear, none). subst IsKept (sym none) (rest_is_kept clear)) (λ cut. cut_is_kept moves cut) either
