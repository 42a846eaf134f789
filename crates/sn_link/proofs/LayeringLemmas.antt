-- Moves of the layers of a step, one after the other.
use Rattle.std.proofs.Common.{ℕ, ◌≢◌, length, ◌≡◌, ◌+◌, ◌↔◌, inl, inr, List, [], ◌∷◌, ◌++◌, ℤ, pos, ◌+ℤ◌, ◌-ℤ◌, ◌≤ℤ◌, ◌<ℤ◌, refl, sym, ap, subst, ◌∙◌, append_assoc, append-nil, Bool, true, false, IsTrue, arith}
use Rattle.std.specs.Int.{int_min}
use Rattle.std.proofs.lemmas.Bool.{false≢true}
use Rattle.std.proofs.lemmas.List.{length_push}
use Rattle.std.proofs.lemmas.Int.{ints, int_min_is}
use Rattle.sn_geom.proofs.Ring.{sums}
use Rattle.sn_geom.specs.Length.{IsLength}
use Rattle.sn_geom.specs.declared.limits.TheConstants.{GAP, REACH}
use Rattle.sn_geom.specs.declared.units.Pt.{Pt}
use Rattle.sn_geom.specs.declared.tip.Tip.{Tip}
use Rattle.sn_outline.specs.Job.{Job, tip_floor}
use Rattle.sn_outline.specs.declared.job.StepJob.{StepJob}
use Rattle.sn_outline.specs.declared.job.Way.{Way}
use Rattle.sn_outline.specs.declared.job.Way.TheVariants as way
use Rattle.sn_raster.specs.Grid.{Grid, Node, IsGridOf}
use Rattle.sn_raster.specs.Plane.{Plane, Has}
use Rattle.sn_clear.specs.Strokes.{clearing_strokes}
use Rattle.sn_open.specs.declared.stroke.Stroke.{Stroke}
use Rattle.sn_open.specs.Planes.{AreAllowed, AreCentres, AreRequired, CellSet, IsOpeningPlane}
use Rattle.sn_link.specs.declared.layers.Layer.{Layer}
use Rattle.sn_link.specs.declared.moves.Move.{Move}
use Rattle.sn_link.specs.declared.moves.Move.TheVariants.{Rapid, Feed}
use Rattle.sn_link.specs.Layering.{Grows, GrowsByLayers, IsAdded, IsCutAs, IsLayerOf, IsNextTip, lifts_after}
use Rattle.sn_link.specs.declared.step_plan.Planned.{Planned}
use Rattle.sn_link.specs.Layers.{AreLayerMoves, AreStepLayers, AreStrokeMoves, AreStrokes, AreTargets, IsClearing, IsFreeWay, IsLayer, IsLink}
use Rattle.sn_link.specs.Moves.{approach, lift, made, over}
use Rattle.sn_link.proofs.ByWayLemmas.{strokes_by}
use Rattle.sn_link.proofs.MovesLemmas.{made_within}
use Rattle.sn_link.specs.Safe.{AreWithin}

-- Moves that came after others.

both_within : (some others : List Move) → AreWithin some → AreWithin others → AreWithin (some ++ others)
both_within [] others p q = q
both_within (move ∷ some) others p q = (p.0, both_within some others p.1 q)

pub none_added : (moves : List Move) → IsAdded moves [] moves
none_added moves = record { is = sym (append-nil moves); within = tt }

pub added_both : (a b c some others : List Move) → IsAdded a some b → IsAdded b others c → IsAdded a (some ++ others) c
added_both a b c some others p q = record {
  is = q.is ∙ ap (λ ms. ms ++ others) p.is ∙ append_assoc a some others;
  within = both_within some others p.within q.within;
}

-- The heights of a layer.

pub approach_is : (job : Job) (step : StepJob) (above : ℤ) (layer : Layer) (p : Pt) → IsLayerOf job step above layer
    → Rapid (over p layer.sec) ∷ Rapid (over p layer.start) ∷ Feed (over p layer.low) ∷ [] ≡ approach job.sec p above layer.low
approach_is job step above layer p of_layer =
    (λ i. Rapid (over p (of_layer.sec i)) ∷ Rapid (over p (of_layer.start i)) ∷ Feed (over p layer.low) ∷ [])

pub lift_is : (job : Job) (step : StepJob) (above : ℤ) (layer : Layer) (p : Pt) → IsLayerOf job step above layer
    → Feed (over p layer.end) ∷ Rapid (over p layer.sec) ∷ [] ≡ lift job.sec p layer.low step.body.e
lift_is job step above layer p of_layer = (λ i. Feed (over p (of_layer.end i)) ∷ Rapid (over p (of_layer.sec i)) ∷ [])

-- Links.

abbrev pub IsLinked : CellSet → StepJob → Layer → Pt → Pt → List Move → List Move → Type 0
IsLinked allowed step layer a b before after =
    (job : Job) (above : ℤ) → AreAllowed allowed job step → IsLayerOf job step above layer → Grows (IsLink job step above layer.low a b) before after

module _ (allowed : CellSet) (step : StepJob) (layer : Layer) (a b : Pt) (free : Bool) (tested : (job : Job) → AreAllowed allowed job step → IsTrue free ↔ IsFreeWay job step a b) where
  pub fed : (before after : List Move) → free ≡ true → IsAdded before (Feed (over b layer.low) ∷ []) after → IsLinked allowed step layer a b before after
  fed before after on is_added job above are of_layer = record {
    added = Feed (over b layer.low) ∷ [];
    is_added = is_added;
    holds = inl ((tested job are).0 on, refl);
  }

  pub lifted : (before up after : List Move) → free ≡ false
      → IsAdded before (Feed (over a layer.end) ∷ Rapid (over a layer.sec) ∷ []) up
      → IsAdded up (Rapid (over b layer.sec) ∷ Rapid (over b layer.start) ∷ Feed (over b layer.low) ∷ []) after → IsLinked allowed step layer a b before after
  lifted before up after off is_up is_down job above are of_layer =
      let first = subst (λ (ms : List Move). IsAdded before ms up) (lift_is job step above layer a of_layer) is_up in
      let then = subst (λ (ms : List Move). IsAdded up ms after) (approach_is job step above layer b of_layer) is_down in
      record {
        added = lift job.sec a layer.low step.body.e ++ approach job.sec b above layer.low;
        is_added = added_both before up after (lift job.sec a layer.low step.body.e) (approach job.sec b above layer.low) first then;
        holds = inr ((λ free_way. false≢true (sym off ∙ (tested job are).1 free_way)), refl);
      }

-- Layers.

-- the moves so far, from which those of the rest make the moves of the whole
pub record AreSoFar (R P : List Move → Type 0) (before now : List Move) : Type 0 where
  pub added : List Move
  pub is_added : IsAdded before added now
  pub rest : (more : List Move) → R more → P (added ++ more)

-- the moves of a layer so far, up to the start of a stroke
abbrev pub IsAlong : CellSet → StepJob → Layer → List Stroke → Stroke → List Stroke → List Move → List Move → Type 0
IsAlong allowed step layer strokes stroke rest before now =
    (job : Job) (above : ℤ) → AreAllowed allowed job step → IsLayerOf job step above layer
    → AreSoFar (AreStrokeMoves job step above layer.low stroke rest) (IsLayer job step above layer.low strokes) before now

abbrev pub IsLayered : CellSet → StepJob → Layer → List Stroke → List Move → List Move → Type 0
IsLayered allowed step layer strokes before after =
    (job : Job) (above : ℤ) → AreAllowed allowed job step → IsLayerOf job step above layer → Grows (IsLayer job step above layer.low strokes) before after

module _ (allowed : CellSet) (step : StepJob) (layer : Layer) where
  pub no_strokes : (strokes : List Stroke) (moves : List Move) → strokes ≡ [] → IsLayered allowed step layer strokes moves moves
  no_strokes strokes moves none job above are of_layer = rw none (record { added = []; is_added = none_added moves; holds = refl })

  pub starts_along : (strokes : List Stroke) (first : Stroke) (rest : List Stroke) (before down : List Move) → strokes ≡ first ∷ rest
      → IsAdded before (Rapid (over first.from layer.sec) ∷ Rapid (over first.from layer.start) ∷ Feed (over first.from layer.low) ∷ []) down
      → IsAlong allowed step layer strokes first rest before down
  starts_along strokes first rest before down is is_down job above are of_layer = rw is (record {
    added = approach job.sec first.from above layer.low;
    is_added = subst (λ (ms : List Move). IsAdded before ms down) (approach_is job step above layer first.from of_layer) is_down;
    rest = λ more moves. (more, moves, refl);
  })

  pub goes_along : (strokes : List Stroke) (stroke next : Stroke) (rest : List Stroke) (before now along linked : List Move)
      → IsAdded now (Feed (over stroke.to layer.low) ∷ []) along → IsLinked allowed step layer stroke.to next.from along linked
      → IsAlong allowed step layer strokes stroke (next ∷ rest) before now → IsAlong allowed step layer strokes next rest before linked
  goes_along strokes stroke next rest before now along linked is_along is_linked so_far job above are of_layer =
      let front = so_far job above are of_layer in
      let link = is_linked job above are of_layer in
      let both = added_both now along linked (Feed (over stroke.to layer.low) ∷ []) link.added is_along link.is_added in
      record {
        added = front.added ++ (Feed (over stroke.to layer.low) ∷ link.added);
        is_added = added_both before now linked front.added (Feed (over stroke.to layer.low) ∷ link.added) front.is_added both;
        rest = λ more moves.
            subst (IsLayer job step above layer.low strokes) (sym (append_assoc front.added (Feed (over stroke.to layer.low) ∷ link.added) more))
            (front.rest (Feed (over stroke.to layer.low) ∷ link.added ++ more) (link.added, more, link.holds, moves, refl));
      }

  pub ends_along : (strokes : List Stroke) (stroke : Stroke) (before now along up : List Move) → IsAdded now (Feed (over stroke.to layer.low) ∷ []) along
      → IsAdded along (Feed (over stroke.to layer.end) ∷ Rapid (over stroke.to layer.sec) ∷ []) up
      → IsAlong allowed step layer strokes stroke [] before now → IsLayered allowed step layer strokes before up
  ends_along strokes stroke before now along up is_along is_up so_far job above are of_layer =
      let front = so_far job above are of_layer in
      let upward = subst (λ (ms : List Move). IsAdded along ms up) (lift_is job step above layer stroke.to of_layer) is_up in
      let last = lift job.sec stroke.to layer.low step.body.e in
      let both = added_both now along up (Feed (over stroke.to layer.low) ∷ []) last is_along upward in
      record {
        added = front.added ++ (Feed (over stroke.to layer.low) ∷ last);
        is_added = added_both before now up front.added (Feed (over stroke.to layer.low) ∷ last) front.is_added both;
        holds = front.rest (Feed (over stroke.to layer.low) ∷ last) refl;
      }

-- The layers of a step.

pub start_after_within : (sec low : ℤ) (e : ℕ) → IsLength sec → IsLength low → IsLength (int_min sec (low +ℤ pos (e + GAP)))
start_after_within sec low e h k = let m = int_min_is sec (low +ℤ pos (e + GAP)) in omega (arith, ints, sums)

over_gap : (low : ℤ) (e gap : ℕ) → low +ℤ pos (e + gap) ≡ (low +ℤ pos e) +ℤ pos gap
over_gap low e gap = omega (arith, ints, sums)

pub one_layer : (above : ℤ) → pos 1 ≤ℤ (pos 1 +ℤ (above -ℤ above))
one_layer above = omega (arith, sums)

pub one_layer_more : (above top low : ℤ) (count : ℕ) → pos count ≤ℤ (pos 1 +ℤ (above -ℤ top)) → low <ℤ top → pos (count + 1) ≤ℤ (pos 1 +ℤ (above -ℤ low))
one_layer_more above top low count few lower = omega (arith, ints, sums)

-- The layers so far, down to one whose tip is at top: those of the rest make the layers of all.
pub record AreCutTo (job : Job) (step : StepJob) (strokes : List Stroke) (above : ℤ) (before : List Move) (top start : ℤ) (now : List Move) (count : ℕ) : Type 0 where
  pub done : List ℤ
  pub cut : ℤ
  pub start_is : start ≡ int_min job.sec (cut +ℤ pos GAP)
  pub added : List Move
  pub is_added : IsAdded before added now
  pub layers : (tips : List ℤ) → AreStepLayers step top tips → AreStepLayers step above (done ++ tips)
  pub moves : (tips : List ℤ) (more : List Move) → AreLayerMoves job step strokes cut tips more → AreLayerMoves job step strokes above (done ++ tips) (added ++ more)
  pub counted : count ≡ length done + 1

module _ (job : Job) (step : StepJob) (strokes : List Stroke) (above : ℤ) (before : List Move) where
  pub none_cut_to : (start : ℤ) → start ≡ int_min job.sec (above +ℤ pos GAP) → AreCutTo job step strokes above before above start before 1
  none_cut_to start is = record {
    done = [];
    cut = above;
    start_is = is;
    added = [];
    is_added = none_added before;
    layers = λ tips are. are;
    moves = λ tips more are. are;
    counted = refl;
  }

  pub one_cut_to : (top low start next : ℤ) (now then : List Move) (count : ℕ) → IsNextTip step top low
      → next ≡ int_min job.sec (low +ℤ pos (step.body.e + GAP)) → (so_far : AreCutTo job step strokes above before top start now count)
      → Grows (IsLayer job step so_far.cut low strokes) now then → AreCutTo job step strokes above before low next then (count + 1)
  one_cut_to top low start next now then count is_tip is_next so_far layer = record {
    done = so_far.done ++ low ∷ [];
    cut = low +ℤ pos step.body.e;
    start_is = is_next ∙ ap (int_min job.sec) (over_gap low step.body.e GAP);
    added = so_far.added ++ layer.added;
    is_added = added_both before now then so_far.added layer.added so_far.is_added layer.is_added;
    layers = λ tips are.
        subst (AreStepLayers step above) (sym (append_assoc so_far.done (low ∷ []) tips)) (so_far.layers (low ∷ tips) (is_tip.first tips are));
    moves = λ tips more are.
        subst (λ (ts : List ℤ). AreLayerMoves job step strokes above ts ((so_far.added ++ layer.added) ++ more)) (sym (append_assoc so_far.done (low ∷ []) tips))
        (subst (AreLayerMoves job step strokes above (so_far.done ++ low ∷ tips)) (sym (append_assoc so_far.added layer.added more))
        (so_far.moves (low ∷ tips) (layer.added ++ more) (layer.added, more, layer.holds, are, refl)));
    counted = ap (λ n. n + 1) so_far.counted ∙ ap (λ n. n + 1) (sym (length_push so_far.done low));
  }

  pub all_cut_to : (top start : ℤ) (now then : List Move) (count : ℕ) → AreStepLayers step top (tip_floor step ∷ [])
      → (so_far : AreCutTo job step strokes above before top start now count)
      → Grows (IsLayer job step so_far.cut (tip_floor step) strokes) now then → GrowsByLayers job step strokes above before then count
  all_cut_to top start now then count last so_far layer = record {
    tips = so_far.done ++ tip_floor step ∷ [];
    are_layers = so_far.layers (tip_floor step ∷ []) last;
    moves = record {
      added = so_far.added ++ layer.added;
      is_added = added_both before now then so_far.added layer.added so_far.is_added layer.is_added;
      holds = so_far.moves (tip_floor step ∷ []) layer.added (layer.added, [], layer.holds, refl, sym (append-nil layer.added));
    };
    count = so_far.counted ∙ sym (length_push so_far.done (tip_floor step));
  }

abbrev pub layer_by : StepJob → ℤ → ℤ → ℤ → Layer
layer_by step sec start low = record { sec = sec; start = start; low = low; end = int_min (low +ℤ pos step.body.e) (pos REACH) }

-- the layers so far, for each job that the planes are of
abbrev pub AreCutSoFar : CellSet → StepJob → List Stroke → ℤ → ℤ → List Move → ℤ → ℤ → List Move → ℕ → Type 0
AreCutSoFar allowed step strokes sec above before top start now count =
    (job : Job) → job.sec ≡ sec → AreAllowed allowed job step → AreCutTo job step strokes above before top start now count

module _ (allowed : CellSet) (step : StepJob) (strokes : List Stroke) (sec above : ℤ) (before : List Move) where
  pub starts_cut : (start : ℤ) → start ≡ int_min sec (above +ℤ pos GAP) → AreCutSoFar allowed step strokes sec above before above start before 1
  starts_cut start is job same are = none_cut_to job step strokes above before start (is ∙ ap (λ (z : ℤ). int_min z (above +ℤ pos GAP)) (sym same))

  -- what is pushed for a layer, over the height to which those before it cut
  pushed : (job : Job) (top start low : ℤ) (layer : Layer) (now then : List Move) (count : ℕ) → job.sec ≡ sec → AreAllowed allowed job step
      → layer ≡ layer_by step sec start low
      → IsLayered allowed step layer strokes now then → (so_far : AreCutTo job step strokes above before top start now count)
      → Grows (IsLayer job step so_far.cut low strokes) now then
  pushed job top start low layer now then count same are is moves so_far =
      let of_layer : IsLayerOf job step so_far.cut (layer_by step sec start low) = record { sec = sym same; start = so_far.start_is; end = refl } in
      let there = subst (λ (l : Layer). IsLayered allowed step l strokes now then) is moves in
      there job so_far.cut are of_layer

  pub goes_on_cut : (top start low next : ℤ) (layer : Layer) (now then : List Move) (count : ℕ) → IsNextTip step top low
      → layer ≡ layer_by step sec start low → next ≡ int_min sec (low +ℤ pos (step.body.e + GAP)) → IsLayered allowed step layer strokes now then
      → AreCutSoFar allowed step strokes sec above before top start now count → AreCutSoFar allowed step strokes sec above before low next then (count + 1)
  goes_on_cut top start low next layer now then count is_tip is is_next moves so_far job same are =
      let front = so_far job same are in
      one_cut_to job step strokes above before top low start next now then count is_tip
      (is_next ∙ ap (λ (z : ℤ). int_min z (low +ℤ pos (step.body.e + GAP))) (sym same)) front
      (pushed job top start low layer now then count same are is moves front)

  pub ends_cut : (top start floor : ℤ) (layer : Layer) (now then : List Move) (count : ℕ) → floor ≡ tip_floor step → AreStepLayers step top (floor ∷ [])
      → layer ≡ layer_by step sec start floor → IsLayered allowed step layer strokes now then → AreCutSoFar allowed step strokes sec above before top start now count
      → (job : Job) → job.sec ≡ sec → AreAllowed allowed job step → GrowsByLayers job step strokes above before then count
  ends_cut top start floor layer now then count is_floor last is moves so_far job same are =
      let front = so_far job same are in
      all_cut_to job step strokes above before top start now then count (subst (λ (z : ℤ). AreStepLayers step top (z ∷ [])) is_floor last) front
      (pushed job top start (tip_floor step) layer now then count same are (subst (λ (z : ℤ). layer ≡ layer_by step sec start z) is_floor is) moves front)

-- The plan of the step.

module _ (job : Job) (step : StepJob) (strokes : List Stroke) (above : ℤ) (tip : Tip) (before after slice moves : List Move) (count : ℕ) (all : GrowsByLayers job step strokes above before after count)
    (none : before ≡ []) (same : slice ≡ after) (is : moves ≡ made tip slice) where
  alone : slice ≡ all.moves.added
  alone = same ∙ all.moves.is_added.is ∙ ap (λ ms. ms ++ all.moves.added) none

  pub cut_within : AreWithin moves
  cut_within = subst AreWithin (sym is) (made_within tip slice (subst AreWithin (sym alone) all.moves.is_added.within))

  pub cut_as : (lifts : ℕ) (planned : Planned) → planned ≡ record { moves = moves; layers = count; lifts = lifts } → lifts ≡ lifts_after false slice
      → tip_floor step <ℤ above → strokes ≢ [] → IsCutAs job step strokes above tip planned
  cut_as lifts planned are counted high some = rw are (record {
    cut = record {
      high = high;
      some = some;
      tips = all.tips;
      layers = all.are_layers;
      all = all.moves.added;
      all_are = all.moves.holds;
      moves_are = is ∙ ap (λ (ms : List Move). made tip ms) alone;
    };
    layers = all.count;
    lifts = counted ∙ ap (λ (ms : List Move). lifts_after false ms) alone;
  })

-- Strokes and targets.

pub strokes_of_clear : (job : Job) (step : StepJob) (g : Grid) (centres targets : Plane) (strokes : List Stroke) → step.way ≡ way.Clear → centres.grid ≡ g
    → strokes ≡ clearing_strokes step g centres targets → AreCentres centres job step → AreTargets targets job step → AreStrokes job step strokes
strokes_of_clear job step g centres targets strokes clears grid_is are are_centres are_targets =
    let clearing : IsClearing job step strokes = record {
      centres = centres;
      targets = targets;
      are_centres = are_centres;
      are_targets = are_targets;
      strokes_are = are ∙ ap (λ (h : Grid). clearing_strokes step h centres targets) (sym grid_is);
    } in
    subst (λ (w : Way). strokes_by job step w strokes) (sym clears) clearing

pub targets_are : (g : Grid) (job : Job) (step : StepJob) (required opening first second targets : Plane) → IsGridOf g job → targets.grid ≡ g
    → first ≡ required → second ≡ opening → AreRequired required job step.feature → IsOpeningPlane opening job step
    → ((n : Node) → Has targets n ↔ (Has first n × Has second n)) → AreTargets targets job step
targets_are g job step required opening first second targets of_job over is_first is_second are_required is_opening both = record {
  grid = subst (λ (h : Grid). IsGridOf h job) (sym over) of_job;
  nodes = λ n. (
    λ has. let (a, b) = (both n).0 has in
        ((are_required.nodes n).0 (subst (λ (p : Plane). Has p n) is_first a), (is_opening.nodes n).0 (subst (λ (p : Plane). Has p n) is_second b)),
    λ (is_required, opened). (both n).1
        (subst (λ (p : Plane). Has p n) (sym is_first) ((are_required.nodes n).1 is_required), subst (λ (p : Plane). Has p n) (sym is_second) ((is_opening.nodes n).1 opened)),
  );
}
