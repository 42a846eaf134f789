-- A step with moves is counted: there is a count of its lifts.
use Rattle.std.proofs.Common.{ℕ, ◌≡◌, ◌≢◌, ◌+◌, inl, inr, ⊎_elim, List, [], ◌∷◌, ℤ, refl}
use Rattle.sn_outline.specs.Job.{Job, tip_floor}
use Rattle.sn_outline.specs.declared.job.StepJob.{StepJob}
use Rattle.sn_outline.specs.declared.job.Way.{Way}
use Rattle.sn_outline.specs.declared.job.Way.TheVariants as way
use Rattle.sn_open.specs.declared.stroke.Stroke.{Stroke}
use Rattle.sn_link.specs.declared.moves.Move.{Move}
use Rattle.sn_link.specs.CountLaws.{EachStepWithMovesIsCounted}
use Rattle.sn_link.specs.Counts.{IsLiftCount, IsLiftCountFrom}
use Rattle.sn_link.specs.Layers.{AreLayerMoves, AreStrokeMoves, IsLayer}
use Rattle.sn_link.proofs.ByWayLemmas.{layers_by}

-- the links of a layer say where the tool is lifted
lifts_from : (job : Job) (step : StepJob) (above tip : ℤ) (strokes : List Stroke) (stroke : Stroke) (moves : List Move)
    → AreStrokeMoves job step above tip stroke strokes moves → (n : ℕ) × IsLiftCountFrom job step stroke strokes n
lifts_from job step above tip [] stroke moves is = (1, refl)
lifts_from job step above tip (next ∷ strokes) stroke moves (link, rest, inl (free, is_link), are, is) =
    let (n, count) = lifts_from job step above tip strokes next rest are in (n, inl (free, count))
lifts_from job step above tip (next ∷ strokes) stroke moves (link, rest, inr (shut, is_link), are, is) =
    let (n, count) = lifts_from job step above tip strokes next rest are in (n + 1, inr (shut, (n, refl, count)))

lifts_of : (job : Job) (step : StepJob) (above tip : ℤ) (strokes : List Stroke) (moves : List Move) → IsLayer job step above tip strokes moves
    → (n : ℕ) × IsLiftCount job step strokes n
lifts_of job step above tip [] moves is = (0, refl)
lifts_of job step above tip (first ∷ strokes) moves (rest, are, is) = lifts_from job step above tip strokes first rest are

no_tip : (tip : ℤ) → [] ≡ tip ∷ [] → ⊥
no_tip tip e = cc

-- there is a first layer
some_layer : (step : StepJob) (w : Way) (above : ℤ) → layers_by step w above [] → ⊥
some_layer step way.Clear above layers = layers
some_layer step way.Trail above layers = layers
some_layer step way.Drill above layers = no_tip (tip_floor step) layers

lifts_in : (job : Job) (step : StepJob) (strokes : List Stroke) (above : ℤ) (tips : List ℤ) (moves : List Move)
    → layers_by step step.way above tips → AreLayerMoves job step strokes above tips moves → (n : ℕ) × IsLiftCount job step strokes n
lifts_in job step strokes above [] moves layers are = absurd (some_layer step step.way above layers)
lifts_in job step strokes above (tip ∷ tips) moves layers (layer, rest, is_layer, others, is) = lifts_of job step above tip strokes layer is_layer

pub steps_are_counted : EachStepWithMovesIsCounted
steps_are_counted job step passes tip moves p moved =
    ⊎_elim
    (λ (clear, none). absurd (moved none))
    (λ cut.
    let (n, count) = lifts_in job step p.strokes p.above cut.tips cut.all cut.layers cut.all_are in
    (p.above, p.strokes, cut.tips, n, p.highest, p.strokes_are, cut.layers, count)) p.moves_are
