-- The strokes along points, and those of a drill.
use Rattle.std.proofs.Common.{◌≡◌, inl, inr, ℕ, List, [], ◌∷◌, ◌++◌, map, refl, sym, ap, ◌∙◌, append_assoc, append-nil}
use Rattle.sn_geom.specs.declared.units.Pt.{Pt}
use Rattle.sn_outline.specs.Job.{Job}
use Rattle.sn_outline.specs.declared.job.StepJob.{StepJob}
use Rattle.sn_outline.specs.declared.outline.Shape.TheVariants.{Circle}
use Rattle.sn_open.specs.declared.stroke.Stroke.{Stroke}
use Rattle.sn_fit.specs.Fit.{strokes_along, strokes_at_centre, OpensSome, AreDrillStrokes}

-- Laws.

pub from_points : (points : List Pt) (last : Pt) → map (λ (stroke : Stroke). stroke.from) (strokes_along (points ++ last ∷ [])) ≡ points
from_points [] last = refl
from_points (a ∷ []) last = refl
from_points (a ∷ b ∷ points) last = ap (λ ps. a ∷ ps) (from_points (b ∷ points) last)

pub to_points : (first : Pt) (points : List Pt) → map (λ (stroke : Stroke). stroke.to) (strokes_along (first ∷ points)) ≡ points
to_points first [] = refl
to_points first (b ∷ points) = ap (λ ps. b ∷ ps) (to_points b points)

pub one_stroke : (job : Job) (step : StepJob) (centre : Pt) (d : ℕ) (strokes : List Stroke) → step.outline.shape ≡ Circle centre d → AreDrillStrokes job step strokes
    → (OpensSome job step → strokes ≡ record { from = centre; to = centre } ∷ []) × ((¬ OpensSome job step) → strokes ≡ [])
one_stroke job step centre d strokes same (inl (opens, is)) = ((λ _. is ∙ ap strokes_at_centre same), (λ none. absurd (none opens)))
one_stroke job step centre d strokes same (inr (none, is)) = ((λ opens. absurd (none opens)), (λ _. is))

-- The loop along points: the strokes so far, and those that come yet, are all of them.

pub record IsAlong (points : List Pt) (from : Pt) (left : List Pt) (strokes : List Stroke) : Type 0 where
  pub whole : strokes ++ strokes_along (from ∷ left) ≡ strokes_along points

pub starts_along : (points : List Pt) (from : Pt) (left : List Pt) (strokes : List Stroke) → points ≡ from ∷ left → strokes ≡ [] → IsAlong points from left strokes
starts_along points from left strokes are none = record { whole = ap (λ s. s ++ strokes_along (from ∷ left)) none ∙ ap strokes_along (sym are) }

pub goes_along : (points : List Pt) (from to : Pt) (rest left : List Pt) (before after : List Stroke) → rest ≡ to ∷ left
    → after ≡ before ++ record { from = from; to = to } ∷ [] → IsAlong points from rest before → IsAlong points to left after
goes_along points from to rest left before after split pushed along = record {
  whole =
      ap (λ s. s ++ strokes_along (to ∷ left)) pushed ∙ append_assoc before (record { from = from; to = to } ∷ []) (strokes_along (to ∷ left))
      ∙ ap (λ ps. before ++ strokes_along (from ∷ ps)) (sym split) ∙ along.whole;
}

pub ends_along : (points : List Pt) (from : Pt) (left : List Pt) (strokes : List Stroke) → left ≡ [] → IsAlong points from left strokes → strokes ≡ strokes_along points
ends_along points from left strokes none along = sym (append-nil strokes) ∙ ap (λ ps. strokes ++ strokes_along (from ∷ ps)) (sym none) ∙ along.whole
