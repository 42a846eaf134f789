-- How often the tool is lifted in the moves of layers.
use Rattle.std.proofs.Common.{ℕ, suc, ◌≡◌, ◌+◌, ◌*◌, ◌<◌, inl, inr, Bool, true, false, List, [], ◌∷◌, ◌++◌, length, drop, get_or, drop-cons, add_assoc, ℤ, pos, ◌+ℤ◌, sym, ap, ◌∙◌, append_assoc, arith}
use Rattle.sn_geom.specs.declared.units.Pt.{Pt}
use Rattle.sn_outline.specs.Job.{Job}
use Rattle.sn_outline.specs.declared.job.StepJob.{StepJob}
use Rattle.sn_open.specs.declared.stroke.Stroke.{Stroke}
use Rattle.sn_link.specs.declared.moves.Move.{Move}
use Rattle.sn_link.specs.declared.moves.Move.TheVariants.{Feed}
use Rattle.sn_link.specs.Counts.{IsLiftCount, IsLiftCountFrom}
use Rattle.sn_link.specs.Layering.{is_feed, lifts_after}
use Rattle.sn_link.specs.Layers.{AreLayerMoves, AreStrokeMoves, IsFreeWay, IsLayer, IsLink}
use Rattle.sn_link.specs.Moves.{over}

-- after a feed, what a link and more moves lift is what more moves lift, and once more where the way is not free
pub fed_on : (job : Job) (step : StepJob) (above tip : ℤ) (a b : Pt) (link more : List Move) → IsFreeWay job step a b → IsLink job step above tip a b link
    → lifts_after true (link ++ more) ≡ lifts_after true more
fed_on job step above tip a b link more free (inl (way, is)) = ap (λ ms. lifts_after true (ms ++ more)) is
fed_on job step above tip a b link more free (inr (shut, is)) = absurd (shut free)

pub lifted_once : (job : Job) (step : StepJob) (above tip : ℤ) (a b : Pt) (link more : List Move) → (¬ IsFreeWay job step a b) → IsLink job step above tip a b link
    → lifts_after true (link ++ more) ≡ 1 + lifts_after true more
lifted_once job step above tip a b link more shut (inl (way, is)) = absurd (shut way)
lifted_once job step above tip a b link more shut (inr (way, is)) = ap (λ ms. lifts_after true (ms ++ more)) is

none_more : (lifts n : ℕ) → n ≡ 0 → lifts ≡ n + lifts
none_more lifts n is = omega arith

one_more : (lifts m n rest : ℕ) → n ≡ m + 1 → lifts ≡ m + rest → 1 + lifts ≡ n + rest
one_more lifts m n rest is so = omega arith

module _ (job : Job) (step : StepJob) (above tip : ℤ) where
  -- the moves from a stroke on, by their link to the next stroke and the rest
  split_after : (stroke : Stroke) (link rest moves more : List Move) → moves ≡ Feed (over stroke.to tip) ∷ (link ++ rest)
      → lifts_after true (moves ++ more) ≡ lifts_after true (link ++ (rest ++ more))
  split_after stroke link rest moves more is =
      let split : (link ++ rest) ++ more ≡ link ++ (rest ++ more) = append_assoc link rest more in
      ap (λ (ms : List Move). lifts_after true (ms ++ more)) is ∙ ap (λ (ms : List Move). lifts_after true ms) split

  pub lifts_along : (strokes : List Stroke) (stroke : Stroke) (n : ℕ) (moves more : List Move) → AreStrokeMoves job step above tip stroke strokes moves
      → IsLiftCountFrom job step stroke strokes n → lifts_after true (moves ++ more) ≡ n + lifts_after false more
  lifts_along [] stroke n moves more are count = ap (λ ms. lifts_after true (ms ++ more)) are ∙ ap (λ k. k + lifts_after false more) (sym count)
  lifts_along (next ∷ strokes) stroke n moves more (link, rest, is_link, are_rest, is) (inl (free, count)) =
      split_after stroke link rest moves more is
      ∙ fed_on job step above tip stroke.to next.from link (rest ++ more) free is_link
      ∙ lifts_along strokes next n rest more are_rest count
  lifts_along (next ∷ strokes) stroke n moves more (link, rest, is_link, are_rest, is) (inr (shut, (m, next_is, count))) =
      split_after stroke link rest moves more is
      ∙ lifted_once job step above tip stroke.to next.from link (rest ++ more) shut is_link
      ∙ one_more (lifts_after true (rest ++ more)) m n (lifts_after false more) next_is (lifts_along strokes next m rest more are_rest count)

  pub lifts_in_layer : (strokes : List Stroke) (n : ℕ) (moves more : List Move) → IsLayer job step above tip strokes moves
      → IsLiftCount job step strokes n → lifts_after false (moves ++ more) ≡ n + lifts_after false more
  lifts_in_layer [] n moves more are count = ap (λ ms. lifts_after false (ms ++ more)) are ∙ none_more (lifts_after false more) n count
  lifts_in_layer (first ∷ strokes) n moves more (rest, are, is) count = ap (λ ms. lifts_after false (ms ++ more)) is ∙ lifts_along strokes first n rest more are count

no_times : (n : ℕ) → 0 ≡ 0 * n
no_times n = omega arith

times_more : (k n lifts : ℕ) → lifts ≡ k * n → n + lifts ≡ suc k * n
times_more k n lifts is = grind arith

pub lifts_in_layers : (job : Job) (step : StepJob) (strokes : List Stroke) (n : ℕ) → IsLiftCount job step strokes n → (tips : List ℤ) (above : ℤ) (moves : List Move)
    → AreLayerMoves job step strokes above tips moves → lifts_after false moves ≡ length tips * n
lifts_in_layers job step strokes n count [] above moves none = ap (λ ms. lifts_after false ms) none ∙ no_times n
lifts_in_layers job step strokes n count (tip ∷ tips) above moves (layer, rest, is_layer, are_rest, is) =
    ap (λ ms. lifts_after false ms) is
    ∙ lifts_in_layer job step above tip strokes n layer rest is_layer count
    ∙ times_more (length tips) n (lifts_after false rest) (lifts_in_layers job step strokes n count tips (tip +ℤ pos step.body.e) rest are_rest)

-- The moves one by one.

pub next_lift : (moves : List Move) (k : ℕ) (to : Move) (feeds next : Bool) (lifts lift whole : ℕ) → k < length moves → to ≡ get_or moves k to → next ≡ is_feed to
    → ((rest : List Move) → lifts_after feeds (to ∷ rest) ≡ lift + lifts_after (is_feed to) rest)
    → lifts + lifts_after feeds (drop k moves) ≡ whole → (lifts + lift) + lifts_after next (drop (k + 1) moves) ≡ whole
next_lift moves k to feeds next lifts lift whole below is is_next counts so_far =
    let rest = drop (k + 1) moves in
    let one_on : suc k ≡ k + 1 = omega arith in
    let split : drop k moves ≡ to ∷ rest =
    drop-cons moves k to below ∙ ap (λ m. m ∷ drop (suc k) moves) (sym is) ∙ ap (λ n. to ∷ drop n moves) one_on in
    add_assoc lifts lift (lifts_after next rest)
    ∙ ap (λ n. lifts + n) (ap (λ b. lift + lifts_after b rest) is_next ∙ sym (counts rest) ∙ ap (λ ms. lifts_after feeds ms) (sym split))
    ∙ so_far
