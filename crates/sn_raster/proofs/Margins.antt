-- The greatest margin of steps, step by step.
use Rattle.std.proofs.Common.{ℕ, suc, ◌≡◌, ◌+◌, ◌<◌, max, List, length, get_or, drop, sym, ap, ◌∙◌, add-one, arith}
use Rattle.std.proofs.Math.Seq.{drop-cons}
use Rattle.sn_outline.specs.declared.job.StepJob.{StepJob}
use Rattle.sn_raster.specs.Grid.{margin_of, greatest_margin}

-- the greatest so far and the greatest of the steps to come make the greatest of all
pub record IsPassed (steps : List StepJob) (i margin : ℕ) : Type 0 where
  pub whole : max margin (greatest_margin (drop i steps)) ≡ greatest_margin steps

joined : (m a g before whole : ℕ) → before ≡ max a g → max m before ≡ whole → max (max m a) g ≡ whole
joined m a g before whole e h = omega arith

pub passed_one : (steps : List StepJob) (i margin : ℕ) (step : StepJob) → i < length steps → step ≡ get_or steps i step
    → IsPassed steps i margin → IsPassed steps (i + 1) (max margin (margin_of step))
passed_one steps i margin step below is passed =
    let here : greatest_margin (drop i steps) ≡ max (margin_of step) (greatest_margin (drop (suc i) steps)) =
    ap greatest_margin (drop-cons steps i step below) ∙ ap (λ s. max (margin_of s) (greatest_margin (drop (suc i) steps))) (sym is) in
    let rest : greatest_margin (drop (suc i) steps) ≡ greatest_margin (drop (i + 1) steps) = ap (λ k. greatest_margin (drop k steps)) (sym (add-one i)) in
    record { whole = joined margin (margin_of step) (greatest_margin (drop (i + 1) steps)) _ _ (here ∙ ap (max (margin_of step)) rest) passed.whole }
