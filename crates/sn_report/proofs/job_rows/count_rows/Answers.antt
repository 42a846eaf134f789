use Rattle.std.proofs.Common.{◌≡◌, ◌⊎◌, List, [], ◌∷◌, ◌++◌, refl, sym, ap, ◌∙◌, ⊎_elim}
use Rattle.std.proofs.lemmas.List.{append-nil}
use Rattle.std.proofs.lemmas.Slice.Zip.{either_empty_from_Zip}
use Rattle.std.specs.Iterator.Adapters.{zip_first, zip_second}
use Rattle.std.specs.Slice.Iter.{iter_rest}
use Rattle.sn_outline.specs.declared.job.StepJob.{StepJob}
use Rattle.sn_link.specs.declared.planner.PlannedStep.{PlannedStep}
use Rattle.sn_report.specs.declared.counts.CountRow.{CountRow}
use Rattle.sn_report.specs.JobCounts.{count_rows}
use Rattle.sn_report.proofs.job_rows.count_rows.Goals as goal

-- one of the lists has come to its end
at_end : (steps : List StepJob) (plans : List PlannedStep) → (steps ≡ []) ⊎ (plans ≡ []) → count_rows steps plans ≡ []
at_end [] plans h = refl
at_end (step ∷ steps) [] h = refl
at_end (step ∷ steps) (planned ∷ plans) h = ⊎_elim (λ e. absurd (cc)) (λ e. absurd (cc)) h

pub returns : goal.returns
returns c =
    let rest : List CountRow = count_rows (iter_rest (zip_first c.loop-step.step-iterator)) (iter_rest (zip_second c.loop-step.step-iterator)) in
    let none : rest ≡ [] = at_end _ _ (either_empty_from_Zip c.loop-step.step-iterator c.next.new.self c.next.result c.in-None.is c.next.ensures.steps) in
    sym (append-nil c.loop-step.rows) ∙ (ap (λ (xs : List CountRow). c.loop-step.rows ++ xs) (sym none) ∙ c.loop-step.invariant)
