-- MEANING: the text of a refusal (this project's own).
use Rattle.std.specs.Prelude.{ℕ, List, codes}
use Rattle.sn_message.specs.declared.refusal.Refusal.{Refusal}
use Rattle.sn_message.specs.declared.refusal.Refusal.TheVariants as refused
use Rattle.sn_message.specs.FaultText.{placed_text, fault_text, memory_text, model_text, reference_text, job_text, uncovered_text}

-- the text of a refusal
abbrev pub refusal_text : Refusal → List ℕ
refusal_text (refused.Word place) = placed_text (codes "stepmill: word ") place
refusal_text (refused.Text fault) = fault_text fault
refusal_text refused.NotRead = codes "stepmill: read fault\n"
refusal_text refused.NoMemory = memory_text
refusal_text refused.TooLong = codes "stepmill: too long\n"
refusal_text (refused.Model fault) = model_text fault
refusal_text (refused.Reference fault) = reference_text fault
refusal_text (refused.Job fault) = job_text fault
refusal_text (refused.Uncovered feature cell) = uncovered_text feature cell
