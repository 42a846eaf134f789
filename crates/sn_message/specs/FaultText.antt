-- MEANING: the refusals, and the texts of the faults of words and of parts (this project's own).
use Rattle.std.specs.Prelude.{ℕ, List, ◌++◌, codes, decimal}
use Rattle.std.specs.Fmt.{signed_decimal}
use Rattle.sn_geom.specs.declared.units.Cell.{Cell}
use Rattle.sn_entity.specs.declared.fault.EntFault.{EntFault}
use Rattle.sn_entity.specs.declared.fault.EntFault.TheVariants as entity
use Rattle.sn_flow.specs.declared.fault.JobFault.{JobFault}
use Rattle.sn_flow.specs.declared.fault.JobFault.TheVariants as job
use Rattle.sn_frame.specs.declared.frame.FrameFault.{FrameFault}
use Rattle.sn_frame.specs.declared.frame.FrameFault.TheVariants.{Skew, OutOfRange}
use Rattle.sn_lex.specs.declared.token.LexFault.{LexFault}
use Rattle.sn_lex.specs.declared.token.LexFault.TheVariants.{BadByte, OpenString, OpenComment, BadNumber, BadEnum}
use Rattle.sn_model.specs.declared.fault.ModelFault.{ModelFault}
use Rattle.sn_model.specs.declared.fault.ModelFault.TheVariants as model
use Rattle.sn_p21.specs.declared.fault.P21Fault.{P21Fault}
use Rattle.sn_p21.specs.declared.fault.P21Fault.TheVariants as p21
use Rattle.sn_refs.specs.declared.fault.RefFault.{RefFault}
use Rattle.sn_refs.specs.declared.fault.RefFault.TheVariants as reference
use Rattle.sn_words.specs.declared.fault.WordFault.{WordFault}
use Rattle.sn_words.specs.declared.fault.WordFault.TheVariants as words
use Rattle.sn_message.specs.declared.refusal.Refusal.{Refusal}
use Rattle.sn_message.specs.declared.refusal.Refusal.TheVariants.{Word, Text, Model, Reference, Job, NoMemory}
use Rattle.sn_message.specs.declared.refusal.TextFault.{TextFault}
use Rattle.sn_message.specs.declared.refusal.TextFault.TheVariants.{Lex, Unexpected, Twice, TooDeep}

-- the fault of a text as the reader of part texts gives it
abbrev pub p21_fault : TextFault → P21Fault
p21_fault (Lex fault) = p21.Lex fault
p21_fault (Unexpected at) = p21.Unexpected at
p21_fault (Twice number at) = p21.Twice number at
p21_fault (TooDeep at) = p21.TooDeep at

-- the refusal of a fault: want of memory is no fault of the text
abbrev pub refusal_of : P21Fault → Refusal
refusal_of (p21.Lex fault) = Text (Lex fault)
refusal_of (p21.Unexpected at) = Text (Unexpected at)
refusal_of (p21.Twice number at) = Text (Twice number at)
refusal_of (p21.TooDeep at) = Text (TooDeep at)
refusal_of p21.Memory = NoMemory

-- the refusal of a fault of the words
abbrev pub refusal_of_words : WordFault → Refusal
refusal_of_words (words.At place) = Word place
refusal_of_words words.Memory = NoMemory

-- the refusals of the faults of a model, of its references and of its job
abbrev pub refusal_of_model : ModelFault → Refusal
refusal_of_model model.Memory = NoMemory
refusal_of_model fault = Model fault

abbrev pub refusal_of_references : RefFault → Refusal
refusal_of_references reference.Memory = NoMemory
refusal_of_references fault = Reference fault

abbrev pub refusal_of_job : JobFault → Refusal
refusal_of_job job.Memory = NoMemory
refusal_of_job fault = Job fault

-- words, a place and the end of the line
abbrev pub placed_text : List ℕ → ℕ → List ℕ
placed_text words place = words ++ (decimal place ++ codes "\n")

abbrev pub lex_text : LexFault → List ℕ
lex_text (BadByte at) = placed_text (codes "stepmill: part: bad byte at ") at
lex_text (OpenString at) = placed_text (codes "stepmill: part: open string at ") at
lex_text (OpenComment at) = placed_text (codes "stepmill: part: open comment at ") at
lex_text (BadNumber at) = placed_text (codes "stepmill: part: bad number at ") at
lex_text (BadEnum at) = placed_text (codes "stepmill: part: bad enumeration at ") at

abbrev pub fault_text : TextFault → List ℕ
fault_text (Lex fault) = lex_text fault
fault_text (Unexpected at) = placed_text (codes "stepmill: part: unexpected at ") at
fault_text (Twice number at) = codes "stepmill: part: #" ++ (decimal number ++ placed_text (codes " twice at ") at)
fault_text (TooDeep at) = placed_text (codes "stepmill: part: too deep at ") at

-- words, the number of an instance, and words to the end of the line
abbrev pub instance_text : ℕ → List ℕ → List ℕ
instance_text number words = codes "stepmill: part: #" ++ (decimal number ++ (words ++ codes "\n"))

-- words, the number of an instance, the place of its parameter, and words to the end of the line
abbrev pub parameter_text : ℕ → ℕ → List ℕ → List ℕ
parameter_text number place words = instance_text number (codes " parameter " ++ (decimal place ++ words))

abbrev pub part_text : List ℕ → List ℕ
part_text words = codes "stepmill: part: " ++ (words ++ codes "\n")

abbrev pub memory_text : List ℕ
memory_text = codes "stepmill: memory\n"

abbrev pub model_text : ModelFault → List ℕ
model_text model.NoProject = part_text (codes "no project")
model_text (model.TwoProjects number) = instance_text number (codes " is a second project")
model_text model.Memory = memory_text

abbrev pub entity_text : EntFault → List ℕ
entity_text (entity.Count number wanted given) =
    instance_text number (codes " has " ++ (decimal given ++ (codes " parameters and wants " ++ decimal wanted)))
entity_text (entity.KindAt number place) = parameter_text number place (codes " has a wrong kind")
entity_text (entity.Range number place) = parameter_text number place (codes " is out of range")
entity_text entity.Memory = memory_text

abbrev pub reference_text : RefFault → List ℕ
reference_text (reference.Entity fault) = entity_text fault
reference_text (reference.Dangling number place) = parameter_text number place (codes " names nothing")
reference_text (reference.WrongKind number place named) =
    parameter_text number place (codes " names #" ++ (decimal named ++ codes " of a wrong kind"))
reference_text (reference.Cycle number) = instance_text number (codes " on a cycle")
reference_text reference.Memory = memory_text

abbrev pub frame_text : FrameFault → List ℕ
frame_text (Skew number) = instance_text number (codes " is skew")
frame_text (OutOfRange number) = instance_text number (codes " leaves the range")

abbrev pub job_text : JobFault → List ℕ
job_text (job.Frame fault) = frame_text fault
job_text (job.Unset number) = instance_text number (codes " has no value")
job_text job.TooManySteps = part_text (codes "too many steps")
job_text (job.SecondSetup number) = instance_text number (codes " names a second setup")
job_text job.RawUnknown = part_text (codes "raw box unknown")
job_text job.SecLow = part_text (codes "security plane below the raw top")
job_text (job.WrongTool number) = instance_text number (codes " has a wrong tool")
job_text (job.ShortTool number) = instance_text number (codes " has a short tool")
job_text (job.Depth number) = instance_text number (codes " has its floor above its top")
job_text (job.BadOutline number) = instance_text number (codes " has a bad outline")
job_text job.GridTooBig = part_text (codes "grid too big")
job_text (job.TooSmall number) = instance_text number (codes " too small for the grid")
job_text job.Memory = memory_text

-- a cell of a feature that no step of it opens
abbrev pub uncovered_text : ℕ → Cell → List ℕ
uncovered_text feature c =
    codes "stepmill: uncovered #" ++ (decimal feature ++ (codes " i " ++ (signed_decimal c.i ++ (codes " j " ++ (signed_decimal c.j ++ (codes " z " ++ (signed_decimal c.z ++ codes "\n")))))))
