-- Laws of calls of the machine, line after line (this project's own).
use Rattle.std.specs.Prelude.{◌≡◌, ◌↔◌, List, [], ◌∷◌, None, Some, Result, Ok, Err, OkIff, OnOk, OnErr}
use Rattle.sn_geom.specs.declared.machine.Acts.{Acts}
use Rattle.sn_geom.specs.declared.machine.MachFault.{MachFault}
use Rattle.sn_geom.specs.Block.{Block}
use Rattle.sn_geom.specs.Machine.{State, fault_of, acts_of, state_after, state_after_all, Runs}

-- a call at a line: the state before, the answer, and the state after
pub record Steps (old : State) (b : Block) (result : Result Acts MachFault) (new : State) : Type 0 where
  pub acts : OkIff result (fault_of old b ≡ None) (acts_of old b)
  pub fault : (fault : MachFault) → (result ≡ Err fault) ↔ (fault_of old b ≡ Some fault)
  pub after : OnOk result (new ≡ state_after old b)
  pub unchanged : OnErr result (new ≡ old)

-- calls line after line, all of them accepted: the acts of each, and the state after the last
abbrev pub StepsThrough : State → List Block → List Acts → State → Type 0
StepsThrough old [] acts new = (acts ≡ []) × (new ≡ old)
StepsThrough old (b ∷ bs) acts new =
    (next : State) × ((first : Acts) × ((later : List Acts) × (Steps old b (Ok first) next × (acts ≡ first ∷ later) × StepsThrough next bs later new)))

-- calls line after line answer what the lines mean, and refuse what means nothing
abbrev pub StepsAreRuns : Type 0
StepsAreRuns = (old new : State) (blocks : List Block) (acts : List Acts) → StepsThrough old blocks acts new ↔ (Runs old blocks acts × (new ≡ state_after_all old blocks))
