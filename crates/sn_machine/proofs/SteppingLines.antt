-- Calls of the machine line after line.
use Rattle.std.proofs.Common.{◌≡◌, List, [], ◌∷◌, refl, sym, ◌∙◌, ap, subst}
use Rattle.std.specs.Prelude.{None, Some, Ok}
use Rattle.sn_geom.specs.declared.machine.Acts.{Acts}
use Rattle.sn_geom.specs.Block.{Block}
use Rattle.sn_geom.specs.Machine.{State, fault_of, acts_of, state_after, state_after_all, Runs}
use Rattle.sn_machine.specs.StepLaws.{Steps, StepsThrough, StepsAreRuns}

stepped : (old new : State) (blocks : List Block) (acts : List Acts) → StepsThrough old blocks acts new → Runs old blocks acts × (new ≡ state_after_all old blocks)
stepped old new [] acts (none, same) = (none, same)
stepped old new (b ∷ bs) acts (next, (first, (later, (steps, is, through)))) =
    let rest = stepped next new bs later through in (
      (
        steps.acts.0,
        (
          later,
          is ∙ ap (λ act. act ∷ later) steps.acts.1,
          subst (λ (s : State). Runs s bs later) steps.after rest.0,
        ),
      ),
      rest.1 ∙ ap (λ s. state_after_all s bs) steps.after,
    )

accepted : (old : State) (b : Block) → fault_of old b ≡ None → Steps old b (Ok (acts_of old b)) (state_after old b)
accepted old b clean = record {
  acts = (clean, refl);
  fault = λ fault. (λ is. absurd cc, λ is. absurd (let h : None ≡ Some fault = sym clean ∙ is in cc));
  after = refl;
  unchanged = tt;
}

run : (old new : State) (blocks : List Block) (acts : List Acts) → Runs old blocks acts × (new ≡ state_after_all old blocks) → StepsThrough old blocks acts new
run old new [] acts (none, same) = (none, same)
run old new (b ∷ bs) acts ((clean, (later, is, runs)), same) =
    (state_after old b, (acts_of old b, (later, (accepted old b clean, is, run (state_after old b) new bs later (runs, same)))))

pub steps_are_runs : StepsAreRuns
steps_are_runs old new blocks acts = (stepped old new blocks acts, run old new blocks acts)
