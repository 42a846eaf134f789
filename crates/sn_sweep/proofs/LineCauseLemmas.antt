-- The causes of a line that is read and accepted are those of its acts.
use Rattle.std.proofs.Common.{ℕ, ◌≤◌, ◌≡◌, Option, None, Some, List, subst, arith}
use Rattle.sn_geom.specs.Acts.{Act, act_list}
use Rattle.sn_geom.specs.Block.{Block}
use Rattle.sn_geom.specs.LineText.{LineText}
use Rattle.sn_geom.specs.LineTextLaws.{HasOneBlock, HasNotBoth}
use Rattle.sn_geom.specs.Machine.{State, fault_of, acts_of, state_after}
use Rattle.sn_outline.specs.Job.{Job}
use Rattle.sn_open.specs.Verdict.{IsCauseAmong, IsCauseOfActs, IsLineCause, rank}
use Rattle.sn_open.specs.declared.verdict.Cause.{Cause}
use Rattle.sn_open.specs.declared.verdict.Cause.TheVariants.{LineFault, MachFault}
use Rattle.sn_sweep.specs.Checking.{Checking}
use Rattle.sn_sweep.specs.Judging.{JudgesActs, JudgesLine}
use Rattle.sn_sweep.proofs.ActLemmas.{among_rank}

-- a cause of acts is one of their line
of_acts : (job : Job) (state : State) (before : List Act) (line : List ℕ) (cause : Cause) → 2 ≤ rank cause → IsCauseOfActs job state before line cause
    → IsLineCause job state before line cause
of_acts job state before line (LineFault f) high h = absurd (omega arith)
of_acts job state before line (MachFault m) high h = absurd (omega arith)
of_acts job state before line cause high h = h

among_own : HasOneBlock → (job : Job) (state : State) (before : List Act) (line : List ℕ) (block : Block) (cause : Cause) → LineText line block
    → IsCauseOfActs job state before line cause → IsCauseAmong job before (act_list (acts_of state block)) cause
among_own one job state before line block cause says h =
    subst (λ (b : Block). IsCauseAmong job before (act_list (acts_of state b)) cause) (one line h.block block h.says says) h.among

-- a cause of an accepted line is one of its acts
own_cause : HasOneBlock → HasNotBoth → (job : Job) (state : State) (before : List Act) (line : List ℕ) (block : Block) (cause : Cause) → LineText line block
    → fault_of state block ≡ None → IsLineCause job state before line cause → IsCauseAmong job before (act_list (acts_of state block)) cause
own_cause one both job state before line block (LineFault f) says accepted h = absurd (both line block f says h)
own_cause one both job state before line block (MachFault m) says accepted (other, says', faulty) =
    let own = subst (λ (b : Block). fault_of state b ≡ Some m) (one line other block says' says) faulty in
    cc
own_cause one both job state before line block cause says accepted h = among_own one job state before line block cause says h

-- a line is judged by its acts
pub line_by_acts : HasOneBlock → HasNotBoth → (job : Job) (state : State) (before : List Act) (line : List ℕ) (block : Block) (new : Checking) (result : Option Cause)
    → LineText line block → fault_of state block ≡ None → new.machine ≡ state_after state block
    → JudgesActs job before (act_list (acts_of state block)) new result → JudgesLine job state before line new result
line_by_acts one both job state before line block new None says accepted reaches does =
    record { block = block; says = says; accepted = accepted; reaches = reaches; acts = does }
line_by_acts one both job state before line block new (Some cause) says accepted reaches first = record {
  holds = of_acts job state before line cause (among_rank job before (act_list (acts_of state block)) cause first.holds)
      (record { block = block; says = says; accepted = accepted; among = first.holds });
  first = λ other h. first.first other (own_cause one both job state before line block other says accepted h);
}
