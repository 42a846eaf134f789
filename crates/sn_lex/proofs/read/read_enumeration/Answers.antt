use Rattle.std.proofs.Common.{subst, List, ℕ}
use Rattle.sn_lex.specs.Split.{LeavesName}
use Rattle.sn_lex.proofs.Names.{reads_enumeration, no_point_after_name, no_name_after_point}
use Rattle.sn_lex.proofs.read.read_enumeration.Goals as goal

pub returns-in_err-after_name : goal.returns-in_err-after_name
returns-in_err-after_name c = rw c.from_residual.ensures (no_name_after_point _ c.in_err-after_name.ensures)

pub returns-in_err-after : goal.returns-in_err-after
returns-in_err-after c = rw c.from_residual-in_err-after.ensures (no_point_after_name _ _ c.in_ok-after_name.ensures c.in_err-after.ensures)

pub returns : goal.returns
returns c = reads_enumeration _ _ (subst (λ (l : List ℕ). LeavesName c.args.bytes.now l) c.in_ok-after.ensures c.in_ok-after_name.ensures)
