use Rattle.std.proofs.Common.{◌≡◌, take, nat_eq, None}
use Rattle.std.specs.List.{find}
use Rattle.sn_feature.specs.Entities.{named}
use Rattle.sn_flow.proofs.setup.first_naming.Given as goal

abbrev pub invariant-loop-setting : goal.invariant-loop-setting
invariant-loop-setting l = find (λ n. nat_eq (named l.c n 0) l.workpiece) (take l.setting-index l.settings) ≡ None
