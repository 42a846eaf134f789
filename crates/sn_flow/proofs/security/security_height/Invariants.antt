use Rattle.std.proofs.Common.{◌≡◌, take, map}
use Rattle.std.specs.Int.{int_max}
use Rattle.std.specs.List.{reduce, cons_option}
use Rattle.sn_walk.specs.Node.{main_setup}
use Rattle.sn_feature.specs.Step.{security_of}
use Rattle.sn_flow.specs.Setup.{setup_security}
use Rattle.sn_flow.proofs.security.security_height.Given as goal

abbrev pub invariant-loop-ws : goal.invariant-loop-ws
invariant-loop-ws l = l.highest ≡ reduce int_max (cons_option (setup_security l.c (main_setup l.c)) (map (security_of l.c) (take l.ws-index l.steps)))
