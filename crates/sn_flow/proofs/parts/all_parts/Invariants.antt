use Rattle.std.proofs.Common.{◌≡◌, take, Ok}
use Rattle.std.specs.List.{Contains}
use Rattle.sn_feature.specs.declared.parts.StepParts.{StepParts}
use Rattle.sn_feature.specs.StepRule.{AreProper, HasCorner}
use Rattle.sn_flow.specs.JobOf.{all_parts}
use Rattle.sn_flow.proofs.parts.all_parts.Given as goal

abbrev pub invariant-loop-ws : goal.invariant-loop-ws
invariant-loop-ws l =
    record {
      all : all_parts l.c l.workpiece l.raw_top (take l.ws-index l.steps) ≡ Ok l.parts.items;
      proper : (p : StepParts) → Contains l.parts.items p → AreProper p;
      corner : (p : StepParts) → Contains l.parts.items p → HasCorner p;
    }
