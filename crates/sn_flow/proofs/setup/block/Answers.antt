use Rattle.std.proofs.Common.{sym, ◌∙◌}
use Rattle.sn_flow.proofs.SetupLemmas.{block_target}
use Rattle.sn_flow.proofs.setup.block.Goals as goal

pub returns-then-names_block-clause-target : goal.returns-then-names_block-clause-target
returns-then-names_block-clause-target c =
    block_target c.args.c.now c.args.workpiece c.fields.result.now c.in_ok-bound.bound c.named_are_targets.ensures c.rule.ensures.sound c.requires c.fields.ensures.entry c.fields.ensures.row
    (sym c.in_ok-bound.ensures) (sym c.names_block.ensures ∙ c.if-names_block.true)
