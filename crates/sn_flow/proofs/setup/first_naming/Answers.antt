use Rattle.std.proofs.Common.{ℕ, Bool, sym, ◌∙◌, nat_eq, get_or, arith}
use Rattle.std.proofs.lemmas.List.Elements.{Contains-get_or}
use Rattle.sn_feature.specs.Entities.{named}
use Rattle.sn_flow.proofs.FindLemmas.{find_here, find_more}
use Rattle.sn_flow.proofs.setup.first_naming.Goals as goal

pub names-requires : goal.names-requires
names-requires c = c.requires (get_or c.args.settings.now c.loop-setting.setting-index 0) (Contains-get_or c.args.settings.now c.loop-setting.setting-index 0 (omega arith))

pub returns-then-names-clause-target : goal.returns-then-names-clause-target
returns-then-names-clause-target c = c.requires (get_or c.args.settings.now c.loop-setting.setting-index 0) (Contains-get_or c.args.settings.now c.loop-setting.setting-index 0 (omega arith))

pub returns-then-names-clause-value : goal.returns-then-names-clause-value
returns-then-names-clause-value c =
    let test : ℕ → Bool = λ n. nat_eq (named c.args.c.now n 0) c.args.workpiece in
    find_here test c.args.settings.now c.loop-setting.setting-index (omega arith) c.loop-setting.invariant (sym c.names.ensures ∙ c.if-names.true)

pub loop-setting-preserved : goal.loop-setting-preserved
loop-setting-preserved c =
    let test : ℕ → Bool = λ n. nat_eq (named c.args.c.now n 0) c.args.workpiece in
    find_more test c.args.settings.now c.loop-setting.setting-index (omega arith) c.loop-setting.invariant (sym c.names.ensures ∙ c.if-names.false)
