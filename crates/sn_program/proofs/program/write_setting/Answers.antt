use Rattle.std.proofs.Common.{◌≡◌, refl, sym, ap, ◌∙◌}
use Rattle.sn_io.proofs.SinkLemmas.{writes-first, writes-later}
use Rattle.sn_geom.specs.declared.tip.Tip.TheVariants.{Unknown}
use Rattle.sn_gwrite.specs.Kept.{Kept}
use Rattle.sn_program.proofs.ProgramLemmas.{rise_is, spindle_test, setting_changed}
use Rattle.sn_program.proofs.program.write_setting.Goals as goal

pub returns-in_err-rates-clause-writes : goal.returns-in_err-rates-clause-writes
returns-in_err-rates-clause-writes g c =
    let result = c.from_residual-in_err-rates.result in
    let other = sym (spindle_test c.args.tool c.args.step.now.tool) ∙ sym c.eq.ensures ∙ c.if-eq.false in
    writes-later result _ _ _ _ _ _ (setting_changed c.args.job.now c.args.tool c.args.step.now other) c.in_ok-change_tool.ensures.writes
    (writes-first result _ _ _ _ _ c.from_residual-in_err-rates.ensures.0 refl c.in_err-rates.ensures.writes)

pub returns-clause-writes : goal.returns-clause-writes
returns-clause-writes g c =
    let result = c.rapid.result in
    let other = sym (spindle_test c.args.tool c.args.step.now.tool) ∙ sym c.eq.ensures ∙ c.if-eq.false in
    let unknown : c.rates-2.new.self.tip ≡ Unknown = ap (λ (kept : Kept). kept.tip) c.in_ok-rates.ensures.ok ∙ ap (λ (kept : Kept). kept.tip) c.in_ok-change_tool.ensures.ok in
    let rise = rise_is c.rates-2.new.self.tip c.at_security.result c.args.job.now.sec unknown c.at_security.ensures in
    writes-later result _ _ _ _ _ _ (setting_changed c.args.job.now c.args.tool c.args.step.now other) c.in_ok-change_tool.ensures.writes
    (writes-later result _ _ _ _ _ _ refl c.in_ok-rates.ensures.writes (rw (← rise) c.rapid.ensures.writes))
