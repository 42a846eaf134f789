use Rattle.std.proofs.Common.{ap, ◌∙◌, arith}
use Rattle.sn_open.specs.Window.{rows}
use Rattle.sn_open.proofs.WidthLemmas.{disc_half_widths, disc_at}
use Rattle.sn_open.proofs.MorphologyLemmas.{eroded, eroded_alone}
use Rattle.sn_open.proofs.morphology.erode_in.Goals as goal

pub spread-requires-clause-widths : goal.spread-requires-clause-widths
spread-requires-clause-widths c =
    let rows_is = c.rows_of.ensures.value ∙ ap rows c.grid-g.ensures in
    disc_half_widths _ _ _ _ (disc_at c.args.d _ _ _ _ c.set_disc_widths.new.widths (ap (λ g. g.pitch) c.g.view_is ∙ ap (λ g. g.pitch) c.grid-g.ensures) rows_is c.set_disc_widths.ensures)

pub returns-then-has_no_other-clause-nodes : goal.returns-then-has_no_other-clause-nodes
returns-then-has_no_other-clause-nodes c =
    let small = c.has_no_other.ensures.0 c.if-has_no_other.true in
    let pitch = ap (λ g. g.pitch) c.grid-g.ensures in
    eroded_alone c.args.from.now c.copy.new.self c.args.d (omega arith) c.copy.ensures

pub returns-clause-nodes : goal.returns-clause-nodes
returns-clause-nodes c =
    let rows_is = c.rows_of.ensures.value ∙ ap rows c.grid-g.ensures in
    let are = disc_at c.args.d _ _ _ _ c.set_disc_widths.new.widths (ap (λ g. g.pitch) c.g.view_is ∙ ap (λ g. g.pitch) c.grid-g.ensures) rows_is c.set_disc_widths.ensures in
    eroded c.args.from.now c.spread.new.to c.invert.new.self c.args.d c.set_disc_widths.new.widths are c.spread.ensures.grid c.spread.ensures.nodes c.invert.ensures.nodes
