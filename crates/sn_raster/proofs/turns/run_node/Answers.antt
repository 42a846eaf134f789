use Rattle.std.proofs.Common.{◌∙◌, ap, sym}
use Rattle.sn_raster.specs.RowTurns.{at, differs}
use Rattle.sn_raster.proofs.Marks.{in_own_window}
use Rattle.sn_raster.proofs.HeightMaps.{passed_node}
use Rattle.sn_raster.proofs.RowBits.{bit_of_has, turned_about, not_beq}
use Rattle.sn_raster.proofs.turns.run_node.Goals as goal

pub returns-clause-value : goal.returns-clause-value
returns-clause-value c =
    let n = at c.args.i c.args.j in
    let same = passed_node c.args.i c.args.j c.ranges.i c.ranges.j in
    let window = in_own_window _ c.args.g.now n c.requires.grid c.requires.window in
    let before = bit_of_has c.args.row.now n _ c.get.result same window (turned_about c.get.ensures) in
    not_beq c.get.result c.args.odd ∙ ap (λ b. differs b c.args.odd) (sym before)

pub returns-clause-node : goal.returns-clause-node
returns-clause-node c =
    let n = at c.args.i c.args.j in
    let same = passed_node c.args.i c.args.j c.ranges.i c.ranges.j in
    let window = in_own_window _ c.args.g.now n c.requires.grid c.requires.window in
    bit_of_has c.set.new.self n _ _ same (in_own_window _ _ n c.set.ensures.grid window) c.set.ensures.node

pub returns-clause-others : goal.returns-clause-others
returns-clause-others c = λ n other. c.set.ensures.others n (λ is. other (is ∙ passed_node c.args.i c.args.j c.ranges.i c.ranges.j))
