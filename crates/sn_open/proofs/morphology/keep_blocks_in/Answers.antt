use Rattle.std.proofs.Common.{refl, ◌∙◌}
use Rattle.sn_raster.specs.Neighbours.{IsBesideInRow, IsBesideInColumn}
use Rattle.sn_open.proofs.BlockLemmas.{kept_at, kept_blocks}
use Rattle.sn_open.proofs.morphology.keep_blocks_in.Goals as goal

pub returns-clause-nodes : goal.returns-clause-nodes
returns-clause-nodes c =
    let from = c.args.from.now in
    let g = from.grid in
    let a = c.keep_beside_in_rows in
    let b = c.keep_beside_in_rows-2 in
    let d = c.keep_beside_in_columns in
    let e = c.keep_beside_in_columns-2 in
    let first = a.ensures.grid ∙ c.requires.spare in
    let second = b.ensures.grid ∙ c.requires.grid in
    let third = d.ensures.grid ∙ first in
    kept_blocks from a.new.self b.new.self d.new.self e.new.self
    (kept_at IsBesideInRow g c.args.spare.now from a.new.self c.requires.spare refl a.ensures.nodes)
    (kept_at IsBesideInRow g c.args.to.now a.new.self b.new.self c.requires.grid first b.ensures.nodes)
    (kept_at IsBesideInColumn g a.new.self b.new.self d.new.self first second d.ensures.nodes)
    (kept_at IsBesideInColumn g b.new.self d.new.self e.new.self second third e.ensures.nodes)
