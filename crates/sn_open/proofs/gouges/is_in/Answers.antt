use Rattle.std.proofs.Common.{sym, subst}
use Rattle.std.proofs.lemmas.Bool.{both_ways, false≢true}
use Rattle.sn_raster.specs.Plane.{Has}
use Rattle.sn_open.specs.Window.{node_at}
use Rattle.sn_open.proofs.gouges.is_in.Goals as goal

pub returns-then-not-has_at : goal.returns-then-not-has_at
returns-then-not-has_at c =
    let n = node_at c.args.g.now c.args.column c.args.row in (
      λ t. absurd (false≢true t),
      λ has.
          absurd
          (both_ways _ c.if-not-has_at.true
          (c.has_at.ensures.1 (subst (λ p. Has p n) (sym c.nodes.ensures) (subst (λ m. Has c.args.cells.now.plane m) c.requires.node has.node)))),
    )

pub returns : goal.returns
returns c =
    let n = node_at c.args.g.now c.args.column c.args.row in (
      λ t. record {
        node = subst (λ m. Has c.args.cells.now.plane m) (sym c.requires.node) (subst (λ p. Has p n) c.nodes.ensures (c.has_at.ensures.0 c.if-not-has_at.false));
        height = c.is_high.ensures.0 t;
      },
      λ has. c.is_high.ensures.1 has.height,
    )
