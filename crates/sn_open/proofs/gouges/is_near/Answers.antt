use Rattle.std.proofs.Common.{ap, sym, subst}
use Rattle.std.proofs.lemmas.Bool.{both_ways, false≢true}
use Rattle.sn_geom.specs.Sweep.{plan}
use Rattle.sn_raster.specs.Grid.{place}
use Rattle.sn_raster.specs.Reach.{IsBeside}
use Rattle.sn_raster.proofs.Besides.{near_across}
use Rattle.sn_open.specs.Window.{node_at}
use Rattle.sn_open.proofs.gouges.is_near.Goals as goal

pub returns-then-not-is_beside : goal.returns-then-not-is_beside
returns-then-not-is_beside c =
    let a = c.args.a.now in
    let b = c.args.b.now in
    let p = place c.args.g.now.pitch (node_at c.args.g.now c.args.column c.args.row) in (
      λ t. absurd (false≢true t),
      λ near.
          absurd
          (both_ways _ c.if-not-is_beside.true
          (c.is_beside.ensures.1 (subst (λ x. IsBeside c.args.d a.x b.x x) (sym (ap (λ q. q.x) c.point_at-at.ensures)) (near_across c.args.d (plan a) (plan b) p near)))),
    )
