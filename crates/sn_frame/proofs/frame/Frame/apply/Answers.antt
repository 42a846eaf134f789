use Rattle.std.proofs.Common.{◌≡◌, arith, ◌∙◌}
use Rattle.sn_frame.specs.Frame.{applied}
use Rattle.sn_frame.specs.Place.{IsMoved, point_of}
use Rattle.sn_frame.proofs.Places.{IsWithin-widened, point_of-three_moves, point_or}
use Rattle.sn_frame.proofs.frame.Frame.apply.Goals as goal

pub moved-requires-2 : goal.moved-requires-2
moved-requires-2 c = IsWithin-widened (c.moved.ensures.size _ c.at.ensures.size) _ (omega arith)

pub moved-requires-3 : goal.moved-requires-3
moved-requires-3 c = IsWithin-widened (c.moved-2.ensures.size _ (c.moved.ensures.size _ c.at.ensures.size)) _ (omega arith)

pub returns : goal.returns
returns c =
    let f = c.args.self.now in
    let p = c.args.p.now in
    let first : IsMoved c.at.result c.moved.result f.matrix.first p.x = rw (← c.self.view_is) c.moved.ensures.value in
    let second : IsMoved c.moved.result c.moved-2.result f.matrix.second p.y = rw (← c.second.ensures) c.moved-2.ensures.value in
    let third : IsMoved c.moved-2.result c.moved-3.result f.matrix.third p.z = rw (← c.self.view_is) c.moved-3.ensures.value in
    let shift : point_of c.at.result ≡ f.shift = rw (← c.self.view_is) c.at.ensures.value in
    let reached = point_of-three_moves f p shift first second third in
    c.ok_or.ensures.value ∙ point_or c.point.result (applied f p) _ reached c.point.ensures
