use Rattle.std.proofs.Common.{◌≡◌}
use Rattle.sn_frame.specs.Matrix.{product}
use Rattle.sn_frame.specs.Direction.{matrix_of}
use Rattle.sn_frame.specs.Frame.{composed}
use Rattle.sn_frame.proofs.Composing.{matrix_of-images, rotation-images, composed_in_range}
use Rattle.sn_frame.proofs.frame.Frame.compose.Goals as goal

pub invariant_of-result : goal.invariant_of-result
invariant_of-result c =
    rotation-images c.args.self.now.matrix _ _ _ _ c.turned.ensures.rotation c.inner.invariant c.turned.ensures.image c.turned-2.ensures.image

pub returns : goal.returns
unfolding composed
returns c =
    let f = c.args.self.now in
    let g = c.args.inner.now in
    let r = c.inner.inside.reference in
    let a = c.inner.inside.axis in
    let images = matrix_of-images f.matrix r a _ _ c.turned.ensures.rotation c.turned.ensures.image c.turned-2.ensures.image in
    let matrix : matrix_of c.turned.result c.turned-2.result ≡ product f.matrix g.matrix = rw (← c.inner.view_is) images in
    composed_in_range f g _ c.in_ok-at.at c.apply.result _ matrix (rw (← c.inner.view_is) c.apply.ensures) c.in_ok-at.was
