use Rattle.sn_frame.proofs.Arithmetic.{applied-composed, composed-composed, applied-identity, composed-identity_left, composed-identity_right}
use Rattle.sn_frame.proofs.laws.composition.Goals as goal

pub returns-clause-inner_then_outer : goal.returns-clause-inner_then_outer
returns-clause-inner_then_outer c = applied-composed

pub returns-clause-associative : goal.returns-clause-associative
returns-clause-associative c = composed-composed

pub returns-clause-identity_keeps_points : goal.returns-clause-identity_keeps_points
returns-clause-identity_keeps_points c = applied-identity

pub returns-clause-identity_is_neutral : goal.returns-clause-identity_is_neutral
returns-clause-identity_is_neutral c = λ f. (composed-identity_left f, composed-identity_right f)
