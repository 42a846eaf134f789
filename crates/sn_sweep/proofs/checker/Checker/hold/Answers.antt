use Rattle.std.proofs.Common.{◌++◌, ◌∙◌, ap, take}
use Rattle.sn_sweep.specs.Checking.{most_held}
use Rattle.sn_sweep.proofs.TakenPieces.{first_held, with_rest}
use Rattle.sn_sweep.proofs.checker.Checker.hold.Goals as goal

pub returns : goal.returns
returns c =
    let before = c.self.inside.rest.items in
    let appended = rw c.unwrap.ensures at c.try_extend_from_slice.ensures.ok in
    let first = ap (λ count. before ++ take count c.args.bytes.now) c.min.ensures in
    let all = first_held c.remaining_capacity-room.result most_held before c.args.self.now.rest c.args.bytes.now
    (ap (λ kept. kept.rest) c.self.view_is) c.remaining_capacity-room.ensures in
    with_rest _ c.args.self.now _ _ c.self.view_is (appended ∙ first ∙ all)
