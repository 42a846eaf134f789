use Rattle.std.proofs.Common.{◌∙◌, ◌<◌, ap, length, arith, List, get_or}
use Rattle.std.proofs.lemmas.Result.{err_from_is_err_and}
use Rattle.sn_geom.specs.declared.units.Pt.{Pt}
use Rattle.sn_feature.proofs.PutLemmas.{put_stops, put_goes, put_ends}
use Rattle.sn_feature.proofs.site.Site.put_all.Goals as goal

pub returns-in_err-place : goal.returns-in_err-place
returns-in_err-place c =
    let p = err_from_is_err_and c.from_residual.result c.from_residual.ensures.1 in
    let lt : c.loop-at.at < length c.args.points = omega (arith, c.len-at-end.ensures, c.loop-at-test.true) in
    let item = c.index-as_slice-at.is ∙ ap (λ (xs : List Pt). get_or xs c.loop-at.at c.index-as_slice-at.result) c.as_slice.ensures in
    rw (p.1, p.2) (put_stops c.args.self.now c.args.points c.loop-at.at c.loop-at.points c.loop-at.invariant.placed c.index-as_slice-at.result _ lt item c.in_err-place.ensures)

pub loop-at-preserved : goal.loop-at-preserved
loop-at-preserved c =
    let lt : c.loop-at.at < length c.args.points = omega (arith, c.len-at-end.ensures, c.loop-at-test.true) in
    let item = c.index-as_slice-at.is ∙ ap (λ (xs : List Pt). get_or xs c.loop-at.at c.index-as_slice-at.result) c.as_slice.ensures in
    let both = put_goes c.args.self.now c.args.points c.loop-at.at c.loop-at.points c.loop-at.invariant.placed c.index-as_slice-at.result c.in_ok-place.place lt item c.loop-at.invariant.reached c.in_ok-place.ensures in
    record { placed = c.set.ensures ∙ both.0; reached = both.1 }

pub returns : goal.returns
returns c = put_ends c.args.self.now c.args.points c.loop-at.at c.loop-at.points c.loop-at.invariant.placed (omega (arith, c.len-at-end.ensures, c.loop-at-test.false)) c.loop-at.invariant.reached
