use Rattle.std.proofs.Common.{subst, sym, ◌∙◌}
use Rattle.sn_geom.specs.Length.{IsLength}
use Rattle.sn_raster.proofs.Axis.{kept}
use Rattle.sn_raster.proofs.Besides.{most_length, least_length, most_value, least_value}
use Rattle.sn_raster.proofs.places.Places.cut_to.Goals as goal

pub invariant_of-result : goal.invariant_of-result
invariant_of-result c =
    let places = c.args.self.now in
    let most = most_value places.first _ c.args.first _ c.max.result (kept places.first places.first_in) (kept c.args.first c.requires.first) c.max.ensures.value in
    let least = least_value places.last _ c.args.last _ c.min.result (kept places.last places.last_in) (kept c.args.last c.requires.last) c.min.ensures.value in
    let first = most_length places.first c.args.first c.max.result most places.first_in c.requires.first in
    let last = least_length places.last c.args.last c.min.result least places.last_in c.requires.last in
    record {
      first_in = subst IsLength (sym (kept c.max.result first)) first;
      last_in = subst IsLength (sym (kept c.min.result last)) last;
    }

pub returns-clause-first : goal.returns-clause-first
returns-clause-first c =
    let places = c.args.self.now in
    let most = most_value places.first _ c.args.first _ c.max.result (kept places.first places.first_in) (kept c.args.first c.requires.first) c.max.ensures.value in
    kept c.max.result (most_length places.first c.args.first c.max.result most places.first_in c.requires.first) ∙ most

pub returns-clause-last : goal.returns-clause-last
returns-clause-last c =
    let places = c.args.self.now in
    let least = least_value places.last _ c.args.last _ c.min.result (kept places.last places.last_in) (kept c.args.last c.requires.last) c.min.ensures.value in
    kept c.min.result (least_length places.last c.args.last c.min.result least places.last_in c.requires.last) ∙ least
