use Rattle.std.proofs.Common.{sym, subst}
use Rattle.sn_geom.specs.Length.{IsLength}
use Rattle.sn_raster.proofs.Axis.{kept}
use Rattle.sn_raster.proofs.leads.only_column.Goals as goal

pub invariant_of-result : goal.invariant_of-result
invariant_of-result c =
    let same = kept c.clamped-only.result c.clamped-only.ensures.size in
    record { first_in = subst IsLength (sym same) c.clamped-only.ensures.size; last_in = subst IsLength (sym same) c.clamped-only.ensures.size }

pub returns-clause-first : goal.returns-clause-first
returns-clause-first c = rw (kept c.clamped-only.result c.clamped-only.ensures.size) c.clamped-only.ensures.from

pub returns-clause-last : goal.returns-clause-last
returns-clause-last c = rw (kept c.clamped-only.result c.clamped-only.ensures.size) c.clamped-only.ensures.to
