use Rattle.std.proofs.Common.{◌≤◌, ◌≤ℤ◌, w32, unsigned_abs, sym, subst, ap, arith}
use Rattle.std.proofs.lemmas.Bool.{both_ways}
use Rattle.std.proofs.lemmas.Int.{ints, to_z-of_z}
use Rattle.sn_geom.specs.declared.limits.TheConstants.{REACH}
use Rattle.sn_outline.specs.JobRule.{KeepRule, IsJob}
use Rattle.sn_outline.proofs.JobParts.{job_of, job_from, keep_from}
use Rattle.sn_outline.proofs.job.Job.new.Goals as goal

pub returns-then-not-keep_rule : goal.returns-then-not-keep_rule
returns-then-not-keep_rule c = λ job.
    let keep = keep_from c.args.pitch c.args.low c.args.high c.args.sec c.args.steps c.args.tools job in
    let of_length = subst (KeepRule c.args.steps) (sym c.len.ensures) keep in
    let of_slice = subst (λ steps. KeepRule steps c.len.result) (sym c.as_slice.ensures) of_length in
    both_ways _ c.if-not-keep_rule.true (c.keep_rule.ensures.1 of_slice)

is_job : (c : goal.Else-not-keep_rule) → IsJob (job_of c.args.pitch c.args.low c.args.high c.args.sec c.args.steps c.args.tools)
is_job c =
    let of_slice = c.keep_rule.ensures.0 c.if-not-keep_rule.false in
    let of_length = subst (λ steps. KeepRule steps c.len.result) c.as_slice.ensures of_slice in
    let keep = subst (KeepRule c.args.steps) c.len.ensures of_length in
    let size : unsigned_abs c.args.sec ≤ REACH = omega (arith, ints) in
    let above : c.args.high.z ≤ℤ c.args.sec = omega (arith, ints) in
    job_from c.args.pitch c.args.low c.args.high c.args.sec c.args.steps c.args.tools
    (c.is_pitch.ensures.0 c.if-not-is_pitch.false) (c.are_corners.ensures.0 c.if-not-are_corners.false) size above keep

pub invariant_of-result : goal.invariant_of-result
invariant_of-result c = rw (to_z-of_z w32 c.args.sec c.ranges.sec) (is_job c)

pub returns : goal.returns
returns c = (
  is_job c,
  ap (λ sec. job_of c.args.pitch c.args.low c.args.high sec c.args.steps c.args.tools) (to_z-of_z w32 c.args.sec c.ranges.sec),
)
