-- The causes of motions between known places.
use Rattle.std.proofs.Common.{ℕ, ◌≤◌, ◌<◌, ◌≡◌, ◌⊎◌, inl, inr, ⊎_elim, length, ℤ, pos, ◌+ℤ◌, ◌≤ℤ◌, ◌<ℤ◌, ap, subst, ◌∙◌, arith}
use Rattle.std.proofs.lemmas.Int.{by_lt_z}
use Rattle.std.proofs.lemmas.Bool.{cases_lt}
use Rattle.std.specs.Int.{int_min}
use Rattle.std.proofs.lemmas.Int.{int_min_is}
use Rattle.sn_geom.proofs.Ring.{sums}
use Rattle.sn_geom.specs.Sweep.{Touch}
use Rattle.sn_geom.specs.declared.units.Body.{Body}
use Rattle.sn_geom.specs.declared.units.Cell.{Cell}
use Rattle.sn_raster.specs.Heights.{low_end, IsFirst}
use Rattle.sn_outline.specs.declared.job.StepJob.{StepJob}
use Rattle.sn_open.specs.Good.{IsLeft}
use Rattle.sn_open.specs.Verdict.{IsMetForbidden, IsMetDeep, IsMetInRapid}
use Rattle.sn_open.specs.VerdictLaws.{FeedsAreTheirSteps, FeedsGouge, FeedsAreDeep, RapidsHaveAJobsTool, RapidsCrash}
use Rattle.sn_open.proofs.CauseLemmas.{one_step}

pub feeds_are_their_steps : FeedsAreTheirSteps
feeds_are_their_steps job before a b feed speed tool step = (
  (λ h. h, λ h. h),
  λ current. (
    (λ (s, own, other). λ same. other (same ∙ ap (λ (s : StepJob). s.tool) (one_step job before step s current own)), λ other. (step, current, other)),
    (λ (s, own, other). λ same. other (same ∙ ap (λ (s : StepJob). s.feed) (one_step job before step s current own)), λ other. (step, current, other)),
    (λ (s, own, other). λ same. other (same ∙ ap (λ (s : StepJob). s.speed) (one_step job before step s current own)), λ other. (step, current, other)),
  ),
)

pub feeds_gouge : FeedsGouge
feeds_gouge job before a b feed speed tool step c current = (
  λ (s, own, first).
      let f = subst (λ (s : StepJob). IsFirst (IsMetForbidden job before s a b) c) (one_step job before s step own current) first in (
        f.holds.met.left,
        f.holds.met.touched,
        f.holds.forbidden,
        λ other left touched forbidden. f.first other (record { met = record { left = left; touched = touched }; forbidden = forbidden }),
      ),
  λ (left, touched, forbidden, first). (
    step,
    current,
    record {
      holds = record { met = record { left = left; touched = touched }; forbidden = forbidden };
      first = λ other h. first other h.met.left h.met.touched h.forbidden;
    },
  ),
)

deep_enough : (a b z : ℤ) (e depth : ℕ) → (int_min a b +ℤ pos e +ℤ pos depth) ≤ℤ z → ¬ ((z <ℤ (a +ℤ pos e +ℤ pos depth)) × (z <ℤ (b +ℤ pos e +ℤ pos depth)))
deep_enough a b z e depth deep (from_a, from_b) = let m = int_min_is a b in omega (arith, sums)

not_shallow : (a b z : ℤ) (e depth : ℕ) → ¬ ((z <ℤ (a +ℤ pos e +ℤ pos depth)) × (z <ℤ (b +ℤ pos e +ℤ pos depth))) → (int_min a b +ℤ pos e +ℤ pos depth) ≤ℤ z
not_shallow a b z e depth other =
    by_lt_z z (a +ℤ pos e +ℤ pos depth)
    (λ below_a. by_lt_z z (b +ℤ pos e +ℤ pos depth) (λ below_b. absurd (other (below_a, below_b))) (λ above. from_b a b z e depth above))
    (λ above. from_a a b z e depth above)
  where
    from_a : (a b z : ℤ) (e depth : ℕ) → (a +ℤ pos e +ℤ pos depth) ≤ℤ z → (int_min a b +ℤ pos e +ℤ pos depth) ≤ℤ z
    from_a a b z e depth h = let m = int_min_is a b in omega (arith, sums)

    from_b : (a b z : ℤ) (e depth : ℕ) → (b +ℤ pos e +ℤ pos depth) ≤ℤ z → (int_min a b +ℤ pos e +ℤ pos depth) ≤ℤ z
    from_b a b z e depth h = let m = int_min_is a b in omega (arith, sums)

pub feeds_are_deep : FeedsAreDeep
feeds_are_deep job before a b feed speed tool step c current = (
  λ (s, own, (sideways, first)).
      let f = subst (λ (s : StepJob). IsFirst (IsMetDeep job before s a b) c) (one_step job before s step own current) first in (
        sideways,
        f.holds.met.left,
        f.holds.met.touched,
        not_shallow a.z b.z c.z step.body.e step.axial f.holds.deep,
        λ other left touched deep. f.first other (record { met = record { left = left; touched = touched }; deep = deep_enough a.z b.z other.z step.body.e step.axial deep }),
      ),
  λ (sideways, left, touched, deep, first). (
    step,
    current,
    (
      sideways,
      record {
        holds = record { met = record { left = left; touched = touched }; deep = deep_enough a.z b.z c.z step.body.e step.axial deep };
        first = λ other h. first other h.met.left h.met.touched (not_shallow a.z b.z other.z step.body.e step.axial h.deep);
      },
    ),
  ),
)

not_a_tool : (tool count : ℕ) → ¬ ((1 ≤ tool) × (tool ≤ count)) → (tool ≡ 0) ⊎ (count < tool)
not_a_tool tool count other =
    ⊎_elim {C = (tool ≡ 0) ⊎ (count < tool)}
    (λ none. inl (omega arith))
    (λ some. ⊎_elim {C = (tool ≡ 0) ⊎ (count < tool)} (λ beyond. inr beyond) (λ within. absurd (other (some, within))) (cases_lt count tool))
    (cases_lt tool 1)

pub rapids_have_a_jobs_tool : RapidsHaveAJobsTool
rapids_have_a_jobs_tool job before a b tool = (
  λ other. not_a_tool tool (length job.tools) (λ (first, last). other (record { first = first; last = last })),
  λ strange own.
      let first = own.first in
      let last = own.last in
      ⊎_elim {C = ⊥} (λ none. omega arith) (λ beyond. omega arith) strange,
)

pub rapids_crash : RapidsCrash
rapids_crash job before a b tool step c executed own bodies =
    let met : (other : Cell) → IsMetInRapid job before a b tool other → Touch step.body.d a b (low_end job.pitch other) =
    (λ other h. subst (λ (body : Body). Touch body.d a b (low_end job.pitch other)) (bodies h.step h.executed h.own) h.met.touched) in
    let meets : (other : Cell) → IsLeft job before other → Touch step.body.d a b (low_end job.pitch other) → IsMetInRapid job before a b tool other =
    (λ other left touched. record { step = step; executed = executed; own = own; met = record { left = left; touched = touched } }) in (
      λ first. (first.holds.met.left, met c first.holds, λ other left touched. first.first other (meets other left touched)),
      λ (left, touched, first). record { holds = meets c left touched; first = λ other h. first other h.met.left (met other h) },
    )
