-- Passes of a list, and the material that they leave.
use Rattle.std.proofs.Common.{◌≡◌, ⊎_elim, subst}
use Rattle.std.proofs.lemmas.List.Elements.{Contains-push_cases, Contains-append_left}
use Rattle.sn_raster.specs.Heights.{Pass, IsCutBy}
use Rattle.sn_raster.specs.HeightLaws.{CutStaysCut, SamePassesLeaveTheSame, UntouchedIsLeft}
use Rattle.sn_geom.specs.SweepLaws.{CutIsTouch}
use Rattle.sn_raster.specs.Heights.{low_end}

pub cut_stays_cut : CutStaysCut
cut_stays_cut job earlier later c left = record { raw = left.raw; uncut = λ pass among. left.uncut pass (Contains-append_left earlier later pass among) }

pub untouched_is_left : CutIsTouch → UntouchedIsLeft
untouched_is_left law job earlier p c left free = record {
  raw = left.raw;
  uncut = λ pass among.
      ⊎_elim (λ before. left.uncut pass before)
      (λ (last : p ≡ pass). let P : Pass → Type 0 = λ q. ¬ IsCutBy job.pitch q c in subst P last (λ cut. free (law p.body.d p.body.e p.from p.to (low_end job.pitch c) cut)))
      (Contains-push_cases earlier p pass among);
}

pub same_passes_leave_the_same : SamePassesLeaveTheSame
same_passes_leave_the_same job some others c same = (
  λ left. record { raw = left.raw; uncut = λ pass among. left.uncut pass ((same pass).1 among) },
  λ left. record { raw = left.raw; uncut = λ pass among. left.uncut pass ((same pass).0 among) },
)
