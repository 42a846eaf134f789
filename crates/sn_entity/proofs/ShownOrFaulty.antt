-- An instance of the table cannot show nothing and have no fault.
use Rattle.std.proofs.Common.{◌≡◌, ℕ, zero, suc, ◌-◌, ◌<◌, ◌≤◌, List, [], ◌∷◌, ◌++◌, length, Some, refl, sym, subst, ◌∙◌, ⊎_elim, append_assoc, arith}
use Rattle.std.specs.Prelude.{slice_get}
use Rattle.std.proofs.lemmas.Bool.{cases_lt}
use Rattle.std.proofs.lemmas.List.{append-nil}
use Rattle.sn_p21.specs.declared.file.Entity.{Entity}
use Rattle.sn_p21.specs.declared.file.Instance.{Instance}
use Rattle.sn_p21.specs.declared.file.Param.{Param}
use Rattle.sn_entity.specs.declared.fault.EntFault.{EntFault}
use Rattle.sn_entity.specs.declared.fault.EntFault.TheVariants as fault
use Rattle.sn_entity.specs.declared.row.Read.{Read}
use Rattle.sn_entity.specs.declared.row.RowId.{RowId}
use Rattle.sn_entity.specs.declared.value.Fields.{Fields}
use Rattle.sn_entity.specs.declared.value.Value.{Value}
use Rattle.sn_entity.specs.Form.{ReadGives, ReadHasForm}
use Rattle.sn_entity.specs.Reads.{IsRising}
use Rattle.sn_entity.specs.Shows.{HasRow, IsKnown, AreGiven, IsRead, IsFirstFaulty, IsEntityFault, Shows}
use Rattle.sn_entity.specs.Table.{reads_of, wanted}
use Rattle.sn_entity.proofs.FaultLemmas.{first_faulty}
use Rattle.sn_entity.proofs.ReadLemmas.{given_push}
use Rattle.sn_entity.proofs.RowsRise.{row_rises}

place_within : (above most : ℕ) (before : List Read) (r : Read) (behind : List Read) → IsRising above most (before ++ r ∷ behind) → (0 < r.place) × (r.place ≤ most)
place_within above most [] r behind h = let low = h.0 in (omega arith, h.1)
place_within above most (b ∷ before) r behind h = place_within b.place most before r behind h.2

param_within : (ps : List Param) (k : ℕ) → k < length ps → (p : Param) × (slice_get ps k ≡ Some p)
param_within [] k lt = absurd (omega arith)
param_within (p ∷ ps) zero lt = (p, refl)
param_within (p ∷ ps) (suc k) lt = param_within ps k (omega arith)

at_read : (e : Entity) (r : Read) → (0 < r.place) × (r.place ≤ length e.params) → (p : Param) × IsRead e r p
at_read e r h = let low = h.0 in let high = h.1 in param_within e.params (r.place - 1) (omega arith)

module _ (i : Instance) (e : Entity) (id : RowId) (row : HasRow i e id) (enough : wanted id ≤ length e.params) (none : (f : Fields) → ¬ Shows i f) (clean : (why : EntFault) → ¬ IsEntityFault i why) where
  walk : (behind before : List Read) (vs : List Value) → reads_of id ≡ before ++ behind → AreGiven e before vs → ⊥
  walk [] before vs parts given =
      none (record { row = id; values = vs })
      (record { entity = e; row = row; enough = enough; values = subst (λ rs. AreGiven e rs vs) (sym (parts ∙ append-nil before)) given })
  walk (r ∷ behind) before vs parts given =
      let rise : IsRising 0 (length e.params) (before ++ r ∷ behind) = subst (IsRising 0 (length e.params)) parts (row_rises id (length e.params) enough) in
      let read : (p : Param) × IsRead e r p = at_read e r (place_within 0 (length e.params) before r behind rise) in
      let nothing : (v : Value) → ¬ ReadGives r read.0 v = λ v gives. walk behind (before ++ r ∷ []) (vs ++ v ∷ []) (parts ∙ sym (append_assoc before (r ∷ []) behind)) (given_push e before vs r read.0 v given read.1 gives) in
      let first : IsFirstFaulty e (reads_of id) r read.0 = first_faulty e (length e.params) (reads_of id) before r behind read.0 vs parts (row_rises id (length e.params) enough) given read.1 nothing in
      let formless : ¬ ¬ ReadHasForm r read.0 = λ no. clean (fault.KindAt i.number r.place) (e, id, row, (refl, enough, (r, read.0, first, refl, no))) in
      formless (λ form. clean (fault.Range i.number r.place) (e, id, row, (refl, enough, (r, read.0, first, refl, form))))

pub shown_or_faulty : (i : Instance) → IsKnown i → ((f : Fields) → ¬ Shows i f) → ((why : EntFault) → ¬ IsEntityFault i why) → ⊥
shown_or_faulty i known none clean =
    ⊎_elim
    (λ few. clean (fault.Count i.number (wanted known.1) (length known.0.params)) (known.0, known.1, known.2, (refl, refl, refl, few)))
    (λ enough. walk i known.0 known.1 known.2 enough none clean (reads_of known.1) [] [] refl refl)
    (cases_lt (length known.0.params) (wanted known.1))
