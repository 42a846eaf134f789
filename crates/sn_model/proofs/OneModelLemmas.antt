-- Instances give one model, or have one fault.
use Rattle.std.proofs.Common.{◌≡◌, ℕ, List, [], ◌∷◌, Option, Some, None, refl, sym, ap, subst, ◌∙◌}
use Rattle.sn_p21.specs.declared.file.Instance.{Instance}
use Rattle.sn_entity.specs.declared.row.RowId.{RowId}
use Rattle.sn_entity.specs.Shows.{IsKnown, OneShowing}
use Rattle.sn_entity.specs.OneRow.{OneRow}
use Rattle.sn_model.specs.declared.fault.ModelFault.{ModelFault}
use Rattle.sn_model.specs.declared.fault.ModelFault.TheVariants.{NoProject, TwoProjects, Memory}
use Rattle.sn_model.specs.declared.model.Entry.{Entry}
use Rattle.sn_model.specs.declared.model.Entry.TheVariants.{Typed, Bad, Stranger}
use Rattle.sn_model.specs.declared.model.Kept.{Kept}
use Rattle.sn_model.specs.ModelContent.{ModelContent}
use Rattle.sn_model.specs.Built.{IsOfRow, IsEntryOf, AreKept, HaveOneProject, IsModelOf, IsModelFault, OneModel}
use Rattle.sn_model.proofs.ModelOrFault.{model_or_fault}
use Rattle.sn_model.proofs.ProjectLemmas.{one_along, second_along, one_number, second_number, one_not_none, second_not_none, second_not_one}

IsRowOf : Instance → Option RowId → Type 0
IsRowOf i (Some id) = IsOfRow i id
IsRowOf i None = ¬ IsKnown i

row_given : (i : Instance) (r : Option RowId) (e : Entry) → IsEntryOf i r e → IsRowOf i r
unfolding IsRowOf
row_given i (Some id) (Typed f) h = h.0
row_given i (Some id) (Bad why) h = h.0
row_given i (Some id) Stranger h = absurd h
row_given i None (Typed f) h = absurd h
row_given i None (Bad why) h = absurd h
row_given i None Stranger h = h

row_same : OneRow → (i : Instance) (r q : Option RowId) → IsRowOf i r → IsRowOf i q → r ≡ q
unfolding IsRowOf
row_same rows i (Some id) (Some other) h k = ap Some (rows i h.0 k.0 id other h.1 k.1)
row_same rows i (Some id) None h k = absurd (k (h.0, id, h.1))
row_same rows i None (Some other) h k = absurd (h (k.0, other, k.1))
row_same rows i None None h k = refl

entry_same : OneShowing → (i : Instance) (r : Option RowId) (d e : Entry) → IsEntryOf i r d → IsEntryOf i r e → d ≡ e
entry_same law i (Some id) (Typed f) (Typed g) h k = ap Typed (law.0 i f g h.1 k.1)
entry_same law i (Some id) (Typed f) (Bad why) h k = absurd (law.2 i f why h.1 k.1)
entry_same law i (Some id) (Bad why) (Typed f) h k = absurd (law.2 i f why k.1 h.1)
entry_same law i (Some id) (Bad why) (Bad other) h k = ap Bad (law.1 i why other h.1 k.1)
entry_same law i (Some id) Stranger e h k = absurd h
entry_same law i (Some id) (Typed f) Stranger h k = absurd k
entry_same law i (Some id) (Bad why) Stranger h k = absurd k
entry_same law i None (Typed f) e h k = absurd h
entry_same law i None (Bad why) e h k = absurd h
entry_same law i None Stranger (Typed f) h k = absurd k
entry_same law i None Stranger (Bad why) h k = absurd k
entry_same law i None Stranger Stranger h k = refl

kept_same : OneShowing → OneRow → (i : Instance) (k l : Kept) → IsEntryOf i k.row k.entry → IsEntryOf i l.row l.entry → k ≡ l
kept_same law rows i k l h g =
    let row = row_same rows i k.row l.row (row_given i k.row k.entry h) (row_given i l.row l.entry g) in
    let entry = entry_same law i l.row k.entry l.entry (subst (λ r. IsEntryOf i r k.entry) row h) g in
    ap (λ r. record { row = r; entry = k.entry }) row ∙ ap (λ e. record { row = l.row; entry = e }) entry

all_same : OneShowing → OneRow → (is : List Instance) (ks ls : List (ℕ × Kept)) → AreKept is ks → AreKept is ls → ks ≡ ls
all_same law rows [] ks ls h g = h ∙ sym g
all_same law rows (i ∷ is) ks ls h g =
    h.4 ∙ ap (λ k. (i.number, k) ∷ h.1) (kept_same law rows i h.0 g.0 h.2 g.2) ∙ ap (λ rest. (i.number, g.0) ∷ rest) (all_same law rows is h.1 g.1 h.3 g.3) ∙ sym g.4

number_same : (is : List Instance) (m n : ℕ) → HaveOneProject is m → HaveOneProject is n → m ≡ n
number_same is m n h k = one_number is m n (one_along is m h) (one_along is n k)

model_same : OneShowing → OneRow → (is : List Instance) (m n : ModelContent) → IsModelOf is m → IsModelOf is n → m ≡ n
model_same law rows is m n h g =
    let kept = all_same law rows is m.kept n.kept h.kept g.kept in
    let project = number_same is m.project n.project h.project g.project in
    ap (λ k. record { kept = k; project = m.project }) kept ∙ ap (λ p. record { kept = n.kept; project = p }) project

fault_same : (is : List Instance) (why other : ModelFault) → IsModelFault is why → IsModelFault is other → why ≡ other
fault_same is NoProject NoProject h k = refl
fault_same is NoProject (TwoProjects n) h k = absurd (second_not_none is n (second_along is n k) h)
fault_same is (TwoProjects n) NoProject h k = absurd (second_not_none is n (second_along is n h) k)
fault_same is (TwoProjects m) (TwoProjects n) h k = ap TwoProjects (second_number is m n (second_along is m h) (second_along is n k))
fault_same is Memory other h k = absurd h
fault_same is NoProject Memory h k = absurd k
fault_same is (TwoProjects n) Memory h k = absurd k

no_fault : (is : List Instance) (m : ModelContent) (why : ModelFault) → IsModelOf is m → ¬ IsModelFault is why
no_fault is m NoProject h k = one_not_none is m.project (one_along is m.project h.project) k
no_fault is m (TwoProjects n) h k = second_not_one is n m.project (second_along is n k) (one_along is m.project h.project)
no_fault is m Memory h k = k

pub one_model_from : OneShowing → OneRow → OneModel
one_model_from law rows = (model_same law rows, fault_same, no_fault, model_or_fault law)
