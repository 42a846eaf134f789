-- What is kept of the instances of a model, by their rows.
use Rattle.std.proofs.Common.{◌≡◌, ℕ, Bool, true, List, [], ◌∷◌, Option, Some, None, refl, sym, ap, subst, ◌∙◌, ⊎_elim}
use Rattle.std.proofs.Math.Logic.{∥∥₁_elim}
use Rattle.std.proofs.lemmas.Bool.{cases_Bool}
use denote.Enum.Bare.{sameb, same_true, same_false}
use Rattle.sn_p21.specs.declared.file.Instance.{Instance}
use Rattle.sn_p21.specs.Numbers.{NumbersDiffer}
use Rattle.sn_entity.specs.contracts.row.RowId.{the_type}
use Rattle.sn_entity.specs.declared.row.Read.{Read}
use Rattle.sn_entity.specs.declared.row.RowId.{RowId}
use Rattle.sn_entity.specs.declared.row.RowId.TheVariants.{Project}
use Rattle.sn_entity.specs.declared.value.Value.{Value}
use Rattle.sn_entity.specs.OneRow.{OneRow}
use Rattle.sn_entity.specs.Shape.{has_shape, HaveShape, ShowsShape}
use Rattle.sn_entity.specs.Shows.{IsEntityFault}
use Rattle.sn_entity.specs.Table.{reads_of}
use Rattle.sn_model.specs.declared.model.Entry.{Entry}
use Rattle.sn_model.specs.declared.model.Entry.TheVariants.{Typed, Bad, Stranger}
use Rattle.sn_model.specs.declared.model.Kept.{Kept}
use Rattle.sn_model.specs.Built.{IsEntryOf, IsProject, HaveOneProject, AreKept, IsModelOf}
use Rattle.sn_model.specs.BuiltLaws.{IsKeptAs, KeptByRow, ProjectHasRow}
use Rattle.sn_model.specs.ModelContent.{ModelContent, kept_of, entry_from, row_from, entry_of, row_of_number}
use Rattle.sn_model.proofs.FoundLemmas.{found_is_entry, found_at}

-- What cannot fail to be so is so.

true_stable : (b : Bool) → ¬ ¬ (b ≡ true) → b ≡ true
true_stable b h = ⊎_elim (λ yes. yes) (λ no. absurd (h (λ yes. let z = sym no ∙ yes in cc))) (cases_Bool b)

row_stable : (a b : RowId) → ¬ ¬ (a ≡ b) → a ≡ b
row_stable a b h = ⊎_elim (λ yes. same_true the_type tt a b yes) (λ no. absurd (h (same_false the_type a b no))) (cases_Bool (sameb the_type a b))

shape_stable : (rs : List Read) (vs : List Value) → ¬ ¬ HaveShape rs vs → HaveShape rs vs
shape_stable [] [] h = tt
shape_stable [] (v ∷ vs) h = h (λ x. x)
shape_stable (r ∷ rs) [] h = h (λ x. x)
shape_stable (r ∷ rs) (v ∷ vs) h = (true_stable (has_shape r v) (λ no. h (λ x. no x.0)), shape_stable rs vs (λ no. h (λ x. no x.1)))

kept_stable : (r : Option RowId) (e : Option Entry) → ¬ ¬ IsKeptAs r e → IsKeptAs r e
kept_stable (Some id) (Some (Typed f)) h = (row_stable f.row id (λ no. h (λ x. no x.0)), shape_stable (reads_of id) f.values (λ no. h (λ x. no x.1)))
kept_stable (Some id) (Some (Bad why)) h = λ e. h (λ x. x e)
kept_stable (Some id) (Some Stranger) h = h (λ x. x)
kept_stable (Some id) None h = h (λ x. x)
kept_stable None (Some (Typed f)) h = h (λ x. x)
kept_stable None (Some (Bad why)) h = h (λ x. x)
kept_stable None (Some Stranger) h = tt
kept_stable None None h = tt

project_stable : (r : Option RowId) → ¬ ¬ (r ≡ Some Project) → r ≡ Some Project
project_stable None h = absurd (h (λ e. cc))
project_stable (Some id) h = ap Some (row_stable id Project (λ no. h (λ e. no cc)))

-- What is kept of an instance.

kept_as : ShowsShape → OneRow → (i : Instance) (r : Option RowId) (e : Entry) → IsEntryOf i r e → IsKeptAs r (Some e)
kept_as shape rows i (Some id) (Typed f) h =
    let same : f.row ≡ id = sym (rows i h.0.0 h.1.entity id f.row h.0.1 h.1.row) in
    (same, subst (λ r. HaveShape (reads_of r) f.values) same (shape.0 i f h.1))
kept_as shape rows i (Some id) (Bad why) h = λ e. shape.1 i (subst (IsEntityFault i) e h.1)
kept_as shape rows i (Some id) Stranger h = h
kept_as shape rows i None (Typed f) h = h
kept_as shape rows i None (Bad why) h = h
kept_as shape rows i None Stranger h = tt

found_as : ShowsShape → OneRow → (is : List Instance) (kept : List (ℕ × Kept)) (n : ℕ) (o : Option Kept) → AreKept is kept → kept_of n kept ≡ o → IsKeptAs (row_from o) (entry_from o)
found_as shape rows is kept n None h e = tt
found_as shape rows is kept n (Some k) h e = let found = found_is_entry is kept n k h e in kept_as shape rows found.0 k.row k.entry found.1

pub kept_by_row : ShowsShape → OneRow → KeptByRow
kept_by_row shape rows m n model =
    kept_stable (row_of_number n m) (entry_of n m)
    (λ no. ∥∥₁_elim model (λ x y. absurd x) (λ h. no (found_as shape rows h.0 m.kept n (kept_of n m.kept) h.3.kept refl)))

-- The project.

project_row : OneRow → (i : Instance) (r : Option RowId) (e : Entry) → IsProject i → IsEntryOf i r e → r ≡ Some Project
project_row rows i (Some id) (Typed f) project h = ap Some (rows i h.0.0 project.0 id Project h.0.1 project.1)
project_row rows i (Some id) (Bad why) project h = ap Some (rows i h.0.0 project.0 id Project h.0.1 project.1)
project_row rows i (Some id) Stranger project h = absurd h
project_row rows i None (Typed f) project h = absurd h
project_row rows i None (Bad why) project h = absurd h
project_row rows i None Stranger project h = absurd (h (project.0, Project, project.1))

project_found : OneRow → (m : ModelContent) (is : List Instance) → NumbersDiffer is → IsModelOf is m → row_of_number m.project m ≡ Some Project
project_found rows m is differ model =
    let one : HaveOneProject is m.project = model.project in
    let found = found_at one.before one.project one.after m.kept (subst NumbersDiffer one.all differ) (subst (λ (js : List Instance). AreKept js m.kept) one.all model.kept) in
    let at_project : kept_of m.project m.kept ≡ Some found.0 = subst (λ (n : ℕ). kept_of n m.kept ≡ Some found.0) one.number found.1 in
    ap row_from at_project ∙ project_row rows one.project found.0.row found.0.entry one.is_project found.2

pub project_has_row : OneRow → ProjectHasRow
project_has_row rows m model =
    project_stable (row_of_number m.project m)
    (λ no. ∥∥₁_elim model (λ x y. absurd x) (λ h. no (project_found rows m h.0 h.1 h.3)))
