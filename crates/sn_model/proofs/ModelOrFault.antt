-- Instances cannot have no model and no fault.
use Rattle.std.proofs.Common.{◌≡◌, ℕ, List, [], ◌∷◌, ◌++◌, Some, None, refl, sym, subst, ◌∙◌, append_assoc}
use Rattle.std.proofs.lemmas.List.{append-nil}
use Rattle.sn_p21.specs.declared.file.Instance.{Instance}
use Rattle.sn_entity.specs.Shows.{IsKnown, OneShowing}
use Rattle.sn_model.specs.declared.fault.ModelFault.{ModelFault}
use Rattle.sn_model.specs.declared.fault.ModelFault.TheVariants.{NoProject, TwoProjects}
use Rattle.sn_model.specs.declared.model.Entry.TheVariants.{Typed, Bad, Stranger}
use Rattle.sn_model.specs.declared.model.Kept.{Kept}
use Rattle.sn_model.specs.Built.{IsEntryOf, AreKept, IsProject, HaveNoProject, HaveOneProject, IsModelOf, IsModelFault}
use Rattle.sn_model.specs.ModelContent.{ModelContent}
use Rattle.sn_model.proofs.ProjectLemmas.{none_more, first_project, one_more}

-- Something is kept of each instance, unless that is absurd.

kept_of_one : OneShowing → (i : Instance) → ((k : Kept) → ¬ IsEntryOf i k.row k.entry) → ⊥
kept_of_one law i none =
    let stranger : ¬ ¬ IsKnown i = λ no. none (record { row = None; entry = Stranger }) no in
    stranger
    (λ known. law.3 i known
    (λ f shows. none (record { row = Some known.1; entry = Typed f }) ((known.0, known.2), shows))
    (λ why faulty. none (record { row = Some known.1; entry = Bad why }) ((known.0, known.2), faulty)))

kept_of_all : OneShowing → (is : List Instance) → ((ks : List (ℕ × Kept)) → ¬ AreKept is ks) → ⊥
kept_of_all law [] none = none [] refl
kept_of_all law (i ∷ is) none =
    kept_of_one law i (λ k entry. kept_of_all law is (λ ks all. none ((i.number, k) ∷ ks) (k, ks, entry, all, refl)))

-- Instances have no project, or one, or a second one.

module _ (is : List Instance) (clean : (why : ModelFault) → ¬ IsModelFault is why) (single : (n : ℕ) → ¬ HaveOneProject is n) where
  walk_one : (behind before : List Instance) (n : ℕ) → is ≡ before ++ behind → HaveOneProject before n → ⊥
  walk_one [] before n parts one = single n (subst (λ js. HaveOneProject js n) (sym (parts ∙ append-nil before)) one)
  walk_one (i ∷ behind) before n parts one =
      let second : ¬ IsProject i = λ project. clean (TwoProjects i.number) (record { before = before; second = i; after = behind; first = n; all = parts; is_project = project; number = refl; one_before = one }) in
      walk_one behind (before ++ i ∷ []) n (parts ∙ sym (append_assoc before (i ∷ []) behind)) (one_more before i n one second)

  walk_none : (behind before : List Instance) → is ≡ before ++ behind → HaveNoProject before → ⊥
  walk_none [] before parts none = clean NoProject (subst HaveNoProject (sym (parts ∙ append-nil before)) none)
  walk_none (i ∷ behind) before parts none =
      let next : is ≡ (before ++ i ∷ []) ++ behind = parts ∙ sym (append_assoc before (i ∷ []) behind) in
      let other : ¬ IsProject i = λ project. walk_one behind (before ++ i ∷ []) i.number next (first_project before i none project) in
      walk_none behind (before ++ i ∷ []) next (none_more before i none other)

pub model_or_fault : OneShowing → (is : List Instance) → ((m : ModelContent) → ¬ IsModelOf is m) → ((why : ModelFault) → ¬ IsModelFault is why) → ⊥
model_or_fault law is none clean =
    walk_none is clean
    (λ n one. kept_of_all law is (λ ks all. none (record { kept = ks; project = n }) (record { kept = all; project = one })))
    is [] refl tt
