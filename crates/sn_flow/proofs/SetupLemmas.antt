-- What the setup's instances name.
use Rattle.std.proofs.Common.{◌≡◌, refl, sym, ◌∙◌, ap, subst, inl, inr, ℕ, List, [], ◌∷◌, Option, Some, IfSome, IsTrue, arith}
use Rattle.std.specs.Prelude.{slice_get}
use Rattle.std.specs.List.{Contains}
use Rattle.sn_entity.specs.declared.row.Group.TheVariants.{One as OneRow}
use Rattle.sn_entity.specs.declared.row.Kind.TheVariants.{B}
use Rattle.sn_entity.specs.declared.row.RowId.{RowId}
use Rattle.sn_entity.specs.declared.row.RowId.TheVariants.{Block, Project, Workpiece}
use Rattle.sn_entity.specs.declared.value.Fields.{Fields}
use Rattle.sn_entity.specs.Given.{one_at}
use Rattle.sn_entity.specs.Table.{reads_of, at}
use Rattle.sn_model.specs.declared.model.Entry.TheVariants.{Typed}
use Rattle.sn_model.specs.Built.{IsModel}
use Rattle.sn_model.specs.BuiltLaws.{ProjectHasRow}
use Rattle.sn_model.specs.ModelContent.{ModelContent, entry_of, row_of_number}
use Rattle.sn_refs.specs.Reference.{names_block}
use Rattle.sn_refs.specs.Sound.{IsSound}
use Rattle.sn_refs.specs.Target.{IsTarget, NamedAreTargets, group_at, read_at}

first_contained : (P : ℕ → Type 0) (xs : List ℕ) → ((n : ℕ) → Contains xs n → P n) → IfSome (slice_get xs 0) P
first_contained P [] h = tt
first_contained P (x ∷ xs) h = h x (0, omega arith, refl)

-- what holds of the elements of a list holds of the first, if there is one
pub first_is : (P : ℕ → Type 0) (xs : List ℕ) (o : Option ℕ) → o ≡ slice_get xs 0 → ((n : ℕ) → Contains xs n → P n) → IfSome o P
first_is P xs o is h = subst (λ (q : Option ℕ). IfSome q P) (sym is) (first_contained P xs h)

-- a target of one row is of that row
pub row_of_target : (m : ModelContent) (id : RowId) (n : ℕ) → IsTarget m (OneRow id) n → row_of_number n m ≡ Some id
row_of_target m id n t = elim t.kind [ inl is ↦ t.has_row ∙ ap Some is | inr never ↦ absurd never ]

some_same : {a b : RowId} → Some a ≡ Some b → a ≡ b
some_same e = cc

-- the block that a workpiece names is a target
pub block_target : (m : ModelContent) (n : ℕ) (f : Fields) (b : ℕ) → NamedAreTargets → IsSound m → IsTarget m (OneRow Workpiece) n → entry_of n m ≡ Some (Typed f) → row_of_number n m ≡ Some f.row → one_at f.values 1 ≡ Some b → IsTrue (names_block b m) → IsTarget m (OneRow Block) b
block_target m n f b targets sound t entry row named block =
    let is : Workpiece ≡ f.row = some_same (sym (row_of_target m Workpiece n t) ∙ row) in
    targets m sound n f 1 (at 6 B) t.reached entry (subst (λ (id : RowId). slice_get (reads_of id) 1 ≡ Some (at 6 B)) is refl) b named block

-- what an instance of a row lists is of the group that the row wants
pub listed_targets : (m : ModelContent) (id : RowId) (n k : ℕ) → IsTarget m (OneRow id) n → (ns : List ℕ)
    → ((t : ℕ) → Contains ns t → IsTarget m (group_at (read_at (row_of_number n m) k)) t)
    → (t : ℕ) → Contains ns t → IsTarget m (group_at (read_at (Some id) k)) t
listed_targets m id n k is ns h = subst (λ (row : Option RowId). (t : ℕ) → Contains ns t → IsTarget m (group_at (read_at row k)) t) (row_of_target m id n is) h

-- the project is a target of its own row
pub project_target : (m : ModelContent) → IsModel m → ProjectHasRow → (n : ℕ) → n ≡ m.project → IsTarget m (OneRow Project) n
project_target m model has_row n is = record {
  reached = ([], sym is);
  row = Project;
  has_row = ap (λ k. row_of_number k m) is ∙ has_row m model;
  kind = inl refl;
}
