-- What a model names depends on what is kept under each number alone.
use Rattle.std.proofs.Common.{◌≡◌, ℕ, cond, List, [], ◌∷◌, ◌++◌, subst, sym, refl, ap, ◌∙◌}
use Rattle.std.specs.List.{Contains}
use Rattle.sn_entity.specs.declared.row.Kind.{Kind}
use Rattle.sn_entity.specs.declared.row.Kind.TheVariants.{L, L0, L1, Dia, Edge, Feed, Speed, N, P, V, T, Z, Z0, R, RL, B}
use Rattle.sn_entity.specs.declared.row.Group.TheVariants.{One as OneRow}
use Rattle.sn_entity.specs.declared.row.Read.{Read}
use Rattle.sn_entity.specs.declared.row.RowId.TheVariants.{Block}
use Rattle.sn_entity.specs.declared.value.Value.{Value}
use Rattle.sn_entity.specs.declared.value.Value.TheVariants as value
use Rattle.sn_entity.specs.Table.{reads_of}
use Rattle.sn_model.specs.declared.model.Entry.{Entry}
use Rattle.sn_model.specs.declared.model.Entry.TheVariants.{Typed, Bad, Stranger}
use Rattle.sn_model.specs.ModelContent.{ModelContent, kept_of, entry_from, row_from, entry_of}
use Rattle.std.specs.Prelude.{Option, Some, None, Bool}
use Rattle.sn_refs.specs.declared.reference.Reference.{Reference}
use Rattle.sn_refs.specs.Reference.{reference, is_block, references_of_value, references_of_values, references_of_entry, references, Names, IsChain}
use Rattle.sn_refs.specs.Sound.{SameReach}

-- the models keep the same under each number
abbrev pub IsAlike : ModelContent → ModelContent → Type 0
IsAlike m other = (n : ℕ) → kept_of n m.kept ≡ kept_of n other.kept

module _ (m other : ModelContent) (alike : IsAlike m other) where
  same_value : (place : ℕ) (k : Kind) (v : Value) → references_of_value m place k v ≡ references_of_value other place k v
  same_value place (R g) (value.One n) = refl
  same_value place (R g) (value.Num a) = refl
  same_value place (R g) (value.Triple a b c) = refl
  same_value place (R g) (value.Text t) = refl
  same_value place (R g) (value.Many ns) = refl
  same_value place (R g) value.Nothing = refl
  same_value place (RL g) (value.One n) = refl
  same_value place (RL g) (value.Num a) = refl
  same_value place (RL g) (value.Triple a b c) = refl
  same_value place (RL g) (value.Text t) = refl
  same_value place (RL g) (value.Many ns) = refl
  same_value place (RL g) value.Nothing = refl
  same_value place B (value.One n) = ap (λ (b : Bool). cond b (reference place (OneRow Block) n ∷ []) []) (ap (λ k. is_block (row_from k)) (alike n))
  same_value place B (value.Num a) = refl
  same_value place B (value.Triple a b c) = refl
  same_value place B (value.Text t) = refl
  same_value place B (value.Many ns) = refl
  same_value place B value.Nothing = refl
  same_value place L v = refl
  same_value place L0 v = refl
  same_value place L1 v = refl
  same_value place Dia v = refl
  same_value place Edge v = refl
  same_value place Feed v = refl
  same_value place Speed v = refl
  same_value place N v = refl
  same_value place P v = refl
  same_value place V v = refl
  same_value place T v = refl
  same_value place Z v = refl
  same_value place Z0 v = refl

  same_values : (rs : List Read) (vs : List Value) → references_of_values m rs vs ≡ references_of_values other rs vs
  same_values [] vs = refl
  same_values (r ∷ rs) [] = refl
  same_values (r ∷ rs) (v ∷ vs) =
      ap (λ (xs : List Reference). xs ++ references_of_values m rs vs) (same_value r.place r.kind v)
      ∙ ap (λ (xs : List Reference). references_of_value other r.place r.kind v ++ xs) (same_values rs vs)

  same_entry : (e : Option Entry) → references_of_entry m e ≡ references_of_entry other e
  same_entry None = refl
  same_entry (Some (Typed f)) = same_values (reads_of f.row) f.values
  same_entry (Some (Bad why)) = refl
  same_entry (Some Stranger) = refl

  same_references : (n : ℕ) → references n m ≡ references n other
  same_references n = same_entry (entry_of n m) ∙ ap (λ k. references_of_entry other (entry_from k)) (alike n)

  same_names : (a b : ℕ) → Names m a b → Names other a b
  same_names a b h = (
    h.0,
    subst (λ (rs : List Reference). Contains rs h.0) (same_references a) h.1,
    (h.2.0, sym (ap row_from (alike h.0.target)) ∙ h.2.1, h.2.2),
    h.3,
  )

  same_chain : (a : ℕ) (ns : List ℕ) (b : ℕ) → IsChain m a ns b → IsChain other a ns b
  same_chain a [] b h = h
  same_chain a (n ∷ ns) b h = (same_names a n h.0, same_chain n ns b h.1)

pub same_reach : SameReach
same_reach m other project alike n h = (h.0, same_chain m other alike other.project h.0 n (subst (λ (p : ℕ). IsChain m p h.0 n) project h.1))
