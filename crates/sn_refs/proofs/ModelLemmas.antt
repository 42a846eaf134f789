-- What a model keeps under the numbers that its project leads to.
use Rattle.std.proofs.Common.{◌≡◌, ◌≢◌, ◌⊎◌, ℕ, List, [], ◌∷◌, Option, Some, None, refl, sym, ap, subst, inl, inr}
use Rattle.sn_entity.specs.declared.fault.EntFault.{EntFault}
use Rattle.sn_entity.specs.declared.fault.EntFault.TheVariants.{Memory}
use Rattle.sn_entity.specs.declared.row.RowId.{RowId}
use Rattle.sn_entity.specs.declared.row.RowId.TheVariants.{Project}
use Rattle.sn_entity.specs.declared.value.Fields.{Fields}
use Rattle.sn_entity.specs.Shape.{HaveShape}
use Rattle.sn_entity.specs.Table.{reads_of}
use Rattle.sn_model.specs.declared.model.Entry.{Entry}
use Rattle.sn_model.specs.declared.model.Entry.TheVariants.{Typed, Bad, Stranger}
use Rattle.sn_model.specs.Built.{IsModel}
use Rattle.sn_model.specs.BuiltLaws.{IsKeptAs, KeptByRow, ProjectHasRow}
use Rattle.sn_model.specs.ModelContent.{ModelContent, entry_of, row_of_number}
use Rattle.sn_refs.specs.Reference.{fields_from, Names, IsChain, IsReached}

-- what the laws of models say of this one
pub record HasRows (m : ModelContent) : Type 0 where
  pub kept : (n : ℕ) → IsKeptAs (row_of_number n m) (entry_of n m)
  pub project : row_of_number m.project m ≡ Some Project

pub has_rows : KeptByRow → ProjectHasRow → (m : ModelContent) → IsModel m → HasRows m
has_rows kept project m model = record { kept = λ n. kept m n model; project = project m model }

-- the instance is live: it has a row
abbrev pub IsLive : ModelContent → ℕ → Type 0
IsLive m n = (id : RowId) × (row_of_number n m ≡ Some id)

chain_stays_live : (m : ModelContent) (a : ℕ) (ns : List ℕ) (b : ℕ) → IsLive m a → IsChain m a ns b → IsLive m b
chain_stays_live m a [] b live e = subst (IsLive m) e live
chain_stays_live m a (n ∷ ns) b live h =
    let r : Names m a n = h.0 in
    chain_stays_live m n ns b (r.2.0, subst (λ (x : ℕ). row_of_number x m ≡ Some r.2.0) r.3 r.2.1) h.1

pub reached_is_live : (m : ModelContent) (n : ℕ) → HasRows m → IsReached m n → IsLive m n
reached_is_live m n rows reached = chain_stays_live m m.project reached.0 n (Project, rows.project) reached.1

-- an instance that has a row is typed, or has its fault
abbrev pub IsShown : Option Entry → Type 0
IsShown e = ((f : Fields) × (e ≡ Some (Typed f))) ⊎ ((why : EntFault) × (e ≡ Some (Bad why)))

shown_as : (id : RowId) (e : Option Entry) → IsKeptAs (Some id) e → IsShown e
shown_as id (Some (Typed f)) h = inl (f, refl)
shown_as id (Some (Bad why)) h = inr (why, refl)
shown_as id (Some Stranger) h = absurd h
shown_as id None h = absurd h

pub reached_is_shown : (m : ModelContent) (n : ℕ) → HasRows m → IsReached m n → IsShown (entry_of n m)
reached_is_shown m n rows reached =
    let live : IsLive m n = reached_is_live m n rows reached in
    shown_as live.0 (entry_of n m) (subst (λ (r : Option RowId). IsKeptAs r (entry_of n m)) live.1 (rows.kept n))

-- the row of an instance, and the shape of what it shows
abbrev pub IsOfItsRow : Option RowId → Fields → Type 0
IsOfItsRow r f = (r ≡ Some f.row) × HaveShape (reads_of f.row) f.values

typed_as : (r : Option RowId) (f : Fields) → IsKeptAs r (Some (Typed f)) → IsOfItsRow r f
typed_as (Some id) f h = (ap Some (sym h.0), subst (λ (x : RowId). HaveShape (reads_of x) f.values) (sym h.0) h.1)
typed_as None f h = absurd h

pub entry_from_fields : (e : Option Entry) (f : Fields) → Some f ≡ fields_from e → e ≡ Some (Typed f)
entry_from_fields (Some (Typed g)) f h = ap (λ (x : Fields). Some (Typed x)) (let same : g ≡ f = cc in same)
entry_from_fields (Some (Bad why)) f h = absurd (let none : Some f ≡ None = h in cc)
entry_from_fields (Some Stranger) f h = absurd (let none : Some f ≡ None = h in cc)
entry_from_fields None f h = absurd (let none : Some f ≡ None = h in cc)

-- what an instance of a model shows is of its row
pub shown_is_of_its_row : (m seen : ModelContent) (n : ℕ) (f : Fields) → KeptByRow → IsModel m → m ≡ seen → Some f ≡ fields_from (entry_of n m) → IsOfItsRow (row_of_number n seen) f
shown_is_of_its_row m seen n f kept model same e =
    subst (λ (x : ModelContent). IsOfItsRow (row_of_number n x) f) same
    (typed_as (row_of_number n m) f (subst (IsKeptAs (row_of_number n m)) (entry_from_fields (entry_of n m) f e) (kept m n model)))

bad_as : (r : Option RowId) (why : EntFault) → IsKeptAs r (Some (Bad why)) → why ≢ Memory
bad_as (Some id) why h = h
bad_as None why h = absurd h

-- no kept fault is want of memory
pub bad_is_no_memory : (m : ModelContent) (n : ℕ) → KeptByRow → IsModel m → entry_of n m ≡ Some (Bad Memory) → ⊥
bad_is_no_memory m n kept model e = bad_as (row_of_number n m) Memory (subst (IsKeptAs (row_of_number n m)) e (kept m n model)) refl
