-- What a reached instance of a sound model names.
use Rattle.std.proofs.Common.{◌≡◌, ◌⊎◌, ℕ, zero, suc, ℤ, Bool, true, false, cond, not, ◌&&◌, inl, inr, ◌∙◌, List, [], ◌∷◌, map, Option, Some, None, refl, sym, ap, subst, ⊎_elim, arith}
use Rattle.std.proofs.Math.Logic.{∥∥₁_elim}
use Rattle.std.proofs.lemmas.List.Elements.{Contains-append_left, Contains-append_right}
use Rattle.std.specs.List.{slice_get, Contains}
use Rattle.sn_entity.specs.declared.row.Group.{Group}
use Rattle.sn_entity.specs.declared.row.Group.TheVariants.{One as OneRow}
use Rattle.sn_entity.specs.declared.row.Kind.{Kind}
use Rattle.sn_entity.specs.declared.row.Kind.TheVariants.{L, L0, L1, Dia, Edge, Feed, Speed, N, P, V, T, Z, Z0, R, RL, B}
use Rattle.sn_entity.specs.declared.row.Read.{Read}
use Rattle.sn_entity.specs.declared.row.RowId.TheVariants.{Block}
use Rattle.sn_entity.specs.declared.value.Fields.{Fields}
use Rattle.sn_entity.specs.declared.row.RowId.{RowId}
use Rattle.sn_entity.specs.declared.value.Triple.{Triple}
use Rattle.sn_entity.specs.declared.value.Value.{Value}
use Rattle.sn_entity.specs.declared.value.Value.TheVariants as value
use Rattle.sn_entity.specs.Given.{one_from, many_from, num_at, triple_at, one_at, many_at, IsGiven, GivenWhereWanted}
use Rattle.sn_entity.specs.Shape.{HaveShape}
use Rattle.sn_entity.specs.Table.{reads_of, IsInGroup}
use Rattle.sn_entity.specs.TableLaws.{InGroupOrNot}
use Rattle.sn_model.specs.declared.model.Entry.{Entry}
use Rattle.sn_model.specs.declared.model.Entry.TheVariants.{Typed, Bad}
use Rattle.sn_model.specs.BuiltLaws.{KeptByRow}
use Rattle.sn_model.specs.ModelContent.{ModelContent, entry_of, row_of_number}
use Rattle.sn_refs.specs.declared.reference.Reference.{Reference}
use Rattle.sn_refs.specs.Reference.{fields_from, reference, references, references_of_value, references_of_values, references_of_entry, IsOfKind, Names, IsReached}
use Rattle.sn_refs.specs.Sound.{IsSound}
use Rattle.sn_refs.specs.Target.{values_from, values_of, read_at, is_reference, is_list, is_number, is_three, may_be, must_be, group_of, group_at, IsTarget, AllNamed, AreTargetsOf, NamedAreTargets, NamesAtPlaces, ReachedAreShown}
use Rattle.sn_refs.proofs.Chains.{reached_on, leads_by_name}
use Rattle.sn_refs.proofs.ModelLemmas.{HasRows, reached_is_shown, IsOfItsRow, shown_is_of_its_row}
use Rattle.sn_refs.proofs.Paths.{Contains-nil, Contains-cons_cases}

first_held : (r : Reference) (rs : List Reference) → Contains (r ∷ rs) r
first_held r rs = (0, omega arith, refl)

-- a reference of the value at a place is one of all values
held_at : (m : ModelContent) (reads : List Read) (values : List Value) (k : ℕ) (r : Read) (v : Value) (q : Reference) → slice_get reads k ≡ Some r → slice_get values k ≡ Some v → Contains (references_of_value m r.place r.kind v) q → Contains (references_of_values m reads values) q
held_at m [] values k r v q is gives held = absurd (cc)
held_at m (s ∷ reads) [] k r v q is gives held = absurd (cc)
held_at m (s ∷ reads) (w ∷ values) zero r v q is gives held =
    let same : s ≡ r = cc in
    let alike : w ≡ v = cc in
    Contains-append_left (references_of_value m s.place s.kind w) (references_of_values m reads values) q
    (subst (λ (x : Read). Contains (references_of_value m x.place x.kind w) q) (sym same) (subst (λ (x : Value). Contains (references_of_value m r.place r.kind x) q) (sym alike) held))
held_at m (s ∷ reads) (w ∷ values) (suc k) r v q is gives held =
    Contains-append_right (references_of_value m s.place s.kind w) (references_of_values m reads values) q (held_at m reads values k r v q is gives held)

-- what is given at the place as one instance, or as a list that has one
one_value : (o : Option Value) (n : ℕ) → one_from o ≡ Some n → o ≡ Some (value.One n)
one_value (Some (value.One k)) n h = ap (λ (x : ℕ). Some (value.One x)) (let same : k ≡ n = cc in same)
one_value (Some _) n h = absurd (cc)
one_value None n h = absurd (cc)

many_value : (o : Option Value) (n : ℕ) → Contains (many_from o) n → (ns : List ℕ) × (o ≡ Some (value.Many ns)) × Contains ns n
many_value (Some (value.Many ns)) n h = (ns, refl, h)
many_value (Some _) n h = absurd (Contains-nil n h)
many_value None n h = absurd (Contains-nil n h)

mapped : (place : ℕ) (group : Group) (ns : List ℕ) (n : ℕ) → Contains ns n → Contains (map (reference place group) ns) (reference place group n)
mapped place group [] n h = absurd (Contains-nil n h)
mapped place group (k ∷ ns) n h =
    ⊎_elim
    (λ e. subst (λ (x : ℕ). Contains (map (reference place group) (k ∷ ns)) (reference place group x)) e (first_held (reference place group k) (map (reference place group) ns)))
    (λ c. Contains-append_right (reference place group k ∷ []) (map (reference place group) ns) (reference place group n) (mapped place group ns n c))
    (Contains-cons_cases ns k n h)

module _ (m : ModelContent) (sound : IsSound m) (n : ℕ) (f : Fields) (here : IsReached m n) (is : entry_of n m ≡ Some (Typed f)) where
  -- a reference among those of the values is one of the instance
  name_of : (q : Reference) → Contains (references_of_values m (reads_of f.row) f.values) q → Names m n q.target
  name_of q held =
      let among : Contains (references n m) q = subst (λ (o : Option Entry). Contains (references_of_entry m o) q) (sym is) held in
      (q, among, sound.kinds n here q among, refl)

  -- so what it names is reached
  target_of : (q : Reference) → Contains (references_of_values m (reads_of f.row) f.values) q → IsTarget m q.group q.target
  target_of q held =
      let among : Contains (references n m) q = subst (λ (o : Option Entry). Contains (references_of_entry m o) q) (sym is) held in
      let kind : IsOfKind m q = sound.kinds n here q among in
      record {
        reached = reached_on m n q.target here (leads_by_name m n q.target (q, among, kind, refl));
        row = kind.0;
        has_row = kind.1;
        kind = kind.2;
      }

  module _ (So : Group → ℕ → Type 0) (so : (q : Reference) → Contains (references_of_values m (reads_of f.row) f.values) q → So q.group q.target) (k : ℕ) (r : Read) (at : slice_get (reads_of f.row) k ≡ Some r) where
    so_at : (kind : Kind) → r.kind ≡ kind → (v : Value) → slice_get f.values k ≡ Some v → (q : Reference) → Contains (references_of_value m r.place kind v) q → So q.group q.target
    so_at kind same v given q held = so q (held_at m (reads_of f.row) f.values k r v q at given (subst (λ (x : Kind). Contains (references_of_value m r.place x v) q) (sym same) held))

    so_by : (kind : Kind) → r.kind ≡ kind → AllNamed So m kind f.values k
    so_by (R group) same = λ t h. so_at (R group) same (value.One t) (one_value (slice_get f.values k) t h) (reference r.place group t) (first_held (reference r.place group t) [])
    so_by (RL group) same = λ t h.
        let list : (ns : List ℕ) × (slice_get f.values k ≡ Some (value.Many ns)) × Contains ns t = many_value (slice_get f.values k) t h in
        so_at (RL group) same (value.Many list.0) list.1 (reference r.place group t) (mapped r.place group list.0 t list.2)
    so_by B same = λ t h block.
        so_at B same (value.One t) (one_value (slice_get f.values k) t h) (reference r.place (OneRow Block) t)
        (subst (λ (b : Bool). Contains (cond b (reference r.place (OneRow Block) t ∷ []) []) (reference r.place (OneRow Block) t)) (sym block) (first_held (reference r.place (OneRow Block) t) []))
    so_by L same = tt
    so_by L0 same = tt
    so_by L1 same = tt
    so_by Dia same = tt
    so_by Edge same = tt
    so_by Feed same = tt
    so_by Speed same = tt
    so_by N same = tt
    so_by P same = tt
    so_by V same = tt
    so_by T same = tt
    so_by Z same = tt
    so_by Z0 same = tt

pub named_are_targets : NamedAreTargets
named_are_targets m sound n f k r here is at = so_by m sound n f here is (IsTarget m) (target_of m sound n f here is) k r at r.kind refl

pub names_at_places : NamesAtPlaces
names_at_places m sound n f k r here is at = so_by m sound n f here is (λ group t. Names m n t) (name_of m sound n f here is) k r at r.kind refl

pub reached_are_shown : KeptByRow → ReachedAreShown
reached_are_shown kept m model sound n here =
    let shown : (f : Fields) × (entry_of n m ≡ Some (Typed f)) = sound.shown n here in
    let row : IsOfItsRow (row_of_number n m) shown.0 = shown_is_of_its_row m m n shown.0 kept model refl (sym (ap fields_from shown.1)) in
    (shown.0, record { entry = shown.1; row = row.0; shape = row.1 })

-- ---- what a row wants at a place

module _ (m : ModelContent) (n : ℕ) (f : Fields) (k : ℕ) (is : entry_of n m ≡ Some (Typed f)) (row : row_of_number n m ≡ Some f.row) where
  pub values_shown : values_of n m ≡ f.values
  values_shown = ap (λ (o : Option Entry). values_from (fields_from o)) is

  pub read_shown : read_at (row_of_number n m) k ≡ slice_get (reads_of f.row) k
  read_shown = ap (λ (o : Option RowId). read_at o k) row

  may_read : (test : Kind → Bool) (o : Option Read) → may_be test o ≡ true → (r : Read) × (o ≡ Some r) × (test r.kind ≡ true)
  may_read test (Some r) h = (r, refl, h)
  may_read test None h = absurd (cc)

  must_read : (test : Kind → Bool) (o : Option Read) → must_be test o ≡ true → (r : Read) × (o ≡ Some r) × (r.may_lack ≡ false) × (test r.kind ≡ true)
  must_read test (Some r) h = let parts : (not r.may_lack ≡ true) × (test r.kind ≡ true) = (both_left (not r.may_lack) (test r.kind) h, both_right (not r.may_lack) (test r.kind) h) in (r, refl, not_true r.may_lack parts.0, parts.1)
    where
      both_left : (a b : Bool) → (a && b) ≡ true → a ≡ true
      both_left true b h = refl
      both_left false b h = absurd (cc)

      both_right : (a b : Bool) → (a && b) ≡ true → b ≡ true
      both_right true b h = h
      both_right false b h = absurd (cc)

      not_true : (b : Bool) → not b ≡ true → b ≡ false
      not_true true e = absurd (cc)
      not_true false e = refl
  must_read test None h = absurd (cc)

  module _ (shape : HaveShape (reads_of f.row) f.values) (given : GivenWhereWanted) where
    one_by : (kind : Kind) → is_reference kind ≡ true → IsGiven kind f.values k → (t : ℕ) × (one_at f.values k ≡ Some t)
    one_by (R group) test h = h
    one_by _ test h = absurd (cc)

    num_by : (kind : Kind) → is_number kind ≡ true → IsGiven kind f.values k → (z : ℤ) × (num_at f.values k ≡ Some z)
    num_by L test h = h
    num_by L0 test h = h
    num_by L1 test h = h
    num_by Dia test h = h
    num_by Edge test h = h
    num_by Feed test h = h
    num_by Speed test h = h
    num_by N test h = h
    num_by _ test h = absurd (cc)

    three_by : (kind : Kind) → is_three kind ≡ true → IsGiven kind f.values k → (t : Triple) × (triple_at f.values k ≡ Some t)
    three_by P test h = h
    three_by V test h = h
    three_by _ test h = absurd (cc)

    given_by : (test : Kind → Bool) → must_be test (read_at (row_of_number n m) k) ≡ true → (kind : Kind) × (test kind ≡ true) × IsGiven kind f.values k
    given_by test h =
        let r : (r : Read) × (read_at (row_of_number n m) k ≡ Some r) × (r.may_lack ≡ false) × (test r.kind ≡ true) = must_read test (read_at (row_of_number n m) k) h in
        (r.0.kind, r.3, given (reads_of f.row) f.values k r.0 shape (sym read_shown ∙ r.1) r.2)

    pub one_given : must_be is_reference (read_at (row_of_number n m) k) ≡ true → (t : ℕ) × (one_at f.values k ≡ Some t)
    one_given h = let g : (kind : Kind) × (is_reference kind ≡ true) × IsGiven kind f.values k = given_by is_reference h in one_by g.0 g.1 g.2

    pub num_given : must_be is_number (read_at (row_of_number n m) k) ≡ true → (z : ℤ) × (num_at f.values k ≡ Some z)
    num_given h = let g : (kind : Kind) × (is_number kind ≡ true) × IsGiven kind f.values k = given_by is_number h in num_by g.0 g.1 g.2

    pub three_given : must_be is_three (read_at (row_of_number n m) k) ≡ true → (t : Triple) × (triple_at f.values k ≡ Some t)
    three_given h = let g : (kind : Kind) × (is_three kind ≡ true) × IsGiven kind f.values k = given_by is_three h in three_by g.0 g.1 g.2

  module _ (here : IsReached m n) (sound : IsSound m) (targets : NamedAreTargets) where
    at_group : (o : Option Read) (r : Read) → o ≡ Some r → (t : ℕ) → IsTarget m (group_of r.kind) t → IsTarget m (group_at o) t
    at_group o r e t h = subst (λ (x : Option Read). IsTarget m (group_at x) t) (sym e) h

    one_by_kind : (kind : Kind) → is_reference kind ≡ true → AreTargetsOf m kind f.values k → (t : ℕ) → one_at f.values k ≡ Some t → IsTarget m (group_of kind) t
    one_by_kind (R group) test h = h
    one_by_kind _ test h = absurd (cc)

    many_by_kind : (kind : Kind) → is_list kind ≡ true → AreTargetsOf m kind f.values k → (t : ℕ) → Contains (many_at f.values k) t → IsTarget m (group_of kind) t
    many_by_kind (RL group) test h = h
    many_by_kind _ test h = absurd (cc)

    pub one_target : may_be is_reference (read_at (row_of_number n m) k) ≡ true → (t : ℕ) → one_at f.values k ≡ Some t → IsTarget m (group_at (read_at (row_of_number n m) k)) t
    one_target h t names =
        let r : (r : Read) × (read_at (row_of_number n m) k ≡ Some r) × (is_reference r.kind ≡ true) = may_read is_reference (read_at (row_of_number n m) k) h in
        at_group (read_at (row_of_number n m) k) r.0 r.1 t (one_by_kind r.0.kind r.2 (targets m sound n f k r.0 here is (sym read_shown ∙ r.1)) t names)

    pub must_target : must_be is_reference (read_at (row_of_number n m) k) ≡ true → (t : ℕ) → one_at f.values k ≡ Some t → IsTarget m (group_at (read_at (row_of_number n m) k)) t
    must_target h t names =
        let r : (r : Read) × (read_at (row_of_number n m) k ≡ Some r) × (r.may_lack ≡ false) × (is_reference r.kind ≡ true) = must_read is_reference (read_at (row_of_number n m) k) h in
        at_group (read_at (row_of_number n m) k) r.0 r.1 t (one_by_kind r.0.kind r.3 (targets m sound n f k r.0 here is (sym read_shown ∙ r.1)) t names)

    pub many_targets : may_be is_list (read_at (row_of_number n m) k) ≡ true → (t : ℕ) → Contains (many_at f.values k) t → IsTarget m (group_at (read_at (row_of_number n m) k)) t
    many_targets h t names =
        let r : (r : Read) × (read_at (row_of_number n m) k ≡ Some r) × (is_list r.kind ≡ true) = may_read is_list (read_at (row_of_number n m) k) h in
        at_group (read_at (row_of_number n m) k) r.0 r.1 t (many_by_kind r.0.kind r.2 (targets m sound n f k r.0 here is (sym read_shown ∙ r.1)) t names)

-- ---- a model that is sound, as the rule of checked models tells it, is so outright

module _ (m : ModelContent) (rows : HasRows m) (groups : InGroupOrNot) (sound : ∥ (IsSound m) ∥₁) where
  shown_outright : (n : ℕ) → IsReached m n → (f : Fields) × (entry_of n m ≡ Some (Typed f))
  shown_outright n here =
      ⊎_elim
      (λ t. t)
      (λ b. absurd (∥∥₁_elim sound (λ x y. absurd x) (λ s. let t : (f : Fields) × (entry_of n m ≡ Some (Typed f)) = s.shown n here in let bad : entry_of n m ≡ Some (Bad b.0) = b.1 in cc)))
      (reached_is_shown m n rows here)

  kind_or_not : (r : Reference) (o : Option RowId) → row_of_number r.target m ≡ o → IsOfKind m r ⊎ (IsOfKind m r → ⊥)
  kind_or_not r (Some id) is = ⊎_elim (λ h. inl (id, is, h)) (λ no. inr (λ h. no (let same : h.0 ≡ id = (let own : row_of_number r.target m ≡ Some h.0 = h.1 in cc) in subst (IsInGroup r.group) same h.2))) (groups r.group id)
  kind_or_not r None is = inr (λ h. let own : row_of_number r.target m ≡ Some h.0 = h.1 in cc)

  kind_outright : (n : ℕ) → IsReached m n → (r : Reference) → Contains (references n m) r → IsOfKind m r
  kind_outright n here r held = ⊎_elim (λ h. h) (λ no. absurd (∥∥₁_elim sound (λ x y. absurd x) (λ s. no (s.kinds n here r held)))) (kind_or_not r (row_of_number r.target m) refl)

  pub sound_outright : IsSound m
  sound_outright = record {
    shown = shown_outright;
    kinds = kind_outright;
    acyclic = λ n here round. ∥∥₁_elim sound (λ x y. absurd x) (λ s. s.acyclic n here round);
  }
