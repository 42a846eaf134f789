-- What a reached instance names, by what it is to the walk.
use Rattle.std.proofs.Common.{◌≡◌, ℕ, Bool, true, false, List, [], ◌∷◌, Option, Some, None, unwrap_or, refl, sym, ap, subst, ◌∙◌, ⊎_elim, arith}
use Rattle.std.proofs.lemmas.List.Elements.{Contains-append_right}
use Rattle.std.specs.List.{slice_get, Contains, AllByRecursion, cons_option}
use Rattle.sn_entity.specs.declared.row.Group.{Group}
use Rattle.sn_entity.specs.declared.row.Group.TheVariants.{Exec, Cond, Val}
use Rattle.sn_entity.specs.declared.row.Kind.TheVariants.{R, RL}
use Rattle.sn_entity.specs.declared.row.Read.{Read}
use Rattle.sn_entity.specs.declared.row.RowId.{RowId}
use Rattle.sn_entity.specs.declared.row.RowId.TheVariants.{Workplan, IfStatement, AndExpression, OrExpression, XorExpression, NotExpression, ComparisonEqual, ComparisonNotEqual, ComparisonLess, ComparisonLessEqual, ComparisonGreater, ComparisonGreaterEqual}
use Rattle.sn_entity.specs.declared.value.Fields.{Fields}
use Rattle.sn_entity.specs.declared.value.Value.{Value}
use Rattle.sn_entity.specs.Given.{one_at, many_at, GivenWhereWanted}
use Rattle.sn_entity.specs.Table.{at, may, comparison, reads_of, rows_of, IsAmong, IsInGroup}
use Rattle.sn_model.specs.declared.model.Entry.{Entry}
use Rattle.sn_model.specs.ModelContent.{ModelContent, row_of_number}
use Rattle.sn_refs.specs.Reference.{fields_from, Names, IsReached}
use Rattle.sn_refs.specs.Sound.{IsSound}
use Rattle.sn_refs.specs.Target.{values_from, values_of, IsTarget, NamedAreTargets, NamesAtPlaces, IsShownAs, ReachedAreShown}
use Rattle.sn_walk.specs.declared.node.Node.{Node}
use Rattle.sn_walk.specs.declared.node.Node.TheVariants.{Sequence, Choice, AllOf, AnyOf, OneOf, Opposite, Compared}
use Rattle.sn_walk.specs.Node.{named_in, node_by, node_from, node_of, listed}
use Rattle.sn_walk.specs.NodeLaws.{is_executable, is_condition, is_value, RowsHaveNodes}
use Rattle.sn_walk.specs.Pending.{Leads, IsLed, InstancesLead}
use Rattle.sn_walk.specs.Walk.{chosen, followers}

-- the laws of the crates below
pub record Laws : Type 0 where
  pub given : GivenWhereWanted
  pub targets : NamedAreTargets
  pub names : NamesAtPlaces
  pub shown : ReachedAreShown

pub all_from : (P : ℕ → Type 0) (ns : List ℕ) → ((k : ℕ) → Contains ns k → P k) → AllByRecursion P ns
all_from P [] h = tt
all_from P (n ∷ ns) h = (h n (0, omega arith, refl), all_from P ns (λ k c. h k (Contains-append_right (n ∷ []) ns k c)))

pub all_on : (P Q : ℕ → Type 0) → ((k : ℕ) → P k → Q k) → (ns : List ℕ) → AllByRecursion P ns → AllByRecursion Q ns
all_on P Q h [] all = tt
all_on P Q h (n ∷ ns) all = (h n all.0, all_on P Q h ns all.1)

-- a row of a group is one of its rows
among : (P : RowId → Type 0) (ids : List RowId) → AllByRecursion P ids → (row : RowId) → IsAmong row ids → P row
among P [] all row h = absurd h
among P (id ∷ ids) all row h = ⊎_elim (λ e. subst P (sym e) all.0) (λ later. among P ids all.1 row later) h

-- the rows of the group are conditions or not
AreOfKind : Group → Bool → Type 0
AreOfKind group b = (row : RowId) (values : List Value) → IsInGroup group row → is_condition (node_by row values) ≡ b

exec_kind : AreOfKind Exec false
unfolding AreOfKind
exec_kind row values h = among (λ id. is_condition (node_by id values) ≡ false) (rows_of Exec) (refl, (refl, (refl, tt))) row h

cond_kind : AreOfKind Cond true
unfolding AreOfKind
cond_kind row values h = among (λ id. is_condition (node_by id values) ≡ true) (rows_of Cond) (refl, (refl, (refl, (refl, (refl, (refl, (refl, (refl, (refl, (refl, tt)))))))))) row h

val_kind : AreOfKind Val false
unfolding AreOfKind
val_kind row values h = among (λ id. is_condition (node_by id values) ≡ false) (rows_of Val) (refl, (refl, tt)) row h

-- each row of these groups has a node of its kind
pub rows_have_nodes : RowsHaveNodes
unfolding AreOfKind
rows_have_nodes = record {
  executables = λ row values h. among (λ id. is_executable (node_by id values) ≡ true) (rows_of Exec) (refl, (refl, (refl, tt))) row h;
  conditions = λ row values h. cond_kind row values h;
  values = λ row values h. among (λ id. is_value (node_by id values) ≡ true) (rows_of Val) (refl, (refl, tt)) row h;
}

target_kind : (m : ModelContent) (group : Group) (b : Bool) → AreOfKind group b → (k : ℕ) → IsTarget m group k → is_condition (node_of m k) ≡ b
unfolding AreOfKind
target_kind m group b kinds k target = ap (λ (o : Option RowId). is_condition (node_from o (values_of k m))) target.has_row ∙ kinds target.row (values_of k m) target.kind

module _ (laws : Laws) (m : ModelContent) (sound : IsSound m) (n : ℕ) (here : IsReached m n) (f : Fields) (shown : IsShownAs m n f) (row : RowId) (is : f.row ≡ row) where
  read_in : (k : ℕ) (r : Read) → slice_get (reads_of row) k ≡ Some r → slice_get (reads_of f.row) k ≡ Some r
  read_in k r h = subst (λ (id : RowId). slice_get (reads_of id) k ≡ Some r) (sym is) h

  module _ (group : Group) (b : Bool) (kinds : AreOfKind group b) (k place : ℕ) where
    -- an instance that is wanted at the place, or may be
    wanted_led : slice_get (reads_of row) k ≡ Some (at place (R group)) → Leads m n b (named_in f.values k)
    wanted_led h =
        let t : (t : ℕ) × (one_at f.values k ≡ Some t) = laws.given (reads_of f.row) f.values k (at place (R group)) shown.shape (read_in k (at place (R group)) h) refl in
        let target : IsTarget m group t.0 = laws.targets m sound n f k (at place (R group)) here shown.entry (read_in k (at place (R group)) h) t.0 t.1 in
        let name : Names m n t.0 = laws.names m sound n f k (at place (R group)) here shown.entry (read_in k (at place (R group)) h) t.0 t.1 in
        let led : Leads m n b t.0 = record { name = name; reached = target.reached; kind = target_kind m group b kinds t.0 target } in
        subst (λ (o : Option ℕ). Leads m n b (unwrap_or o 0)) (sym t.1) led

    maybe_led : slice_get (reads_of row) k ≡ Some (may place (R group)) → (t : ℕ) → one_at f.values k ≡ Some t → Leads m n b t
    maybe_led h t is_named =
        let target : IsTarget m group t = laws.targets m sound n f k (may place (R group)) here shown.entry (read_in k (may place (R group)) h) t is_named in
        record { name = laws.names m sound n f k (may place (R group)) here shown.entry (read_in k (may place (R group)) h) t is_named; reached = target.reached; kind = target_kind m group b kinds t target }

    list_led : slice_get (reads_of row) k ≡ Some (at place (RL group)) → AllByRecursion (Leads m n b) (many_at f.values k)
    list_led h = all_from (Leads m n b) (many_at f.values k)
        (λ t held.
        let target : IsTarget m group t = laws.targets m sound n f k (at place (RL group)) here shown.entry (read_in k (at place (RL group)) h) t held in
        record { name = laws.names m sound n f k (at place (RL group)) here shown.entry (read_in k (at place (RL group)) h) t held; reached = target.reached; kind = target_kind m group b kinds t target })

module _ (laws : Laws) (m : ModelContent) (sound : IsSound m) (n : ℕ) (here : IsReached m n) (f : Fields) (shown : IsShownAs m n f) where
  compared_led : (row : RowId) (is : f.row ≡ row) → reads_of row ≡ comparison → Leads m n false (named_in f.values 0) × Leads m n false (named_in f.values 1)
  compared_led row is reads = (
    wanted_led laws m sound n here f shown row is Val false val_kind 0 1 (ap (λ (rs : List Read). slice_get rs 0) reads),
    wanted_led laws m sound n here f shown row is Val false val_kind 1 2 (ap (λ (rs : List Read). slice_get rs 1) reads),
  )

  led_by : (row : RowId) → f.row ≡ row → IsLed m n (many_at f.values 0) (node_by row f.values)
  led_by Workplan is = list_led laws m sound n here f shown Workplan is Exec false exec_kind 0 2 refl
  led_by IfStatement is = (
    wanted_led laws m sound n here f shown IfStatement is Cond true cond_kind 0 2 refl,
    wanted_led laws m sound n here f shown IfStatement is Exec false exec_kind 1 3 refl,
    maybe_led laws m sound n here f shown IfStatement is Exec false exec_kind 2 4 refl,
  )
  led_by AndExpression is = list_led laws m sound n here f shown AndExpression is Cond true cond_kind 0 1 refl
  led_by OrExpression is = list_led laws m sound n here f shown OrExpression is Cond true cond_kind 0 1 refl
  led_by XorExpression is = (
    wanted_led laws m sound n here f shown XorExpression is Cond true cond_kind 0 1 refl,
    wanted_led laws m sound n here f shown XorExpression is Cond true cond_kind 1 2 refl,
  )
  led_by NotExpression is = wanted_led laws m sound n here f shown NotExpression is Cond true cond_kind 0 1 refl
  led_by ComparisonEqual is = compared_led ComparisonEqual is refl
  led_by ComparisonNotEqual is = compared_led ComparisonNotEqual is refl
  led_by ComparisonLess is = compared_led ComparisonLess is refl
  led_by ComparisonLessEqual is = compared_led ComparisonLessEqual is refl
  led_by ComparisonGreater is = compared_led ComparisonGreater is refl
  led_by ComparisonGreaterEqual is = compared_led ComparisonGreaterEqual is refl
  led_by _ is = tt

  values_shown : values_of n m ≡ f.values
  values_shown = ap (λ (o : Option Entry). values_from (fields_from o)) shown.entry

  led_as : IsLed m n (listed m n) (node_of m n)
  led_as =
      subst (λ (values : List Value). IsLed m n (many_at values 0) (node_from (row_of_number n m) values)) (sym values_shown)
      (subst (λ (o : Option RowId). IsLed m n (many_at f.values 0) (node_from o f.values)) (sym shown.row) (led_by f.row refl))

-- what a reached instance leads to
pub led : Laws → InstancesLead
led laws m model sound n here =
    let f : (f : Fields) × IsShownAs m n f = laws.shown m model sound n here in
    led_as laws m sound n here f.0 f.1

chosen_led : (P : ℕ → Type 0) (b : Bool) (branch : ℕ) (otherwise : Option ℕ) → P branch → ((k : ℕ) → otherwise ≡ Some k → P k) → AllByRecursion P (cons_option (chosen b branch otherwise) [])
chosen_led P true branch otherwise first second = (first, tt)
chosen_led P false branch (Some k) first second = (second k refl, tt)
chosen_led P false branch None first second = tt

-- what is visited behind an instance it names
pub followers_led : (m : ModelContent) (n : ℕ) (ns : List ℕ) (node : Node) → IsLed m n ns node → (truth : ℕ → Bool) → AllByRecursion (Names m n) (followers truth ns node)
followers_led m n ns Sequence h truth = all_on (Leads m n false) (Names m n) (λ k l. l.name) ns h
followers_led m n ns (Choice condition branch otherwise) h truth = (h.0.name, chosen_led (Names m n) (truth condition) branch otherwise h.1.name (λ k e. (h.2 k e).name))
followers_led m n ns AllOf h truth = all_on (Leads m n true) (Names m n) (λ k l. l.name) ns h
followers_led m n ns AnyOf h truth = all_on (Leads m n true) (Names m n) (λ k l. l.name) ns h
followers_led m n ns (OneOf a b) h truth = (h.0.name, (h.1.name, tt))
followers_led m n ns (Opposite a) h truth = (h.name, tt)
followers_led m n ns (Compared by a b) h truth = (h.0.name, (h.1.name, tt))
followers_led m n ns _ h truth = tt
