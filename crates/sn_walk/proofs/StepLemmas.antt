-- What is executed is a machining workingstep to which the project leads.
use Rattle.std.proofs.Common.{◌≡◌, ℕ, zero, suc, Bool, true, false, cond, List, [], ◌∷◌, ◌++◌, length, Option, Some, unwrap_or, inl, refl, sym, ap, subst, ◌∙◌}
use Rattle.std.proofs.lemmas.List.Elements.{All-contains, All-from_recursion}
use Rattle.std.specs.List.{AllByRecursion, flat_map, slice_get}
use Rattle.sn_entity.specs.declared.row.Group.TheVariants.{One as OneRow}
use Rattle.sn_entity.specs.declared.row.Kind.TheVariants.{R}
use Rattle.sn_entity.specs.declared.row.RowId.{RowId}
use Rattle.sn_entity.specs.declared.row.RowId.TheVariants.{Project, Workplan, MachiningWorkingstep}
use Rattle.sn_entity.specs.declared.value.Fields.{Fields}
use Rattle.sn_entity.specs.declared.value.Value.{Value}
use Rattle.sn_entity.specs.Given.{one_at}
use Rattle.sn_entity.specs.Table.{at, reads_of}
use Rattle.sn_model.specs.declared.model.Entry.{Entry}
use Rattle.sn_model.specs.Built.{IsModel}
use Rattle.sn_model.specs.BuiltLaws.{ProjectHasRow}
use Rattle.sn_model.specs.ModelContent.{ModelContent, row_of_number}
use Rattle.sn_refs.specs.Reference.{fields_from, Names, IsReached}
use Rattle.sn_refs.specs.Sound.{IsSound}
use Rattle.sn_refs.specs.Target.{values_from, values_of, IsTarget, IsShownAs}
use Rattle.sn_words.specs.declared.options.Assign.{Assign}
use Rattle.sn_walk.specs.Condition.{holds_within}
use Rattle.sn_walk.specs.Node.{named_in, node_by, node_from, node_of, listed, main_workplan}
use Rattle.sn_walk.specs.Walk.{followers, walk_within, visits_of, is_step, is_step_node}
use Rattle.sn_walk.specs.WalkLaws.{steps_in, OutcomeTells, ExecutedAreSteps}
use Rattle.sn_walk.proofs.DepthLemmas.{chain_on}
use Rattle.sn_walk.proofs.NodeLemmas.{Laws, led, followers_led}

both_reached : (m : ModelContent) (xs ys : List ℕ) → AllByRecursion (IsReached m) xs → AllByRecursion (IsReached m) ys → AllByRecursion (IsReached m) (xs ++ ys)
both_reached m [] ys first second = second
both_reached m (x ∷ xs) ys first second = (first.0, both_reached m xs ys first.1 second)

module _ (laws : Laws) (m : ModelContent) (model : IsModel m) (sound : IsSound m) (sets : List Assign) where
  -- each visit is of a reached instance
  visits_reached : (depth n : ℕ) → IsReached m n → AllByRecursion (IsReached m) (walk_within m sets depth n)
  unfolding walk_within
  visits_reached zero n here = tt
  visits_reached (suc depth) n here = (here, behind (visits_reached depth) (followers (holds_within m sets depth) (listed m n) (node_of m n)) (followers_led m n (listed m n) (node_of m n) (led laws m model sound n here) (holds_within m sets depth)))
    where
      behind : ((k : ℕ) → IsReached m k → AllByRecursion (IsReached m) (walk_within m sets depth k)) → (ks : List ℕ) → AllByRecursion (Names m n) ks → AllByRecursion (IsReached m) (flat_map (walk_within m sets depth) ks)
      behind below [] h = tt
      behind below (k ∷ ks) h = both_reached m (walk_within m sets depth k) (flat_map (walk_within m sets depth) ks) (below k (here.0 ++ k ∷ [], chain_on m m.project here.0 n k here.1 h.0)) (behind below ks h.1)

  step_row : (row : RowId) (values : List Value) → is_step_node (node_by row values) ≡ true → row ≡ MachiningWorkingstep
  step_row MachiningWorkingstep values h = refl
  step_row _ values h = absurd (cc)

  step_target : (n : ℕ) → IsReached m n → is_step m n ≡ true → IsTarget m (OneRow MachiningWorkingstep) n
  step_target n here is =
      let f : (f : Fields) × IsShownAs m n f = laws.shown m model sound n here in
      let row : f.0.row ≡ MachiningWorkingstep = step_row f.0.row (values_of n m) (ap (λ (o : Option RowId). is_step_node (node_from o (values_of n m))) (sym f.1.row) ∙ is) in
      record { reached = here; row = MachiningWorkingstep; has_row = f.1.row ∙ ap Some row; kind = inl refl }

  steps_are : (ns : List ℕ) → AllByRecursion (IsReached m) ns → AllByRecursion (IsTarget m (OneRow MachiningWorkingstep)) (steps_in m ns)
  steps_are [] h = tt
  steps_are (n ∷ ns) h = by_test (steps_are ns h.1) (is_step m n) refl
    where
      by_test : AllByRecursion (IsTarget m (OneRow MachiningWorkingstep)) (steps_in m ns) → (b : Bool) → is_step m n ≡ b → AllByRecursion (IsTarget m (OneRow MachiningWorkingstep)) (cond b (n ∷ steps_in m ns) (steps_in m ns))
      by_test below true is = (step_target n h.0 is, below)
      by_test below false is = below

  main_reached : row_of_number m.project m ≡ Some Project → IsReached m (main_workplan m)
  main_reached row =
      let here : IsReached m m.project = ([], refl) in
      let f : (f : Fields) × IsShownAs m m.project f = laws.shown m model sound m.project here in
      let is : f.0.row ≡ Project = let own : row_of_number m.project m ≡ Some f.0.row = f.1.row in cc in
      let read : slice_get (reads_of f.0.row) 0 ≡ Some (at 2 (R (OneRow Workplan))) = ap (λ (id : RowId). slice_get (reads_of id) 0) is in
      let t : (t : ℕ) × (one_at f.0.values 0 ≡ Some t) = laws.given (reads_of f.0.row) f.0.values 0 (at 2 (R (OneRow Workplan))) f.1.shape read refl in
      let target : IsTarget m (OneRow Workplan) t.0 = laws.targets m sound m.project f.0 0 (at 2 (R (OneRow Workplan))) here f.1.entry read t.0 t.1 in
      let named : main_workplan m ≡ t.0 = ap (λ (o : Option Entry). named_in (values_from (fields_from o)) 0) f.1.entry ∙ ap (λ (o : Option ℕ). unwrap_or o 0) t.1 in
      subst (IsReached m) (sym named) target.reached

pub executed_are_steps : Laws → ProjectHasRow → OutcomeTells → ExecutedAreSteps
executed_are_steps laws project tells m model sound sets steps n e held =
    let is : steps ≡ steps_in m (visits_of m sets) = ((tells.steps m sets steps).0 e).1 in
    let all : AllByRecursion (IsTarget m (OneRow MachiningWorkingstep)) (steps_in m (visits_of m sets)) = steps_are laws m model sound sets (visits_of m sets) (visits_reached laws m model sound sets (length m.kept) (main_workplan m) (main_reached laws m model sound sets (project m model))) in
    All-contains (IsTarget m (OneRow MachiningWorkingstep)) steps n (All-from_recursion (IsTarget m (OneRow MachiningWorkingstep)) steps (subst (AllByRecursion (IsTarget m (OneRow MachiningWorkingstep))) (sym is) all)) held
