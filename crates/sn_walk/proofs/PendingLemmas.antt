-- What is left of a walk, before and after a visit.
use Rattle.std.proofs.Common.{◌≡◌, ℕ, ◌+◌, ◌≤◌, Bool, true, false, cond, not, ◌&&◌, ◌||◌, List, [], ◌∷◌, ◌++◌, map, reverse, length, Option, Some, None, Err, if◌then◌else◌, refl, sym, ap, subst, ◌∙◌, append_assoc}
use Rattle.std.proofs.lemmas.List.{append-nil, reverse-append}
use Rattle.std.specs.List.{AllByRecursion, cons_option, flat_map, list_all, list_any}
use Rattle.sn_model.specs.Built.{IsModel}
use Rattle.sn_model.specs.ModelContent.{ModelContent}
use Rattle.sn_refs.specs.Reference.{IsReached}
use Rattle.sn_refs.specs.Sound.{IsSound}
use Rattle.sn_words.specs.declared.options.Assign.{Assign}
use Rattle.sn_walk.specs.declared.fault.WalkFault.{WalkFault}
use Rattle.sn_walk.specs.declared.limits.TheConstants.{MOST_VISITS}
use Rattle.sn_walk.specs.declared.node.Node.{Node}
use Rattle.sn_walk.specs.declared.node.Node.TheVariants.{Sequence, Choice, Step, AllOf, AnyOf, OneOf, Opposite, Compared, Variable, Constant, Other}
use Rattle.sn_walk.specs.declared.walk.Gate.{Gate}
use Rattle.sn_walk.specs.declared.walk.Gate.TheVariants.{Both, Either, Differ}
use Rattle.sn_walk.specs.declared.walk.Item.{Item}
use Rattle.sn_walk.specs.declared.walk.Item.TheVariants.{Visit, Branch, Combine, Flip}
use Rattle.sn_walk.specs.Condition.{value_of, holds}
use Rattle.sn_walk.specs.Node.{node_of, listed}
use Rattle.sn_walk.specs.NodeLaws.{is_condition}
use Rattle.sn_walk.specs.Pending.{Leads, IsLed, InstancesLead, joined, given, given_if, walk_if, rest, gated, items_of, begun, IsReachedItem, AreReached, coming, GoesOn, IsAt}
use Rattle.sn_walk.specs.Walk.{chosen, followers, truth_of, walk_from, is_step, fault_of, unless, outcome_from, executed_of}
use Rattle.sn_walk.specs.WalkLaws.{TruthGoesByOperands, WalkGoesOn}

module _ (m : ModelContent) (sets : List Assign) where
  no_truth : (n k : ℕ) (bs : List Bool) → Leads m n false k → given m sets k bs ≡ bs
  no_truth n k bs l = ap (λ (b : Bool). cond b (truth_of m sets k ∷ bs) bs) l.kind

  own_truth : (n k : ℕ) (bs : List Bool) → Leads m n true k → given m sets k bs ≡ truth_of m sets k ∷ bs
  own_truth n k bs l = ap (λ (b : Bool). cond b (truth_of m sets k ∷ bs) bs) l.kind

  -- visits of what are no conditions
  visits_left : (n : ℕ) (ns : List ℕ) (items : List Item) (bs : List Bool) → AllByRecursion (Leads m n false) ns → rest m sets (map Visit ns ++ items) bs ≡ flat_map (walk_from m sets) ns ++ rest m sets items bs
  visits_left n [] items bs h = refl
  visits_left n (k ∷ ns) items bs h =
      let later : rest m sets (map Visit ns ++ items) bs ≡ flat_map (walk_from m sets) ns ++ rest m sets items bs = visits_left n ns items bs h.1 in
      ap (λ (ts : List Bool). walk_from m sets k ++ rest m sets (map Visit ns ++ items) ts) (no_truth n k bs h.0)
      ∙ (ap (λ (ks : List ℕ). walk_from m sets k ++ ks) later
      ∙ sym (append_assoc (walk_from m sets k) (flat_map (walk_from m sets) ns) (rest m sets items bs)))

  -- the truth that is gathered from a first one and those of conditions
  abbrev gathered : Gate → Bool → List ℕ → Bool
  gathered gate b [] = b
  gathered gate b (k ∷ ks) = gathered gate (joined gate b (truth_of m sets k)) ks

  gates_left : (n : ℕ) (gate : Gate) (ns : List ℕ) (items : List Item) (b : Bool) (bs : List Bool) → AllByRecursion (Leads m n true) ns → rest m sets (gated gate ns ++ items) (b ∷ bs) ≡ flat_map (walk_from m sets) ns ++ rest m sets items (gathered gate b ns ∷ bs)
  gates_left n gate [] items b bs h = refl
  gates_left n gate (k ∷ ns) items b bs h =
      let later : rest m sets (gated gate ns ++ items) (joined gate b (truth_of m sets k) ∷ bs) ≡ flat_map (walk_from m sets) ns ++ rest m sets items (gathered gate (joined gate b (truth_of m sets k)) ns ∷ bs) = gates_left n gate ns items (joined gate b (truth_of m sets k)) bs h.1 in
      ap (λ (ts : List Bool). walk_from m sets k ++ rest m sets (Combine gate ∷ (gated gate ns ++ items)) ts) (own_truth n k (b ∷ bs) h.0)
      ∙ (ap (λ (ks : List ℕ). walk_from m sets k ++ ks) later
      ∙ sym (append_assoc (walk_from m sets k) (flat_map (walk_from m sets) ns) (rest m sets items (gathered gate b (k ∷ ns) ∷ bs))))

  gathered_both : (b : Bool) (ns : List ℕ) → gathered Both b ns ≡ (b && list_all (truth_of m sets) ns)
  gathered_both true [] = refl
  gathered_both false [] = refl
  gathered_both true (k ∷ ns) = gathered_both (truth_of m sets k) ns
  gathered_both false (k ∷ ns) = gathered_both false ns

  gathered_either : (b : Bool) (ns : List ℕ) → gathered Either b ns ≡ (b || list_any (truth_of m sets) ns)
  gathered_either true [] = refl
  gathered_either false [] = refl
  gathered_either true (k ∷ ns) = gathered_either true ns
  gathered_either false (k ∷ ns) = gathered_either (truth_of m sets k) ns

  branch_left : (n : ℕ) (o : Option ℕ) (items : List Item) (bs : List Bool) → ((k : ℕ) → o ≡ Some k → Leads m n false k) → flat_map (walk_from m sets) (cons_option o []) ++ rest m sets items bs ≡ walk_if m sets o ++ rest m sets items (given_if m sets o bs)
  branch_left n None items bs h = refl
  branch_left n (Some k) items bs h =
      ap (λ (ks : List ℕ). ks ++ rest m sets items bs) (append-nil (walk_from m sets k))
      ∙ ap (λ (ts : List Bool). walk_from m sets k ++ rest m sets items ts) (sym (no_truth n k bs (h k refl)))

  chosen_leads : (n : ℕ) (b : Bool) (branch : ℕ) (otherwise : Option ℕ) → Leads m n false branch → ((k : ℕ) → otherwise ≡ Some k → Leads m n false k) → (k : ℕ) → chosen b branch otherwise ≡ Some k → Leads m n false k
  chosen_leads n true branch otherwise first second k e = subst (Leads m n false) (let same : branch ≡ k = cc in same) first
  chosen_leads n false branch otherwise first second k e = second k e

  -- the walks of what is visited behind an instance are what is done behind its visit
  behind : (n : ℕ) (ns : List ℕ) (node : Node) (items : List Item) (bs : List Bool) → IsLed m n ns node → flat_map (walk_from m sets) (followers (truth_of m sets) ns node) ++ rest m sets items (cond (is_condition node) (holds (value_of m sets) (truth_of m sets) ns node ∷ bs) bs) ≡ rest m sets (items_of ns node ++ items) (begun (value_of m sets) node bs)
  behind n ns Sequence items bs h = sym (visits_left n ns items bs h)
  behind n ns (Choice condition branch otherwise) items bs h =
      let o = chosen (truth_of m sets condition) branch otherwise in
      append_assoc (walk_from m sets condition) (flat_map (walk_from m sets) (cons_option o [])) (rest m sets items bs)
      ∙ (ap (λ (ks : List ℕ). walk_from m sets condition ++ ks) (branch_left n o items bs (chosen_leads n (truth_of m sets condition) branch otherwise h.1 h.2))
      ∙ ap (λ (ts : List Bool). walk_from m sets condition ++ rest m sets (Branch branch otherwise ∷ items) ts) (sym (own_truth n condition bs h.0)))
  behind n ns AllOf items bs h = sym (gates_left n Both ns items true bs h ∙ ap (λ (b : Bool). flat_map (walk_from m sets) ns ++ rest m sets items (b ∷ bs)) (gathered_both true ns))
  behind n ns AnyOf items bs h = sym (gates_left n Either ns items false bs h ∙ ap (λ (b : Bool). flat_map (walk_from m sets) ns ++ rest m sets items (b ∷ bs)) (gathered_either false ns))
  behind n ns (OneOf a b) items bs h = sym (gates_left n Differ (a ∷ b ∷ []) items false bs (h.0, (h.1, tt)))
  behind n ns (Opposite a) items bs h =
      ap (λ (ks : List ℕ). ks ++ rest m sets items (not (truth_of m sets a) ∷ bs)) (append-nil (walk_from m sets a))
      ∙ ap (λ (ts : List Bool). walk_from m sets a ++ rest m sets (Flip ∷ items) ts) (sym (own_truth n a bs h))
  behind n ns (Compared by a b) items bs h = sym (visits_left n (a ∷ b ∷ []) items (begun (value_of m sets) (Compared by a b) bs) (h.0, (h.1, tt)))
  behind n ns Step items bs h = refl
  behind n ns Variable items bs h = refl
  behind n ns Constant items bs h = refl
  behind n ns Other items bs h = refl

module _ (leads : InstancesLead) (truth_goes : TruthGoesByOperands) (walk_goes : WalkGoesOn) (m : ModelContent) (model : IsModel m) (sound : IsSound m) (sets : List Assign) where
  -- a visit: the instance, and then what is done behind it
  pub visited : (n : ℕ) → IsReached m n → (items : List Item) (bs : List Bool) → rest m sets (Visit n ∷ items) bs ≡ n ∷ rest m sets (items_of (listed m n) (node_of m n) ++ items) (begun (value_of m sets) (node_of m n) bs)
  visited n here items bs =
      ap (λ (ks : List ℕ). ks ++ rest m sets items (given m sets n bs)) (walk_goes m model sound sets n here)
      ∙ (ap (λ (b : Bool). n ∷ (flat_map (walk_from m sets) (followers (truth_of m sets) (listed m n) (node_of m n)) ++ rest m sets items (cond (is_condition (node_of m n)) (b ∷ bs) bs))) (truth_goes m model sound sets n here)
      ∙ ap (λ (ks : List ℕ). n ∷ ks) (behind m sets n (listed m n) (node_of m n) items bs (leads m model sound n here)))

-- ---- what is still to do is reached

module _ (m : ModelContent) (n : ℕ) where
  visits_reached : (b : Bool) (ns : List ℕ) (items : List Item) → AllByRecursion (Leads m n b) ns → AreReached m items → AreReached m (map Visit ns ++ items)
  visits_reached b [] items h later = later
  visits_reached b (k ∷ ns) items h later = (h.0.reached, visits_reached b ns items h.1 later)

  gates_reached : (gate : Gate) (b : Bool) (ns : List ℕ) (items : List Item) → AllByRecursion (Leads m n b) ns → AreReached m items → AreReached m (gated gate ns ++ items)
  gates_reached gate b [] items h later = later
  gates_reached gate b (k ∷ ns) items h later = (h.0.reached, (tt, gates_reached gate b ns items h.1 later))

  pub items_reached : (ns : List ℕ) (node : Node) (items : List Item) → IsLed m n ns node → AreReached m items → AreReached m (items_of ns node ++ items)
  items_reached ns Sequence items h later = visits_reached false ns items h later
  items_reached ns (Choice condition branch otherwise) items h later = (h.0.reached, ((h.1.reached, λ k e. (h.2 k e).reached), later))
  items_reached ns AllOf items h later = gates_reached Both true ns items h later
  items_reached ns AnyOf items h later = gates_reached Either true ns items h later
  items_reached ns (OneOf a b) items h later = gates_reached Differ true (a ∷ b ∷ []) items (h.0, (h.1, tt)) later
  items_reached ns (Opposite a) items h later = (h.reached, (tt, later))
  items_reached ns (Compared by a b) items h later = (h.0.reached, (h.1.reached, later))
  items_reached ns _ items h later = later

-- ---- a walk goes on

module _ (leads : InstancesLead) (truth_goes : TruthGoesByOperands) (walk_goes : WalkGoesOn) (m : ModelContent) (model : IsModel m) (sound : IsSound m) (sets : List Assign) (visits : ℕ) (steps : List ℕ) (n : ℕ) (items : List Item) (truths : List Bool) (at : IsAt m sets visits steps (Visit n ∷ items) truths) where
  left_behind : List ℕ
  left_behind = rest m sets (items_of (listed m n) (node_of m n) ++ items) (begun (value_of m sets) (node_of m n) truths)

  one_visit : executed_of m sets ≡ unless (fault_of m sets visits (length steps) n) (outcome_from m sets (visits + 1) (if is_step m n then steps ++ n ∷ [] else steps) left_behind)
  unfolding left_behind
  one_visit = at.outcome ∙ ap (outcome_from m sets visits steps) (visited leads truth_goes walk_goes m model sound sets n at.reached.0 items truths)

  -- a visit without a fault
  pub goes_on : (more : ℕ) (longer : List ℕ) (later : List Item) (kept : List Bool) → fault_of m sets visits (length steps) n ≡ None → more ≡ visits + 1 → more ≤ MOST_VISITS → longer ≡ (if is_step m n then steps ++ n ∷ [] else steps) → later ≡ items_of (listed m n) (node_of m n) ++ items → kept ≡ begun (value_of m sets) (node_of m n) truths → IsAt m sets more longer later kept
  unfolding left_behind
  goes_on more longer later kept passed counted within gained follows begins = record {
    outcome = one_visit ∙ (ap (λ (o : Option WalkFault). unless o (outcome_from m sets (visits + 1) (if is_step m n then steps ++ n ∷ [] else steps) left_behind)) passed
        ∙ (ap (λ (v : ℕ). outcome_from m sets v (if is_step m n then steps ++ n ∷ [] else steps) left_behind) (sym counted)
        ∙ (ap (λ (ss : List ℕ). outcome_from m sets more ss left_behind) (sym gained)
        ∙ (ap (λ (is : List Item). outcome_from m sets more longer (rest m sets is (begun (value_of m sets) (node_of m n) truths))) (sym follows)
        ∙ ap (λ (bs : List Bool). outcome_from m sets more longer (rest m sets later bs)) (sym begins)))));
    reached = subst (AreReached m) (sym follows) (items_reached m n (listed m n) (node_of m n) items (leads m model sound n at.reached.0) at.reached.1);
    within = within;
  }

  -- a visit with a fault
  pub ends_with : (why : WalkFault) → fault_of m sets visits (length steps) n ≡ Some why → executed_of m sets ≡ Err why
  ends_with why fault = one_visit ∙ ap (λ (o : Option WalkFault). unless o (outcome_from m sets (visits + 1) (if is_step m n then steps ++ n ∷ [] else steps) left_behind)) fault

pub settles : (m : ModelContent) (sets : List Assign) (visits : ℕ) (steps : List ℕ) (items : List Item) (truths : List Bool) (next : Option ℕ) (later : List Item) (kept : List Bool) → IsAt m sets visits steps items truths → GoesOn items truths next later kept → IsAt m sets visits steps (coming next later) kept
settles m sets visits steps items truths next later kept at on = record {
  outcome = at.outcome ∙ ap (outcome_from m sets visits steps) (on.same m sets);
  reached = on.reached m at.reached;
  within = at.within;
}

-- ---- one thing after another is done

last_first : {X : Type 0} (all later : List X) (x : X) → all ≡ later ++ x ∷ [] → reverse all ≡ x ∷ reverse later
last_first all later x e = ap reverse e ∙ reverse-append later (x ∷ [])

coming_reached : (m : ModelContent) (next : Option ℕ) (items : List Item) → ((n : ℕ) → next ≡ Some n → IsReached m n) → AreReached m items → AreReached m (coming next items)
coming_reached m None items h later = later
coming_reached m (Some n) items h later = (h n refl, later)

pub does_one : (items : List Item) (truths : List Bool) (all later : List Item) (item : Item) (kept after : List Bool) (next : Option ℕ) → GoesOn items truths None (reverse all) kept → all ≡ later ++ item ∷ [] → ((m : ModelContent) (sets : List Assign) (is : List Item) → rest m sets (item ∷ is) kept ≡ rest m sets (coming next is) after) → ((m : ModelContent) → IsReachedItem m item → (n : ℕ) → next ≡ Some n → IsReached m n) → GoesOn items truths next (reverse later) after
does_one items truths all later item kept after next on last same reached = record {
  same = λ m sets. on.same m sets ∙ (ap (λ (is : List Item). rest m sets is kept) (last_first all later item last) ∙ same m sets (reverse later));
  reached = λ m h.
      let split : AreReached m (item ∷ reverse later) = subst (AreReached m) (last_first all later item last) (on.reached m h) in
      coming_reached m next (reverse later) (reached m split.0) split.1;
}
