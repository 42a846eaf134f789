-- The steps of a walk are those among its visits, and its fault is that of the first visit that has one.
use Rattle.std.proofs.Common.{◌≡◌, ◌≢◌, ◌⊎◌, ◌↔◌, ⊎_elim, inl, inr, not, nat_eq, ℤ, ℕ, ◌+◌, ◌<◌, ◌≤◌, Bool, true, false, leb, cond, List, [], ◌∷◌, ◌++◌, length, Option, Some, None, is_none, Result, Ok, Err, if◌then◌else◌, refl, sym, ap, subst, ◌∙◌, append_assoc, arith, length-append}
use Rattle.std.proofs.lemmas.Bool.{leb-false, leb-true, lt-leb, le-leb, ne_eqb, eq-eqb}
use Rattle.std.proofs.lemmas.List.{append-nil}
use Rattle.std.proofs.lemmas.List.Elements.{filter-append}
use Rattle.sn_model.specs.ModelContent.{ModelContent}
use Rattle.sn_outline.specs.declared.limits.TheConstants.{MOST_STEPS}
use Rattle.sn_words.specs.declared.options.Assign.{Assign}
use Rattle.sn_walk.specs.declared.fault.WalkFault.{WalkFault}
use Rattle.sn_walk.specs.declared.fault.WalkFault.TheVariants.{Unset, TooManySteps, SecondSetup, Memory}
use Rattle.sn_walk.specs.declared.limits.TheConstants.{MOST_VISITS}
use Rattle.sn_walk.specs.declared.node.Node.{Node}
use Rattle.sn_walk.specs.declared.node.Node.TheVariants.{Sequence, Step, Variable}
use Rattle.sn_walk.specs.Condition.{value_of}
use Rattle.sn_walk.specs.Node.{node_of, main_setup, setup_of}
use Rattle.sn_walk.specs.Walk.{is_step, is_step_node, is_other_setup, fault_by, fault_of, unless, outcome_from, visits_of, executed_of}
use Rattle.sn_walk.specs.WalkLaws.{IsTooMuch, NamesSecondSetup, HasNoValue, FaultsTell, steps_in, fault_behind, AreFaultless, EndsWith, OutcomeTells, WalkIsShort, VisitsAreBounded, LimitsTell}

module _ (m : ModelContent) (sets : List Assign) where
  -- one visit more
  steps_with : (done : List ℕ) (n : ℕ) → (if is_step m n then steps_in m done ++ n ∷ [] else steps_in m done) ≡ steps_in m (done ++ n ∷ [])
  steps_with done n = by_test (is_step m n) ∙ sym (filter-append (is_step m) done (n ∷ []))
    where
      by_test : (b : Bool) → (if b then steps_in m done ++ n ∷ [] else steps_in m done) ≡ steps_in m done ++ cond b (n ∷ []) []
      by_test true = refl
      by_test false = sym (append-nil (steps_in m done))

  outcome_behind : List ℕ → List ℕ → Result (List ℕ) WalkFault
  outcome_behind done ns = outcome_from m sets (length done) (steps_in m done) ns

  one_more : (done : List ℕ) (n : ℕ) (ns : List ℕ) → outcome_behind done (n ∷ ns) ≡ unless (fault_behind m sets done n) (outcome_behind (done ++ n ∷ []) ns)
  unfolding outcome_behind
  one_more done n ns =
      ap (λ (ss : List ℕ). unless (fault_behind m sets done n) (outcome_from m sets (length done + 1) ss ns)) (steps_with done n)
      ∙ ap (λ (v : ℕ). unless (fault_behind m sets done n) (outcome_from m sets v (steps_in m (done ++ n ∷ [])) ns)) (sym (length-append done (n ∷ [])))

  -- none of the visits behind the done ones has a fault
  abbrev Passes : List ℕ → List ℕ → Type 0
  Passes done [] = Unit {0}
  Passes done (n ∷ ns) = (fault_behind m sets done n ≡ None) × Passes (done ++ n ∷ []) ns

  moved : (done : List ℕ) (n : ℕ) (ns : List ℕ) → (done ++ n ∷ []) ++ ns ≡ done ++ n ∷ ns
  moved done n ns = append_assoc done (n ∷ []) ns

  run_passes : (done ns : List ℕ) → Passes done ns → outcome_behind done ns ≡ Ok (steps_in m (done ++ ns))
  unfolding outcome_behind
  run_passes done [] h = ap (λ (ks : List ℕ). Ok (steps_in m ks)) (sym (append-nil done))
  run_passes done (n ∷ ns) h =
      one_more done n ns
      ∙ (ap (λ (o : Option WalkFault). unless o (outcome_behind (done ++ n ∷ []) ns)) h.0
      ∙ (run_passes (done ++ n ∷ []) ns h.1
      ∙ ap (λ (ks : List ℕ). Ok (steps_in m ks)) (moved done n ns)))

  run_ends : (done before : List ℕ) (n : ℕ) (after : List ℕ) (why : WalkFault) → Passes done before → fault_behind m sets (done ++ before) n ≡ Some why → outcome_behind done (before ++ n ∷ after) ≡ Err why
  run_ends done [] n after why h fault =
      one_more done n after
      ∙ ap (λ (o : Option WalkFault). unless o (outcome_behind (done ++ n ∷ []) after)) (subst (λ (ks : List ℕ). fault_behind m sets ks n ≡ Some why) (append-nil done) fault)
  run_ends done (b ∷ before) n after why h fault =
      one_more done b (before ++ n ∷ after)
      ∙ (ap (λ (o : Option WalkFault). unless o (outcome_behind (done ++ b ∷ []) (before ++ n ∷ after))) h.0
      ∙ run_ends (done ++ b ∷ []) before n after why h.1 (subst (λ (ks : List ℕ). fault_behind m sets ks n ≡ Some why) (sym (moved done b before)) fault))

  -- a first visit with a fault
  record Ended (done ns : List ℕ) (why : WalkFault) : Type 0 where
    pub before : List ℕ
    pub number : ℕ
    pub after : List ℕ
    pub all : ns ≡ before ++ number ∷ after
    pub passes : Passes done before
    pub fault : fault_behind m sets (done ++ before) number ≡ Some why

  ended_later : (done : List ℕ) (n : ℕ) (ns : List ℕ) (why : WalkFault) → fault_behind m sets done n ≡ None → Ended (done ++ n ∷ []) ns why → Ended done (n ∷ ns) why
  ended_later done n ns why passed e = record {
    before = n ∷ e.before;
    number = e.number;
    after = e.after;
    all = ap (λ (ks : List ℕ). n ∷ ks) e.all;
    passes = (passed, e.passes);
    fault = subst (λ (ks : List ℕ). fault_behind m sets ks e.number ≡ Some why) (moved done n e.before) e.fault;
  }

  told_ok : (done ns steps : List ℕ) → outcome_behind done ns ≡ Ok steps → Passes done ns
  told_ok done [] steps e = tt
  told_ok done (n ∷ ns) steps e = by_fault (told_ok (done ++ n ∷ []) ns steps) (fault_behind m sets done n) refl (sym (one_more done n ns) ∙ e)
    where
      by_fault : (outcome_behind (done ++ n ∷ []) ns ≡ Ok steps → Passes (done ++ n ∷ []) ns) → (o : Option WalkFault) → fault_behind m sets done n ≡ o → unless o (outcome_behind (done ++ n ∷ []) ns) ≡ Ok steps → Passes done (n ∷ ns)
      by_fault below (Some why) is e = absurd (cc)
      by_fault below None is e = (is, below e)

  told_err : (done ns : List ℕ) (why : WalkFault) → outcome_behind done ns ≡ Err why → Ended done ns why
  unfolding outcome_behind
  told_err done [] why e = absurd (cc)
  told_err done (n ∷ ns) why e = by_fault (told_err (done ++ n ∷ []) ns why) (fault_behind m sets done n) refl (sym (one_more done n ns) ∙ e)
    where
      by_fault : (outcome_behind (done ++ n ∷ []) ns ≡ Err why → Ended (done ++ n ∷ []) ns why) → (o : Option WalkFault) → fault_behind m sets done n ≡ o → unless o (outcome_behind (done ++ n ∷ []) ns) ≡ Err why → Ended done (n ∷ ns) why
      by_fault below (Some w) is e = record {
        before = [];
        number = n;
        after = ns;
        all = refl;
        passes = tt;
        fault = subst (λ (ks : List ℕ). fault_behind m sets ks n ≡ Some why) (sym (append-nil done)) (is ∙ ap Some (let same : w ≡ why = cc in same));
      }
      by_fault below None is e = ended_later done n ns why is (below e)

  -- the same, said of each visit with those before it
  AllPass : List ℕ → List ℕ → Type 0
  AllPass done ns = (before : List ℕ) (n : ℕ) (after : List ℕ) → ns ≡ before ++ n ∷ after → fault_behind m sets (done ++ before) n ≡ None

  to_each : (done ns : List ℕ) → Passes done ns → AllPass done ns
  unfolding AllPass
  to_each done [] h [] n after e = absurd (cc)
  to_each done [] h (b ∷ before) n after e = absurd (cc)
  to_each done (k ∷ ns) h [] n after e =
      let same : k ≡ n = cc in
      subst (λ (ks : List ℕ). fault_behind m sets ks n ≡ None) (sym (append-nil done)) (subst (λ (x : ℕ). fault_behind m sets done x ≡ None) same h.0)
  to_each done (k ∷ ns) h (b ∷ before) n after e =
      let same : k ≡ b = cc in
      let rest : ns ≡ before ++ n ∷ after = cc in
      subst (λ (x : ℕ). fault_behind m sets (done ++ x ∷ before) n ≡ None) same
      (subst (λ (ks : List ℕ). fault_behind m sets ks n ≡ None) (moved done k before) (to_each (done ++ k ∷ []) ns h.1 before n after rest))

  from_each : (done ns : List ℕ) → AllPass done ns → Passes done ns
  unfolding AllPass
  from_each done [] h = tt
  from_each done (n ∷ ns) h = (
    subst (λ (ks : List ℕ). fault_behind m sets ks n ≡ None) (append-nil done) (h [] n ns refl),
    from_each (done ++ n ∷ []) ns (λ before k after e. subst (λ (ks : List ℕ). fault_behind m sets ks k ≡ None) (sym (moved done n before)) (h (n ∷ before) k after (ap (λ (ks : List ℕ). n ∷ ks) e))),
  )

  each_is : (ns : List ℕ) → AreFaultless m sets ns → Passes [] ns
  unfolding AllPass
  each_is ns h = from_each [] ns h

  is_each : (ns : List ℕ) → Passes [] ns → AreFaultless m sets ns
  unfolding AllPass
  is_each ns h = to_each [] ns h

  tells_steps : (steps : List ℕ) → (executed_of m sets ≡ Ok steps) ↔ (AreFaultless m sets (visits_of m sets) × (steps ≡ steps_in m (visits_of m sets)))
  unfolding outcome_behind
  tells_steps steps = (
    λ e.
        let passes : Passes [] (visits_of m sets) = told_ok [] (visits_of m sets) steps e in
        let run : executed_of m sets ≡ Ok (steps_in m (visits_of m sets)) = run_passes [] (visits_of m sets) passes in
        (is_each (visits_of m sets) passes, let same : steps ≡ steps_in m (visits_of m sets) = cc in same),
    λ h. run_passes [] (visits_of m sets) (each_is (visits_of m sets) h.0) ∙ ap Ok (sym h.1),
  )

  tells_fault : (why : WalkFault) → (executed_of m sets ≡ Err why) ↔ EndsWith m sets (visits_of m sets) why
  unfolding outcome_behind
  tells_fault why = (
    λ e. let ended : Ended [] (visits_of m sets) why = told_err [] (visits_of m sets) why e in record {
      before = ended.before;
      number = ended.number;
      after = ended.after;
      all = ended.all;
      faultless = is_each ended.before ended.passes;
      fault = ended.fault;
    },
    λ h. subst (λ (ns : List ℕ). outcome_from m sets 0 [] ns ≡ Err why) (sym h.all) (run_ends [] h.before h.number h.after why (each_is h.before h.faultless) h.fault),
  )

  -- ---- a walk without a fault is short

  passed_test : (b : Bool) (w : WalkFault) (o : Option WalkFault) → (if b then Some w else o) ≡ None → (b ≡ false) × (o ≡ None)
  passed_test true w o e = absurd (cc)
  passed_test false w o e = (refl, e)

  visit_within : (visits steps n : ℕ) → fault_of m sets visits steps n ≡ None → visits < MOST_VISITS
  visit_within visits steps n e = leb-false MOST_VISITS visits (passed_test (leb MOST_VISITS visits) TooManySteps (fault_by m sets steps n (node_of m n)) e).0

  step_by : (steps n : ℕ) (node : Node) → fault_by m sets steps n node ≡ None → is_step_node node ≡ true → steps < MOST_STEPS
  step_by steps n Step e is = leb-false MOST_STEPS steps (passed_test (leb MOST_STEPS steps) TooManySteps None e).0
  step_by steps n _ e is = absurd (cc)

  step_within : (visits steps n : ℕ) → fault_of m sets visits steps n ≡ None → is_step m n ≡ true → steps < MOST_STEPS
  step_within visits steps n e is = step_by steps n (node_of m n) (passed_test (leb MOST_VISITS visits) TooManySteps (fault_by m sets steps n (node_of m n)) e).1 is

  steps_grow : (done : List ℕ) (n : ℕ) → fault_behind m sets done n ≡ None → length (steps_in m done) ≤ MOST_STEPS → length (steps_in m (done ++ n ∷ [])) ≤ MOST_STEPS
  steps_grow done n e short = subst (λ (ks : List ℕ). length ks ≤ MOST_STEPS) (steps_with done n) (by_test (is_step m n) (step_within (length done) (length (steps_in m done)) n e))
    where
      by_test : (b : Bool) → (b ≡ true → length (steps_in m done) < MOST_STEPS) → length (if b then steps_in m done ++ n ∷ [] else steps_in m done) ≤ MOST_STEPS
      by_test true h = let less : length (steps_in m done) < MOST_STEPS = h refl in let more : length (steps_in m done ++ n ∷ []) ≡ length (steps_in m done) + 1 = length-append (steps_in m done) (n ∷ []) in omega arith
      by_test false h = short

  passes_short : (done ns : List ℕ) → Passes done ns → length done ≤ MOST_VISITS → length (steps_in m done) ≤ MOST_STEPS → (length (done ++ ns) ≤ MOST_VISITS) × (length (steps_in m (done ++ ns)) ≤ MOST_STEPS)
  passes_short done [] h visits steps = (subst (λ (ks : List ℕ). length ks ≤ MOST_VISITS) (sym (append-nil done)) visits, subst (λ (ks : List ℕ). length (steps_in m ks) ≤ MOST_STEPS) (sym (append-nil done)) steps)
  passes_short done (n ∷ ns) h visits steps =
      let less : length done < MOST_VISITS = visit_within (length done) (length (steps_in m done)) n h.0 in
      let more : length (done ++ n ∷ []) ≡ length done + 1 = length-append done (n ∷ []) in
      subst (λ (ks : List ℕ). (length ks ≤ MOST_VISITS) × (length (steps_in m ks) ≤ MOST_STEPS)) (moved done n ns)
      (passes_short (done ++ n ∷ []) ns h.1 (omega arith) (steps_grow done n h.0 steps))

  told_by : (b : Bool) (w : WalkFault) (o : Option WalkFault) → (w ≡ Memory → ⊥) → (o ≡ Some Memory → ⊥) → (if b then Some w else o) ≡ Some Memory → ⊥
  told_by true w o never other e = never (let same : w ≡ Memory = cc in same)
  told_by false w o never other e = other e

  no_memory_by : (steps n : ℕ) (node : Node) → fault_by m sets steps n node ≡ Some Memory → ⊥
  no_memory_by steps n Step e = told_by (leb MOST_STEPS steps) TooManySteps None (λ s. cc) (λ s. cc) e
  no_memory_by steps n Sequence e = told_by (is_other_setup (main_setup m) (setup_of m n)) (SecondSetup n) None (λ s. cc) (λ s. cc) e
  no_memory_by steps n Variable e = told_by (is_none (value_of m sets n)) (Unset n) None (λ s. cc) (λ s. cc) e
  no_memory_by steps n _ e = cc

  no_memory : (visits steps n : ℕ) → fault_of m sets visits steps n ≡ Some Memory → ⊥
  no_memory visits steps n e = told_by (leb MOST_VISITS visits) TooManySteps (fault_by m sets steps n (node_of m n)) (λ s. cc) (no_memory_by steps n (node_of m n)) e

  short_steps : (steps : List ℕ) → executed_of m sets ≡ Ok steps → (length (visits_of m sets) ≤ MOST_VISITS) × (length steps ≤ MOST_STEPS)
  unfolding outcome_behind
  short_steps steps e =
      let both : (length (visits_of m sets) ≤ MOST_VISITS) × (length (steps_in m (visits_of m sets)) ≤ MOST_STEPS) = passes_short [] (visits_of m sets) (told_ok [] (visits_of m sets) steps e) (omega arith) (omega arith) in
      (both.0, subst (λ (ks : List ℕ). length ks ≤ MOST_STEPS) (sym (((tells_steps steps).0 e).1)) both.1)

  never_memory : executed_of m sets ≢ Err Memory
  unfolding outcome_behind
  never_memory e = let ended : Ended [] (visits_of m sets) Memory = told_err [] (visits_of m sets) Memory e in no_memory (length ended.before) (length (steps_in m ended.before)) ended.number ended.fault

-- ---- the faults of a visit

test_or : (b : Bool) (w v : WalkFault) (o : Option WalkFault) → (if b then Some w else o) ≡ Some v → ((b ≡ true) × (w ≡ v)) ⊎ ((b ≡ false) × (o ≡ Some v))
test_or true w v o e = inl (refl, let same : w ≡ v = cc in same)
test_or false w v o e = inr (refl, e)

test_true : (b : Bool) (w : WalkFault) (o : Option WalkFault) → b ≡ true → (if b then Some w else o) ≡ Some w
test_true true w o e = refl
test_true false w o e = absurd (cc)

test_false : (b : Bool) (w : WalkFault) (o : Option WalkFault) → b ≡ false → (if b then Some w else o) ≡ o
test_false true w o e = absurd (cc)
test_false false w o e = refl

other_told : (main setup : Option ℕ) → is_other_setup main setup ≡ true → (s : ℕ) × (setup ≡ Some s) × (main ≢ Some s)
other_told main None e = absurd (cc)
other_told None (Some s) e = (s, refl, λ same. cc)
other_told (Some t) (Some s) e = (s, refl, λ same. let alike : t ≡ s = cc in absurd (let is : nat_eq t s ≡ true = eq-eqb t s alike in let not_true : not (nat_eq t s) ≡ true = e in let no_more : not true ≡ true = ap not (sym is) ∙ not_true in cc))

other_from : (main setup : Option ℕ) (s : ℕ) → setup ≡ Some s → main ≢ Some s → is_other_setup main setup ≡ true
other_from main None s e differs = absurd (cc)
other_from None (Some k) s e differs = refl
other_from (Some t) (Some k) s e differs = ap not (ne_eqb t k (λ same. differs (let alike : k ≡ s = cc in let both : t ≡ s = same ∙ alike in ap Some both)))

none_told : (o : Option ℤ) → is_none o ≡ true → o ≡ None
none_told None e = refl
none_told (Some z) e = absurd (cc)

module _ (m : ModelContent) (sets : List Assign) (visits steps n : ℕ) where
  too_much_by : (node : Node) → fault_by m sets steps n node ≡ Some TooManySteps → (is_step_node node ≡ true) × (MOST_STEPS ≤ steps)
  too_much_by Step e = (refl, ⊎_elim (λ h. leb-true MOST_STEPS steps h.0) (λ h. absurd (let none : None ≡ Some TooManySteps = h.1 in cc)) (test_or (leb MOST_STEPS steps) TooManySteps TooManySteps None e))
  too_much_by Sequence e = absurd (⊎_elim (λ h. let w : SecondSetup n ≡ TooManySteps = h.1 in cc) (λ h. let none : None ≡ Some TooManySteps = h.1 in cc) (test_or (is_other_setup (main_setup m) (setup_of m n)) (SecondSetup n) TooManySteps None e))
  too_much_by Variable e = absurd (⊎_elim (λ h. let w : Unset n ≡ TooManySteps = h.1 in cc) (λ h. let none : None ≡ Some TooManySteps = h.1 in cc) (test_or (is_none (value_of m sets n)) (Unset n) TooManySteps None e))
  too_much_by _ e = absurd (cc)

  too_much_from : (node : Node) → is_step_node node ≡ true → MOST_STEPS ≤ steps → fault_by m sets steps n node ≡ Some TooManySteps
  too_much_from Step is more = test_true (leb MOST_STEPS steps) TooManySteps None (le-leb MOST_STEPS steps more)
  too_much_from _ is more = absurd (cc)

  too_much : (fault_of m sets visits steps n ≡ Some TooManySteps) ↔ IsTooMuch m visits steps n
  too_much = (
    λ e. ⊎_elim (λ h. inl (leb-true MOST_VISITS visits h.0)) (λ h. inr (too_much_by (node_of m n) h.1)) (test_or (leb MOST_VISITS visits) TooManySteps TooManySteps (fault_by m sets steps n (node_of m n)) e),
    λ h. ⊎_elim
        (λ more. test_true (leb MOST_VISITS visits) TooManySteps (fault_by m sets steps n (node_of m n)) (le-leb MOST_VISITS visits more))
        (λ step. by_visits (leb MOST_VISITS visits) (too_much_from (node_of m n) step.0 step.1))
        h,
  )
    where
      by_visits : (b : Bool) → fault_by m sets steps n (node_of m n) ≡ Some TooManySteps → (if b then Some TooManySteps else fault_by m sets steps n (node_of m n)) ≡ Some TooManySteps
      by_visits true e = refl
      by_visits false e = e

  -- a fault but that of too many visits stands on the node
  on_node : (v : WalkFault) → (TooManySteps ≡ v → ⊥) → fault_of m sets visits steps n ≡ Some v → (visits < MOST_VISITS) × (fault_by m sets steps n (node_of m n) ≡ Some v)
  on_node v other e = ⊎_elim (λ h. absurd (other h.1)) (λ h. (leb-false MOST_VISITS visits h.0, h.1)) (test_or (leb MOST_VISITS visits) TooManySteps v (fault_by m sets steps n (node_of m n)) e)

  from_node : (v : WalkFault) → visits < MOST_VISITS → fault_by m sets steps n (node_of m n) ≡ Some v → fault_of m sets visits steps n ≡ Some v
  from_node v less e = test_false (leb MOST_VISITS visits) TooManySteps (fault_by m sets steps n (node_of m n)) (lt-leb MOST_VISITS visits less) ∙ e

  second_by : (k : ℕ) (node : Node) → fault_by m sets steps n node ≡ Some (SecondSetup k) → (k ≡ n) × (node ≡ Sequence) × ((setup : ℕ) × (setup_of m n ≡ Some setup) × (main_setup m ≢ Some setup))
  second_by k Sequence e = ⊎_elim (λ h. (let same : n ≡ k = (let w : SecondSetup n ≡ SecondSetup k = h.1 in cc) in sym same, refl, other_told (main_setup m) (setup_of m n) h.0)) (λ h. absurd (let none : None ≡ Some (SecondSetup k) = h.1 in cc)) (test_or (is_other_setup (main_setup m) (setup_of m n)) (SecondSetup n) (SecondSetup k) None e)
  second_by k Step e = absurd (⊎_elim (λ h. let w : TooManySteps ≡ SecondSetup k = h.1 in cc) (λ h. let none : None ≡ Some (SecondSetup k) = h.1 in cc) (test_or (leb MOST_STEPS steps) TooManySteps (SecondSetup k) None e))
  second_by k Variable e = absurd (⊎_elim (λ h. let w : Unset n ≡ SecondSetup k = h.1 in cc) (λ h. let none : None ≡ Some (SecondSetup k) = h.1 in cc) (test_or (is_none (value_of m sets n)) (Unset n) (SecondSetup k) None e))
  second_by k _ e = absurd (cc)

  second : (k : ℕ) → (fault_of m sets visits steps n ≡ Some (SecondSetup k)) ↔ ((k ≡ n) × (visits < MOST_VISITS) × NamesSecondSetup m n)
  second k = (
    λ e.
        let on : (visits < MOST_VISITS) × (fault_by m sets steps n (node_of m n) ≡ Some (SecondSetup k)) = on_node (SecondSetup k) (λ w. cc) e in
        let by : (k ≡ n) × (node_of m n ≡ Sequence) × ((setup : ℕ) × (setup_of m n ≡ Some setup) × (main_setup m ≢ Some setup)) = second_by k (node_of m n) on.1 in
        (by.0, on.0, (by.1, by.2)),
    λ h. from_node (SecondSetup k) h.1
        (ap (fault_by m sets steps n) h.2.0
        ∙ (test_true (is_other_setup (main_setup m) (setup_of m n)) (SecondSetup n) None (other_from (main_setup m) (setup_of m n) h.2.1.0 h.2.1.1 h.2.1.2)
        ∙ ap (λ (x : ℕ). Some (SecondSetup x)) (sym h.0))),
  )

  unset_by : (k : ℕ) (node : Node) → fault_by m sets steps n node ≡ Some (Unset k) → (k ≡ n) × (node ≡ Variable) × (value_of m sets n ≡ None)
  unset_by k Variable e = ⊎_elim (λ h. (let same : n ≡ k = (let w : Unset n ≡ Unset k = h.1 in cc) in sym same, refl, none_told (value_of m sets n) h.0)) (λ h. absurd (let none : None ≡ Some (Unset k) = h.1 in cc)) (test_or (is_none (value_of m sets n)) (Unset n) (Unset k) None e)
  unset_by k Step e = absurd (⊎_elim (λ h. let w : TooManySteps ≡ Unset k = h.1 in cc) (λ h. let none : None ≡ Some (Unset k) = h.1 in cc) (test_or (leb MOST_STEPS steps) TooManySteps (Unset k) None e))
  unset_by k Sequence e = absurd (⊎_elim (λ h. let w : SecondSetup n ≡ Unset k = h.1 in cc) (λ h. let none : None ≡ Some (Unset k) = h.1 in cc) (test_or (is_other_setup (main_setup m) (setup_of m n)) (SecondSetup n) (Unset k) None e))
  unset_by k _ e = absurd (cc)

  unset : (k : ℕ) → (fault_of m sets visits steps n ≡ Some (Unset k)) ↔ ((k ≡ n) × (visits < MOST_VISITS) × HasNoValue m sets n)
  unset k = (
    λ e.
        let on : (visits < MOST_VISITS) × (fault_by m sets steps n (node_of m n) ≡ Some (Unset k)) = on_node (Unset k) (λ w. cc) e in
        let by : (k ≡ n) × (node_of m n ≡ Variable) × (value_of m sets n ≡ None) = unset_by k (node_of m n) on.1 in
        (by.0, on.0, (by.1, by.2)),
    λ h. from_node (Unset k) h.1
        (ap (fault_by m sets steps n) h.2.0
        ∙ (test_true (is_none (value_of m sets n)) (Unset n) None (ap is_none h.2.1)
        ∙ ap (λ (x : ℕ). Some (Unset x)) (sym h.0))),
  )

pub faults_tell : FaultsTell
faults_tell = record {
  too_much = too_much;
  second = second;
  unset = unset;
}

pub outcome_tells : OutcomeTells
outcome_tells = record { steps = λ m sets steps. tells_steps m sets steps; fault = λ m sets why. tells_fault m sets why }

pub walk_is_short : WalkIsShort
walk_is_short m sets = (short_steps m sets, never_memory m sets)

pub visits_are_bounded : VisitsAreBounded
visits_are_bounded m sets before n made = (passes_short m sets [] before (each_is m sets before made.faultless) (omega arith) (omega arith)).0

pub limits_tell : LimitsTell
limits_tell = record {
  last_visit = λ m sets steps n. refl;
  visit_too_many = λ m sets steps n. refl;
  last_step = λ m sets n. refl;
  step_too_many = λ m sets n. refl;
}
