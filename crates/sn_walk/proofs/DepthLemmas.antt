-- One more depth changes nothing: the walk and the truth go by what an instance leads to.
use Rattle.std.proofs.Common.{◌≡◌, ℕ, zero, suc, ◌+◌, ◌<◌, ◌≤◌, ℤ, Bool, true, not, List, [], ◌∷◌, ◌++◌, length, Option, refl, sym, ap, subst, ◌∙◌, arith, length-append}
use Rattle.std.specs.List.{AllByRecursion, cons_option, flat_map, list_all, list_any}
use Rattle.sn_model.specs.Built.{IsModel}
use Rattle.sn_model.specs.ModelContent.{ModelContent}
use Rattle.sn_refs.specs.Reference.{Names, IsChain, IsReached}
use Rattle.sn_refs.specs.Sound.{IsSound}
use Rattle.sn_refs.specs.Target.{ChainsAreShort}
use Rattle.sn_words.specs.declared.options.Assign.{Assign}
use Rattle.sn_walk.specs.declared.node.Node.{Node}
use Rattle.sn_walk.specs.declared.node.Node.TheVariants.{Choice, AllOf, AnyOf, OneOf, Opposite}
use Rattle.sn_walk.specs.Condition.{value_of, holds, holds_within}
use Rattle.sn_walk.specs.Node.{node_of, listed}
use Rattle.sn_walk.specs.Walk.{chosen, followers, walk_within}
use Rattle.sn_walk.specs.WalkLaws.{TruthGoesByOperands, WalkGoesOn}
use Rattle.sn_walk.proofs.NodeLemmas.{all_on, followers_led}
use Rattle.sn_walk.specs.Pending.{Leads, IsLed, InstancesLead}

pub flat_map_same : (f g : ℕ → List ℕ) (ns : List ℕ) → AllByRecursion (λ k. f k ≡ g k) ns → flat_map f ns ≡ flat_map g ns
flat_map_same f g [] h = refl
flat_map_same f g (n ∷ ns) h = let first : f n ≡ g n = h.0 in let later : flat_map f ns ≡ flat_map g ns = flat_map_same f g ns h.1 in cc

list_all_same : (t u : ℕ → Bool) (ns : List ℕ) → AllByRecursion (λ k. t k ≡ u k) ns → list_all t ns ≡ list_all u ns
list_all_same t u [] h = refl
list_all_same t u (n ∷ ns) h = let first : t n ≡ u n = h.0 in let later : list_all t ns ≡ list_all u ns = list_all_same t u ns h.1 in cc

list_any_same : (t u : ℕ → Bool) (ns : List ℕ) → AllByRecursion (λ k. t k ≡ u k) ns → list_any t ns ≡ list_any u ns
list_any_same t u [] h = refl
list_any_same t u (n ∷ ns) h = let first : t n ≡ u n = h.0 in let later : list_any t ns ≡ list_any u ns = list_any_same t u ns h.1 in cc

module _ (m : ModelContent) (n : ℕ) (ns : List ℕ) (t u : ℕ → Bool) (same : (k : ℕ) → Names m n k → t k ≡ u k) where
  list_same : AllByRecursion (Leads m n true) ns → AllByRecursion (λ k. t k ≡ u k) ns
  list_same h = all_on (Leads m n true) (λ k. t k ≡ u k) (λ k l. same k l.name) ns h

  -- whether a condition holds goes by its operands alone
  holds_same : (value : ℕ → Option ℤ) (node : Node) → IsLed m n ns node → holds value t ns node ≡ holds value u ns node
  holds_same value AllOf h = list_all_same t u ns (list_same h)
  holds_same value AnyOf h = list_any_same t u ns (list_same h)
  holds_same value (OneOf a b) h = let first : t a ≡ u a = same a h.0.name in let second : t b ≡ u b = same b h.1.name in cc
  holds_same value (Opposite a) h = ap not (same a h.name)
  holds_same value _ h = refl

  -- what is visited behind an instance goes by its condition alone
  followers_same : (node : Node) → IsLed m n ns node → followers t ns node ≡ followers u ns node
  followers_same (Choice condition branch otherwise) h = ap (λ (b : Bool). condition ∷ cons_option (chosen b branch otherwise) []) (same condition h.0.name)
  followers_same _ h = refl

pub chain_on : (m : ModelContent) (a : ℕ) (ns : List ℕ) (n k : ℕ) → IsChain m a ns n → Names m n k → IsChain m a (ns ++ k ∷ []) k
chain_on m a [] n k chain name = (subst (λ (x : ℕ). Names m x k) (sym chain) name, refl)
chain_on m a (b ∷ ns) n k chain name = (chain.0, chain_on m b ns n k chain.1 name)

-- one more depth changes neither the truth nor the walk
pub record IsSettled (m : ModelContent) (sets : List Assign) (depth n : ℕ) : Type 0 where
  pub truth : holds_within m sets (suc depth) n ≡ holds_within m sets depth n
  pub walk : walk_within m sets (suc depth) n ≡ walk_within m sets depth n

module _ (leads : InstancesLead) (short : ChainsAreShort) (m : ModelContent) (model : IsModel m) (sound : IsSound m) (sets : List Assign) where
  truth_step : (depth n : ℕ) → holds_within m sets (suc depth) n ≡ holds (value_of m sets) (holds_within m sets depth) (listed m n) (node_of m n)
  unfolding holds_within
  truth_step depth n = refl

  walk_step : (depth n : ℕ) → walk_within m sets (suc depth) n ≡ n ∷ flat_map (walk_within m sets depth) (followers (holds_within m sets depth) (listed m n) (node_of m n))
  unfolding walk_within
  walk_step depth n = refl

  module _ (depth n : ℕ) (here : IsReached m n) (below : (k : ℕ) → Names m n k → IsSettled m sets depth k) where
    more_truth : holds (value_of m sets) (holds_within m sets (suc depth)) (listed m n) (node_of m n) ≡ holds (value_of m sets) (holds_within m sets depth) (listed m n) (node_of m n)
    more_truth = holds_same m n (listed m n) (holds_within m sets (suc depth)) (holds_within m sets depth) (λ k name. (below k name).truth) (value_of m sets) (node_of m n) (leads m model sound n here)

    more_followers : followers (holds_within m sets (suc depth)) (listed m n) (node_of m n) ≡ followers (holds_within m sets depth) (listed m n) (node_of m n)
    more_followers = followers_same m n (listed m n) (holds_within m sets (suc depth)) (holds_within m sets depth) (λ k name. (below k name).truth) (node_of m n) (leads m model sound n here)

    more_walks : flat_map (walk_within m sets (suc depth)) (followers (holds_within m sets depth) (listed m n) (node_of m n)) ≡ flat_map (walk_within m sets depth) (followers (holds_within m sets depth) (listed m n) (node_of m n))
    more_walks =
        flat_map_same (walk_within m sets (suc depth)) (walk_within m sets depth) (followers (holds_within m sets depth) (listed m n) (node_of m n))
        (all_on (Names m n) (λ k. walk_within m sets (suc depth) k ≡ walk_within m sets depth k) (λ k name. (below k name).walk) (followers (holds_within m sets depth) (listed m n) (node_of m n))
        (followers_led m n (listed m n) (node_of m n) (leads m model sound n here) (holds_within m sets depth)))

    settled_above : IsSettled m sets (suc depth) n
    settled_above = record {
      truth = truth_step (suc depth) n ∙ (more_truth ∙ sym (truth_step depth n));
      walk = walk_step (suc depth) n ∙ (ap (λ (ks : List ℕ). n ∷ flat_map (walk_within m sets (suc depth)) ks) more_followers ∙ (ap (λ (ks : List ℕ). n ∷ ks) more_walks ∙ sym (walk_step depth n)));
    }

  settled : (depth n : ℕ) (ns : List ℕ) → IsChain m m.project ns n → length m.kept ≤ depth + length ns → IsSettled m sets depth n
  settled zero n ns chain long = absurd (let less : length ns < length m.kept = short m model sound m.project ns n ([], refl) chain in omega arith)
  settled (suc depth) n ns chain long =
      settled_above depth n (ns, chain)
      (λ k name. settled depth k (ns ++ k ∷ []) (chain_on m m.project ns n k chain name) (let more : length (ns ++ k ∷ []) ≡ length ns + 1 = length-append ns (k ∷ []) in omega arith))

  settled_at : (n : ℕ) → IsReached m n → IsSettled m sets (length m.kept) n
  settled_at n here = settled (length m.kept) n here.0 here.1 (omega arith)

pub truth_goes_by_operands : InstancesLead → ChainsAreShort → TruthGoesByOperands
truth_goes_by_operands leads short m model sound sets n here = sym (settled_at leads short m model sound sets n here).truth ∙ truth_step leads short m model sound sets (length m.kept) n

pub walk_goes_on : InstancesLead → ChainsAreShort → WalkGoesOn
walk_goes_on leads short m model sound sets n here = sym (settled_at leads short m model sound sets n here).walk ∙ walk_step leads short m model sound sets (length m.kept) n
