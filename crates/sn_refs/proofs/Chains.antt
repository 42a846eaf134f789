-- Chains of instances.
use Rattle.std.proofs.Common.{ℕ, List, [], ◌∷◌, ◌++◌, subst, sym, refl}
use Rattle.std.specs.List.{Contains}
use Rattle.sn_model.specs.ModelContent.{ModelContent}
use Rattle.sn_refs.specs.Path.{Leads, IsClosed}
use Rattle.sn_refs.specs.Reference.{Names, IsChain, IsReached, IsOnCycle}

pub IsChain-append : (m : ModelContent) (a : ℕ) (ns : List ℕ) (b : ℕ) (ks : List ℕ) (c : ℕ) → IsChain m a ns b → IsChain m b ks c → IsChain m a (ns ++ ks) c
IsChain-append m a [] b ks c e h = subst (λ (x : ℕ). IsChain m x ks c) (sym e) h
IsChain-append m a (n ∷ ns) b ks c p h = (p.0, IsChain-append m n ns b ks c p.1 h)

pub leads_itself : (m : ModelContent) (a : ℕ) → Leads m a a
leads_itself m a = ([], refl)

pub leads_on : (m : ModelContent) (a b c : ℕ) → Leads m a b → Leads m b c → Leads m a c
leads_on m a b c p q = (p.0 ++ q.0, IsChain-append m a p.0 b q.0 c p.1 q.1)

pub leads_by_name : (m : ModelContent) (a b : ℕ) → Names m a b → Leads m a b
leads_by_name m a b h = (b ∷ [], (h, refl))

chain_round : (m : ModelContent) (n a b : ℕ) (ns ks : List ℕ) → IsChain m n ns a → Names m a b → IsChain m b ks n → IsOnCycle m n
chain_round m n a b [] ks e h q = (b, ks, (subst (λ (x : ℕ). Names m x b) (sym e) h, q))
chain_round m n a b (k ∷ ns) ks p h q = (k, ns ++ (b ∷ ks), (p.0, IsChain-append m k ns a (b ∷ ks) n p.1 (h, q)))

-- from n to a, by a reference to b, and back to n
pub round_trip : (m : ModelContent) (n a b : ℕ) → Leads m n a → Names m a b → Leads m b n → IsOnCycle m n
round_trip m n a b p h q = chain_round m n a b p.0 q.0 p.1 h q.1

pub reached_on : (m : ModelContent) (a b : ℕ) → IsReached m a → Leads m a b → IsReached m b
reached_on m a b p q = leads_on m m.project a b p q

-- no chain leaves instances that are closed under references
pub closed_chain : (m : ModelContent) (done : List ℕ) → IsClosed m done → (a : ℕ) (ns : List ℕ) (b : ℕ) → Contains done a → IsChain m a ns b → Contains done b
closed_chain m done closed a [] b h e = subst (Contains done) e h
closed_chain m done closed a (n ∷ ns) b h p = closed_chain m done closed n ns b (closed a n h p.0) p.1
