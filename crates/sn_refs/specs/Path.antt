-- Private (only the functions of this crate cite these words): the path of a walk along references. It has parts of instances
-- that lead to each other, of which each outer part leads to the inner ones. Instances behind the path are done.
use Rattle.std.specs.Prelude.{◌≡◌, ◌≢◌, ◌⊎◌, ℕ, ◌≤◌, Bool, true, false, IsTrue, List, [], ◌∷◌, ◌++◌, length, Option, Some, None, nat_eq, nat_lt, min, IsSome, MatchOption, if◌then◌else◌, ⊤}
use Rattle.std.specs.List.{Contains, AllByRecursion, IsDistinct}
use Rattle.std.specs.Map.{lookup, keys_of}
use Rattle.sn_model.specs.ModelContent.{ModelContent, entry_of}
use Rattle.sn_refs.specs.declared.walk.Component.{Component}
use Rattle.sn_refs.specs.declared.walk.Mark.{Mark}
use Rattle.sn_refs.specs.declared.walk.Mark.TheVariants.{New, OnPath, Done}
use Rattle.sn_refs.specs.declared.walk.Noted.{Noted}
use Rattle.sn_refs.specs.declared.walk.Walk.{Walk}
use Rattle.sn_refs.specs.declared.fault.RefFault.{RefFault}
use Rattle.sn_refs.specs.declared.fault.RefFault.TheVariants.{Cycle}
use Rattle.sn_refs.specs.Reference.{fault_from, references, IsOfKind, Names, IsChain, IsReached, IsOnCycle}
use Rattle.sn_refs.specs.Sound.{IsOwnFault, IsOrdered}

-- a leads to b, by way of any number of instances
abbrev pub Leads : ModelContent → ℕ → ℕ → Type 0
Leads m a b = (ns : List ℕ) × IsChain m a ns b

-- instances of the path, what of their references is still to be followed, and whether each leads back to itself
pub record Part : Type 0 where
  pub members : List ℕ
  pub pending : List ℕ
  pub is_cyclic : Bool

abbrev pub members_of : List Part → List ℕ
members_of [] = []
members_of (p ∷ outer) = members_of outer ++ p.members

abbrev pub pending_of : List Part → List ℕ
pending_of [] = []
pending_of (p ∷ outer) = pending_of outer ++ p.pending

abbrev pub component : List Part → Bool → Component
component outer is_cyclic = record { first_member = length (members_of outer); first_pending = length (pending_of outer); is_cyclic = is_cyclic }

abbrev pub components_of : List Part → List Component
components_of [] = []
components_of (p ∷ outer) = components_of outer ++ component outer p.is_cyclic ∷ []

-- one of these instances names the instance k
abbrev pub IsNamedBy : ModelContent → List ℕ → ℕ → Type 0
IsNamedBy m members k = (a : ℕ) × Contains members a × Names m a k

-- what an instance of the part names is still to be followed, or settled, or it is in the part, which is then cyclic
abbrev pub IsFollowed : List ℕ → Part → ℕ → Type 0
IsFollowed settled p k = Contains p.pending k ⊎ (Contains settled k ⊎ (Contains p.members k × IsTrue p.is_cyclic))

pub record IsPart (m : ModelContent) (settled : List ℕ) (p : Part) : Type 0 where
  pub strong : (a b : ℕ) → Contains p.members a → Contains p.members b → Leads m a b
  pub followed : (a k : ℕ) → Contains p.members a → Names m a k → IsFollowed settled p k
  pub named : (k : ℕ) → Contains p.pending k → IsNamedBy m p.members k
  pub cycle : IsTrue p.is_cyclic → (a : ℕ) → Contains p.members a → IsOnCycle m a
  pub single : p.is_cyclic ≡ false → (n : ℕ) × (p.members ≡ n ∷ [])

-- the parts from the inmost one on; what an inner part holds is settled for the outer ones
abbrev pub IsPath : ModelContent → List ℕ → List Part → Type 0
IsPath m settled [] = Unit {0}
IsPath m settled (p ∷ outer) =
    IsPart m settled p
    × ((a b : ℕ) → Contains (members_of outer) a → Contains p.members b → Leads m a b)
    × IsPath m (p.members ++ settled) outer

abbrev pub IsVisited : List (ℕ × ℕ) → ℕ → Type 0
IsVisited places n = IsSome (lookup (nat_eq n) places)

-- An instance that was visited is on the path, at its place, or it is done.
pub record IsMarked (places : List (ℕ × ℕ)) (members done : List ℕ) : Type 0 where
  pub place : (n : ℕ) (h : Contains members n) → lookup (nat_eq n) places ≡ Some h.0
  pub visited : (n : ℕ) → IsVisited places n → Contains members n ⊎ Contains done n
  pub is_done : (n : ℕ) → Contains done n → IsVisited places n
  pub apart : (n : ℕ) → Contains done n → ¬ Contains members n

-- each instance that one of these names is one of them
abbrev pub IsClosed : ModelContent → List ℕ → Type 0
IsClosed m done = (a k : ℕ) → Contains done a → Names m a k → Contains done k

-- the instance shows its row, or has none, and each of its references is live and of its kind
abbrev pub IsFaultless : ModelContent → ℕ → Type 0
IsFaultless m n = (fault_from (entry_of n m) ≡ None) × AllByRecursion (IsOfKind m) (references n m)

-- the fault of the visited instance of the least number that has one
abbrev pub IsNotedFault : ModelContent → List (ℕ × ℕ) → Option Noted → Type 0
IsNotedFault m places None = (n : ℕ) → IsVisited places n → IsFaultless m n
IsNotedFault m places (Some f) =
    IsVisited places f.number
    × IsOwnFault m f.number f.fault
    × ((n : ℕ) (why : RefFault) → IsVisited places n → IsOwnFault m n why → f.number ≤ n)

-- the least of the done instances on a cycle; with none, the done instances stand in an order
abbrev pub IsNotedCycle : ModelContent → List ℕ → Option ℕ → Type 0
IsNotedCycle m done None = IsOrdered m done × ((n : ℕ) → Contains done n → ¬ IsOnCycle m n)
IsNotedCycle m done (Some k) = Contains done k × IsOnCycle m k × ((n : ℕ) → Contains done n → IsOnCycle m n → k ≤ n)

-- an instance is named that is to be visited next: the project, or what an instance of the inmost part names
abbrev pub IsComing : ModelContent → List Part → ℕ → Type 0
IsComing m [] k = k ≡ m.project
IsComing m (p ∷ outer) k = IsNamedBy m p.members k

-- a walk whose next instance is this one, and so counts as settled, or that has to look for it
abbrev pub IsNext : ModelContent → List Part → Option ℕ → Type 0
IsNext m parts None = Unit {0}
IsNext m parts (Some k) = IsComing m parts k

abbrev pub settled_with : Option ℕ → List ℕ → List ℕ
settled_with None done = done
settled_with (Some k) done = k ∷ done

-- where an instance stands
abbrev pub IsMarkOf : List (ℕ × ℕ) → List ℕ → ℕ → Mark → Type 0
IsMarkOf places members n New = ¬ IsVisited places n
IsMarkOf places members n (OnPath place) = (h : Contains members n) × (h.0 ≡ place)
IsMarkOf places members n Done = IsVisited places n × ((h : Contains members n) → lookup (nat_eq n) places ≢ Some h.0)

-- the fault of the lesser number
abbrev pub lesser_fault : Option Noted → ℕ → Option RefFault → Option Noted
lesser_fault noted n None = noted
lesser_fault None n (Some why) = Some (record { number = n; fault = why })
lesser_fault (Some f) n (Some why) = if nat_lt n f.number then Some (record { number = n; fault = why }) else Some f

abbrev pub lesser_number : Option ℕ → ℕ → ℕ
lesser_number None n = n
lesser_number (Some k) n = min k n

abbrev pub verdict_of_walk : Option Noted → Option ℕ → Option RefFault
verdict_of_walk (Some f) cycle = Some f.fault
verdict_of_walk None (Some k) = Some (Cycle k)
verdict_of_walk None None = None

-- the lesser of the number and the least of these
abbrev pub IsLeastOf : Option ℕ → List ℕ → Option ℕ → Type 0
IsLeastOf old ns None = (old ≡ None) × (ns ≡ [])
IsLeastOf old ns (Some k) = ((old ≡ Some k) ⊎ Contains ns k) × MatchOption old ⊤ (λ n. k ≤ n) × ((n : ℕ) → Contains ns n → k ≤ n)

-- the least number of a done instance on a cycle, before and after these are done, which are on one or not
abbrev pub IsCounted : Bool → Option ℕ → List ℕ → Option ℕ → Type 0
IsCounted true old members new = IsLeastOf old members new
IsCounted false old members new = new ≡ old

-- The parts up to the one that holds a place are one, which is cyclic.
pub record IsMerged (m : ModelContent) (settled : List ℕ) (parts : List Part) (components : List Component) : Type 0 where
  pub merged : List Part
  pub stands : components ≡ components_of merged
  pub members : members_of merged ≡ members_of parts
  pub pending : pending_of merged ≡ pending_of parts
  pub path : IsPath m settled merged

-- the walk has come so far
pub record IsAt (m : ModelContent) (next : Option ℕ) (members pending : List ℕ) (path : List Component) (places : List (ℕ × ℕ)) (fault : Option Noted) (cycle : Option ℕ) : Type 0 where
  pub parts : List Part
  pub done : List ℕ
  pub on_path : members ≡ members_of parts
  pub to_follow : pending ≡ pending_of parts
  pub stands : path ≡ components_of parts
  pub leads : IsPath m (settled_with next done) parts
  pub coming : IsNext m parts next
  pub begun : (next ≡ Some m.project) ⊎ IsVisited places m.project
  pub unique : IsDistinct nat_eq (keys_of places)
  pub marked : IsMarked places (members_of parts) done
  pub closed : IsClosed m done
  pub reached : (n : ℕ) → IsVisited places n → IsReached m n
  pub noted : IsNotedFault m places fault
  pub found : IsNotedCycle m done cycle

abbrev pub IsWalk : ModelContent → Option ℕ → Walk → Type 0
IsWalk m next w = IsAt m next w.members.items w.pending.items w.path.items w.places.entries w.fault w.cycle
