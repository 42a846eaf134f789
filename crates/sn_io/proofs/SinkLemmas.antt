-- How what was taken by several writes joins.
use Rattle.std.proofs.Common.{ℕ, ◌≡◌, ◌+◌, ◌≤◌, List, [], ◌++◌, length, Option, Some, None, IsSome, Result, Ok, Err, IsErr, option_map, refl, sym, ap, ◌∙◌, arith, length-append, append-nil, append_assoc, ◌-◌, take, drop, length-drop}
use Rattle.std.proofs.lemmas.List.{take-append-drop}
use Rattle.std.proofs.lemmas.List.{take_all}
use Rattle.sn_io.specs.Count.{count_after, Rises}
use Rattle.sn_io.specs.Sink.{SinkState, Gains, Takes, TakesFront, Writes}

pub count_after-none : (count : ℕ) → count_after count 0 ≡ count
count_after-none count = omega arith

pub count_after-more : (count m n : ℕ) → count_after (count_after count m) n ≡ count_after count (m + n)
count_after-more count m n = omega arith

pub rises-later : (a b c : ℕ) → a ≤ b → Rises b c → Rises a c
rises-later a b c stays rises = omega arith

pub gains-nothing : (held : Option (List ℕ)) → Gains held held []
gains-nothing None told = refl
gains-nothing (Some bytes) told = ap Some (sym (append-nil bytes))

joined : (a b c : Option (List ℕ)) (p q : List ℕ)
    → b ≡ option_map (λ held. held ++ p) a → c ≡ option_map (λ held. held ++ q) b → c ≡ option_map (λ held. held ++ (p ++ q)) a
joined None b c p q first second = second ∙ ap (option_map (λ held. held ++ q)) first
joined (Some held) b c p q first second = second ∙ ap (option_map (λ held. held ++ q)) first ∙ ap Some (append_assoc held p q)

told-before : (b c : Option (List ℕ)) (q : List ℕ) → c ≡ option_map (λ held. held ++ q) b → IsSome c → IsSome b
told-before None c q e told = rw e at told
told-before (Some held) c q e told = refl

pub gains-more : (a b c : Option (List ℕ)) (p q : List ℕ) → Gains a b p → Gains b c q → Gains a c (p ++ q)
gains-more a b c p q first second told = joined a b c p q (first (told-before b c q (second told) told)) (second told)

counts-nothing : (taken : Option ℕ) → taken ≡ option_map (λ count. count_after count 0) taken
counts-nothing None = refl
counts-nothing (Some count) = ap Some (sym (count_after-none count))

counts-more : (a b c : Option ℕ) (m n : ℕ)
    → b ≡ option_map (λ count. count_after count m) a → c ≡ option_map (λ count. count_after count n) b → c ≡ option_map (λ count. count_after count (m + n)) a
counts-more None b c m n first second = second ∙ ap (option_map (λ count. count_after count n)) first
counts-more (Some count) b c m n first second =
    second ∙ ap (option_map (λ count. count_after count n)) first ∙ ap Some (count_after-more count m n)

pub takes-nothing : (s : SinkState) → Takes s s []
takes-nothing s = record { gains = gains-nothing s.held; counts = counts-nothing s.taken; faults_stay = omega arith }

pub takes-more : (a b c : SinkState) (p q : List ℕ) → Takes a b p → Takes b c q → Takes a c (p ++ q)
takes-more a b c p q first second = record {
  gains = gains-more a.held b.held c.held p q first.gains second.gains;
  counts = rw (length-append p q) (counts-more a.taken b.taken c.taken (length p) (length q) first.counts second.counts);
  faults_stay = omega arith;
}

-- a text whose first piece was taken whole, and of whose rest a front
pub takes_front-later : (a b c : SinkState) (p q : List ℕ) → Takes a b p → TakesFront b c q → TakesFront a c (p ++ q)
takes_front-later a b c p q first stopped = record {
  front = p ++ stopped.front;
  rest = stopped.rest;
  parts = ap (λ text. p ++ text) stopped.parts ∙ sym (append_assoc p stopped.front stopped.rest);
  takes = takes-more a b c p stopped.front first stopped.takes;
  rises = rises-later a.faults b.faults c.faults first.faults_stay stopped.rises;
}

-- a text of whose first piece a front was taken
pub takes_front-first : (a b : SinkState) (p q : List ℕ) → TakesFront a b p → TakesFront a b (p ++ q)
takes_front-first a b p q stopped = record {
  front = stopped.front;
  rest = stopped.rest ++ q;
  parts = ap (λ text. text ++ q) stopped.parts ∙ append_assoc stopped.front stopped.rest q;
  takes = stopped.takes;
  rises = stopped.rises;
}

-- the next n bytes of the rest join the front
pub front-grows : (text front rest : List ℕ) (n k : ℕ)
    → text ≡ front ++ rest → k ≡ length rest - n → text ≡ (front ++ take n rest) ++ take k (drop n rest)
front-grows text front rest n k parts bound =
    let long : length (drop n rest) ≤ k = omega (arith, length-drop n rest) in
    rw (take_all k (drop n rest) long, append_assoc front (take n rest) (drop n rest), take-append-drop n rest) parts

-- a write that stopped within the first piece of a text
pub writes-first : {T E : Type 0} (r : Result T E) (a b : SinkState) (text p q : List ℕ)
    → IsErr r → text ≡ p ++ q → TakesFront a b p → Writes r a b text
writes-first (Ok done) a b text p q stops parts stopped = absurd (cc)
writes-first (Err fault) a b text p q stops parts stopped = rw parts (takes_front-first a b p q stopped)

-- a write that goes on after the first piece of a text
pub writes-later : {T E : Type 0} (r : Result T E) (a b c : SinkState) (text p q : List ℕ)
    → text ≡ p ++ q → Takes a b p → Writes r b c q → Writes r a c text
writes-later (Ok done) a b c text p q parts first second = rw parts (takes-more a b c p q first second)
writes-later (Err fault) a b c text p q parts first second = rw parts (takes_front-later a b c p q first second)
