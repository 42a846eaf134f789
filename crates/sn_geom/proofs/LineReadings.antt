-- What the items of a line say, and the faults among them.
use Rattle.std.proofs.Common.{◌≡◌, ℕ, ◌+◌, ◌<◌, ◌≤◌, ◌==◌, ◌⊎◌, Bool, true, false, List, [], ◌∷◌, ◌++◌, length, refl, ap, sym, ◌∙◌, subst, inl, inr, arith, ⊎_elim, if◌then◌else◌}
use Rattle.std.proofs.lemmas.Bool.{false_from_ne_true}
use Rattle.std.proofs.lemmas.Bool.Decides.{nat_tests}
use Rattle.std.specs.Prelude.{Option, filter, not, ◌↔◌}
use Rattle.sn_geom.specs.declared.block.TheConstants.{MOST_LINE}
use Rattle.sn_geom.specs.declared.block.LineFault.{LineFault}
use Rattle.sn_geom.specs.declared.block.LineFault.TheVariants.{LongLine, BadChar, BadNumber, TooFine, OutOfRange, Twice, SameGroup, Unsupported, OpenComment}
use Rattle.sn_geom.specs.Block.{Block}
use Rattle.sn_geom.specs.LineText.{Item, Kind, Said, Says, SaysBlock, LineText, HasFault, IsFirst, IsLineFault, IsPercentLine, fault_at, rank, is_faulty, is_blank, items_of, said_with, said_from, said_by, nothing, empty_block, bad_char, bad_number, too_fine, out_of_range, twice, same_group, unsupported, open_comment}

-- what is said is what all the items say
says_all : (items : List (Option Item)) (s t : Said) → Says s items t → t ≡ said_from s items
says_all [] s t h = sym h
says_all (i ∷ is) s t h = says_all is (said_with s i) t h.1

-- none of the items is at fault
says_no_fault : (before : List (Option Item)) (s t : Said) (here : Option Item) (after : List (Option Item)) (kind : Kind) → Says s (before ++ here ∷ after) t → is_faulty (said_from s before) here kind ≡ false
says_no_fault [] s t here after kind h = h.0 kind
says_no_fault (i ∷ before) s t here after kind h = says_no_fault before (said_with s i) t here after kind h.1

abbrev NoFaultIn : Said → List (Option Item) → Type 0
NoFaultIn s items = (before : List (Option Item)) (here : Option Item) (after : List (Option Item)) (kind : Kind) → items ≡ before ++ here ∷ after → is_faulty (said_from s before) here kind ≡ false

-- items without a fault say something
says_from : (items : List (Option Item)) (s : Said) → NoFaultIn s items → Says s items (said_from s items)
says_from [] s h = refl
says_from (i ∷ is) s h = (λ k. h [] i is k refl, says_from is (said_with s i) (λ before here after k e. h (i ∷ before) here after k (ap (λ xs. i ∷ xs) e)))

-- the line has a percent sign alone, or not
one_or_not : (x : ℕ) (t : Bool) → (x == 37) ≡ t → (x ∷ [] ≡ 37 ∷ []) ⊎ (x ∷ [] ≡ 37 ∷ [] → ⊥)
one_or_not x true e = let same : x ≡ 37 = grind (arith, nat_tests) in inl (ap (λ y. y ∷ []) same)
one_or_not x false e = let other : x ≡ 37 → ⊥ = (λ same. grind (arith, nat_tests)) in inr (λ h. other (cc))

percent_or_not : (xs : List ℕ) → (xs ≡ 37 ∷ []) ⊎ (xs ≡ 37 ∷ [] → ⊥)
percent_or_not [] = inr (λ h. cc)
percent_or_not (x ∷ []) = one_or_not x (x == 37) refl
percent_or_not (x ∷ y ∷ ys) = inr (λ h. cc)

no_fault_in : (line : List ℕ) → (IsPercentLine line → ⊥) → ((c : ℕ) (k : Kind) → HasFault line c k → ⊥) → NoFaultIn nothing (items_of line)
no_fault_in line other none before here after kind e =
    false_from_ne_true (is_faulty (said_by before) here kind)
    (λ h. none (length before + 1) kind (record { before = before; here = here; after = after; splits = e; at = refl; faulty = h; no_percent = other }))

pub items_say : (line : List ℕ) → length line ≤ MOST_LINE → (IsPercentLine line → ⊥) → ((c : ℕ) (k : Kind) → HasFault line c k → ⊥) → LineText line (said_by (items_of line)).block
items_say line short other none = record {
  short = short;
  text = inr (record {
    no_percent = other;
    all = said_by (items_of line);
    says = says_from (items_of line) nothing (no_fault_in line other none);
    block_is = refl;
  });
}

block_of_no_fault : (line : List ℕ) → length line ≤ MOST_LINE → ((c : ℕ) (k : Kind) → HasFault line c k → ⊥) → (b : Block) × LineText line b
block_of_no_fault line short none =
    ⊎_elim
    (λ percent. (empty_block true, record { short = short; text = inl (percent, refl) }))
    (λ other. ((said_by (items_of line)).block, items_say line short other none))
    (percent_or_not (filter (λ b. not (is_blank b)) line))

said_no_fault : (line : List ℕ) (b : Block) → SaysBlock line b → (c : ℕ) (k : Kind) → HasFault line c k → ⊥
said_no_fault line b h c k f =
    let says : Says nothing (f.before ++ f.here ∷ f.after) h.all = subst (λ items. Says nothing items h.all) f.splits h.says in
    let no : is_faulty (said_by f.before) f.here k ≡ false = says_no_fault f.before nothing h.all f.here f.after k says in
    let yes : is_faulty (said_by f.before) f.here k ≡ true = f.faulty in
    cc

pub text_no_fault : (line : List ℕ) (b : Block) → LineText line b → (c : ℕ) (k : Kind) → HasFault line c k → ⊥
text_no_fault line b h c k f = ⊎_elim (λ p. f.no_percent p.0) (λ s. said_no_fault line b s c k f) h.text

pub block_exactly : (line : List ℕ) → length line ≤ MOST_LINE → ((b : Block) × LineText line b) ↔ ((c : ℕ) (k : Kind) → HasFault line c k → ⊥)
block_exactly line short = (λ h. text_no_fault line h.0 h.1, block_of_no_fault line short)

said_one : (line : List ℕ) (b c : Block) → SaysBlock line b → SaysBlock line c → b ≡ c
said_one line b c h g =
    let x : h.all ≡ said_by (items_of line) = says_all (items_of line) nothing h.all h.says in
    let y : g.all ≡ said_by (items_of line) = says_all (items_of line) nothing g.all g.says in
    h.block_is ∙ (ap (λ (s : Said). s.block) (x ∙ sym y) ∙ sym g.block_is)

pub one_block : (line : List ℕ) (b c : Block) → LineText line b → LineText line c → b ≡ c
one_block line b c h g =
    ⊎_elim
    (λ p. ⊎_elim (λ q. p.1 ∙ sym q.1) (λ q. absurd (q.no_percent p.0)) g.text)
    (λ p. ⊎_elim (λ q. absurd (p.no_percent q.0)) (λ q. said_one line b c p q) g.text)
    h.text

-- ---- the first fault

kind_at : ℕ → Kind
kind_at n =
    if n == 0 then bad_char
    else if n == 1 then bad_number
    else if n == 2 then too_fine
    else if n == 3 then out_of_range
    else if n == 4 then twice
    else if n == 5 then same_group
    else if n == 6 then unsupported
    else open_comment

kind_at-rank : (k : Kind) → kind_at (rank k) ≡ k
unfolding kind_at
kind_at-rank bad_char = refl
kind_at-rank bad_number = refl
kind_at-rank too_fine = refl
kind_at-rank out_of_range = refl
kind_at-rank twice = refl
kind_at-rank same_group = refl
kind_at-rank unsupported = refl
kind_at-rank open_comment = refl

same_kind : (j k : Kind) → rank j ≡ rank k → j ≡ k
same_kind j k e = sym (kind_at-rank j) ∙ (ap kind_at e ∙ kind_at-rank k)

both_ways : (c d j k : ℕ) → (c < d) ⊎ ((d ≡ c) × (j ≤ k)) → (d < c) ⊎ ((c ≡ d) × (k ≤ j)) → (c ≡ d) × (j ≡ k)
both_ways c d j k (inl x) (inl y) = absurd (omega arith)
both_ways c d j k (inl x) (inr y) = absurd (omega arith)
both_ways c d j k (inr x) (inl y) = absurd (omega arith)
both_ways c d j k (inr x) (inr y) = (y.0, omega arith)

pub one_first : (line : List ℕ) (c d : ℕ) (j k : Kind) → IsFirst line c j → IsFirst line d k → fault_at j c ≡ fault_at k d
one_first line c d j k f g =
    let r : (c ≡ d) × (rank j ≡ rank k) = both_ways c d (rank j) (rank k) (f.first d k g.has) (g.first c j f.has) in
    let kinds : j ≡ k = same_kind j k r.1 in
    ap (λ x. fault_at x c) kinds ∙ ap (λ n. fault_at k n) r.0

-- a fault of a line is that of its length, or one at a column
pub record IsOneAt (line : List ℕ) (f : LineFault) : Type 0 where
  pub column : ℕ
  pub kind : Kind
  pub is : f ≡ fault_at kind column
  pub first : IsFirst line column kind

at_column : (line : List ℕ) (c : ℕ) (k : Kind) → IsFirst line c k → IsOneAt line (fault_at k c)
at_column line c k h = record { column = c; kind = k; is = refl; first = h }

fault_cases : (line : List ℕ) (f : LineFault) → IsLineFault line f → ((f ≡ LongLine) × (MOST_LINE < length line)) ⊎ IsOneAt line f
fault_cases line LongLine h = inl (refl, h)
fault_cases line (BadChar c) h = inr (at_column line c bad_char h)
fault_cases line (BadNumber c) h = inr (at_column line c bad_number h)
fault_cases line (TooFine c) h = inr (at_column line c too_fine h)
fault_cases line (OutOfRange c) h = inr (at_column line c out_of_range h)
fault_cases line (Twice c) h = inr (at_column line c twice h)
fault_cases line (SameGroup c) h = inr (at_column line c same_group h)
fault_cases line (Unsupported c) h = inr (at_column line c unsupported h)
fault_cases line (OpenComment c) h = inr (at_column line c open_comment h)

too_long : (n m : ℕ) → m < n → n ≤ m → ⊥
too_long n m h g = omega arith

pub one_fault : (line : List ℕ) (f g : LineFault) → IsLineFault line f → IsLineFault line g → f ≡ g
one_fault line f g x y =
    ⊎_elim
    (λ p. ⊎_elim (λ q. p.0 ∙ sym q.0) (λ (q : IsOneAt line g). absurd (too_long (length line) MOST_LINE p.1 q.first.short)) (fault_cases line g y))
    (λ (p : IsOneAt line f). ⊎_elim (λ q. absurd (too_long (length line) MOST_LINE q.1 p.first.short)) (λ (q : IsOneAt line g). p.is ∙ (one_first line p.column q.column p.kind q.kind p.first q.first ∙ sym q.is)) (fault_cases line g y))
    (fault_cases line f x)

pub not_both : (line : List ℕ) (b : Block) (f : LineFault) → LineText line b → IsLineFault line f → ⊥
not_both line b f h x =
    ⊎_elim
    (λ p. too_long (length line) MOST_LINE p.1 h.short)
    (λ (p : IsOneAt line f). text_no_fault line b h p.column p.kind p.first.has)
    (fault_cases line f x)
