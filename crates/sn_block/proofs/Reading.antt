-- What was read of a line, byte by byte.
use Rattle.std.proofs.Common.{◌≡◌, ℕ, suc, ◌+◌, ◌<◌, ◌≤◌, inl, inr, true, false, List, [], ◌∷◌, ◌++◌, length, get_or, drop, refl, ap, sym, ◌∙◌, subst, arith, append_assoc, length-append, ⊎_elim, None, Result, Ok, Err}
use Rattle.std.proofs.lemmas.Bool.{cases_lt}
use Rattle.std.proofs.lemmas.List.{at_drop_more, append-nil, drop_all}
use Rattle.std.specs.Prelude.{Option, MatchResult}
use Rattle.sn_geom.specs.declared.block.TheConstants.{MOST_LINE}
use Rattle.sn_geom.specs.declared.block.LineFault.{LineFault}
use Rattle.sn_geom.specs.Block.{Block}
use Rattle.sn_geom.specs.LineText.{Item, Kind, Place, between, Said, HasFault, IsFirst, IsLineFault, IsPercentLine, LineText, fault_at, is_faulty, items_of, items_from, item_at, place_after, said_with, said_from, said_by, nothing, bad_char, bad_number, too_fine, out_of_range, twice, same_group, unsupported, open_comment}
use Rattle.sn_geom.specs.LineTextLaws.{HasOneBlock, HasNotBoth, SaysItemsWhereNoFault}
use Rattle.sn_block.specs.Steps.{step}
use Rattle.sn_block.proofs.FirstKind.{Passed, Stopped, step_passed, step_stopped}

-- the bytes of the line before i were read, and none of the items that begin there is at fault
pub record IsRead (line : List ℕ) (i : ℕ) (place : Place) (said : Said) : Type 0 where
  pub before : List (Option Item)
  pub splits : items_of line ≡ before ++ items_from place (drop i line)
  pub count : length before ≡ i
  pub said_is : said ≡ said_by before
  pub none : (c : ℕ) (k : Kind) → HasFault line c k → i < c

pub nothing_read : (line : List ℕ) → IsRead line 0 between nothing
nothing_read line = record {
  before = [];
  splits = refl;
  count = refl;
  said_is = refl;
  none = λ c k f. omega (arith, f.at);
}

said_more : (items : List (Option Item)) (s : Said) (item : Option Item) → said_from s (items ++ item ∷ []) ≡ said_with (said_from s items) item
said_more [] s item = refl
said_more (i ∷ items) s item = said_more items (said_with s i) item

-- two splits of one list at one place
pub record AreOne (a c : List (Option Item)) (x y : Option Item) : Type 0 where
  pub front : a ≡ c
  pub here : x ≡ y

same_split : (a c b d : List (Option Item)) (x y : Option Item) → a ++ x ∷ b ≡ c ++ y ∷ d → length a ≡ length c → AreOne a c x y
same_split [] [] b d x y e l = let here : x ≡ y = cc in record { front = refl; here = here }
same_split [] (j ∷ c) b d x y e l = absurd (omega arith)
same_split (i ∷ a) [] b d x y e l = absurd (omega arith)
same_split (i ∷ a) (j ∷ c) b d x y e l =
    let heads : i ≡ j = cc in
    let tails : a ++ x ∷ b ≡ c ++ y ∷ d = cc in
    let r = same_split a c b d x y tails (omega arith) in
    record { front = ap (λ z. z ∷ a) heads ∙ ap (λ zs. j ∷ zs) r.front; here = r.here }

module _ (line : List ℕ) (i : ℕ) (place : Place) (said : Said) (r : IsRead line i place said) (h : i < length line) where
  items_here : items_of line ≡ r.before ++ item_at place (get_or line i 0) (drop (i + 1) line) ∷ items_from (place_after place (get_or line i 0)) (drop (i + 1) line)
  items_here = r.splits ∙ ap (λ xs. r.before ++ xs) (at_drop_more (items_from place) line i 0 h)

  -- a fault at the column of this byte is this item's
  fault_here : (c : ℕ) (k : Kind) → HasFault line c k → c ≡ i + 1 → is_faulty said (item_at place (get_or line i 0) (drop (i + 1) line)) k ≡ true
  fault_here c k f e =
      let one : AreOne f.before r.before f.here (item_at place (get_or line i 0) (drop (i + 1) line)) = same_split f.before r.before f.after (items_from (place_after place (get_or line i 0)) (drop (i + 1) line)) f.here (item_at place (get_or line i 0) (drop (i + 1) line)) (sym f.splits ∙ items_here) (omega (arith, f.at, r.count)) in
      let s : said_by f.before ≡ said = ap said_by one.front ∙ sym r.said_is in
      ap (λ x. is_faulty said x k) (sym one.here) ∙ (ap (λ t. is_faulty t f.here k) (sym s) ∙ f.faulty)

  pub read_more : (t : Said) → Passed said (item_at place (get_or line i 0) (drop (i + 1) line)) t → IsRead line (i + 1) (place_after place (get_or line i 0)) t
  read_more t p = record {
    before = r.before ++ item_at place (get_or line i 0) (drop (i + 1) line) ∷ [];
    splits = items_here ∙ sym (append_assoc r.before (item_at place (get_or line i 0) (drop (i + 1) line) ∷ []) (items_from (place_after place (get_or line i 0)) (drop (i + 1) line)));
    count = length-append r.before (item_at place (get_or line i 0) (drop (i + 1) line) ∷ []) ∙ ap (λ n. n + 1) r.count;
    said_is = p.is ∙ (ap (λ s. said_with s (item_at place (get_or line i 0) (drop (i + 1) line))) r.said_is ∙ sym (said_more r.before nothing (item_at place (get_or line i 0) (drop (i + 1) line))));
    none = λ c k f.
        ⊎_elim
        (λ lt. lt)
        (λ le. let e : c ≡ i + 1 = omega (arith, r.none c k f) in
        let yes : is_faulty said (item_at place (get_or line i 0) (drop (i + 1) line)) k ≡ true = fault_here c k f e in
        let no : is_faulty said (item_at place (get_or line i 0) (drop (i + 1) line)) k ≡ false = p.none k in
        absurd (cc))
        (cases_lt (i + 1) c);
  }

  first_here : length line ≤ MOST_LINE → (IsPercentLine line → ⊥) → (f : LineFault) (s : Stopped said (item_at place (get_or line i 0) (drop (i + 1) line)) (i + 1) f) → IsFirst line (i + 1) s.kind
  first_here short other f s = record {
    short = short;
    has = record {
      before = r.before;
      here = item_at place (get_or line i 0) (drop (i + 1) line);
      after = items_from (place_after place (get_or line i 0)) (drop (i + 1) line);
      splits = items_here;
      at = ap (λ n. n + 1) (sym r.count);
      faulty = ap (λ t. is_faulty t (item_at place (get_or line i 0) (drop (i + 1) line)) s.kind) (sym r.said_is) ∙ s.has;
      no_percent = other;
    };
    first = λ c k g.
        ⊎_elim
        (λ lt. inl lt)
        (λ le. let e : c ≡ i + 1 = omega (arith, r.none c k g) in inr (e, s.first k (fault_here c k g e)))
        (cases_lt (i + 1) c);
  }

fault_is : (line : List ℕ) (c : ℕ) (k : Kind) → IsFirst line c k → IsLineFault line (fault_at k c)
fault_is line c bad_char h = h
fault_is line c bad_number h = h
fault_is line c too_fine h = h
fault_is line c out_of_range h = h
fault_is line c twice h = h
fault_is line c same_group h = h
fault_is line c unsupported h = h
fault_is line c open_comment h = h

pub fault_found : (line : List ℕ) (i : ℕ) (place : Place) (said : Said) → IsRead line i place said → i < length line → length line ≤ MOST_LINE → (IsPercentLine line → ⊥) → (f : LineFault) → Stopped said (item_at place (get_or line i 0) (drop (i + 1) line)) (i + 1) f → IsLineFault line f
fault_found line i place said r h short other f s =
    subst (λ x. IsLineFault line x) (sym s.is) (fault_is line (i + 1) s.kind (first_here line i place said r h short other f s))

-- ---- the end of the line

length_items : (line : List ℕ) (place : Place) → length (items_from place line) ≡ length line
length_items [] place = refl
length_items (b ∷ rest) place = ap (λ n. suc n) (length_items rest (place_after place b))

within : (line : List ℕ) (c : ℕ) (k : Kind) → HasFault line c k → c ≤ length line
within line c k f = omega (arith, f.at, sym (length_items line between) ∙ (ap length f.splits ∙ length-append f.before (f.here ∷ f.after)))

pub all_read : SaysItemsWhereNoFault → (line : List ℕ) (i : ℕ) (place : Place) (said : Said) → IsRead line i place said → length line ≤ i → length line ≤ MOST_LINE → (IsPercentLine line → ⊥) → LineText line said.block
all_read law line i place said r h short other =
    let none : (c : ℕ) (k : Kind) → HasFault line c k → ⊥ = λ c k f. omega (arith, r.none c k f, within line c k f) in
    let all : items_of line ≡ r.before = r.splits ∙ (ap (λ xs. r.before ++ items_from place xs) (drop_all i line h) ∙ append-nil r.before) in
    let same : said_by (items_of line) ≡ said = ap said_by all ∙ sym r.said_is in
    subst (λ (s : Said). LineText line s.block) same (law line short other none)

-- ---- one turn of the loop

module _ (line : List ℕ) (i : ℕ) (place : Place) (said : Said) (r : IsRead line i place said) (h : i < length line) (rest : List ℕ) (rest_is : rest ≡ drop (i + 1) line) where
  pub turn_passed : (t : Said) → Ok t ≡ step said (item_at place (get_or line i 0) rest) (i + 1) → IsRead line (i + 1) (place_after place (get_or line i 0)) t
  turn_passed t e =
      read_more line i place said r h t
      (step_passed said (item_at place (get_or line i 0) (drop (i + 1) line)) (i + 1) t (ap (λ xs. step said (item_at place (get_or line i 0) xs) (i + 1)) (sym rest_is) ∙ sym e))

  pub turn_stopped : length line ≤ MOST_LINE → (IsPercentLine line → ⊥) → (f : LineFault) → Err f ≡ step said (item_at place (get_or line i 0) rest) (i + 1) → IsLineFault line f
  turn_stopped short other f e =
      fault_found line i place said r h short other f
      (step_stopped said (item_at place (get_or line i 0) (drop (i + 1) line)) (i + 1) f (ap (λ xs. step said (item_at place (get_or line i 0) xs) (i + 1)) (sym rest_is) ∙ sym e))

-- nothing is said at a byte at which nothing begins
pub nothing_step : (said : Said) (column : ℕ) → step said None column ≡ Ok said
unfolding step is_faulty said_with
nothing_step said column = refl

-- a line with a block has no other answer
pub every_block_found : HasOneBlock → HasNotBoth → (line : List ℕ) (r : Result Block LineFault) → MatchResult r (LineText line) (IsLineFault line) → (b : Block) → LineText line b → r ≡ Ok b
every_block_found one both line (Ok x) h b t = ap Ok (one line x b h t)
every_block_found one both line (Err f) h b t = absurd (both line b f t h)
