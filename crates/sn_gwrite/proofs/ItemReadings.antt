-- What items say that have no fault.
use Rattle.std.proofs.Common.{ℕ, ◌≡◌, ◌≤◌, Bool, true, false, ◌&&◌, ◌≢◌, List, [], ◌∷◌, ◌++◌, length, refl, sym, ap, ◌∙◌, subst, inr, append-nil}
use Rattle.std.proofs.lemmas.Bool.{and_parts, not-true}
use Rattle.std.specs.Prelude.{not, filter, Option, None}
use Rattle.sn_geom.specs.declared.block.TheConstants.{MOST_LINE}
use Rattle.sn_geom.specs.declared.machine.Word.{Word}
use Rattle.sn_geom.specs.LineText.{Item, Kind, Place, Said, Says, LineText, is_blank, IsPercentLine, bad_char, bad_number, too_fine, out_of_range, twice, same_group, unsupported, open_comment, is_faulty, said_with, said_from, nothing, items_of, items_from, item_at, place_after}
use Rattle.sn_gwrite.specs.Program.{g}

abbrev pub are_false : (a b c d e f g h : Bool) → Bool
are_false a b c d e f g h = not a && (not b && (not c && (not d && (not e && (not f && (not g && not h))))))

unfoldable pub clean : Said → Option Item → Bool
clean said item =
    are_false (is_faulty said item bad_char) (is_faulty said item bad_number) (is_faulty said item too_fine)
    (is_faulty said item out_of_range) (is_faulty said item twice) (is_faulty said item same_group)
    (is_faulty said item unsupported) (is_faulty said item open_comment)

abbrev pub all_clean : Said → List (Option Item) → Bool
all_clean said [] = true
all_clean said (item ∷ items) = clean said item && all_clean (said_with said item) items

pub record AreFalse (f : Kind → Bool) : Type 0 where
  pub char : f bad_char ≡ false
  pub number : f bad_number ≡ false
  pub fine : f too_fine ≡ false
  pub range : f out_of_range ≡ false
  pub once : f twice ≡ false
  pub group : f same_group ≡ false
  pub supported : f unsupported ≡ false
  pub comment : f open_comment ≡ false

pub each_false : (f : Kind → Bool) → AreFalse f → (kind : Kind) → f kind ≡ false
each_false f h bad_char = h.char
each_false f h bad_number = h.number
each_false f h too_fine = h.fine
each_false f h out_of_range = h.range
each_false f h twice = h.once
each_false f h same_group = h.group
each_false f h unsupported = h.supported
each_false f h open_comment = h.comment

pub are_false-each : (f : Kind → Bool)
    → are_false (f bad_char) (f bad_number) (f too_fine) (f out_of_range) (f twice) (f same_group) (f unsupported) (f open_comment) ≡ true
    → AreFalse f
are_false-each f h =
    let b = and_parts (not (f bad_char)) _ h in
    let c = and_parts (not (f bad_number)) _ b.1 in
    let d = and_parts (not (f too_fine)) _ c.1 in
    let e = and_parts (not (f out_of_range)) _ d.1 in
    let i = and_parts (not (f twice)) _ e.1 in
    let j = and_parts (not (f same_group)) _ i.1 in
    let k = and_parts (not (f unsupported)) (not (f open_comment)) j.1 in
    record {
      char = not-true (f bad_char) b.0;
      number = not-true (f bad_number) c.0;
      fine = not-true (f too_fine) d.0;
      range = not-true (f out_of_range) e.0;
      once = not-true (f twice) i.0;
      group = not-true (f same_group) j.0;
      supported = not-true (f unsupported) k.0;
      comment = not-true (f open_comment) k.1;
    }

pub clean-none : (said : Said) (item : Option Item) → clean said item ≡ true → (kind : Kind)
    → is_faulty said item kind ≡ false
unfolding clean
clean-none said item h = each_false (is_faulty said item) (are_false-each (is_faulty said item) h)

-- items without a fault, and then others
pub says_clean : (front back : List (Option Item)) (said all : Said) → all_clean said front ≡ true
    → Says (said_from said front) back all → Says said (front ++ back) all
says_clean [] back said all h s = s
says_clean (item ∷ front) back said all h s =
    let p = and_parts (clean said item) (all_clean (said_with said item) front) h in
    (clean-none said item p.0, says_clean front back (said_with said item) all p.1 s)

-- one item, and then others
pub says_item : (place next : Place) (b : ℕ) (rest : List ℕ) (item : Option Item) (said then all : Said)
    → item_at place b rest ≡ item → place_after place b ≡ next
    → ((kind : Kind) → is_faulty said item kind ≡ false) → said_with said item ≡ then
    → Says then (items_from next rest) all → Says said (items_from place (b ∷ rest)) all
says_item place next b rest item said then all e f none s says =
    let here : Option Item = item_at place b rest in
    let one : said_with said here ≡ then = ap (said_with said) e ∙ s in
    let others : Says (said_with said here) (items_from next rest) all = subst (λ t. Says t (items_from next rest) all) (sym one) says in
    (λ kind. subst (λ i. is_faulty said i kind ≡ false) (sym e) (none kind), subst (λ p. Says (said_with said here) (items_from p rest) all) (sym f) others)

pub no_item : (said : Said) (kind : Kind) → is_faulty said None kind ≡ false
unfolding is_faulty
no_item said kind = refl

pub says_nothing_more : (said : Said) → said_with said None ≡ said
unfolding said_with
says_nothing_more said = refl

pub other_byte : (b : ℕ) (bs : List ℕ) → b ≢ 37 → b ∷ bs ≡ 37 ∷ [] → ⊥
other_byte b bs other h = let same : b ≡ 37 = cc in other same

pub other_line : (b : ℕ) (bs : List ℕ) → b ≢ 37 → is_blank b ≡ false → IsPercentLine (b ∷ bs) → ⊥
other_line b bs other no_blank h = other_byte b (filter (λ c. not (is_blank c)) bs) other (rw no_blank at h)

pub reads : (line : List ℕ) (all : Said) → length line ≤ MOST_LINE → (IsPercentLine line → ⊥)
    → Says nothing (items_of line) all → LineText line all.block
reads line all short other says = record { short = short; text = inr (record { no_percent = other; all = all; says = says; block_is = refl }) }

-- a piece of a line whose items are known
pub says_known : (items : List (Option Item)) (said all : Said) → all_clean said items ≡ true
    → said_from said items ≡ all → Says said items all
says_known items said all h e = subst (λ xs. Says said xs all) (append-nil items) (says_clean items [] said all h e)

-- words, and nothing else
abbrev pub words_said : List Word → Said
words_said words = record { block = record { percent = false; number = None; mark = None; words = words }; begun = true }
