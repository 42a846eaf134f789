-- Files in a list as the map from their names to their bytes.
use Rattle.std.proofs.Common.{◌≡◌, ◌≢◌, ℕ, zero, suc, ◌+◌, ◌<◌, ◌≤◌, ◌==◌, min, Bool, true, false, cond, if◌then◌else◌, List, [], ◌∷◌, ◌++◌, length, take, drop, slice_index_or, slice_set, Option, None, Some, is_some, IsSome, option_map, unwrap_or, refl, sym, ap, subst, ◌∙◌, arith}
use Rattle.std.specs.Ordering.{nat_cmp, eq_by_cmp}
use Rattle.std.proofs.lemmas.Cmp.{eq_by_cmp_equiv, nat_list_cmp_total}
use Rattle.std.specs.Cmp.Lexicographic.{slice_cmp}
use Rattle.std.specs.Str.{bytes_eq}
use Rattle.std.specs.List.{position, position_from}
use Rattle.std.specs.FinMap.{find, get, contains_key, insert, get-from_entries, get-insert, same_map, from_entries_push, slice_cmp-IsAntisymmetric, nat_cmp-IsAntisymmetric}
use Rattle.std.proofs.Math.Dec.{eqb-suc-zero}
use Rattle.std.proofs.lemmas.List.{drop-drop, take-append-drop, take-append-le, take_all, length-take-le, nil_from_length}
use Rattle.std.proofs.lemmas.Map.Text.{is_eq-slice_cmp}
use Rattle.std.proofs.lemmas.Slice.Eq.{bytes_eq-Decides}
use Rattle.std.proofs.lemmas.Iterator.Adapters.{position_from-zero}
use Rattle.sn_io.specs.Count.{count_after}
use Rattle.sn_io.specs.Files.{Opens, IsOpened, Gives}
use Rattle.sn_io.specs.MemFiles.{Contents, contents_of, MemFilesState, files_state, left_after, Adds}

abbrev NamedFile : Type 0
NamedFile = List ℕ × List ℕ

-- two names are the same
abbrev same : List ℕ → List ℕ → Bool
same a b = eq_by_cmp (slice_cmp nat_cmp) a b

same-flips : (a b : List ℕ) → bytes_eq a b ≡ same b a
same-flips a b = sym (is_eq-slice_cmp a b) ∙ (eq_by_cmp_equiv nat_list_cmp_total).symm a b

same_true : (a b : List ℕ) → same a b ≡ true → b ≡ a
same_true a b is = (bytes_eq-Decides b a).0 (same-flips b a ∙ is)

-- the bytes of the first file of the name
abbrev bytes_of : List ℕ → List NamedFile → Option (List ℕ)
bytes_of name files = find (slice_cmp nat_cmp) name files

bytes_of-cons : (name : List ℕ) (file : NamedFile) (files : List NamedFile) (b : Bool)
    → bytes_eq file.0 name ≡ b → bytes_of name (file ∷ files) ≡ cond b (Some file.1) (bytes_of name files)
bytes_of-cons name file files b is =
    ap (λ t. cond t (Some file.1) (bytes_of name files)) (sym (same-flips file.0 name) ∙ is)

-- a name that is replaced hides what had it before
hides : (b : Bool) (x y z : Option (List ℕ)) → cond b x z ≡ cond b x (cond b y z)
hides true x y z = refl
hides false x y z = refl

-- two different names do not hide each other
swaps : (a b : Bool) (x y z : Option (List ℕ)) → (a ≡ true → b ≡ true → ⊥) → cond a x (cond b y z) ≡ cond b y (cond a x z)
swaps true true x y z apart = absurd (apart refl refl)
swaps true false x y z apart = refl
swaps false b x y z apart = refl

-- the file at k is the first that has the name
pub record IsFirstNamed (name : List ℕ) (files : List NamedFile) (k : ℕ) : Type 0 where
  pub within : k < length files
  pub found : bytes_of name files ≡ Some (slice_index_or files k ([], [])).1
  pub replaced : (bytes other : List ℕ) → bytes_of other (slice_set files k (name, bytes)) ≡ cond (same other name) (Some bytes) (bytes_of other files)

first_here : (name : List ℕ) (file : NamedFile) (files : List NamedFile) → bytes_eq file.0 name ≡ true → IsFirstNamed name (file ∷ files) 0
first_here name file files is = record {
  within = omega arith;
  found = bytes_of-cons name file files true is;
  replaced = λ bytes other.
      hides (same other name) (Some bytes) (Some file.1) (bytes_of other files)
      ∙ ap (λ n. cond (same other name) (Some bytes) (cond (same other n) (Some file.1) (bytes_of other files))) (sym ((bytes_eq-Decides file.0 name).0 is));
}

first_later : (name : List ℕ) (file : NamedFile) (files : List NamedFile) (k : ℕ) → bytes_eq file.0 name ≡ false → IsFirstNamed name files k → IsFirstNamed name (file ∷ files) (suc k)
first_later name file files k is first = record {
  within = omega (arith, first.within);
  found = bytes_of-cons name file files false is ∙ first.found;
  replaced = λ bytes other.
      ap (cond (same other file.0) (Some file.1)) (first.replaced bytes other)
      ∙ swaps (same other file.0) (same other name) (Some file.1) (Some bytes) (bytes_of other files) (apart other);
}
  where
    apart : (other : List ℕ) → same other file.0 ≡ true → same other name ≡ true → ⊥
    apart other a b = let alike : file.0 ≡ name = same_true other file.0 a ∙ sym (same_true other name b) in
        let named = (bytes_eq-Decides file.0 name).1 alike in cc

first_named : (name : List ℕ) (files : List NamedFile) (n i : ℕ) → position_from (λ file. bytes_eq file.0 name) n files ≡ Some i
    → (k : ℕ) × (i ≡ n + k) × IsFirstNamed name files k
first_named name [] n i at = cc
first_named name (file ∷ files) n i at =
    elim (bytes_eq file.0 name) as (λ b. bytes_eq file.0 name ≡ b → cond b (Some n) (position_from (λ f. bytes_eq f.0 name) (n + 1) files) ≡ Some i → (k : ℕ) × (i ≡ n + k) × IsFirstNamed name (file ∷ files) k) [
      | true ↦ λ is e. (0, (let here : n ≡ i = cc in omega arith), first_here name file files is)
      | false ↦ λ is e. let later = first_named name files (n + 1) i e in (suc later.0, omega (arith, later.1), first_later name file files later.0 is later.2)
    ] refl at

not_named : (name : List ℕ) (files : List NamedFile) (n : ℕ) → position_from (λ file. bytes_eq file.0 name) n files ≡ None → bytes_of name files ≡ None
not_named name [] n at = refl
not_named name (file ∷ files) n at =
    elim (bytes_eq file.0 name) as (λ b. bytes_eq file.0 name ≡ b → cond b (Some n) (position_from (λ f. bytes_eq f.0 name) (n + 1) files) ≡ None → bytes_of name (file ∷ files) ≡ None) [
      | true ↦ λ is e. cc
      | false ↦ λ is e. bytes_of-cons name file files false is ∙ not_named name files (n + 1) e
    ] refl at

pub position-Some : (name : List ℕ) (files : List NamedFile) (k : ℕ) → position (λ file. bytes_eq file.0 name) files ≡ Some k → IsFirstNamed name files k
position-Some name files k at =
    let first = first_named name files 0 k (sym (position_from-zero (λ file. bytes_eq file.0 name) files) ∙ at) in
    let here : first.0 ≡ k = omega (arith, first.1) in subst (IsFirstNamed name files) here first.2

-- what the map has for a name is what stands at the place that was found
pub bytes_at : (name : List ℕ) (files : List NamedFile) (found : Option ℕ) → found ≡ position (λ file. bytes_eq file.0 name) files
    → get (contents_of files) name ≡ option_map (λ k. (slice_index_or files k ([], [])).1) found
bytes_at name files None at =
    get-from_entries nat_list_cmp_total files name ∙ not_named name files 0 (sym (position_from-zero (λ file. bytes_eq file.0 name) files) ∙ sym at)
bytes_at name files (Some k) at =
    get-from_entries nat_list_cmp_total files name ∙ (position-Some name files k (sym at)).found

lookups_tell : (files : List NamedFile) (contents : Contents) → ((name : List ℕ) → bytes_of name files ≡ get contents name) → contents_of files ≡ contents
lookups_tell files contents alike =
    same_map nat_list_cmp_total (slice_cmp-IsAntisymmetric nat_cmp-IsAntisymmetric) _ _
    (λ name. get-from_entries nat_list_cmp_total files name ∙ alike name)

pub contents_of-set : (name bytes : List ℕ) (files : List NamedFile) (k : ℕ) → position (λ file. bytes_eq file.0 name) files ≡ Some k
    → contents_of (slice_set files k (name, bytes)) ≡ insert (contents_of files) name bytes
contents_of-set name bytes files k at =
    lookups_tell _ _ (λ other.
    (position-Some name files k at).replaced bytes other
    ∙ sym (get-insert nat_list_cmp_total (contents_of files) name bytes other
    ∙ ap (cond (same other name) (Some bytes)) (get-from_entries nat_list_cmp_total files other)))

pub contents_of-push : (name bytes : List ℕ) (files : List NamedFile) → position (λ file. bytes_eq file.0 name) files ≡ None
    → contents_of (files ++ (name, bytes) ∷ []) ≡ insert (contents_of files) name bytes
contents_of-push name bytes files at =
    from_entries_push nat_list_cmp_total (slice_cmp-IsAntisymmetric nat_cmp-IsAntisymmetric) files name bytes
    (not_named name files 0 (sym (position_from-zero (λ file. bytes_eq file.0 name) files) ∙ at))

-- what the map has after an insertion
get-added : (contents : Contents) (name bytes : List ℕ) → get (insert contents name bytes) name ≡ Some bytes
get-added contents name bytes =
    get-insert nat_list_cmp_total contents name bytes name
    ∙ ap (λ is. if is then Some bytes else get contents name) (sym (same-flips name name) ∙ (bytes_eq-Decides name name).1 refl)

not_true : (b : Bool) → ¬ (b ≡ true) → b ≡ false
not_true true never = absurd (never refl)
not_true false never = refl

get-kept : (contents : Contents) (name bytes other : List ℕ) → other ≢ name → get (insert contents name bytes) other ≡ get contents other
get-kept contents name bytes other differs =
    get-insert nat_list_cmp_total contents name bytes other
    ∙ ap (λ is. if is then Some bytes else get contents other) (not_true (same other name) (λ is. differs (sym (same_true other name is))))

-- what a call leaves tells what it promises in the words of all files
pub adds-inserted : (old new : MemFilesState) (name bytes : List ℕ)
    → new ≡ record old { files = insert old.files name bytes } → Adds (files_state old) (files_state new) name bytes
adds-inserted old new name bytes is = rw is (record {
  has_file = ap is_some (get-added old.files name bytes);
  given = λ _. ap (λ found. unwrap_or found []) (get-added old.files name bytes);
  other_has_file = λ other differs. ap is_some (get-kept old.files name bytes other differs);
  other_given = λ other _ differs. ap (λ found. unwrap_or found []) (get-kept old.files name bytes other differs);
})

pub opens-refused : (old new : MemFilesState) (name : List ℕ)
    → new ≡ record old {
      left = None;
      faults = count_after old.faults 1;
      opens = count_after old.opens 1;
      strange_opens = count_after old.strange_opens (if contains_key old.files name then 0 else 1);
    }
    → Opens (files_state old) (files_state new) name
opens-refused old new name is = rw is (record {
  tells = refl;
  faults_stay = omega arith;
  opens = refl;
  reads = refl;
  bytes = refl;
  strange_opens = λ _. refl;
  has_file = λ _ _. refl;
})

pub opens-done : (old new : MemFilesState) (name : List ℕ) → IsSome (get old.files name)
    → new ≡ record old { left = get old.files name; opens = count_after old.opens 1 }
    → Opens (files_state old) (files_state new) name × IsOpened (files_state old) (files_state new) name
opens-done old new name has is = rw is (
  record {
    tells = refl;
    faults_stay = omega arith;
    opens = refl;
    reads = refl;
    bytes = refl;
    strange_opens = λ _. rw has (omega arith);
    has_file = λ _ _. refl;
  },
  record {
    is_open = has;
    has_file = λ _. has;
    left = λ _. refl;
    given = λ _ _ _. refl;
  },
)

left_after-suc : (left : List ℕ) (n : ℕ) → left_after left (suc n) ≡ Some (drop (suc n) left)
left_after-suc left n = ap (λ none. if none then None else Some (drop (suc n) left)) (eqb-suc-zero n)

mapped : {A : Type 0} (place : A → List ℕ) (x : A) (none : Bool) → option_map place (if none then None else Some x) ≡ (if none then None else Some (place x))
mapped place x true = refl
mapped place x false = refl

-- the place after a reading is that of what it left
pub left_after-place : {A : Type 0} (place : A → List ℕ) (x : A) (bytes : List ℕ) (given count : ℕ) → place x ≡ drop (given + count) bytes
    → option_map place (if count == 0 then None else Some x) ≡ left_after (drop given bytes) count
left_after-place place x bytes given count is =
    mapped place x (count == 0) ∙ ap (λ left. if count == 0 then None else Some left) (is ∙ sym (drop-drop count given bytes))

-- the first count bytes of a buffer, and what is left after them
given-left : (left tail : List ℕ) (count : ℕ) → count ≤ length left → left ≡ take count (take count left ++ tail) ++ drop count left
given-left left tail count fits =
    let whole : length (take count left) ≡ count = length-take-le count left fits in
    let front : take count (take count left ++ tail) ≡ take count left = take-append-le count (take count left) tail (omega arith) ∙ take_all count (take count left) (omega arith) in
    sym (rw front (take-append-drop count left))

pub gives-read : (old new : MemFilesState) (before after : List ℕ) (count : ℕ) → 0 < length before
    → count ≡ min (length before) (length (unwrap_or old.left [])) → after ≡ take count (unwrap_or old.left []) ++ drop count before
    → new ≡ record old {
      left = left_after (unwrap_or old.left []) count;
      reads = count_after old.reads 1;
      bytes = count_after old.bytes count;
    }
    → Gives (files_state old) (files_state new) after count
gives-read old new before after zero room counted filled is = rw is (record {
  bytes = refl;
  left = λ _. ended;
  at_end = λ _ _. ended;
  closed = λ _. refl;
  is_open = λ some. absurd (omega arith);
})
  where
    ended : unwrap_or old.left [] ≡ []
    ended = nil_from_length _ (omega arith)
gives-read old new before after (suc n) room counted filled is = rw (is, left_after-suc (unwrap_or old.left []) n) (record {
  bytes = refl;
  left = λ _. rw filled (given-left (unwrap_or old.left []) (drop (suc n) before) (suc n) (omega arith));
  at_end = λ _ none. absurd (omega arith);
  closed = λ none. absurd (omega arith);
  is_open = λ _. refl;
})
