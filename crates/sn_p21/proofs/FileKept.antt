-- What was read whole is a file, and its words are derived from it.
use Rattle.std.proofs.Common.{◌≡◌, ◌≢◌, ℕ, ◌+◌, ◌<◌, ◌≤◌, append_assoc, true, false, nat_lt, ◌&&◌, inl, inr, List, [], ◌∷◌, ◌++◌, length, map, take, flat_map, codes, refl, sym, ap, subst, ◌∙◌, append-nil, arith, rules, tests}
use Rattle.std.specs.List.{AllByRecursion}
use Rattle.std.specs.Str.{bytes_eq}
use Rattle.std.proofs.lemmas.Slice.Eq.{bytes_eq-Decides}
use Rattle.sn_lex.specs.Form.{AreSeparators}
use Rattle.std.proofs.Common.{drop, Ok}
use Rattle.sn_lex.specs.declared.token.Token.TheVariants.{Keyword}
use Rattle.sn_p21.specs.declared.file.Entity.{Entity}
use Rattle.sn_p21.specs.declared.file.Instance.{Instance}
use Rattle.sn_p21.specs.declared.file.Section.{Section}
use Rattle.sn_p21.specs.declared.grammar.place.Place.TheVariants.{Done}
use Rattle.sn_p21.specs.declared.grammar.reader.Reader.{Reader}
use Rattle.sn_p21.specs.declared.limits.TheConstants.{MAX_OPEN_LISTS}
use Rattle.sn_p21.specs.Content.{Content}
use Rattle.sn_p21.specs.Word.{Word, IsSpelled}
use Rattle.sn_p21.specs.Grammar.{entity_words, enclosed_words, parts_words, instance_words, header_words, AreInstanceWords, AreDataWords, AreSectionsWords, data_entities, data_words, section_words, rows_words, plainest_sections, file_words, opening_words, section_end_words, file_end_words, AreFileWords, IsNestedWithin, IsWhole, header_names, IsFileWithin, IsFile}
use Rattle.sn_p21.specs.PartText.{IsPartText}
use Rattle.sn_p21.specs.Reader.{step, ends_header, start}
use Rattle.sn_p21.proofs.FilesRead.{Fits, HeaderFrom, AllFit, front_all, back_all, join_all, same_bytes}
use Rattle.sn_p21.proofs.Kept.{Kept, KeptAt}
use Rattle.sn_p21.proofs.KeptLemmas.{same_reader}
use Rattle.sn_p21.proofs.Runs.{run, first_gave}
use Rattle.sn_p21.proofs.KeptWords.{step_kept}
use Rattle.sn_p21.proofs.WordsRead.{ReadTo, between_spelled}

not_ending : (count : ℕ) (k : List ℕ) → 3 ≤ count → ends_header count Keyword k ≡ false → k ≢ codes "ENDSEC"
not_ending count k three h e =
    let t : nat_lt 2 count ≡ true = search (rules, tests) in
    let both : ends_header count Keyword k ≡ true = ap (λ b. b && bytes_eq k (codes "ENDSEC")) t ∙ same_bytes k _ e in
    let z : true ≡ false = sym both ∙ h in cc

other_name : (k name : List ℕ) → k ≡ name → bytes_eq name (codes "ENDSEC") ≡ false → k ≢ codes "ENDSEC"
other_name k name e h n = let z : true ≡ false = sym (same_bytes name _ (sym e ∙ n)) ∙ h in cc

named : (k name : List ℕ) → bytes_eq k name ≡ true → k ≡ name
named k name h = (bytes_eq-Decides k name).0 h

each : {A : Type 0} (P Q : A → Type 0) (xs : List A) → ((x : A) → P x → Q x) → AllByRecursion P xs → AllByRecursion Q xs
each P Q [] f h = tt
each P Q (x ∷ xs) f h = (f x h.0, each P Q xs f h.1)

-- The words without parentheses around the one part of a simple instance.

plain_parts : (ps : List Entity) → AllByRecursion IsSpelled (enclosed_words ps) → AllByRecursion IsSpelled (parts_words ps)
plain_parts [] h = h
plain_parts (e ∷ []) h =
    let words = front_all IsSpelled (entity_words e ++ []) _ h.1 in
    subst (AllByRecursion IsSpelled) (append-nil (entity_words e)) words
plain_parts (d ∷ e ∷ es) h = h

plain_instance : (i : Instance) (ws : List Word) → AreInstanceWords i ws → AllByRecursion IsSpelled ws → AllByRecursion IsSpelled (instance_words i.number (parts_words i.parts))
plain_instance i ws (inl e) h = subst (AllByRecursion IsSpelled) e h
plain_instance i ws (inr e) h =
    let all = subst (AllByRecursion IsSpelled) e h in
    let enclosed = front_all IsSpelled (enclosed_words i.parts) _ all.1.1 in
    let last = back_all IsSpelled (enclosed_words i.parts) _ all.1.1 in
    (all.0, (all.1.0, join_all IsSpelled (parts_words i.parts) _ (plain_parts i.parts enclosed) last))

plain_data : (is : List Instance) (ws : List Word) → AreDataWords is ws → AllByRecursion IsSpelled ws → AllByRecursion IsSpelled (rows_words is)
plain_data [] ws d h = tt
plain_data (i ∷ is) ws d h =
    let all = subst (AllByRecursion IsSpelled) d.4 h in
    join_all IsSpelled (instance_words i.number (parts_words i.parts)) (rows_words is) (plain_instance i d.0 d.2 (front_all IsSpelled d.0 d.1 all)) (plain_data is d.1 d.3 (back_all IsSpelled d.0 d.1 all))

plain_section : (s : Section) (is : List Instance) (own : List Word) → AreDataWords is own → AllByRecursion IsSpelled (section_words s own) → AllByRecursion IsSpelled (section_words s (rows_words is))
plain_section s is own d all =
    let dw = data_words s.params in
    let front = front_all IsSpelled (dw ++ own) section_end_words all in
    join_all IsSpelled (dw ++ rows_words is) section_end_words (join_all IsSpelled dw (rows_words is) (front_all IsSpelled dw own front) (plain_data is own d (back_all IsSpelled dw own front))) (back_all IsSpelled (dw ++ own) section_end_words all)

plain_sections : (ss : List Section) (is : List Instance) (ws : List Word) → AreSectionsWords ss is ws → AllByRecursion IsSpelled ws → AllByRecursion IsSpelled (plainest_sections ss is)
plain_sections [] is ws d h = tt
plain_sections (s ∷ ss) is ws d h =
    let all = subst (AllByRecursion IsSpelled) d.4 h in
    let one = section_words s d.0 in
    join_all IsSpelled (section_words s (rows_words (take s.count is))) (plainest_sections ss (drop s.count is)) (plain_section s (take s.count is) d.0 d.2 (front_all IsSpelled one d.1 all)) (plain_sections ss (drop s.count is) d.1 d.3 (back_all IsSpelled one d.1 all))

plain_file : (h : List Entity) (ss : List Section) (is : List Instance) (sections : List Word) → AreSectionsWords ss is sections → AllByRecursion IsSpelled (file_words h sections) → AllByRecursion IsSpelled (file_words h (plainest_sections ss is))
plain_file h ss is sections d all =
    let before = opening_words ++ flat_map header_words h ++ section_end_words in
    let plain = plainest_sections ss is in
    let front = front_all IsSpelled (before ++ sections) file_end_words all in
    join_all IsSpelled (before ++ plain) file_end_words (join_all IsSpelled before plain (front_all IsSpelled before sections front) (plain_sections ss is sections d (back_all IsSpelled before sections front))) (back_all IsSpelled (before ++ sections) file_end_words all)

-- Files.

abbrev pub content : Reader → Content
content s = record { header = s.header; sections = s.sections; instances = s.instances }

module _ (limit : ℕ) where
  late_no_end : (count : ℕ) (es : List Entity) → 3 ≤ count → HeaderFrom limit count es → AllByRecursion (λ e. e.keyword ≢ codes "ENDSEC") es
  late_no_end count [] three h = tt
  late_no_end count (e ∷ es) three h = (not_ending count e.keyword three h.0, late_no_end (count + 1) es (omega arith) h.3)

  pub names_from : (h : List Entity) → HeaderFrom limit 0 h → 3 ≤ length h → take 3 (map (λ e. e.keyword) h) ≡ header_names
  names_from [] all three = absurd (omega arith)
  names_from (d ∷ []) all three = absurd (omega arith)
  names_from (d ∷ e ∷ []) all three = absurd (omega arith)
  names_from (d ∷ e ∷ f ∷ es) all three =
      let first = named d.keyword (codes "FILE_DESCRIPTION") all.1 in
      let second = named e.keyword (codes "FILE_NAME") all.3.1 in
      let third = named f.keyword (codes "FILE_SCHEMA") all.3.3.1 in
      ap (λ k. k ∷ e.keyword ∷ f.keyword ∷ []) first ∙ ap (λ k. codes "FILE_DESCRIPTION" ∷ k ∷ f.keyword ∷ []) second ∙ ap (λ k. codes "FILE_DESCRIPTION" ∷ codes "FILE_NAME" ∷ k ∷ []) third

  pub no_end_from : (h : List Entity) → HeaderFrom limit 0 h → AllByRecursion (λ e. e.keyword ≢ codes "ENDSEC") h
  no_end_from [] all = tt
  no_end_from (d ∷ []) all = (other_name d.keyword _ (named d.keyword (codes "FILE_DESCRIPTION") all.1) refl, tt)
  no_end_from (d ∷ e ∷ []) all = (other_name d.keyword _ (named d.keyword (codes "FILE_DESCRIPTION") all.1) refl, (other_name e.keyword _ (named e.keyword (codes "FILE_NAME") all.3.1) refl, tt))
  no_end_from (d ∷ e ∷ f ∷ es) all = (
    other_name d.keyword _ (named d.keyword (codes "FILE_DESCRIPTION") all.1) refl,
    (
      other_name e.keyword _ (named e.keyword (codes "FILE_NAME") all.3.1) refl,
      (other_name f.keyword _ (named f.keyword (codes "FILE_SCHEMA") all.3.3.1) refl, late_no_end 3 es (omega arith) all.3.3.3),
    ),
  )

  header_fits : (count : ℕ) (h : List Entity) → HeaderFrom limit count h → AllByRecursion (Fits limit) h
  header_fits count [] all = tt
  header_fits count (e ∷ es) all = (all.2, header_fits (count + 1) es all.3)

  -- Entities.

  parts_fit : (is : List Instance) → AllFit limit is → AllByRecursion (Fits limit) (flat_map (λ i. i.parts) is)
  parts_fit [] h = tt
  parts_fit (i ∷ is) h = join_all (Fits limit) i.parts (flat_map (λ i. i.parts) is) h.0 (parts_fit is h.1)

  -- Files.

  done_derived : (s : Reader) (ws : List Word) → KeptAt limit Done s ws → AreFileWords (content s) ws
  done_derived s ws k = let d = k.1 in (d.sections, d.derived, k.3 ∙ ap (λ xs. xs ++ file_end_words) d.words)

  done_rule : (s : Reader) (ws : List Word) → KeptAt limit Done s ws → AllByRecursion IsSpelled ws → IsFileWithin limit (content s)
  unfolding done_derived
  done_rule s ws k spelled =
      let d = k.1 in
      let lists = flat_map (λ (u : Section). data_entities u.params) s.sections in
      let fits = join_all (Fits limit) (s.header ++ lists) (flat_map (λ i. i.parts) s.instances) (join_all (Fits limit) s.header lists (header_fits 0 s.header d.header) d.lists) (parts_fit s.instances d.fit) in
      let derived = done_derived s ws k in
      record {
        names = names_from s.header d.header d.three;
        no_end = no_end_from s.header d.header;
        section = k.4;
        counts = d.counts;
        parts = d.some;
        whole = each (Fits limit) IsWhole _ (λ e f. f.1) fits;
        spelled = plain_file s.header s.sections s.instances d.sections d.derived (subst (AllByRecursion IsSpelled) derived.2 spelled);
        differ = d.differ;
        nested = each (Fits limit) (IsNestedWithin limit) _ (λ e f. f.0) fits;
      }

  -- words that are read are kept
  run_kept : 0 < limit → (ws us : List Word) (s t : Reader) → AllByRecursion IsSpelled ws → Kept limit s us → run limit s ws ≡ Ok t → Kept limit t (us ++ ws)
  run_kept some [] us s t spelled k h = subst (Kept limit t) (sym (append-nil us)) (subst (λ r. Kept limit r us) (same_reader s t h) k)
  run_kept some (w ∷ ws) us s t spelled k h =
      let first = first_gave limit (step limit s w.token w.value) ws t h in
      let more = step_kept limit some s first.0 w.token w.value spelled.0.0 us spelled.0.1.1 k first.1 in
      subst (Kept limit t) (append_assoc us (w ∷ []) ws) (run_kept some ws (us ++ w ∷ []) first.0 t spelled.1 more first.2)

  pub start_kept : 0 < limit → (ws : List Word) (s : Reader) → AllByRecursion IsSpelled ws → run limit start ws ≡ Ok s → Kept limit s ws
  start_kept some ws s spelled h = run_kept some ws [] start s spelled (((refl, refl, refl, refl), refl), refl) h

  -- what is read whole is a file, and its words are derived from it
  pub whole_is_file : 0 < limit → (ws : List Word) (s : Reader) → AllByRecursion IsSpelled ws → run limit start ws ≡ Ok s → s.place ≡ Done → IsFileWithin limit (content s) × AreFileWords (content s) ws
  whole_is_file some ws s spelled h e =
      let k = subst (λ p. KeptAt limit p s ws) e (start_kept some ws s spelled h).0 in
      (done_rule s ws k spelled, done_derived s ws k)

-- what was read to the end is a file
pub rule_read : (bytes : List ℕ) (at : ℕ) (s : Reader) → ReadTo bytes at s → s.place ≡ Done → IsFile (content s)
rule_read bytes at s k e = (whole_is_file MAX_OPEN_LISTS (omega arith) k.ws s (between_spelled k.ws bytes 0 at k.words) k.ran e).0

-- and the bytes are a part text of it
pub part_read : (bytes : List ℕ) (at : ℕ) (s : Reader) → ReadTo bytes at s → AreSeparators (drop at bytes) → s.place ≡ Done → IsPartText bytes (content s)
part_read bytes at s k separators e =
    let whole = whole_is_file MAX_OPEN_LISTS (omega arith) k.ws s (between_spelled k.ws bytes 0 at k.words) k.ran e in
    record { ws = k.ws; words = (at, k.words, separators); derived = whole.1; rule = whole.0 }
