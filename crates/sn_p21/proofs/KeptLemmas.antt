-- Lemmas of what the reader keeps.
use Rattle.std.proofs.Common.{◌≡◌, ℕ, ◌+◌, ◌≤◌, Bool, true, false, cond, ◌⊎◌, inl, inr, List, [], ◌∷◌, ◌++◌, length, drop, flat_map, Ok, Err, refl, sym, ap, subst, ◌∙◌, append_assoc, append-nil, arith}
use Rattle.std.specs.List.{AllByRecursion}
use Rattle.std.proofs.lemmas.Grind.{flat_map-append}
use Rattle.std.proofs.lemmas.List.{take_all, take-append-le, drop-append-le, length-drop}
use Rattle.std.proofs.lemmas.List.Sums.{sum_by-cons}
use Rattle.std.proofs.lemmas.Slice.Eq.{bytes_eq-Decides}
use Rattle.sn_lex.specs.declared.token.Token.{Token}
use Rattle.sn_lex.specs.declared.token.Token.TheVariants.{FileStart, Keyword, Semicolon, Equals}
use Rattle.sn_p21.specs.declared.file.Entity.{Entity}
use Rattle.sn_p21.specs.declared.file.Instance.{Instance}
use Rattle.sn_p21.specs.declared.file.Section.{Section}
use Rattle.sn_p21.specs.declared.grammar.reader.Reader.{Reader}
use Rattle.sn_p21.specs.Word.{Word, Carries, mark, keyword}
use Rattle.sn_p21.specs.Grammar.{header_words, AreInstanceWords, AreDataWords, AreSectionsWords, data_entities, section_words, counted}
use Rattle.sn_p21.specs.Reader.{Step, Refusal, is_keyword_named, is_semicolon, is_equals, is_file_start, is_keyword, names_header_entity, ends_header}
use Rattle.sn_p21.proofs.FilesRead.{Fits, HeaderFrom, join_all, front_all, back_all}

-- Answers of a step.

abbrev pub Gave : Step → Reader → Type 0
Gave r t = r ≡ Ok t

pub same_reader : (s t : Reader) → Gave (Ok s) t → s ≡ t
same_reader s t h = cc

pub no_reader : {A : Type 0} → (why : Refusal) (t : Reader) → Gave (Err why) t → A
no_reader why t h = absurd (cc)

pub went : (b : Bool) (why : Refusal) (s t : Reader) → Gave (cond b (Ok s) (Err why)) t → (b ≡ true) × (s ≡ t)
went true why s t h = (refl, same_reader s t h)
went false why s t h = no_reader why t h

pub passed : (b : Bool) (why : Refusal) (s t : Reader) → Gave (cond b (Err why) (Ok s)) t → (b ≡ false) × (s ≡ t)
passed true why s t h = no_reader why t h
passed false why s t h = (refl, same_reader s t h)

pub either : (b d : Bool) (why : Refusal) (s u t : Reader) → Gave (cond b (Ok s) (cond d (Ok u) (Err why))) t → ((b ≡ true) × (s ≡ t)) ⊎ ((b ≡ false) × (d ≡ true) × (u ≡ t))
either true d why s u t h = inl (refl, same_reader s t h)
either false true why s u t h = inr (refl, refl, same_reader u t h)
either false false why s u t h = no_reader why t h

-- Words.

abbrev pub word : Token → List ℕ → Word
word t v = record { token = t; value = v }

pub named_word : (t : Token) (v name : List ℕ) → is_keyword_named t v name ≡ true → word t v ≡ keyword name
named_word Keyword v name h = ap keyword ((bytes_eq-Decides v name).0 h)
named_word _ v name h = absurd (let e : false ≡ true = h in cc)

pub keyword_word : (t : Token) (v : List ℕ) → is_keyword t ≡ true → word t v ≡ keyword v
keyword_word Keyword v h = refl
keyword_word _ v h = absurd (let e : false ≡ true = h in cc)

pub semicolon_word : (t : Token) (v text : List ℕ) → Carries t text v → is_semicolon t ≡ true → word t v ≡ mark Semicolon
semicolon_word Semicolon v text c h = ap (word Semicolon) c
semicolon_word _ v text c h = absurd (let e : false ≡ true = h in cc)

pub equals_word : (t : Token) (v text : List ℕ) → Carries t text v → is_equals t ≡ true → word t v ≡ mark Equals
equals_word Equals v text c h = ap (word Equals) c
equals_word _ v text c h = absurd (let e : false ≡ true = h in cc)

pub file_start_word : (t : Token) (v text : List ℕ) → Carries t text v → is_file_start t ≡ true → word t v ≡ mark FileStart
file_start_word FileStart v text c h = ap (word FileStart) c
file_start_word _ v text c h = absurd (let e : false ≡ true = h in cc)

-- one word more
pub grown : (ws front tail : List Word) (w u : Word) → ws ≡ front ++ tail → w ≡ u → ws ++ w ∷ [] ≡ front ++ (tail ++ u ∷ [])
grown ws front tail w u e m = ap (λ xs. xs ++ w ∷ []) e ∙ append_assoc front tail (w ∷ []) ∙ ap (λ x. front ++ (tail ++ x ∷ [])) m

pub header_words_push : (h : List Entity) (e : Entity) → flat_map header_words (h ++ e ∷ []) ≡ flat_map header_words h ++ header_words e
header_words_push h e = flat_map-append header_words h (e ∷ []) ∙ ap (λ ws. flat_map header_words h ++ ws) (append-nil (header_words e))

pub data_push : (is : List Instance) (i : Instance) (rows ws : List Word) → AreDataWords is rows → AreInstanceWords i ws → AreDataWords (is ++ i ∷ []) (rows ++ ws)
data_push [] i rows ws all one = (ws, [], one, refl, ap (λ xs. xs ++ ws) all ∙ sym (append-nil ws))
data_push (j ∷ is) i rows ws all one =
    (all.0, all.1 ++ ws, all.2, data_push is i all.1 ws all.3 one, ap (λ xs. xs ++ ws) all.4 ∙ append_assoc all.0 all.1 ws)

pub sections_push : (ss : List Section) (s : Section) (is own : List Instance) (ws rows : List Word) → counted ss ≡ length is → s.count ≡ length own → AreSectionsWords ss is ws → AreDataWords own rows → AreSectionsWords (ss ++ s ∷ []) (is ++ own) (ws ++ section_words s rows)
sections_push [] s [] own ws rows counts count all derived =
    (rows, [], subst (λ js. AreDataWords js rows) (sym (take_all s.count own (omega arith))) derived, refl, ap (λ xs. xs ++ section_words s rows) all ∙ sym (append-nil (section_words s rows)))
sections_push [] s (i ∷ is) own ws rows counts count all derived = absurd (let e : 0 ≡ length (i ∷ is) = counts in omega arith)
sections_push (t ∷ ss) s is own ws rows counts count all derived =
    let sum = sum_by-cons (λ (u : Section). u.count) t ss in
    let within : t.count ≤ length is = omega arith in
    let left : counted ss ≡ length (drop t.count is) = omega (arith, length-drop t.count is) in (
      all.0,
      all.1 ++ section_words s rows,
      subst (λ js. AreDataWords js all.0) (sym (take-append-le t.count is own within)) all.2,
      subst (λ js. AreSectionsWords (ss ++ s ∷ []) js (all.1 ++ section_words s rows)) (sym (drop-append-le t.count is own within)) (sections_push ss s (drop t.count is) own all.1 rows left count all.3 derived),
      ap (λ xs. xs ++ section_words s rows) all.4 ∙ append_assoc (section_words t all.0) all.1 (section_words s rows),
    )

pub counted_push : (ss : List Section) (s : Section) → counted (ss ++ s ∷ []) ≡ counted ss + s.count
counted_push [] s = sum_by-cons (λ (u : Section). u.count) s [] ∙ (let z : s.count + 0 ≡ 0 + s.count = omega arith in z)
counted_push (t ∷ ss) s =
    let whole = sum_by-cons (λ (u : Section). u.count) t (ss ++ s ∷ []) in
    let front = sum_by-cons (λ (u : Section). u.count) t ss in
    let more = counted_push ss s in
    omega arith

pub all_push : {A : Type 0} (P : A → Type 0) (xs : List A) (y : A) → AllByRecursion P xs → P y → AllByRecursion P (xs ++ y ∷ [])
all_push P [] y all one = (one, tt)
all_push P (x ∷ xs) y all one = (all.0, all_push P xs y all.1 one)

module _ (limit : ℕ) where
  -- Headers, sections and instances.

  pub lists_push : (ss : List Section) (s : Section) → AllByRecursion (Fits limit) (flat_map (λ u. data_entities u.params) ss) → AllByRecursion (Fits limit) (data_entities s.params) → AllByRecursion (Fits limit) (flat_map (λ u. data_entities u.params) (ss ++ s ∷ []))
  lists_push [] s all one = subst (AllByRecursion (Fits limit)) (sym (append-nil (data_entities s.params))) one
  lists_push (t ∷ ss) s all one =
      let rest = flat_map (λ (u : Section). data_entities u.params) ss in
      join_all (Fits limit) (data_entities t.params) _ (front_all (Fits limit) (data_entities t.params) rest all) (lists_push ss s (back_all (Fits limit) (data_entities t.params) rest all) one)

  pub header_push : (count : ℕ) (h : List Entity) (e : Entity) → HeaderFrom limit count h → ends_header (count + length h) Keyword e.keyword ≡ false → names_header_entity (count + length h) Keyword e.keyword ≡ true → Fits limit e → HeaderFrom limit count (h ++ e ∷ [])
  header_push count [] e all ends names fits =
      let z : count + length {A = Entity} [] ≡ count = omega arith in
      (subst (λ n. ends_header n Keyword e.keyword ≡ false) z ends, subst (λ n. names_header_entity n Keyword e.keyword ≡ true) z names, fits, tt)
  header_push count (d ∷ h) e all ends names fits =
      let z : count + length (d ∷ h) ≡ count + 1 + length h = omega arith in
      (all.0, all.1, all.2, header_push (count + 1) h e all.3 (subst (λ n. ends_header n Keyword e.keyword ≡ false) z ends) (subst (λ n. names_header_entity n Keyword e.keyword ≡ true) z names) fits)
