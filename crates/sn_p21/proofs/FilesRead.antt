-- The words of a file are read as that file.
use Rattle.std.proofs.Common.{◌≡◌, ◌≢◌, ℕ, ◌+◌, ◌<◌, ◌≤◌, Bool, true, false, cond, nat_lt, inl, inr, List, [], ◌∷◌, ◌++◌, length, map, take, drop, flat_map, codes, Option, Some, None, Ok, Err, refl, sym, ap, subst, ◌∙◌, append_assoc, append-nil, length-append, arith, rules, tests}
use Rattle.std.proofs.lemmas.Bool.{false_from_ne_true, and_right, and_from}
use Rattle.std.specs.List.{AllByRecursion}
use Rattle.std.specs.Str.{bytes_eq}
use Rattle.std.proofs.lemmas.List.{take-append-drop, length-take-le}
use Rattle.std.proofs.lemmas.List.Sums.{sum_by-cons}
use Rattle.std.proofs.lemmas.Bool.Decides.{nat_tests}
use Rattle.std.proofs.lemmas.Slice.Eq.{bytes_eq-Decides}
use Rattle.sn_lex.specs.declared.token.Token.TheVariants.{Keyword, Number, LeftParen, RightParen, Semicolon, Equals}
use Rattle.sn_p21.specs.declared.file.Param.{Param}
use Rattle.sn_p21.specs.declared.file.Entity.{Entity}
use Rattle.sn_p21.specs.declared.file.Instance.{Instance}
use Rattle.sn_p21.specs.declared.file.Section.{Section}
use Rattle.sn_p21.specs.declared.grammar.place.Place.{Place}
use Rattle.sn_p21.specs.declared.grammar.place.Place.TheVariants.{Fixed as FixedAt, HeaderEntity, OwnList, AfterParam, Section as SectionAt, NextSection, SectionParams, Instance as InstanceAt, Body, NextPart, Done}
use Rattle.sn_p21.specs.declared.grammar.place.Fixed.TheVariants as fixed
use Rattle.sn_p21.specs.declared.grammar.place.Owner.{Owner}
use Rattle.sn_p21.specs.declared.grammar.place.Owner.TheVariants as owner
use Rattle.sn_p21.specs.declared.grammar.list.Opening.TheVariants.{Plain}
use Rattle.sn_p21.specs.declared.grammar.reader.Reader.{Reader}
use Rattle.sn_p21.specs.Content.{Content}
use Rattle.sn_p21.specs.Numbers.{has_number, NumbersDiffer}
use Rattle.sn_p21.specs.Word.{Word, mark, keyword}
use Rattle.sn_p21.specs.Grammar.{list_words, entity_words, header_words, enclosed_words, instance_words, AreInstanceWords, AreDataWords, opening_words, section_end_words, file_end_words, data_entity, data_entities, data_words, section_words, AreSectionsWords, counted, AreFileWords, IsNestedWithin, IsWhole, header_names, entities_of, IsFileWithin}
use Rattle.sn_p21.specs.Reader.{Step, Refusal, unexpected, twice, takes_entity, empty_list, names_header_entity, ends_header, starts_entity, start}
use Rattle.sn_p21.proofs.NumberLemmas.{has_number-false, new_number, differ_front}
use Rattle.sn_p21.proofs.ParamsRead.{Known, params_of, words_of, deepest, body_words, list_words_is, body_is_read, param_is_read}
use Rattle.sn_p21.proofs.Runs.{and_then, run}

-- the reader between entities
abbrev pub base : Place → List Entity → List Section → Option (List Param) → ℕ → List Instance → ℕ → List Entity → Owner → Reader
base place h ss q c is n ps o = record { place = place; header = h; sections = ss; section = record { params = q; count = c }; instances = is; number = n; parts = ps; owner = o; keyword = []; typed = []; list = empty_list Plain; outer = [] }

abbrev pub HasPart : Instance → Type 0
HasPart i = 0 < length i.parts

-- Headers.

not_ending : (count : ℕ) (k : List ℕ) → k ≢ codes "ENDSEC" → ends_header count Keyword k ≡ false
not_ending count k h = and_right (nat_lt 2 count) (bytes_eq k (codes "ENDSEC")) (false_from_ne_true _ (λ e. h ((bytes_eq-Decides k (codes "ENDSEC")).0 e)))

late_name : (count : ℕ) (k : List ℕ) → 3 ≤ count → names_header_entity count Keyword k ≡ true
late_name count k h = grind (arith, nat_tests)

pub same_bytes : (a b : List ℕ) → a ≡ b → bytes_eq a b ≡ true
same_bytes a b e = (bytes_eq-Decides a b).1 e

pub three_in_header : (h : List Entity) → take 3 (map (λ e. e.keyword) h) ≡ header_names → 3 ≤ length h
three_in_header [] names = absurd (let e : [] ≡ header_names = names in cc)
three_in_header (d ∷ []) names = absurd (let e : d.keyword ∷ [] ≡ header_names = names in cc)
three_in_header (d ∷ e ∷ []) names = absurd (let e : d.keyword ∷ e.keyword ∷ [] ≡ header_names = names in cc)
three_in_header (d ∷ e ∷ f ∷ es) names = omega arith

-- Files.

pub front_all : {A : Type 0} (P : A → Type 0) (xs ys : List A) → AllByRecursion P (xs ++ ys) → AllByRecursion P xs
front_all P [] ys h = tt
front_all P (x ∷ xs) ys h = (h.0, front_all P xs ys h.1)

pub back_all : {A : Type 0} (P : A → Type 0) (xs ys : List A) → AllByRecursion P (xs ++ ys) → AllByRecursion P ys
back_all P [] ys h = h
back_all P (x ∷ xs) ys h = back_all P xs ys h.1

pub join_all : {A : Type 0} (P : A → Type 0) (xs ys : List A) → AllByRecursion P xs → AllByRecursion P ys → AllByRecursion P (xs ++ ys)
join_all P [] ys h k = k
join_all P (x ∷ xs) ys h k = (h.0, join_all P xs ys h.1 k)

both_all : {A : Type 0} (P Q : A → Type 0) (xs : List A) → AllByRecursion P xs → AllByRecursion Q xs → AllByRecursion (λ x. P x × Q x) xs
both_all P Q [] h k = tt
both_all P Q (x ∷ xs) h k = ((h.0, k.0), both_all P Q xs h.1 k.1)

regrouped : (h rows : List Word) → opening_words ++ h ++ section_end_words ++ rows ++ file_end_words ≡ opening_words ++ (h ++ (section_end_words ++ (rows ++ file_end_words)))
regrouped h rows = simp append_assoc

module _ (limit : ℕ) where
  -- an entity of a file
  abbrev pub Fits : Entity → Type 0
  Fits e = IsNestedWithin limit e × IsWhole e

  abbrev pub known : List Param → List (Known limit)
  known ps = map (λ p. (p, param_is_read limit p)) ps

  params_known : (ps : List Param) → params_of limit (known ps) ≡ ps
  params_known [] = refl
  params_known (p ∷ ps) = ap (λ qs. p ∷ qs) (params_known ps)

  abbrev pub ListIsRead : List ℕ → List Param → Type 0
  ListIsRead k ps = (h : List Entity) (ss : List Section) (q : Option (List Param)) (c : ℕ) (is : List Instance) (n : ℕ) (parts : List Entity) (o : Owner) (rest : List Word) → Fits (record { keyword = k; params = ps }) → run limit (record (base OwnList h ss q c is n parts o) { keyword = k }) (list_words (words_of ps) ++ rest) ≡ and_then (takes_entity o (base AfterParam h ss q c is n parts o) (record { keyword = k; params = ps })) (λ next. run limit next rest)

  known_list_is_read : (k : List ℕ) (es : List (Known limit)) → ListIsRead k (params_of limit es)
  known_list_is_read k es h ss q c is n parts o rest fits =
      let s = record (base OwnList h ss q c is n parts o) { keyword = k } in
      let room : length s.outer + 1 + deepest (params_of limit es) ≤ limit = omega (arith, fits.0) in
      ap (λ ws. run limit s (ws ++ rest)) (list_words_is (words_of (params_of limit es))) ∙ body_is_read limit es s rest room fits.1

  -- the list of an entity
  pub own_list_is_read : (k : List ℕ) (ps : List Param) → ListIsRead k ps
  own_list_is_read k ps = subst (ListIsRead k) (params_known ps) (known_list_is_read k (known ps))

  header_step : (ends names : Bool) (s t : Reader) (ws : List Word) → ends ≡ false → names ≡ true → and_then (cond ends (Ok s) (cond names (Ok t) (Err unexpected))) (λ next. run limit next ws) ≡ run limit t ws
  header_step ends names s t ws e f = ap (λ b. and_then (cond b (Ok s) (cond names (Ok t) (Err unexpected))) (λ next. run limit next ws)) e ∙ ap (λ b. and_then (cond b (Ok t) (Err unexpected)) (λ next. run limit next ws)) f

  -- entities that may stand behind so many of a header
  abbrev pub HeaderFrom : ℕ → List Entity → Type 0
  HeaderFrom count [] = Unit {0}
  HeaderFrom count (e ∷ es) = (ends_header count Keyword e.keyword ≡ false) × (names_header_entity count Keyword e.keyword ≡ true) × Fits e × HeaderFrom (count + 1) es

  header_entity_is_read : (e : Entity) (h : List Entity) (ss : List Section) (q : Option (List Param)) (c : ℕ) (is : List Instance) (n : ℕ) (parts : List Entity) (rest : List Word) → ends_header (length h) Keyword e.keyword ≡ false → names_header_entity (length h) Keyword e.keyword ≡ true → Fits e → run limit (base HeaderEntity h ss q c is n parts owner.Header) (header_words e ++ rest) ≡ run limit (base HeaderEntity (h ++ e ∷ []) ss q c is n parts owner.Header) rest
  header_entity_is_read e h ss q c is n parts rest ends names fits =
      let list = list_words (words_of e.params) in
      let s = base HeaderEntity h ss q c is n parts owner.Header in
      ap (λ ws. run limit s (keyword e.keyword ∷ ws)) (append_assoc list (mark Semicolon ∷ []) rest)
      ∙ header_step (ends_header (length h) Keyword e.keyword) (names_header_entity (length h) Keyword e.keyword) (record s { place = FixedAt fixed.HeaderSectionEnd }) (starts_entity owner.Header s e.keyword) (list ++ mark Semicolon ∷ rest) ends names
      ∙ own_list_is_read e.keyword e.params h ss q c is n parts owner.Header (mark Semicolon ∷ rest) fits

  pub header_is_read : (es h : List Entity) (ss : List Section) (q : Option (List Param)) (c : ℕ) (is : List Instance) (n : ℕ) (parts : List Entity) (rest : List Word) → HeaderFrom (length h) es → run limit (base HeaderEntity h ss q c is n parts owner.Header) (flat_map header_words es ++ rest) ≡ run limit (base HeaderEntity (h ++ es) ss q c is n parts owner.Header) rest
  header_is_read [] h ss q c is n parts rest all = ap (λ k. run limit (base HeaderEntity k ss q c is n parts owner.Header) rest) (sym (append-nil h))
  header_is_read (e ∷ es) h ss q c is n parts rest all =
      let more = subst (λ count. HeaderFrom count es) (sym (length-append h (e ∷ []))) all.3 in
      ap (run limit (base HeaderEntity h ss q c is n parts owner.Header)) (append_assoc (header_words e) (flat_map header_words es) rest)
      ∙ header_entity_is_read e h ss q c is n parts (flat_map header_words es ++ rest) all.0 all.1 all.2
      ∙ header_is_read es (h ++ e ∷ []) ss q c is n parts rest more
      ∙ ap (λ k. run limit (base HeaderEntity k ss q c is n parts owner.Header) rest) (append_assoc h (e ∷ []) es)

  fresh_step : (b : Bool) (why : Refusal) (t : Reader) (ws : List Word) → b ≡ false → and_then (cond b (Err why) (Ok t)) (λ next. run limit next ws) ≡ run limit t ws
  fresh_step b why t ws h = ap (λ c. and_then (cond c (Err why) (Ok t)) (λ next. run limit next ws)) h

  number_is_read : (n m : ℕ) (h : List Entity) (ss : List Section) (q : Option (List Param)) (c : ℕ) (is : List Instance) (o : Owner) (rest : List Word) → has_number n is ≡ false → run limit (base InstanceAt h ss q c is m [] o) (mark (Number n) ∷ mark Equals ∷ rest) ≡ run limit (base Body h ss q c is n [] o) rest
  number_is_read n m h ss q c is o rest new = fresh_step (has_number n is) (twice n) (base (FixedAt fixed.Equals) h ss q c is n [] o) (mark Equals ∷ rest) new

  simple_is_read : (e : Entity) (n m : ℕ) (h : List Entity) (ss : List Section) (q : Option (List Param)) (c : ℕ) (is : List Instance) (o : Owner) (rest : List Word) → has_number n is ≡ false → Fits e → run limit (base InstanceAt h ss q c is m [] o) (instance_words n (entity_words e) ++ rest) ≡ run limit (base InstanceAt h ss q (c + 1) (is ++ (record { number = n; parts = e ∷ [] }) ∷ []) n [] owner.Simple) rest
  simple_is_read e n m h ss q c is o rest new fits =
      let list = list_words (words_of e.params) in
      ap (λ ws. run limit (base InstanceAt h ss q c is m [] o) (mark (Number n) ∷ mark Equals ∷ keyword e.keyword ∷ ws)) (append_assoc list (mark Semicolon ∷ []) rest)
      ∙ number_is_read n m h ss q c is o (keyword e.keyword ∷ list ++ mark Semicolon ∷ rest) new
      ∙ own_list_is_read e.keyword e.params h ss q c is n [] owner.Simple (mark Semicolon ∷ rest) fits
      ∙ fresh_step (has_number n is) (twice n) (base (FixedAt fixed.InstanceEnd) h ss q (c + 1) (is ++ (record { number = n; parts = e ∷ [] }) ∷ []) n [] owner.Simple) (mark Semicolon ∷ rest) new

  -- the parts of a complex instance behind the first
  parts_are_read : (es ps : List Entity) (n : ℕ) (h : List Entity) (ss : List Section) (q : Option (List Param)) (c : ℕ) (is : List Instance) (rest : List Word) → AllByRecursion Fits es → run limit (base NextPart h ss q c is n ps owner.Complex) (flat_map entity_words es ++ rest) ≡ run limit (base NextPart h ss q c is n (ps ++ es) owner.Complex) rest
  parts_are_read [] ps n h ss q c is rest fits = ap (λ qs. run limit (base NextPart h ss q c is n qs owner.Complex) rest) (sym (append-nil ps))
  parts_are_read (e ∷ es) ps n h ss q c is rest fits =
      let list = list_words (words_of e.params) in
      let others = flat_map entity_words es in
      ap (λ ws. run limit (base NextPart h ss q c is n ps owner.Complex) (keyword e.keyword ∷ ws)) (append_assoc list others rest)
      ∙ own_list_is_read e.keyword e.params h ss q c is n ps owner.Complex (others ++ rest) fits.0
      ∙ parts_are_read es (ps ++ e ∷ []) n h ss q c is rest fits.1
      ∙ ap (λ qs. run limit (base NextPart h ss q c is n qs owner.Complex) rest) (append_assoc ps (e ∷ []) es)

  enclosed_is_read : (e : Entity) (es : List Entity) (n m : ℕ) (h : List Entity) (ss : List Section) (q : Option (List Param)) (c : ℕ) (is : List Instance) (o : Owner) (rest : List Word) → has_number n is ≡ false → AllByRecursion Fits (e ∷ es) → run limit (base InstanceAt h ss q c is m [] o) (instance_words n (enclosed_words (e ∷ es)) ++ rest) ≡ run limit (base InstanceAt h ss q (c + 1) (is ++ (record { number = n; parts = e ∷ es }) ∷ []) n [] owner.Complex) rest
  enclosed_is_read e es n m h ss q c is o rest new fits =
      let list = list_words (words_of e.params) in
      let others = flat_map entity_words es in
      let tail = mark RightParen ∷ mark Semicolon ∷ rest in
      let regroup : ((((list ++ others) ++ mark RightParen ∷ []) ++ mark Semicolon ∷ []) ++ rest) ≡ list ++ (others ++ tail) = simp append_assoc in
      ap (λ ws. run limit (base InstanceAt h ss q c is m [] o) (mark (Number n) ∷ mark Equals ∷ mark LeftParen ∷ keyword e.keyword ∷ ws)) regroup
      ∙ number_is_read n m h ss q c is o (mark LeftParen ∷ keyword e.keyword ∷ list ++ (others ++ tail)) new
      ∙ own_list_is_read e.keyword e.params h ss q c is n [] owner.Complex (others ++ tail) fits.0
      ∙ parts_are_read es (e ∷ []) n h ss q c is tail fits.1
      ∙ fresh_step (has_number n is) (twice n) (base (FixedAt fixed.InstanceEnd) h ss q (c + 1) (is ++ (record { number = n; parts = e ∷ es }) ∷ []) n [] owner.Complex) (mark Semicolon ∷ rest) new

  -- the reader behind an instance
  abbrev pub InstanceIsRead : List Entity → List Section → Option (List Param) → ℕ → List Instance → ℕ → Owner → List Word → List Word → Instance → Type 0
  InstanceIsRead h ss q c is m o ws rest i = (owner : Owner) × (run limit (base InstanceAt h ss q c is m [] o) (ws ++ rest) ≡ run limit (base InstanceAt h ss q (c + 1) (is ++ i ∷ []) i.number [] owner) rest)

  parts_instance_is_read : (ps : List Entity) (n m : ℕ) (h : List Entity) (ss : List Section) (q : Option (List Param)) (c : ℕ) (is : List Instance) (o : Owner) (ws rest : List Word) → AreInstanceWords (record { number = n; parts = ps }) ws → 0 < length ps → AllByRecursion Fits ps → has_number n is ≡ false → InstanceIsRead h ss q c is m o ws rest (record { number = n; parts = ps })
  parts_instance_is_read [] n m h ss q c is o ws rest words some fits new = absurd (omega arith)
  parts_instance_is_read (e ∷ []) n m h ss q c is o ws rest (inl w) some fits new = (owner.Simple, ap (λ xs. run limit (base InstanceAt h ss q c is m [] o) (xs ++ rest)) w ∙ simple_is_read e n m h ss q c is o rest new fits.0)
  parts_instance_is_read (e ∷ []) n m h ss q c is o ws rest (inr w) some fits new = (owner.Complex, ap (λ xs. run limit (base InstanceAt h ss q c is m [] o) (xs ++ rest)) w ∙ enclosed_is_read e [] n m h ss q c is o rest new fits)
  parts_instance_is_read (d ∷ e ∷ es) n m h ss q c is o ws rest (inl w) some fits new = (owner.Complex, ap (λ xs. run limit (base InstanceAt h ss q c is m [] o) (xs ++ rest)) w ∙ enclosed_is_read d (e ∷ es) n m h ss q c is o rest new fits)
  parts_instance_is_read (d ∷ e ∷ es) n m h ss q c is o ws rest (inr w) some fits new = (owner.Complex, ap (λ xs. run limit (base InstanceAt h ss q c is m [] o) (xs ++ rest)) w ∙ enclosed_is_read d (e ∷ es) n m h ss q c is o rest new fits)

  pub instance_is_read : (i : Instance) (m : ℕ) (h : List Entity) (ss : List Section) (q : Option (List Param)) (c : ℕ) (is : List Instance) (o : Owner) (ws rest : List Word) → AreInstanceWords i ws → HasPart i → AllByRecursion Fits i.parts → has_number i.number is ≡ false → InstanceIsRead h ss q c is m o ws rest i
  instance_is_read i m h ss q c is o ws rest words some fits new = parts_instance_is_read i.parts i.number m h ss q c is o ws rest words some fits new

  abbrev pub AllFit : List Instance → Type 0
  AllFit is = AllByRecursion (λ i. AllByRecursion Fits i.parts) is

  abbrev pub DataIsRead : List Entity → List Section → Option (List Param) → ℕ → List Instance → ℕ → Owner → List Word → List Word → List Instance → Type 0
  DataIsRead h ss q c is m o ws rest js = (number : ℕ) × (owner : Owner) × (run limit (base InstanceAt h ss q c is m [] o) (ws ++ rest) ≡ run limit (base InstanceAt h ss q (c + length js) (is ++ js) number [] owner) rest)

  pub data_is_read : (js : List Instance) (m : ℕ) (h : List Entity) (ss : List Section) (q : Option (List Param)) (c : ℕ) (is : List Instance) (o : Owner) (ws rest : List Word) → AreDataWords js ws → AllByRecursion HasPart js → AllFit js → NumbersDiffer (is ++ js) → DataIsRead h ss q c is m o ws rest js
  data_is_read [] m h ss q c is o ws rest words some fits differ = (
    m,
    o,
    ap (λ xs. run limit (base InstanceAt h ss q c is m [] o) (xs ++ rest)) words ∙ ap (λ js. run limit (base InstanceAt h ss q c js m [] o) rest) (sym (append-nil is))
        ∙ ap (λ k. run limit (base InstanceAt h ss q k (is ++ []) m [] o) rest) (let z : c ≡ c + length {A = Instance} [] = omega arith in z),
  )
  data_is_read (j ∷ js) m h ss q c is o ws rest words some fits differ =
      let new = has_number-false j.number is (new_number is j js differ) in
      let one = instance_is_read j m h ss q c is o words.0 (words.1 ++ rest) words.2 some.0 fits.0 new in
      let differ' = subst NumbersDiffer (sym (append_assoc is (j ∷ []) js)) differ in
      let more = data_is_read js j.number h ss q (c + 1) (is ++ j ∷ []) one.0 words.1 rest words.3 some.1 fits.1 differ' in (
        more.0,
        more.1,
        ap (λ xs. run limit (base InstanceAt h ss q c is m [] o) (xs ++ rest)) words.4
            ∙ ap (run limit (base InstanceAt h ss q c is m [] o)) (append_assoc words.0 words.1 rest)
            ∙ one.1
            ∙ more.2
            ∙ ap (λ ks. run limit (base InstanceAt h ss q (c + 1 + length js) ks more.0 [] more.1) rest) (append_assoc is (j ∷ []) js)
            ∙ ap (λ k. run limit (base InstanceAt h ss q k (is ++ j ∷ js) more.0 [] more.1) rest) (let z : c + 1 + length js ≡ c + length (j ∷ js) = omega arith in z),
      )

  -- Sections.

  -- sections that have these instances, behind others
  pub record AreSectioned (ts : List Section) (is js : List Instance) : Type 0 where
    pub counts : counted ts ≡ length js
    pub lists : AllByRecursion Fits (flat_map (λ t. data_entities t.params) ts)
    pub some : AllByRecursion HasPart js
    pub fit : AllFit js
    pub differ : NumbersDiffer (is ++ js)

  first_of : (t : Section) (ts : List Section) (is js : List Instance) → AreSectioned (t ∷ ts) is js → AreSectioned (t ∷ []) is (take t.count js)
  first_of t ts is js a =
      let own = take t.count js in
      let others = drop t.count js in
      let split = sym (take-append-drop t.count js) in
      let sum = sum_by-cons (λ (s : Section). s.count) t ts in
      let one = sum_by-cons (λ (s : Section). s.count) t [] in
      let counts = a.counts in
      let size : length own ≡ t.count = length-take-le t.count js (omega arith) in
      record {
        counts = one ∙ (let z : t.count + 0 ≡ t.count = omega arith in z) ∙ sym size;
        lists = subst (AllByRecursion Fits) (sym (append-nil (data_entities t.params))) (front_all Fits (data_entities t.params) (flat_map (λ s. data_entities s.params) ts) a.lists);
        some = front_all HasPart own others (subst (AllByRecursion HasPart) split a.some);
        fit = front_all (λ i. AllByRecursion Fits i.parts) own others (subst AllFit split a.fit);
        differ = differ_front (is ++ own) others (subst NumbersDiffer (ap (λ ks. is ++ ks) split ∙ sym (append_assoc is own others)) a.differ);
      }

  others_of : (t : Section) (ts : List Section) (is js : List Instance) → AreSectioned (t ∷ ts) is js → AreSectioned ts (is ++ take t.count js) (drop t.count js)
  others_of t ts is js a =
      let own = take t.count js in
      let others = drop t.count js in
      let split = sym (take-append-drop t.count js) in
      let sum = sum_by-cons (λ (s : Section). s.count) t ts in
      let counts = a.counts in
      let size : length own ≡ t.count = length-take-le t.count js (omega arith) in
      let whole : length js ≡ length own + length others = ap length split ∙ length-append own others in
      record {
        counts = omega arith;
        lists = back_all Fits (data_entities t.params) (flat_map (λ s. data_entities s.params) ts) a.lists;
        some = back_all HasPart own others (subst (AllByRecursion HasPart) split a.some);
        fit = back_all (λ i. AllByRecursion Fits i.parts) own others (subst AllFit split a.fit);
        differ = subst NumbersDiffer (ap (λ ks. is ++ ks) split ∙ sym (append_assoc is own others)) a.differ;
      }

  -- the list of a section may be opened where that of an entity may
  section_list_is_read : (ps : List Param) (h : List Entity) (ss : List Section) (q : Option (List Param)) (c : ℕ) (is : List Instance) (n : ℕ) (o : Owner) (rest : List Word) → Fits (data_entity ps) → run limit (record (base SectionParams h ss q c is n [] o) { keyword = codes "DATA" }) (list_words (words_of ps) ++ rest) ≡ and_then (takes_entity o (base AfterParam h ss q c is n [] o) (data_entity ps)) (λ next. run limit next rest)
  section_list_is_read ps h ss q c is n o rest fits =
      let here = record (base SectionParams h ss q c is n [] o) { keyword = codes "DATA" } in
      let own = record (base OwnList h ss q c is n [] o) { keyword = codes "DATA" } in
      let opens : run limit here (mark LeftParen ∷ body_words (words_of ps) ++ rest) ≡ run limit own (mark LeftParen ∷ body_words (words_of ps) ++ rest) = refl in
      ap (λ ws. run limit here (ws ++ rest)) (list_words_is (words_of ps))
      ∙ opens
      ∙ ap (λ ws. run limit own (ws ++ rest)) (sym (list_words_is (words_of ps)))
      ∙ own_list_is_read (codes "DATA") ps h ss q c is n [] o rest fits

  data_word_is_read : (p : Option (List Param)) (h : List Entity) (ss : List Section) (q : Option (List Param)) (c : ℕ) (is : List Instance) (n : ℕ) (o : Owner) (rest : List Word) → AllByRecursion Fits (data_entities p) → run limit (base SectionAt h ss q c is n [] o) (data_words p ++ rest) ≡ run limit (base InstanceAt h ss p 0 is n [] owner.Section) rest
  data_word_is_read None h ss q c is n o rest fits = refl
  data_word_is_read (Some ps) h ss q c is n o rest fits =
      let list = list_words (words_of ps) in
      ap (λ ws. run limit (base SectionAt h ss q c is n [] o) (keyword (codes "DATA") ∷ ws)) (append_assoc list (mark Semicolon ∷ []) rest)
      ∙ section_list_is_read ps h ss q c is n owner.Section (mark Semicolon ∷ rest) fits.0

  -- a section may begin at this place
  abbrev pub MayBegin : Place → Type 0
  MayBegin place = (p : Option (List Param)) (h : List Entity) (ss : List Section) (q : Option (List Param)) (c : ℕ) (is : List Instance) (n : ℕ) (o : Owner) (rest : List Word) → run limit (base place h ss q c is n [] o) (data_words p ++ rest) ≡ run limit (base SectionAt h ss q c is n [] o) (data_words p ++ rest)

  first_begins : MayBegin SectionAt
  first_begins p h ss q c is n o rest = refl

  next_begins : MayBegin NextSection
  next_begins None h ss q c is n o rest = refl
  next_begins (Some ps) h ss q c is n o rest = refl

  -- the reader behind sections
  abbrev pub SectionsAreRead : Place → List Entity → List Section → Option (List Param) → ℕ → List Instance → ℕ → Owner → List Word → List Section → List Instance → List Word → Type 0
  SectionsAreRead place h ss q c is m o ws ts js rest = (number : ℕ) × (owner : Owner) × (run limit (base place h ss q c is m [] o) ws ≡ run limit (base NextSection h (ss ++ ts) None 0 (is ++ js) number [] owner) rest)

  section_regrouped : (d own rest : List Word) → (d ++ own ++ section_end_words) ++ rest ≡ d ++ (own ++ (section_end_words ++ rest))
  section_regrouped d own rest = simp append_assoc

  section_is_read : (place : Place) → MayBegin place → (t : Section) (own : List Instance) (h : List Entity) (ss : List Section) (q : Option (List Param)) (c : ℕ) (is : List Instance) (m : ℕ) (o : Owner) (ws rest : List Word) → AreDataWords own ws → AreSectioned (t ∷ []) is own → SectionsAreRead place h ss q c is m o (section_words t ws ++ rest) (t ∷ []) own rest
  section_is_read place may t own h ss q c is m o ws rest words a =
      let tail = section_end_words ++ rest in
      let all = data_is_read own m h ss t.params 0 is owner.Section ws tail words a.some a.fit a.differ in
      let one = sum_by-cons (λ (s : Section). s.count) t [] in
      let counts = a.counts in
      let size : 0 + length own ≡ t.count = omega arith in (
        all.0,
        all.1,
        ap (run limit (base place h ss q c is m [] o)) (section_regrouped (data_words t.params) ws rest)
            ∙ may t.params h ss q c is m o (ws ++ tail)
            ∙ data_word_is_read t.params h ss q c is m o (ws ++ tail) (subst (AllByRecursion Fits) (append-nil (data_entities t.params)) a.lists)
            ∙ all.2
            ∙ ap (λ k. run limit (base InstanceAt h ss t.params k (is ++ own) all.0 [] all.1) tail) size,
      )

  -- the first of sections, and those behind it
  then_are_read : (place : Place) (h : List Entity) (ss : List Section) (q : Option (List Param)) (c : ℕ) (is : List Instance) (m : ℕ) (o : Owner) (t : Section) (ts : List Section) (own others : List Instance) (ws rest last : List Word) → (one : SectionsAreRead place h ss q c is m o ws (t ∷ []) own rest) → SectionsAreRead NextSection h (ss ++ t ∷ []) None 0 (is ++ own) one.0 one.1 rest ts others last → SectionsAreRead place h ss q c is m o ws (t ∷ ts) (own ++ others) last
  then_are_read place h ss q c is m o t ts own others ws rest last one more = (
    more.0,
    more.1,
    one.2 ∙ more.2 ∙ ap (λ us. run limit (base NextSection h us None 0 ((is ++ own) ++ others) more.0 [] more.1) last) (append_assoc ss (t ∷ []) ts) ∙ ap (λ ks. run limit (base NextSection h (ss ++ t ∷ ts) None 0 ks more.0 [] more.1) last) (append_assoc is own others),
  )

  next_sections_are_read : (ts : List Section) (h : List Entity) (ss : List Section) (is js : List Instance) (m : ℕ) (o : Owner) (ws rest : List Word) → AreSectionsWords ts js ws → AreSectioned ts is js → SectionsAreRead NextSection h ss None 0 is m o (ws ++ rest) ts js rest
  next_sections_are_read [] h ss is [] m o ws rest words a =
      (m, o, ap (λ xs. run limit (base NextSection h ss None 0 is m [] o) (xs ++ rest)) words ∙ ap (λ us. run limit (base NextSection h us None 0 is m [] o) rest) (sym (append-nil ss)) ∙ ap (λ ks. run limit (base NextSection h (ss ++ []) None 0 ks m [] o) rest) (sym (append-nil is)))
  next_sections_are_read [] h ss is (j ∷ js) m o ws rest words a = absurd (let e : 0 ≡ length (j ∷ js) = a.counts in omega arith)
  next_sections_are_read (t ∷ ts) h ss is js m o ws rest words a =
      let own = take t.count js in
      let others = drop t.count js in
      let one = section_is_read NextSection next_begins t own h ss None 0 is m o words.0 (words.1 ++ rest) words.2 (first_of t ts is js a) in
      let more = next_sections_are_read ts h (ss ++ t ∷ []) (is ++ own) others one.0 one.1 words.1 rest words.3 (others_of t ts is js a) in
      let all = then_are_read NextSection h ss None 0 is m o t ts own others (section_words t words.0 ++ (words.1 ++ rest)) (words.1 ++ rest) rest one more in
      let grouped = ap (λ xs. xs ++ rest) words.4 ∙ append_assoc (section_words t words.0) words.1 rest in
      subst (λ xs. SectionsAreRead NextSection h ss None 0 is m o xs (t ∷ ts) js rest) (sym grouped) (subst (λ ks. SectionsAreRead NextSection h ss None 0 is m o (section_words t words.0 ++ (words.1 ++ rest)) (t ∷ ts) ks rest) (take-append-drop t.count js) all)

  -- the sections of a file
  pub sections_are_read : (ts : List Section) (h : List Entity) (is js : List Instance) (m : ℕ) (o : Owner) (ws rest : List Word) → 0 < length ts → AreSectionsWords ts js ws → AreSectioned ts is js → SectionsAreRead SectionAt h [] None 0 is m o (ws ++ rest) ts js rest
  sections_are_read [] h is js m o ws rest one words a = absurd (omega arith)
  sections_are_read (t ∷ ts) h is js m o ws rest one words a =
      let own = take t.count js in
      let others = drop t.count js in
      let first = section_is_read SectionAt first_begins t own h [] None 0 is m o words.0 (words.1 ++ rest) words.2 (first_of t ts is js a) in
      let more = next_sections_are_read ts h (t ∷ []) (is ++ own) others first.0 first.1 words.1 rest words.3 (others_of t ts is js a) in
      let all = then_are_read SectionAt h [] None 0 is m o t ts own others (section_words t words.0 ++ (words.1 ++ rest)) (words.1 ++ rest) rest first more in
      let grouped = ap (λ xs. xs ++ rest) words.4 ∙ append_assoc (section_words t words.0) words.1 rest in
      subst (λ xs. SectionsAreRead SectionAt h [] None 0 is m o xs (t ∷ ts) js rest) (sym grouped) (subst (λ ks. SectionsAreRead SectionAt h [] None 0 is m o (section_words t words.0 ++ (words.1 ++ rest)) (t ∷ ts) ks rest) (take-append-drop t.count js) all)

  late_header : (count : ℕ) (es : List Entity) → 3 ≤ count → AllByRecursion (λ e. e.keyword ≢ codes "ENDSEC") es → AllByRecursion Fits es → HeaderFrom count es
  late_header count [] h none fits = tt
  late_header count (e ∷ es) h none fits = (not_ending count e.keyword none.0, late_name count e.keyword h, fits.0, late_header (count + 1) es (omega arith) none.1 fits.1)

  pub header_from : (h : List Entity) → take 3 (map (λ e. e.keyword) h) ≡ header_names → AllByRecursion (λ e. e.keyword ≢ codes "ENDSEC") h → AllByRecursion Fits h → HeaderFrom 0 h
  header_from [] names none fits = tt
  header_from (d ∷ []) names none fits = absurd (let e : d.keyword ∷ [] ≡ header_names = names in cc)
  header_from (d ∷ e ∷ []) names none fits = absurd (let e : d.keyword ∷ e.keyword ∷ [] ≡ header_names = names in cc)
  header_from (d ∷ e ∷ f ∷ es) names none fits =
      let all : d.keyword ∷ e.keyword ∷ f.keyword ∷ [] ≡ header_names = names in
      let first : d.keyword ≡ codes "FILE_DESCRIPTION" = cc in
      let second : e.keyword ≡ codes "FILE_NAME" = cc in
      let third : f.keyword ≡ codes "FILE_SCHEMA" = cc in (
        not_ending 0 d.keyword none.0,
        same_bytes d.keyword _ first,
        fits.0,
        (
          not_ending 1 e.keyword none.1.0,
          same_bytes e.keyword _ second,
          fits.1.0,
          (
            not_ending 2 f.keyword none.1.1.0,
            same_bytes f.keyword _ third,
            fits.1.1.0,
            late_header 3 es (omega arith) none.1.1.1 fits.1.1.1,
          ),
        ),
      )

  ended_step : (b : Bool) (s : Reader) (other : Step) (ws : List Word) → b ≡ true → and_then (cond b (Ok s) other) (λ next. run limit next ws) ≡ run limit s ws
  ended_step b s other ws h = ap (λ c. and_then (cond c (Ok s) other) (λ next. run limit next ws)) h

  fit_parts : (is : List Instance) → AllByRecursion Fits (flat_map (λ i. i.parts) is) → AllFit is
  fit_parts [] h = tt
  fit_parts (i ∷ is) h = (front_all Fits i.parts (flat_map (λ i. i.parts) is) h, fit_parts is (back_all Fits i.parts (flat_map (λ i. i.parts) is) h))

  -- the sections and instances of a file
  pub file_sectioned : (f : Content) → IsFileWithin limit f → AreSectioned f.sections [] f.instances
  file_sectioned f rule =
      let lists = flat_map (λ (s : Section). data_entities s.params) f.sections in
      let parts = flat_map (λ (i : Instance). i.parts) f.instances in
      let fits = both_all (IsNestedWithin limit) IsWhole (entities_of f) rule.nested rule.whole in
      record {
        counts = rule.counts;
        lists = back_all Fits f.header lists (front_all Fits (f.header ++ lists) parts fits);
        some = rule.parts;
        fit = fit_parts f.instances (back_all Fits (f.header ++ lists) parts fits);
        differ = rule.differ;
      }

  -- the words of a file are read as its header, sections and instances
  pub file_is_read : (f : Content) (ws : List Word) → AreFileWords f ws → IsFileWithin limit f → (number : ℕ) × (owner : Owner) × (run limit start ws ≡ Ok (base Done f.header f.sections None 0 f.instances number [] owner))
  file_is_read f ws words rule =
      let h = f.header in
      let hw = flat_map header_words h in
      let lists = flat_map (λ (s : Section). data_entities s.params) f.sections in
      let parts = flat_map (λ (i : Instance). i.parts) f.instances in
      let fits = both_all (IsNestedWithin limit) IsWhole (entities_of f) rule.nested rule.whole in
      let in_header = front_all Fits h lists (front_all Fits (h ++ lists) parts fits) in
      let rest = words.0 ++ file_end_words in
      let all = sections_are_read f.sections h [] f.instances 0 owner.Header words.0 file_end_words rule.section words.1 (file_sectioned f rule) in (
        all.0,
        all.1,
        ap (run limit start) (words.2 ∙ regrouped hw words.0)
            ∙ header_is_read h [] [] None 0 [] 0 [] (section_end_words ++ rest) (header_from h rule.names rule.no_end in_header)
            ∙ ended_step (ends_header (length h) Keyword (codes "ENDSEC")) (base (FixedAt fixed.HeaderSectionEnd) h [] None 0 [] 0 [] owner.Header) _ (mark Semicolon ∷ rest) (and_from _ _ (let t : 3 ≤ length h = three_in_header h rule.names in search (rules, tests)) refl)
            ∙ all.2,
      )
