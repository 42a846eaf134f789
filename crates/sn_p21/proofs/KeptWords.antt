-- Every step keeps the words that were read.
use Rattle.std.proofs.Common.{◌≡◌, ℕ, ◌+◌, ◌<◌, ◌≤◌, Bool, true, false, cond, eqb, inr, ⊎_elim, List, [], ◌∷◌, ◌++◌, length, flat_map, codes, None, Ok, refl, sym, ap, subst, ◌∙◌, append_assoc, append-nil, length-append, arith}
use Rattle.std.specs.List.{AllByRecursion}
use Rattle.std.proofs.lemmas.Bool.{ltb-true, and_parts}
use Rattle.sn_lex.specs.declared.token.Token.{Token}
use Rattle.sn_lex.specs.declared.token.Token.TheVariants.{FileStart, FileEnd, Keyword, Number, Integer, Real, Text, Enumeration, Binary, LeftParen, RightParen, Comma, Semicolon, Equals, Dollar, Star, End}
use Rattle.sn_p21.specs.declared.file.Param.{Param}
use Rattle.sn_p21.specs.declared.file.Param.TheVariants as param
use Rattle.sn_p21.specs.declared.file.Entity.{Entity}
use Rattle.sn_p21.specs.declared.file.Instance.{Instance}
use Rattle.sn_p21.specs.declared.file.Section.{Section}
use Rattle.sn_p21.specs.declared.grammar.place.Place.{Place}
use Rattle.sn_p21.specs.declared.grammar.place.Place.TheVariants.{Fixed as FixedAt, HeaderEntity, OwnList, FirstParam, NextParam, AfterParam, TypedList, Section as SectionAt, NextSection, SectionParams, Instance as InstanceAt, Body, FirstPart, NextPart, Done}
use Rattle.sn_p21.specs.declared.grammar.place.Fixed.TheVariants as fixed
use Rattle.sn_p21.specs.declared.grammar.place.Owner.{Owner}
use Rattle.sn_p21.specs.declared.grammar.place.Owner.TheVariants as owner
use Rattle.sn_p21.specs.declared.grammar.list.Opening.TheVariants.{Plain, Typed}
use Rattle.sn_p21.specs.declared.grammar.list.OpenList.{OpenList}
use Rattle.sn_p21.specs.declared.grammar.reader.Reader.{Reader}
use Rattle.sn_p21.specs.Numbers.{has_number}
use Rattle.sn_p21.specs.Word.{Word, Carries, mark, keyword}
use Rattle.sn_p21.specs.Grammar.{param_words, header_words, enclosed_words, instance_words, data_words, section_words, AreSectionsWords, opening_words, section_end_words, counted, nesting, is_whole}
use Rattle.sn_p21.specs.Reader.{unexpected, twice, step, step_at, accepts, place_after, takes_instance, list_param, param_of_list, takes_param, empty_list, is_typed, names_header_entity, ends_header, starts_entity, step_param, step_first_param, step_own_list, step_section, step_instance, counts_one, ends_section, is_keyword_named, is_keyword}
use Rattle.sn_p21.proofs.ParamLayers.{words_int, words_real, words_text, words_enum, words_binary, words_ref, words_absent, words_derived, words_list, nesting_int, nesting_real, nesting_text, nesting_enum, nesting_binary, nesting_ref, nesting_absent, nesting_derived, whole_int, whole_real, whole_text, whole_enum, whole_binary, whole_ref, whole_absent, whole_derived}
use Rattle.sn_p21.proofs.FilesRead.{Fits}
use Rattle.sn_p21.proofs.ListWords.{begun, lead, comma_words, comma_words_push, closed_words, FitsAt, list_fits, empty_fits, AllAround, AllFitAt, HeadPlain}
use Rattle.sn_p21.proofs.Kept.{InHeader, InSections, InData, number_words, complex_words, Before, outside, InList, BehindParam, NumberAnd, KeptAt, IsOutside, Kept}
use Rattle.sn_p21.proofs.KeptLemmas.{Gave, same_reader, no_reader, went, passed, either, word, named_word, keyword_word, grown, sections_push, counted_push, lists_push}
use Rattle.sn_p21.proofs.KeptSteps.{gone, fixed_kept, param_kept, opened_kept, instance_kept, section_begun, Closing, closed_kept}

keyword_token : (t : Token) → is_keyword t ≡ true → t ≡ Keyword
keyword_token Keyword e = refl
keyword_token _ e = absurd (let z : false ≡ true = e in cc)

never : (a b c : Bool) → cond a false (cond b false (cond c false false)) ≡ false
never true b c = refl
never false true c = refl
never false false true = refl
never false false false = refl

pub named_keyword : (count : ℕ) (t : Token) (v : List ℕ) → names_header_entity count t v ≡ true → is_keyword t ≡ true
named_keyword count Keyword v e = refl
named_keyword count _ v e = absurd (let z : false ≡ true = sym (never (eqb count 0) (eqb count 1) (eqb count 2)) ∙ e in cc)

module _ (limit : ℕ) where
  -- a mark
  marked : (t : Token) (v : List ℕ) (s : Reader) (ws : List Word) → v ≡ [] → Kept limit s (ws ++ mark t ∷ []) → Kept limit s (ws ++ word t v ∷ [])
  marked t v s ws e k = subst (λ x. Kept limit s (ws ++ word t x ∷ [])) (sym e) k

  atom_fits : (s : Reader) (p : Param) → length s.outer + 1 ≤ limit → is_whole p ≡ true → nesting p ≡ 0 → FitsAt limit (1 + length s.outer) p
  atom_fits s p room whole flat = (whole, omega arith)

  -- a parameter of one word
  value_kept : (s r : Reader) (ws : List Word) (p : Param) (w : Word) → InList limit s ws → param_words p ≡ w ∷ [] → is_whole p ≡ true → nesting p ≡ 0 → Gave (Ok (takes_param s p)) r → Kept limit r (ws ++ w ∷ [])
  value_kept s r ws p w k words whole flat h = gone limit _ r _ (same_reader _ r h) (param_kept limit s ws (w ∷ []) p k words (atom_fits s p k.depth whole flat))

  -- a keyword of a typed parameter
  typed_kept : (s r : Reader) (ws : List Word) (v : List ℕ) → InList limit s ws → Gave (Ok (record s { typed = v; place = TypedList })) r → Kept limit r (ws ++ keyword v ∷ [])
  typed_kept s r ws v k h =
      let inside : InList limit (record s { typed = v; place = TypedList }) ws = record { front = k.front; before = k.before; around = k.around; head = k.head; depth = k.depth; list = k.list; words = k.words } in
      gone limit _ r _ (same_reader _ r h) ((ws, inside, refl), tt)

  param_step_kept : (t : Token) (s r : Reader) (v text : List ℕ) (ws : List Word) → Carries t text v → InList limit s ws → Gave (step_param limit s t v) r → Kept limit r (ws ++ word t v ∷ [])
  param_step_kept Keyword s r v text ws c k h = typed_kept s r ws v k h
  param_step_kept LeftParen s r v text ws c k h = marked LeftParen v r ws c (opened_kept limit Plain s r ws k h)
  param_step_kept Integer s r v text ws c k h = value_kept s r ws (param.Int v) (word Integer v) k (words_int v) (whole_int v) (nesting_int v) h
  param_step_kept Real s r v text ws c k h = value_kept s r ws (param.Real v) (word Real v) k (words_real v) (whole_real v) (nesting_real v) h
  param_step_kept Text s r v text ws c k h = value_kept s r ws (param.Text v) (word Text v) k (words_text v) (whole_text v) (nesting_text v) h
  param_step_kept Enumeration s r v text ws c k h = value_kept s r ws (param.Enum v) (word Enumeration v) k (words_enum v) (whole_enum v) (nesting_enum v) h
  param_step_kept Binary s r v text ws c k h = value_kept s r ws (param.Binary v) (word Binary v) k (words_binary v) (whole_binary v) (nesting_binary v) h
  param_step_kept (Number n) s r v text ws c k h = marked (Number n) v r ws c (value_kept s r ws (param.Ref n) (mark (Number n)) k (words_ref n) (whole_ref n) (nesting_ref n) h)
  param_step_kept Dollar s r v text ws c k h = marked Dollar v r ws c (value_kept s r ws param.Absent (mark Dollar) k words_absent whole_absent nesting_absent h)
  param_step_kept Star s r v text ws c k h = marked Star v r ws c (value_kept s r ws param.Derived (mark Star) k words_derived whole_derived nesting_derived h)
  param_step_kept _ s r v text ws c k h = no_reader unexpected r h

  -- an empty list is closed
  empty_closing : (s : Reader) (ws : List Word) → InList limit s ws → s.list ≡ empty_list Plain → Closing limit s (ws ++ mark RightParen ∷ [])
  empty_closing s ws k e =
      record {
        front = k.front;
        before = k.before;
        around = k.around;
        head = k.head;
        depth = k.depth;
        all = k.list.1;
        fits = subst (λ l. FitsAt limit (length s.outer) (list_param l)) (sym e) (empty_fits limit (length s.outer) k.depth);
        words = ap (λ xs. xs ++ mark RightParen ∷ []) (k.words ∙ ap (λ l. outside s k.front ++ begun l) e) ∙ append_assoc (outside s k.front) (mark LeftParen ∷ []) (mark RightParen ∷ []) ∙ ap (λ xs. outside s k.front ++ xs) (sym (words_list []) ∙ ap (λ l. param_words (list_param l)) (sym e));
      }

  -- a list is closed behind its last parameter
  behind_closing : (s : Reader) (ws : List Word) → BehindParam limit s ws → Closing limit s (ws ++ mark RightParen ∷ [])
  behind_closing s ws k =
      let l = s.list in
      let z : 1 + length s.outer ≡ length s.outer + 1 = omega arith in
      let all = subst (λ ps. AllFitAt limit (length s.outer + 1) ps) k.all (subst (λ d. AllFitAt limit d l.params) z k.fit) in
      let fits = list_fits limit l.opening (length s.outer) k.params k.last k.one k.depth all in
      record {
        front = k.front;
        before = k.before;
        around = k.around;
        head = k.head;
        depth = k.depth;
        all = k.fit;
        fits = subst (λ ps. FitsAt limit (length s.outer) (param_of_list l.opening ps)) (sym k.all) fits;
        words = ap (λ xs. xs ++ mark RightParen ∷ []) k.words ∙ append_assoc (outside s k.front) (lead l.opening ++ (comma_words k.params ++ param_words k.last)) (mark RightParen ∷ []) ∙ ap (λ xs. outside s k.front ++ xs) (closed_words l.opening k.params k.last ∙ ap (λ ps. param_words (param_of_list l.opening ps)) (sym k.all));
      }

  first_step_kept : (t : Token) (s r : Reader) (v text : List ℕ) (ws : List Word) → Carries t text v → InList limit s ws → s.list ≡ empty_list Plain → Gave (step_first_param limit s t v) r → Kept limit r (ws ++ word t v ∷ [])
  first_step_kept RightParen s r v text ws c k e h = marked RightParen v r ws c (closed_kept limit s r (ws ++ mark RightParen ∷ []) (empty_closing s ws k e) h)
  first_step_kept FileStart s r v text ws c k e h = no_reader unexpected r h
  first_step_kept FileEnd s r v text ws c k e h = no_reader unexpected r h
  first_step_kept Comma s r v text ws c k e h = no_reader unexpected r h
  first_step_kept Semicolon s r v text ws c k e h = no_reader unexpected r h
  first_step_kept Equals s r v text ws c k e h = no_reader unexpected r h
  first_step_kept End s r v text ws c k e h = no_reader unexpected r h
  first_step_kept Keyword s r v text ws c k e h = param_step_kept Keyword s r v text ws c k h
  first_step_kept LeftParen s r v text ws c k e h = param_step_kept LeftParen s r v text ws c k h
  first_step_kept Integer s r v text ws c k e h = param_step_kept Integer s r v text ws c k h
  first_step_kept Real s r v text ws c k e h = param_step_kept Real s r v text ws c k h
  first_step_kept Text s r v text ws c k e h = param_step_kept Text s r v text ws c k h
  first_step_kept Enumeration s r v text ws c k e h = param_step_kept Enumeration s r v text ws c k h
  first_step_kept Binary s r v text ws c k e h = param_step_kept Binary s r v text ws c k h
  first_step_kept (Number n) s r v text ws c k e h = param_step_kept (Number n) s r v text ws c k h
  first_step_kept Dollar s r v text ws c k e h = param_step_kept Dollar s r v text ws c k h
  first_step_kept Star s r v text ws c k e h = param_step_kept Star s r v text ws c k h

  -- a comma between parameters
  comma_kept : (s r : Reader) (ws : List Word) → BehindParam limit s ws → is_typed s.list ≡ false → (record s { place = NextParam }) ≡ r → Kept limit r (ws ++ mark Comma ∷ [])
  comma_kept s r ws k plain e =
      let l = s.list in
      let inside : InList limit (record s { place = NextParam }) (ws ++ mark Comma ∷ []) = record {
        front = k.front;
        before = k.before;
        around = k.around;
        head = k.head;
        depth = k.depth;
        list = ((λ typed. absurd (let z : true ≡ false = sym typed ∙ plain in cc)), k.fit);
        words = ap (λ xs. xs ++ mark Comma ∷ []) k.words ∙ append_assoc (outside s k.front) (lead l.opening ++ (comma_words k.params ++ param_words k.last)) (mark Comma ∷ []) ∙ ap (λ xs. outside s k.front ++ xs) (append_assoc (lead l.opening) (comma_words k.params ++ param_words k.last) (mark Comma ∷ []) ∙ ap (λ xs. lead l.opening ++ xs) (comma_words_push k.params k.last ∙ ap comma_words (sym k.all)));
      } in
      gone limit _ r _ e (inside, tt)

  -- the keyword of an entity
  entity_started : (s r : Reader) (o : Owner) (v : List ℕ) (ws : List Word) → Before limit o s.header s.sections s.section s.instances s.number s.parts v ws → s.outer ≡ [] → starts_entity o s v ≡ r → Kept limit r (ws ++ keyword v ∷ [])
  entity_started s r o v ws b none e = gone limit _ r _ e ((ws, b, refl), none)

  header_kept : (t : Token) (s r : Reader) (v : List ℕ) (ws : List Word) → InHeader limit s.header s.sections s.instances s.parts ws → s.outer ≡ [] → Gave (step_at limit HeaderEntity s t v) r → Kept limit r (ws ++ word t v ∷ [])
  header_kept t s r v ws k none h =
      let count = length s.header in
      ⊎_elim
      (λ (e : (ends_header count t v ≡ true) × ((record s { place = FixedAt fixed.HeaderSectionEnd }) ≡ r)).
      let both = and_parts _ _ e.0 in
      gone limit _ r _ e.1 ((ws, k, ltb-true 2 count both.0, ap (λ w. ws ++ w ∷ []) (named_word t v _ both.1)), none))
      (λ (e : (ends_header count t v ≡ false) × (names_header_entity count t v ≡ true) × (starts_entity owner.Header s v ≡ r)).
      let is = named_keyword count t v e.1 in
      let ends = subst (λ u. ends_header count u v ≡ false) (keyword_token t is) e.0 in
      let names = subst (λ u. names_header_entity count u v ≡ true) (keyword_token t is) e.1 in
      subst (λ w. Kept limit r (ws ++ w ∷ [])) (sym (keyword_word t v is)) (entity_started s r owner.Header v ws (k, ends, names) none e.2))
      (either (ends_header count t v) (names_header_entity count t v) unexpected _ _ r h)

  own_list_kept : 0 < limit → (t : Token) (s r : Reader) (v text : List ℕ) (ws : List Word) → Carries t text v → KeptAt limit OwnList s ws → s.outer ≡ [] → Gave (step_own_list s t) r → Kept limit r (ws ++ word t v ∷ [])
  own_list_kept some LeftParen s r v text ws c k none h =
      let t = record s { list = empty_list Plain; place = FirstParam } in
      let inside : InList limit t (ws ++ mark LeftParen ∷ []) = record {
        front = k.0;
        before = k.1;
        around = subst (AllAround limit 1) (sym none) tt;
        head = subst (λ ls. HeadPlain (ls ++ empty_list Plain ∷ [])) (sym none) refl;
        depth = (let e = ap (λ ls. length {A = OpenList} ls) none in omega arith);
        list = (λ e. refl, tt);
        words = ap (λ xs. xs ++ mark LeftParen ∷ []) (k.2 ∙ sym (append-nil (k.0 ++ keyword s.keyword ∷ [])) ∙ ap (λ ls. (k.0 ++ keyword s.keyword ∷ []) ++ flat_map begun ls) (sym none));
      } in
      marked LeftParen v r ws c (gone limit t r _ (same_reader _ r h) ((inside, refl), tt))
  own_list_kept some _ s r v text ws c k none h = no_reader unexpected r h

  -- Sections.

  ended_words : (a sections d rows : List Word) → (((a ++ sections) ++ d) ++ rows) ++ section_end_words ≡ a ++ (sections ++ (d ++ rows ++ section_end_words))
  ended_words a sections d rows = simp append_assoc

  -- the section ends
  section_ended : (h : List Entity) (ss : List Section) (s : Section) (is : List Instance) (ws us : List Word) → InData limit h ss s is ws → us ≡ ws ++ section_end_words → InSections limit h (ss ++ s ∷ []) is us
  section_ended h ss s is ws us d e =
      let b = d.before in
      record {
        sections = b.sections ++ section_words s d.rows;
        header = b.header;
        three = b.three;
        derived = subst (λ js. AreSectionsWords (ss ++ s ∷ []) js (b.sections ++ section_words s d.rows)) (sym d.split) (sections_push ss s d.earlier d.own b.sections d.rows b.counts d.count b.derived d.derived);
        counts = counted_push ss s ∙ (let counts = b.counts in let count = d.count in let z : counted ss + s.count ≡ length d.earlier + length d.own = omega arith in z) ∙ sym (length-append d.earlier d.own) ∙ ap length (sym d.split);
        lists = lists_push limit ss s b.lists d.list;
        some = d.some;
        fit = d.fit;
        differ = d.differ;
        words = e ∙ ap (λ xs. xs ++ section_end_words) (d.words ∙ ap (λ xs. (xs ++ data_words s.params) ++ d.rows) b.words) ∙ ended_words (opening_words ++ flat_map header_words h ++ section_end_words) b.sections (data_words s.params) d.rows;
      }

  section_kept : (t : Token) (s r : Reader) (v : List ℕ) (ws : List Word) → InSections limit s.header s.sections s.instances ws → s.parts ≡ [] → s.outer ≡ [] → Gave (step_section s t v) r → Kept limit r (ws ++ word t v ∷ [])
  section_kept t s r v ws k parts none h =
      let w = went (is_keyword_named t v (codes "DATA")) unexpected _ r h in
      let named = named_word t v (codes "DATA") w.0 in
      let name : v ≡ codes "DATA" = ap (λ (u : Word). u.value) named in
      gone limit _ r _ w.1 (((ws, (k, parts, name), ap (λ u. ws ++ u ∷ []) (named ∙ ap keyword (sym name))), refl), none)

  next_section_kept : (t : Token) (s r : Reader) (v text : List ℕ) (ws : List Word) → Carries t text v → KeptAt limit NextSection s ws → s.outer ≡ [] → Gave (step_at limit NextSection s t v) r → Kept limit r (ws ++ word t v ∷ [])
  next_section_kept FileEnd s r v text ws c k none h = marked FileEnd v r ws c (gone limit _ r _ (same_reader _ r h) ((ws, k.0, k.1, refl, k.2), none))
  next_section_kept Keyword s r v text ws c k none h = section_kept Keyword s r v ws k.0 k.1 none h
  next_section_kept _ s r v text ws c k none h = no_reader unexpected r h

  section_params_kept : 0 < limit → (t : Token) (s r : Reader) (v text : List ℕ) (ws : List Word) → Carries t text v → KeptAt limit SectionParams s ws → s.outer ≡ [] → Gave (step_at limit SectionParams s t v) r → Kept limit r (ws ++ word t v ∷ [])
  section_params_kept some LeftParen s r v text ws c k none h = own_list_kept some LeftParen s r v text ws c k.0 none h
  section_params_kept some Semicolon s r v text ws c k none h =
      let front = k.0.0 in
      let b = subst (λ o. Before limit o s.header s.sections s.section s.instances s.number s.parts s.keyword front) k.1 k.0.1 in
      let words : ws ++ mark Semicolon ∷ [] ≡ front ++ data_words None = ap (λ xs. xs ++ mark Semicolon ∷ []) (k.0.2 ∙ ap (λ n. front ++ keyword n ∷ []) b.2) ∙ append_assoc front (keyword (codes "DATA") ∷ []) (mark Semicolon ∷ []) in
      marked Semicolon v r ws c (gone limit _ r _ (same_reader _ r h) ((section_begun limit s.header s.sections None s.instances front _ b.0 tt words, b.1), none))
  section_params_kept some _ s r v text ws c k none h = no_reader unexpected r h

  -- Instances.

  instance_step_kept : (t : Token) (s r : Reader) (v text : List ℕ) (ws : List Word) → Carries t text v → InData limit s.header s.sections s.section s.instances ws → s.parts ≡ [] → s.outer ≡ [] → Gave (step_instance s t v) r → Kept limit r (ws ++ word t v ∷ [])
  instance_step_kept (Number n) s r v text ws c k parts none h =
      let p = passed (has_number n s.instances) (twice n) (record s { number = n; place = FixedAt fixed.Equals }) r h in
      marked (Number n) v r ws c (gone limit _ r _ p.1 ((ws, k, parts, refl, p.0), none))
  instance_step_kept Keyword s r v text ws c k parts none h =
      let w = went (is_keyword_named Keyword v (codes "ENDSEC")) unexpected (ends_section s) r h in
      let words : (ws ++ word Keyword v ∷ []) ++ mark Semicolon ∷ [] ≡ ws ++ section_end_words = ap (λ u. (ws ++ u ∷ []) ++ mark Semicolon ∷ []) (named_word Keyword v _ w.0) ∙ append_assoc ws (keyword (codes "ENDSEC") ∷ []) (mark Semicolon ∷ []) in
      let some : 0 < length (s.sections ++ s.section ∷ []) = omega (arith, length-append s.sections (s.section ∷ [])) in
      gone limit _ r _ w.1 ((section_ended s.header s.sections s.section s.instances ws _ k words, parts, some), none)
  instance_step_kept _ s r v text ws c k parts none h = no_reader unexpected r h

  body_kept : (t : Token) (s r : Reader) (v text : List ℕ) (ws : List Word) → Carries t text v → NumberAnd limit s (number_words s.number) ws → s.outer ≡ [] → Gave (step_at limit Body s t v) r → Kept limit r (ws ++ word t v ∷ [])
  body_kept Keyword s r v text ws c k none h = entity_started s r owner.Simple v ws k none (same_reader _ r h)
  body_kept LeftParen s r v text ws c k none h =
      let e = k.3 in
      marked LeftParen v r ws c (gone limit _ r _ (same_reader _ r h) ((k.0, k.1, k.2, grown ws k.0 (number_words s.number) (mark LeftParen) (mark LeftParen) e refl, k.4), none))
  body_kept _ s r v text ws c k none h = no_reader unexpected r h

  first_part_kept : (t : Token) (s r : Reader) (v text : List ℕ) (ws : List Word) → Carries t text v → Before limit owner.Complex s.header s.sections s.section s.instances s.number s.parts v ws → s.outer ≡ [] → Gave (step_at limit FirstPart s t v) r → Kept limit r (ws ++ word t v ∷ [])
  first_part_kept Keyword s r v text ws c k none h = entity_started s r owner.Complex v ws k none (same_reader _ r h)
  first_part_kept _ s r v text ws c k none h = no_reader unexpected r h

  complex_kept : (ps : List Entity) (s r : Reader) (ws : List Word) → (front : List Word) → InData limit s.header s.sections s.section s.instances front → AllByRecursion (Fits limit) ps → 0 < length ps → ws ≡ front ++ complex_words s.number ps → s.outer ≡ [] → Gave (takes_instance (record s { parts = [] }) ps) r → Kept limit r (ws ++ mark RightParen ∷ [])
  complex_kept ps s r ws front k fit some e none h =
      let n = s.number in
      let p = passed (has_number n s.instances) (twice n) (record s { section = counts_one s.section; instances = s.instances ++ (record { number = n; parts = ps }) ∷ []; parts = []; place = FixedAt fixed.InstanceEnd }) r h in
      let iw = instance_words n (enclosed_words ps) in
      let same = ap (λ xs. (xs ++ mark RightParen ∷ []) ++ mark Semicolon ∷ []) e ∙ ap (λ xs. xs ++ mark Semicolon ∷ []) (append_assoc front (complex_words n ps) (mark RightParen ∷ [])) ∙ append_assoc front (mark (Number n) ∷ mark Equals ∷ enclosed_words ps) (mark Semicolon ∷ []) in
      gone limit _ r _ p.1 ((instance_kept limit s.header s.sections s.section s.instances front n ps iw ((ws ++ mark RightParen ∷ []) ++ mark Semicolon ∷ []) k p.0 some fit (inr refl) same, refl), none)

  next_part_kept : (t : Token) (s r : Reader) (v text : List ℕ) (ws : List Word) → Carries t text v → KeptAt limit NextPart s ws → s.outer ≡ [] → Gave (step_at limit NextPart s t v) r → Kept limit r (ws ++ word t v ∷ [])
  next_part_kept RightParen s r v text ws c k none h = marked RightParen v r ws c (complex_kept s.parts s r ws k.0 k.1 k.2 k.3 k.4 none h)
  next_part_kept Keyword s r v text ws c k none h = first_part_kept Keyword s r v text ws c (k.0, k.1, k.2, k.4, k.5) none h
  next_part_kept _ s r v text ws c k none h = no_reader unexpected r h

  after_param_kept : (t : Token) (s r : Reader) (v text : List ℕ) (ws : List Word) → Carries t text v → BehindParam limit s ws → Gave (step_at limit AfterParam s t v) r → Kept limit r (ws ++ word t v ∷ [])
  after_param_kept Comma s r v text ws c k h =
      let p = passed (is_typed s.list) unexpected (record s { place = NextParam }) r h in
      marked Comma v r ws c (comma_kept s r ws k p.0 p.1)
  after_param_kept RightParen s r v text ws c k h = marked RightParen v r ws c (closed_kept limit s r (ws ++ mark RightParen ∷ []) (behind_closing s ws k) h)
  after_param_kept _ s r v text ws c k h = no_reader unexpected r h

  typed_list_kept : (t : Token) (s r : Reader) (v text : List ℕ) (ws : List Word) → Carries t text v → KeptAt limit TypedList s ws → Gave (step_at limit TypedList s t v) r → Kept limit r (ws ++ word t v ∷ [])
  typed_list_kept LeftParen s r v text ws c k h =
      let i = k.1 in
      let u = record s { typed = [] } in
      let inside : InList limit u k.0 = record { front = i.front; before = i.before; around = i.around; head = i.head; depth = i.depth; list = i.list; words = i.words } in
      let kept = opened_kept limit (Typed s.typed) u r k.0 inside h in
      marked LeftParen v r ws c (subst (Kept limit r) (sym (append_assoc k.0 (keyword s.typed ∷ []) (mark LeftParen ∷ [])) ∙ ap (λ xs. xs ++ mark LeftParen ∷ []) (sym k.2)) kept)
  typed_list_kept _ s r v text ws c k h = no_reader unexpected r h

  -- Every step.

  step_at_kept : 0 < limit → (p : Place) (s r : Reader) (t : Token) (v text : List ℕ) (ws : List Word) → Carries t text v → KeptAt limit p s ws → IsOutside p s → Gave (step_at limit p s t v) r → Kept limit r (ws ++ word t v ∷ [])
  step_at_kept some (FixedAt f) s r t v text ws c k o h =
      let w = went (accepts f t v) unexpected (record s { place = place_after f }) r h in
      gone limit _ r _ w.1 (fixed_kept limit f s t v text ws c w.0 k o)
  step_at_kept some HeaderEntity s r t v text ws c k o h = header_kept t s r v ws k o h
  step_at_kept some OwnList s r t v text ws c k o h = own_list_kept some t s r v text ws c k o h
  step_at_kept some FirstParam s r t v text ws c k o h = first_step_kept t s r v text ws c k.0 k.1 h
  step_at_kept some NextParam s r t v text ws c k o h = param_step_kept t s r v text ws c k h
  step_at_kept some AfterParam s r t v text ws c k o h = after_param_kept t s r v text ws c k h
  step_at_kept some TypedList s r t v text ws c k o h = typed_list_kept t s r v text ws c k h
  step_at_kept some SectionAt s r t v text ws c k o h = section_kept t s r v ws k.0 k.1 o h
  step_at_kept some NextSection s r t v text ws c k o h = next_section_kept t s r v text ws c k o h
  step_at_kept some SectionParams s r t v text ws c k o h = section_params_kept some t s r v text ws c k o h
  step_at_kept some InstanceAt s r t v text ws c k o h = instance_step_kept t s r v text ws c k.0 k.1 o h
  step_at_kept some Body s r t v text ws c k o h = body_kept t s r v text ws c k o h
  step_at_kept some FirstPart s r t v text ws c k o h =
      first_part_kept t s r v text ws c (k.0, k.1, subst (AllByRecursion (Fits limit)) (sym k.2) tt, k.3 ∙ ap (λ ps. k.0 ++ complex_words s.number ps) (sym k.2), k.4) o h
  step_at_kept some NextPart s r t v text ws c k o h = next_part_kept t s r v text ws c k o h
  step_at_kept some Done s r t v text ws c k o h = no_reader unexpected r h

  pub step_kept : 0 < limit → (s r : Reader) (t : Token) (v text : List ℕ) (ws : List Word) → Carries t text v → Kept limit s ws → Gave (step limit s t v) r → Kept limit r (ws ++ word t v ∷ [])
  step_kept some s r t v text ws c k h = step_at_kept some s.place s r t v text ws c k.0 k.1 h
