-- A step keeps the words that were read, with the word that it takes behind them.
use Rattle.std.proofs.Common.{◌≡◌, ℕ, ◌+◌, ◌<◌, ◌≤◌, true, false, nat_lt, ltb-true, inl, ⊎_elim, List, [], ◌∷◌, ◌++◌, length, flat_map, map, codes, Option, Some, None, refl, sym, ap, subst, ◌∙◌, append_assoc, append-nil, length-append, arith}
use Rattle.std.specs.List.{AllByRecursion}
use Rattle.std.proofs.lemmas.Grind.{flat_map-append}
use Rattle.sn_lex.specs.declared.token.Token.{Token}
use Rattle.sn_lex.specs.declared.token.Token.TheVariants.{FileStart, Keyword, Number, LeftParen, Semicolon, Equals}
use Rattle.sn_p21.specs.declared.file.Param.{Param}
use Rattle.sn_p21.specs.declared.file.Entity.{Entity}
use Rattle.sn_p21.specs.declared.file.Instance.{Instance}
use Rattle.sn_p21.specs.declared.file.Section.{Section}
use Rattle.sn_p21.specs.declared.grammar.place.Place.TheVariants.{Fixed as FixedAt, NextPart}
use Rattle.sn_p21.specs.declared.grammar.place.Fixed.{Fixed}
use Rattle.sn_p21.specs.declared.grammar.place.Fixed.TheVariants as fixed
use Rattle.sn_p21.specs.declared.grammar.place.Owner.{Owner}
use Rattle.sn_p21.specs.declared.grammar.place.Owner.TheVariants as owner
use Rattle.sn_p21.specs.declared.grammar.list.Opening.{Opening}
use Rattle.sn_p21.specs.declared.grammar.list.Opening.TheVariants.{Plain, Typed}
use Rattle.sn_p21.specs.declared.grammar.list.OpenList.{OpenList}
use Rattle.sn_p21.specs.declared.grammar.reader.Reader.{Reader}
use Rattle.sn_p21.specs.Numbers.{has_number, NumbersDiffer}
use Rattle.sn_p21.specs.Word.{Word, Carries, mark, keyword}
use Rattle.sn_p21.specs.Grammar.{param_words, list_words, entity_words, header_words, instance_words, AreInstanceWords, AreSectionsWords, data_entities, data_words, opening_words, section_end_words, counted}
use Rattle.sn_p21.specs.Reader.{twice, deep, begins_section, counts_one, accepts, place_after, closes, closes_in, takes_entity, takes_param, list_param, param_of_list, list_with, empty_list, opens, first_place, names_header_entity, ends_header}
use Rattle.sn_p21.proofs.NumberLemmas.{not_has_number, differ_push}
use Rattle.sn_p21.proofs.ParamLayers.{words_list}
use Rattle.sn_p21.proofs.FilesRead.{Fits, HeaderFrom, HasPart, AllFit}
use Rattle.sn_p21.proofs.ListWords.{begun, lead, comma_words, FitsAt, fit_push, all_whole, all_within, AllAround, AllFitAt, around_push, around_pop, HeadPlain, head_push, head_pop, head_same, parted_cases}
use Rattle.sn_p21.proofs.Kept.{InSections, InData, number_words, complex_words, Before, IsBefore, outside, InList, FixedKept, Kept}
use Rattle.sn_p21.proofs.KeptLemmas.{Gave, same_reader, went, passed, word, named_word, semicolon_word, equals_word, file_start_word, grown, header_push, header_words_push, data_push, all_push}

begun_push : (ls : List OpenList) (l : OpenList) → flat_map begun (ls ++ l ∷ []) ≡ flat_map begun ls ++ begun l
begun_push ls l = flat_map-append begun ls (l ∷ []) ∙ ap (λ ws. flat_map begun ls ++ ws) (append-nil (begun l))

-- the reader within one list more
abbrev pub opened : Opening → Reader → Reader
opened opening s = record s { outer = s.outer ++ s.list ∷ []; list = empty_list opening; place = first_place opening }

parts_push : (ps : List Entity) (e : Entity) → flat_map entity_words (ps ++ e ∷ []) ≡ flat_map entity_words ps ++ entity_words e
parts_push ps e = flat_map-append entity_words ps (e ∷ []) ∙ ap (λ ws. flat_map entity_words ps ++ ws) (append-nil (entity_words e))

-- Closing a list.

own_list_words : (front : List Word) (k : List ℕ) (outer : List OpenList) (opening : Opening) (ps : List Param) → outer ≡ [] → opening ≡ Plain → (front ++ keyword k ∷ [] ++ flat_map begun outer) ++ param_words (param_of_list opening ps) ≡ front ++ entity_words (record { keyword = k; params = ps })
own_list_words front k outer opening ps none plain =
    ap (λ ls. (front ++ keyword k ∷ [] ++ flat_map begun ls) ++ param_words (param_of_list opening ps)) none
    ∙ ap (λ xs. xs ++ param_words (param_of_list opening ps)) (append-nil (front ++ keyword k ∷ []))
    ∙ append_assoc front (keyword k ∷ []) (param_words (param_of_list opening ps))
    ∙ ap (λ o. front ++ keyword k ∷ param_words (param_of_list o ps)) plain
    ∙ ap (λ xs. front ++ keyword k ∷ xs) (words_list ps)

outside_pushed : (front : List Word) (k : List ℕ) (outer : List OpenList) (ls : List OpenList) (l : OpenList) → outer ≡ ls ++ l ∷ [] → front ++ keyword k ∷ [] ++ flat_map begun outer ≡ (front ++ keyword k ∷ [] ++ flat_map begun ls) ++ begun l
outside_pushed front k outer ls l e = ap (λ xs. front ++ keyword k ∷ [] ++ flat_map begun xs) e ∙ ap (λ xs. front ++ keyword k ∷ [] ++ xs) (begun_push ls l) ∙ sym (append_assoc (front ++ keyword k ∷ []) (flat_map begun ls) (begun l))

module _ (limit : ℕ) where
  -- a step that goes to this reader
  pub gone : (s t : Reader) (ws : List Word) → s ≡ t → Kept limit s ws → Kept limit t ws
  gone s t ws e k = subst (λ r. Kept limit r ws) e k

  -- Words that the grammar fixes.

  pub fixed_kept : (f : Fixed) (s : Reader) (t : Token) (v text : List ℕ) (ws : List Word) → Carries t text v → accepts f t v ≡ true → FixedKept limit f s ws → s.outer ≡ [] → Kept limit (record s { place = place_after f }) (ws ++ word t v ∷ [])
  fixed_kept fixed.FileStart s t v text ws c a k o = ((k.0, grown ws [] [] (word t v) _ k.1 (file_start_word t v text c a)), o)
  fixed_kept fixed.FileStartEnd s t v text ws c a k o = ((k.0, grown ws [] (mark FileStart ∷ []) (word t v) _ k.1 (semicolon_word t v text c a)), o)
  fixed_kept fixed.Header s t v text ws c a k o = ((k.0, grown ws [] (mark FileStart ∷ mark Semicolon ∷ []) (word t v) _ k.1 (named_word t v _ a)), o)
  fixed_kept fixed.HeaderEnd s t v text ws c a k o =
      let e = grown ws [] (mark FileStart ∷ mark Semicolon ∷ keyword (codes "HEADER") ∷ []) (word t v) _ k.1 (semicolon_word t v text c a) in (
        record {
          header = subst (HeaderFrom limit 0) (sym k.0.0) tt;
          sections = k.0.3;
          instances = k.0.1;
          parts = k.0.2;
          words = e ∙ ap (λ h. opening_words ++ flat_map header_words h) (sym k.0.0);
        },
        o,
      )
  fixed_kept fixed.HeaderEntityEnd s t v text ws c a k o =
      let e = ap (λ w. ws ++ w ∷ []) (sym (semicolon_word t v text c a)) in
      (record { header = k.header; sections = k.sections; instances = k.instances; parts = k.parts; words = sym e ∙ k.words }, o)
  fixed_kept fixed.HeaderSectionEnd s t v text ws c a k o =
      let h = k.1 in
      let e = grown ws k.0 _ (word t v) _ k.3 (semicolon_word t v text c a) in (
        (
          record {
            sections = [];
            header = h.header;
            three = k.2;
            derived = subst (λ ss. AreSectionsWords ss s.instances []) (sym h.sections) refl;
            counts = ap counted h.sections ∙ ap length (sym h.instances);
            lists = subst (λ ss. AllByRecursion (Fits limit) (flat_map (λ (u : Section). data_entities u.params) ss)) (sym h.sections) tt;
            some = subst (AllByRecursion HasPart) (sym h.instances) tt;
            fit = subst (AllFit limit) (sym h.instances) tt;
            differ = subst NumbersDiffer (sym h.instances) tt;
            words = e ∙ ap (λ xs. xs ++ section_end_words) h.words ∙ sym (append-nil (opening_words ++ flat_map header_words s.header ++ section_end_words));
          },
          h.parts,
        ),
        o,
      )
  fixed_kept fixed.Equals s t v text ws c a k o = ((k.0, k.1, k.2, grown ws k.0 _ (word t v) _ k.3 (equals_word t v text c a), k.4), o)
  fixed_kept fixed.SectionParamsEnd s t v text ws c a k o =
      ((subst (InData limit s.header s.sections s.section s.instances) (ap (λ w. ws ++ w ∷ []) (sym (semicolon_word t v text c a))) k.0, k.1), o)
  fixed_kept fixed.InstanceEnd s t v text ws c a k o =
      ((subst (InData limit s.header s.sections s.section s.instances) (ap (λ w. ws ++ w ∷ []) (sym (semicolon_word t v text c a))) k.0, k.1), o)
  fixed_kept fixed.DataSectionEnd s t v text ws c a k o =
      ((subst (InSections limit s.header s.sections s.instances) (ap (λ w. ws ++ w ∷ []) (sym (semicolon_word t v text c a))) k.0, k.1, k.2), o)
  fixed_kept fixed.FileEndEnd s t v text ws c a k o = ((k.0, k.1, k.2, grown ws k.0 _ (word t v) _ k.3 (semicolon_word t v text c a), k.4), o)

  -- Lists.

  -- a parameter that is one or more words
  pub param_kept : (s : Reader) (ws more : List Word) (p : Param) → InList limit s ws → param_words p ≡ more → FitsAt limit (1 + length s.outer) p → Kept limit (takes_param s p) (ws ++ more)
  param_kept s ws more p k e fits =
      let l = s.list in
      let before = outside s k.front in (
        record {
          front = k.front;
          before = k.before;
          around = k.around;
          head = head_same s.outer l (list_with l p) refl k.head;
          depth = k.depth;
          params = l.params;
          last = p;
          all = refl;
          one = k.list.0;
          fit = fit_push limit (1 + length s.outer) l.params p k.list.1 fits;
          words = ap (λ xs. xs ++ more) k.words ∙ append_assoc before (begun l) more ∙ ap (λ xs. before ++ xs) (append_assoc (lead l.opening) (comma_words l.params) more ∙ ap (λ xs. lead l.opening ++ (comma_words l.params ++ xs)) (sym e));
        },
        tt,
      )

  list_kept : (opening : Opening) (s : Reader) (ws : List Word) → InList limit s ws → length s.outer + 1 < limit → InList limit (opened opening s) (ws ++ lead opening)
  list_kept opening s ws k room =
      let outer = length-append s.outer (s.list ∷ []) in
      let before = k.front ++ keyword s.keyword ∷ [] in
      record {
        front = k.front;
        before = k.before;
        around = around_push limit 1 s.outer s.list k.around k.list;
        head = head_push s.outer s.list (empty_list opening) k.head;
        depth = omega arith;
        list = (λ e. refl, tt);
        words = ap (λ xs. xs ++ lead opening) (k.words ∙ append_assoc before (flat_map begun s.outer) (begun s.list) ∙ ap (λ xs. before ++ xs) (sym (begun_push s.outer s.list))) ∙ ap (λ xs. (before ++ flat_map begun (s.outer ++ s.list ∷ [])) ++ xs) (sym (append-nil (lead opening)));
      }

  pub opened_kept : (opening : Opening) (s t : Reader) (ws : List Word) → InList limit s ws → Gave (opens limit opening s) t → Kept limit t (ws ++ lead opening)
  opened_kept Plain s t ws k h =
      let w = went (nat_lt (length s.outer + 1) limit) deep (opened Plain s) t h in
      gone (opened Plain s) t _ w.1 ((list_kept Plain s ws k (ltb-true _ _ w.0), refl), tt)
  opened_kept (Typed name) s t ws k h =
      let w = went (nat_lt (length s.outer + 1) limit) deep (opened (Typed name) s) t h in
      gone (opened (Typed name) s) t _ w.1 (list_kept (Typed name) s ws k (ltb-true _ _ w.0), tt)

  -- Entities and instances.

  pub instance_kept : (h : List Entity) (ss : List Section) (sec : Section) (is : List Instance) (front : List Word) (n : ℕ) (ps : List Entity) (iw ws : List Word) → InData limit h ss sec is front → has_number n is ≡ false → 0 < length ps → AllByRecursion (Fits limit) ps → AreInstanceWords (record { number = n; parts = ps }) iw → ws ≡ front ++ iw → InData limit h ss (counts_one sec) (is ++ (record { number = n; parts = ps }) ∷ []) ws
  instance_kept h ss sec is front n ps iw ws d new some fit derived e =
      let i : Instance = record { number = n; parts = ps } in
      record {
        front = d.front;
        earlier = d.earlier;
        before = d.before;
        own = d.own ++ i ∷ [];
        rows = d.rows ++ iw;
        derived = data_push d.own i d.rows iw d.derived derived;
        count = (let count = d.count in let more = length-append d.own (i ∷ []) in omega arith);
        split = ap (λ js. js ++ i ∷ []) d.split ∙ append_assoc d.earlier d.own (i ∷ []);
        list = d.list;
        some = all_push HasPart is i d.some some;
        fit = all_push (λ j. AllByRecursion (Fits limit) j.parts) is i d.fit fit;
        differ = differ_push is i d.differ (not_has_number n is new);
        words = e ∙ ap (λ xs. xs ++ iw) d.words ∙ append_assoc (d.front ++ data_words sec.params) d.rows iw;
      }

  -- a section that has no instance yet
  pub section_begun : (h : List Entity) (ss : List Section) (params : Option (List Param)) (is : List Instance) (front ws : List Word) → InSections limit h ss is front → AllByRecursion (Fits limit) (data_entities params) → ws ≡ front ++ data_words params → InData limit h ss (record { params = params; count = 0 }) is ws
  section_begun h ss params is front ws b list e = record {
    front = front;
    earlier = is;
    before = b;
    own = [];
    rows = [];
    derived = refl;
    count = refl;
    split = sym (append-nil is);
    list = list;
    some = b.some;
    fit = b.fit;
    differ = b.differ;
    words = e ∙ sym (append-nil (front ++ data_words params));
  }

  entity_kept : (o : Owner) (s t : Reader) (ws front : List Word) (e : Entity) → Before limit o s.header s.sections s.section s.instances s.number s.parts e.keyword front → Fits limit e → s.outer ≡ [] → ws ≡ front ++ entity_words e → Gave (takes_entity o s e) t → Kept limit t ws
  entity_kept owner.Header s t ws front e b fits outer w h =
      let z : length s.header ≡ 0 + length s.header = omega arith in
      let hw = flat_map header_words s.header in
      gone (record s { header = s.header ++ e ∷ []; place = FixedAt fixed.HeaderEntityEnd }) t ws (same_reader _ t h) (
        record {
          header = header_push limit 0 s.header e b.0.header (subst (λ n. ends_header n Keyword e.keyword ≡ false) z b.1) (subst (λ n. names_header_entity n Keyword e.keyword ≡ true) z b.2) fits;
          sections = b.0.sections;
          instances = b.0.instances;
          parts = b.0.parts;
          words = ap (λ xs. xs ++ mark Semicolon ∷ []) w ∙ append_assoc front (entity_words e) (mark Semicolon ∷ []) ∙ ap (λ xs. xs ++ header_words e) b.0.words ∙ append_assoc opening_words hw (header_words e) ∙ ap (λ xs. opening_words ++ xs) (sym (header_words_push s.header e));
        },
        outer,
      )
  entity_kept owner.Section s t ws front e b fits outer w h =
      let params = e.params in
      let list = list_words (map param_words params) in
      let named = ap (λ k. record { keyword = k; params = params }) b.2 in
      gone (begins_section (FixedAt fixed.SectionParamsEnd) (Some params) s) t ws (same_reader _ t h)
      ((section_begun s.header s.sections (Some params) s.instances front (ws ++ mark Semicolon ∷ []) b.0 (subst (Fits limit) named fits, tt) (ap (λ xs. xs ++ mark Semicolon ∷ []) w ∙ append_assoc front (entity_words e) (mark Semicolon ∷ []) ∙ ap (λ k. front ++ (keyword k ∷ list ++ mark Semicolon ∷ [])) b.2), b.1), outer)
  entity_kept owner.Simple s t ws front e b fits outer w h =
      let n = s.number in
      let p = passed (has_number n s.instances) (twice n) (record s { section = counts_one s.section; instances = s.instances ++ (record { number = n; parts = e ∷ [] }) ∷ []; place = FixedAt fixed.InstanceEnd }) t h in
      let iw = instance_words n (entity_words e) in
      let same = ap (λ xs. xs ++ mark Semicolon ∷ []) (w ∙ ap (λ xs. xs ++ entity_words e) b.3 ∙ append_assoc b.0 (number_words n) (entity_words e)) ∙ append_assoc b.0 (mark (Number n) ∷ mark Equals ∷ entity_words e) (mark Semicolon ∷ []) in
      gone _ t ws p.1 ((instance_kept s.header s.sections s.section s.instances b.0 n (e ∷ []) iw (ws ++ mark Semicolon ∷ []) b.1 p.0 (omega arith) (fits, tt) (inl refl) same, b.2), outer)
  entity_kept owner.Complex s t ws front e b fits outer w h =
      let ps = s.parts in
      let n = s.number in
      let more = length-append ps (e ∷ []) in
      gone (record s { parts = ps ++ e ∷ []; place = NextPart }) t ws (same_reader _ t h) (
        (
          b.0,
          b.1,
          all_push (Fits limit) ps e b.2 fits,
          omega arith,
          w ∙ ap (λ xs. xs ++ entity_words e) b.3 ∙ append_assoc b.0 (complex_words n ps) (entity_words e) ∙ ap (λ xs. b.0 ++ mark (Number n) ∷ mark Equals ∷ mark LeftParen ∷ xs) (sym (parts_push ps e)),
          b.4,
        ),
        outer,
      )

  -- what is known where the innermost list is closed
  pub record Closing (s : Reader) (ws : List Word) : Type 0 where
    pub front : List Word
    pub before : IsBefore limit s front
    pub around : AllAround limit 1 s.outer
    pub head : HeadPlain (s.outer ++ s.list ∷ [])
    pub depth : length s.outer + 1 ≤ limit
    pub all : AllFitAt limit (1 + length s.outer) s.list.params
    pub fits : FitsAt limit (length s.outer) (list_param s.list)
    pub words : ws ≡ outside s front ++ param_words (list_param s.list)

  closed_outer : (s t : Reader) (ws : List Word) → Closing s ws → s.outer ≡ [] → Gave (closes_in s None) t → Kept limit t ws
  closed_outer s t ws k none h =
      let ps = s.list.params in
      let e : Entity = record { keyword = s.keyword; params = ps } in
      let depth = ap (λ ls. 1 + length {A = OpenList} ls) none in
      let all : AllFitAt limit 1 ps = subst (λ d. AllFitAt limit d ps) (let z : 1 + length s.outer ≡ 1 = omega arith in z) k.all in
      let plain = subst (λ ls. HeadPlain (ls ++ s.list ∷ [])) none k.head in
      entity_kept s.owner (record s { keyword = []; list = empty_list Plain }) t ws k.front e k.before (all_within limit 1 ps (omega arith) all, all_whole limit 1 ps all) none (k.words ∙ own_list_words k.front s.keyword s.outer s.list.opening ps none plain) h

  closed_inner : (s t : Reader) (ws : List Word) (ls : List OpenList) (l : OpenList) → Closing s ws → s.outer ≡ ls ++ l ∷ [] → Gave (closes_in s (Some (ls, l))) t → Kept limit t ws
  closed_inner s t ws ls l k e h =
      let p = list_param s.list in
      let r = record s { outer = ls; list = l } in
      let count = ap length e ∙ length-append ls (l ∷ []) in
      let popped = around_pop limit 1 ls l (subst (AllAround limit 1) e k.around) in
      let inside : InList limit r (outside r k.front ++ begun l) = record {
        front = k.front;
        before = k.before;
        around = popped.0;
        head = head_pop ls l s.list (subst (λ os. HeadPlain (os ++ s.list ∷ [])) e k.head);
        depth = (let d = k.depth in omega arith);
        list = popped.1;
        words = refl;
      } in
      let fits : FitsAt limit (1 + length ls) p = subst (λ d. FitsAt limit d p) (let z : length s.outer ≡ 1 + length ls = omega arith in z) k.fits in
      let here = outside_pushed k.front s.keyword s.outer ls l e in
      let kept = param_kept r (outside r k.front ++ begun l) (param_words p) p inside refl fits in
      gone (takes_param r p) t ws (same_reader _ t h) (subst (Kept limit (takes_param r p)) (sym (k.words ∙ ap (λ xs. xs ++ param_words p) here)) kept)

  pub closed_kept : (s t : Reader) (ws : List Word) → Closing s ws → Gave (closes s) t → Kept limit t ws
  closed_kept s t ws k h =
      ⊎_elim
      (λ c. closed_outer s t ws k c.0 (subst (λ o. Gave (closes_in s o) t) c.1 h))
      (λ c. closed_inner s t ws c.0 c.1 k c.2 (subst (λ o. Gave (closes_in s o) t) c.3 h))
      (parted_cases s.outer)
