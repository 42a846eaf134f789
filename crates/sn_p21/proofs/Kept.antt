-- What the reader keeps: the words that it has read, place by place.
use Rattle.std.proofs.Common.{◌≡◌, ℕ, ◌+◌, ◌<◌, ◌≤◌, true, false, List, [], ◌∷◌, ◌++◌, length, flat_map, codes}
use Rattle.std.specs.List.{AllByRecursion}
use Rattle.sn_lex.specs.declared.token.Token.TheVariants.{FileStart, FileEnd, Keyword, Number, LeftParen, Semicolon, Equals}
use Rattle.sn_p21.specs.declared.file.Param.{Param}
use Rattle.sn_p21.specs.declared.file.Entity.{Entity}
use Rattle.sn_p21.specs.declared.file.Instance.{Instance}
use Rattle.sn_p21.specs.declared.file.Section.{Section}
use Rattle.sn_p21.specs.declared.grammar.place.Place.{Place}
use Rattle.sn_p21.specs.declared.grammar.place.Place.TheVariants.{Fixed as FixedAt, HeaderEntity, OwnList, FirstParam, NextParam, AfterParam, TypedList, Section as SectionAt, NextSection, SectionParams, Instance as InstanceAt, Body, FirstPart, NextPart, Done}
use Rattle.sn_p21.specs.declared.grammar.place.Fixed.{Fixed}
use Rattle.sn_p21.specs.declared.grammar.place.Fixed.TheVariants as fixed
use Rattle.sn_p21.specs.declared.grammar.place.Owner.{Owner}
use Rattle.sn_p21.specs.declared.grammar.place.Owner.TheVariants as owner
use Rattle.sn_p21.specs.declared.grammar.list.Opening.TheVariants.{Plain}
use Rattle.sn_p21.specs.declared.grammar.reader.Reader.{Reader}
use Rattle.sn_p21.specs.Numbers.{has_number, NumbersDiffer}
use Rattle.sn_p21.specs.Word.{Word, mark, keyword}
use Rattle.sn_p21.specs.Grammar.{param_words, entity_words, header_words, AreDataWords, AreSectionsWords, data_entities, data_words, opening_words, section_end_words, counted}
use Rattle.sn_p21.specs.Reader.{empty_list, is_typed, names_header_entity, ends_header}
use Rattle.sn_p21.proofs.FilesRead.{Fits, HeaderFrom, HasPart, AllFit}
use Rattle.sn_p21.proofs.ListWords.{begun, lead, comma_words, Around, AllAround, AllFitAt, HeadPlain}

abbrev pub number_words : ℕ → List Word
number_words n = mark (Number n) ∷ mark Equals ∷ []

abbrev pub complex_words : ℕ → List Entity → List Word
complex_words n ps = mark (Number n) ∷ mark Equals ∷ mark LeftParen ∷ flat_map entity_words ps

-- the words before the innermost list
abbrev pub outside : Reader → List Word → List Word
outside s front = front ++ keyword s.keyword ∷ [] ++ flat_map begun s.outer

abbrev pub Blank : Reader → Type 0
Blank s = (s.header ≡ []) × (s.instances ≡ []) × (s.parts ≡ []) × (s.sections ≡ [])

-- no list is open between entities
abbrev pub IsOutside : Place → Reader → Type 0
IsOutside FirstParam s = Unit {0}
IsOutside NextParam s = Unit {0}
IsOutside AfterParam s = Unit {0}
IsOutside TypedList s = Unit {0}
IsOutside _ s = s.outer ≡ []

module _ (limit : ℕ) where
  -- the header so far
  pub record InHeader (h : List Entity) (ss : List Section) (is : List Instance) (ps : List Entity) (ws : List Word) : Type 0 where
    pub header : HeaderFrom limit 0 h
    pub sections : ss ≡ []
    pub instances : is ≡ []
    pub parts : ps ≡ []
    pub words : ws ≡ opening_words ++ flat_map header_words h

  -- the sections so far, each with its instances
  pub record InSections (h : List Entity) (ss : List Section) (is : List Instance) (ws : List Word) : Type 0 where
    pub sections : List Word
    pub header : HeaderFrom limit 0 h
    pub three : 3 ≤ length h
    pub derived : AreSectionsWords ss is sections
    pub counts : counted ss ≡ length is
    pub lists : AllByRecursion (Fits limit) (flat_map (λ s. data_entities s.params) ss)
    pub some : AllByRecursion HasPart is
    pub fit : AllFit limit is
    pub differ : NumbersDiffer is
    pub words : ws ≡ opening_words ++ flat_map header_words h ++ section_end_words ++ sections

  -- the instances so far, behind those of the sections before theirs
  pub record InData (h : List Entity) (ss : List Section) (s : Section) (is : List Instance) (ws : List Word) : Type 0 where
    pub front : List Word
    pub earlier : List Instance
    pub before : InSections h ss earlier front
    pub own : List Instance
    pub rows : List Word
    pub derived : AreDataWords own rows
    pub count : s.count ≡ length own
    pub split : is ≡ earlier ++ own
    pub list : AllByRecursion (Fits limit) (data_entities s.params)
    pub some : AllByRecursion HasPart is
    pub fit : AllFit limit is
    pub differ : NumbersDiffer is
    pub words : ws ≡ (front ++ data_words s.params) ++ rows

  -- before an entity of this keyword, that will stand there
  abbrev pub Before : Owner → List Entity → List Section → Section → List Instance → ℕ → List Entity → List ℕ → List Word → Type 0
  Before owner.Header h ss sec is n ps name ws = InHeader h ss is ps ws × (ends_header (length h) Keyword name ≡ false) × (names_header_entity (length h) Keyword name ≡ true)
  Before owner.Section h ss sec is n ps name ws = InSections h ss is ws × (ps ≡ []) × (name ≡ codes "DATA")
  Before owner.Simple h ss sec is n ps name ws = (front : List Word) × InData h ss sec is front × (ps ≡ []) × (ws ≡ front ++ number_words n) × (has_number n is ≡ false)
  Before owner.Complex h ss sec is n ps name ws = (front : List Word) × InData h ss sec is front × AllByRecursion (Fits limit) ps × (ws ≡ front ++ complex_words n ps) × (has_number n is ≡ false)

  abbrev pub IsBefore : Reader → List Word → Type 0
  IsBefore s ws = Before s.owner s.header s.sections s.section s.instances s.number s.parts s.keyword ws

  -- within a list, where a parameter may stand
  pub record InList (s : Reader) (ws : List Word) : Type 0 where
    pub front : List Word
    pub before : IsBefore s front
    pub around : AllAround limit 1 s.outer
    pub head : HeadPlain (s.outer ++ s.list ∷ [])
    pub depth : length s.outer + 1 ≤ limit
    pub list : Around limit (1 + length s.outer) s.list
    pub words : ws ≡ outside s front ++ begun s.list

  -- behind a parameter
  pub record BehindParam (s : Reader) (ws : List Word) : Type 0 where
    pub front : List Word
    pub before : IsBefore s front
    pub around : AllAround limit 1 s.outer
    pub head : HeadPlain (s.outer ++ s.list ∷ [])
    pub depth : length s.outer + 1 ≤ limit
    pub params : List Param
    pub last : Param
    pub all : s.list.params ≡ params ++ last ∷ []
    pub one : is_typed s.list ≡ true → params ≡ []
    pub fit : AllFitAt limit (1 + length s.outer) s.list.params
    pub words : ws ≡ outside s front ++ (lead s.list.opening ++ (comma_words params ++ param_words last))

  -- behind a header that is long enough, and these words
  abbrev pub HeaderAnd : Reader → List Word → List Word → Type 0
  HeaderAnd s tail ws = (front : List Word) × InHeader s.header s.sections s.instances s.parts front × (3 ≤ length s.header) × (ws ≡ front ++ tail)

  -- behind the sections so far, at least one, and these words
  abbrev pub SectionsAnd : Reader → List Word → List Word → Type 0
  SectionsAnd s tail ws = (front : List Word) × InSections s.header s.sections s.instances front × (s.parts ≡ []) × (ws ≡ front ++ tail) × (0 < length s.sections)

  -- behind the instances so far, and these words of one with a new number
  abbrev pub NumberAnd : Reader → List Word → List Word → Type 0
  NumberAnd s tail ws = (front : List Word) × InData s.header s.sections s.section s.instances front × (s.parts ≡ []) × (ws ≡ front ++ tail) × (has_number s.number s.instances ≡ false)

  abbrev pub FixedKept : Fixed → Reader → List Word → Type 0
  FixedKept fixed.FileStart s ws = Blank s × (ws ≡ [])
  FixedKept fixed.FileStartEnd s ws = Blank s × (ws ≡ mark FileStart ∷ [])
  FixedKept fixed.Header s ws = Blank s × (ws ≡ mark FileStart ∷ mark Semicolon ∷ [])
  FixedKept fixed.HeaderEnd s ws = Blank s × (ws ≡ mark FileStart ∷ mark Semicolon ∷ keyword (codes "HEADER") ∷ [])
  FixedKept fixed.HeaderEntityEnd s ws = InHeader s.header s.sections s.instances s.parts (ws ++ mark Semicolon ∷ [])
  FixedKept fixed.HeaderSectionEnd s ws = HeaderAnd s (keyword (codes "ENDSEC") ∷ []) ws
  FixedKept fixed.SectionParamsEnd s ws = InData s.header s.sections s.section s.instances (ws ++ mark Semicolon ∷ []) × (s.parts ≡ [])
  FixedKept fixed.Equals s ws = NumberAnd s (mark (Number s.number) ∷ []) ws
  FixedKept fixed.InstanceEnd s ws = InData s.header s.sections s.section s.instances (ws ++ mark Semicolon ∷ []) × (s.parts ≡ [])
  FixedKept fixed.DataSectionEnd s ws = InSections s.header s.sections s.instances (ws ++ mark Semicolon ∷ []) × (s.parts ≡ []) × (0 < length s.sections)
  FixedKept fixed.FileEndEnd s ws = SectionsAnd s (mark FileEnd ∷ []) ws

  -- behind the keyword of an entity
  abbrev pub KeptBehind : Reader → List Word → Type 0
  KeptBehind s ws = (front : List Word) × IsBefore s front × (ws ≡ front ++ keyword s.keyword ∷ [])

  -- the words read so far, at a place
  abbrev pub KeptAt : Place → Reader → List Word → Type 0
  KeptAt (FixedAt f) s ws = FixedKept f s ws
  KeptAt HeaderEntity s ws = InHeader s.header s.sections s.instances s.parts ws
  KeptAt OwnList s ws = KeptBehind s ws
  KeptAt FirstParam s ws = InList s ws × (s.list ≡ empty_list Plain)
  KeptAt NextParam s ws = InList s ws
  KeptAt AfterParam s ws = BehindParam s ws
  KeptAt TypedList s ws = (listed : List Word) × InList s listed × (ws ≡ listed ++ keyword s.typed ∷ [])
  KeptAt InstanceAt s ws = InData s.header s.sections s.section s.instances ws × (s.parts ≡ [])
  KeptAt Body s ws = NumberAnd s (number_words s.number) ws
  KeptAt FirstPart s ws = NumberAnd s (complex_words s.number []) ws
  KeptAt NextPart s ws = (front : List Word) × InData s.header s.sections s.section s.instances front × AllByRecursion (Fits limit) s.parts × (0 < length s.parts) × (ws ≡ front ++ complex_words s.number s.parts) × (has_number s.number s.instances ≡ false)
  KeptAt SectionAt s ws = InSections s.header s.sections s.instances ws × (s.parts ≡ [])
  KeptAt NextSection s ws = InSections s.header s.sections s.instances ws × (s.parts ≡ []) × (0 < length s.sections)
  KeptAt SectionParams s ws = KeptBehind s ws × (s.owner ≡ owner.Section)
  KeptAt Done s ws = SectionsAnd s (mark FileEnd ∷ mark Semicolon ∷ []) ws

  abbrev pub Kept : Reader → List Word → Type 0
  Kept s ws = KeptAt s.place s ws × IsOutside s.place s
