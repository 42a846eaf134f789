-- MEANING (ISO 10303-21, WSN of the exchange structure, in this project's profile): the words that a header and instances are
-- written in.
use Rattle.std.specs.Prelude.{◌≡◌, ◌≢◌, ℕ, ◌+◌, ◌≤◌, ◌<◌, ◌⊎◌, max, Bool, true, false, List, [], ◌∷◌, ◌++◌, map, length, take, drop, flat_map, codes, Option, Some, None, IsTrue}
use Rattle.std.specs.List.{list_all, sum_by, AllByRecursion}
use Rattle.sn_lex.specs.declared.token.Token.TheVariants.{FileStart, FileEnd, Number, Integer, Real, Text, Enumeration, Binary, LeftParen, RightParen, Comma, Semicolon, Equals, Dollar, Star}
use Rattle.sn_p21.specs.declared.limits.TheConstants.{MAX_OPEN_LISTS}
use Rattle.sn_p21.specs.declared.file.Param.{Param}
use Rattle.sn_p21.specs.declared.file.Param.TheOpen.{Param-F}
use Rattle.sn_p21.specs.declared.file.Param.TheFolds.{fold-Param}
use Rattle.sn_p21.specs.declared.file.Entity.{Entity}
use Rattle.sn_p21.specs.declared.file.Instance.{Instance}
use Rattle.sn_p21.specs.declared.file.Section.{Section}
use Rattle.sn_p21.specs.Content.{Content}
use Rattle.sn_p21.specs.Numbers.{NumbersDiffer}
use Rattle.sn_p21.specs.Word.{Word, IsSpelled, mark, keyword}

-- Words.

-- what follows a parameter of a list: the others, a comma before each, and the closing parenthesis
abbrev pub rest_of_list : List (List Word) → List Word
rest_of_list [] = mark RightParen ∷ []
rest_of_list (p ∷ ps) = mark Comma ∷ p ++ rest_of_list ps

-- a list of parameters between parentheses, with commas between them
abbrev pub list_words : List (List Word) → List Word
list_words [] = mark LeftParen ∷ mark RightParen ∷ []
list_words (p ∷ ps) = mark LeftParen ∷ p ++ rest_of_list ps

-- one parameter, with the words of the parameters in it in their place
abbrev pub layer_words : Param-F (List Word) → List Word
layer_words (Param-F.Int spelling) = record { token = Integer; value = spelling } ∷ []
layer_words (Param-F.Real spelling) = record { token = Real; value = spelling } ∷ []
layer_words (Param-F.Text value) = record { token = Text; value = value } ∷ []
layer_words (Param-F.Enum name) = record { token = Enumeration; value = name } ∷ []
layer_words (Param-F.Binary digits) = record { token = Binary; value = digits } ∷ []
layer_words (Param-F.Ref number) = mark (Number number) ∷ []
layer_words (Param-F.List ps) = list_words ps
layer_words (Param-F.Typed name ps) = keyword name ∷ list_words ps
layer_words Param-F.Absent = mark Dollar ∷ []
layer_words Param-F.Derived = mark Star ∷ []

abbrev pub param_words : Param → List Word
param_words = fold-Param (List Word) layer_words

abbrev pub entity_words : Entity → List Word
entity_words e = keyword e.keyword ∷ list_words (map param_words e.params)

-- a header entity
abbrev pub header_words : Entity → List Word
header_words e = entity_words e ++ mark Semicolon ∷ []

-- the parts of a complex instance
abbrev pub enclosed_words : List Entity → List Word
enclosed_words es = mark LeftParen ∷ flat_map entity_words es ++ mark RightParen ∷ []

-- the one part of a simple instance, or the parts of a complex one
abbrev pub parts_words : List Entity → List Word
parts_words [] = enclosed_words []
parts_words (e ∷ []) = entity_words e
parts_words (d ∷ e ∷ es) = enclosed_words (d ∷ e ∷ es)

abbrev pub instance_words : ℕ → List Word → List Word
instance_words number parts = mark (Number number) ∷ mark Equals ∷ parts ++ mark Semicolon ∷ []

-- an instance; a simple one may have parentheses around its one part too
abbrev pub AreInstanceWords : Instance → List Word → Type 0
AreInstanceWords i ws = (ws ≡ instance_words i.number (parts_words i.parts)) ⊎ (ws ≡ instance_words i.number (enclosed_words i.parts))

-- instances, one behind another
abbrev pub AreDataWords : List Instance → List Word → Type 0
AreDataWords [] ws = ws ≡ []
AreDataWords (i ∷ is) ws = (first : List Word) × (rest : List Word) × AreInstanceWords i first × AreDataWords is rest × (ws ≡ first ++ rest)

abbrev pub opening_words : List Word
opening_words = mark FileStart ∷ mark Semicolon ∷ keyword (codes "HEADER") ∷ mark Semicolon ∷ []

-- the end of the header, and of each data section
abbrev pub section_end_words : List Word
section_end_words = keyword (codes "ENDSEC") ∷ mark Semicolon ∷ []

abbrev pub file_end_words : List Word
file_end_words = mark FileEnd ∷ mark Semicolon ∷ []

-- the end of the last data section, and of the file
abbrev pub closing_words : List Word
closing_words = section_end_words ++ file_end_words

-- the word DATA with the parameters of its section, where it has a list of them
abbrev pub data_entity : List Param → Entity
data_entity params = record { keyword = codes "DATA"; params = params }

abbrev pub data_words : Option (List Param) → List Word
data_words None = keyword (codes "DATA") ∷ mark Semicolon ∷ []
data_words (Some params) = entity_words (data_entity params) ++ mark Semicolon ∷ []

-- a data section, around the words of its instances
abbrev pub section_words : Section → List Word → List Word
section_words s instances = data_words s.params ++ instances ++ section_end_words

-- data sections, one behind another; each has the next of the instances, as many as it counts
abbrev pub AreSectionsWords : List Section → List Instance → List Word → Type 0
AreSectionsWords [] is ws = ws ≡ []
AreSectionsWords (s ∷ ss) is ws = (own : List Word) × (rest : List Word) × AreDataWords (take s.count is) own × AreSectionsWords ss (drop s.count is) rest × (ws ≡ section_words s own ++ rest)

-- a whole file, around the words of its data sections
abbrev pub file_words : List Entity → List Word → List Word
file_words header sections = opening_words ++ flat_map header_words header ++ section_end_words ++ sections ++ file_end_words

abbrev pub AreFileWords : Content → List Word → Type 0
AreFileWords f ws = (sections : List Word) × AreSectionsWords f.sections f.instances sections × (ws ≡ file_words f.header sections)

-- the words without parentheses around the one part of a simple instance
abbrev pub rows_words : List Instance → List Word
rows_words is = flat_map (λ i. instance_words i.number (parts_words i.parts)) is

abbrev pub plainest_sections : List Section → List Instance → List Word
plainest_sections [] is = []
plainest_sections (s ∷ ss) is = section_words s (rows_words (take s.count is)) ++ plainest_sections ss (drop s.count is)

abbrev pub plainest_words : Content → List Word
plainest_words f = file_words f.header (plainest_sections f.sections f.instances)

-- What the grammar's rules ask of a file beside its words.

abbrev pub greatest : List ℕ → ℕ
greatest [] = 0
greatest (n ∷ ns) = max n (greatest ns)

-- how many lists and typed parameters are open, at most, within a parameter
abbrev pub layer_nesting : Param-F ℕ → ℕ
layer_nesting (Param-F.List ns) = greatest ns + 1
layer_nesting (Param-F.Typed name ns) = greatest ns + 1
layer_nesting _ = 0

abbrev pub nesting : Param → ℕ
nesting = fold-Param ℕ layer_nesting

-- the own list of the entity is open too
abbrev pub IsNestedWithin : ℕ → Entity → Type 0
IsNestedWithin limit e = greatest (map nesting e.params) + 1 ≤ limit

-- the one of a list, and false where there is none or more
abbrev pub only : List Bool → Bool
only [] = false
only (b ∷ []) = b
only (b ∷ c ∷ bs) = false

-- each typed parameter has one parameter
abbrev pub layer_is_whole : Param-F Bool → Bool
layer_is_whole (Param-F.List bs) = list_all (λ b. b) bs
layer_is_whole (Param-F.Typed name bs) = only bs
layer_is_whole _ = true

abbrev pub is_whole : Param → Bool
is_whole = fold-Param Bool layer_is_whole

abbrev pub IsWhole : Entity → Type 0
IsWhole e = IsTrue (list_all is_whole e.params)

-- the entities with which each header begins
abbrev pub header_names : List (List ℕ)
header_names = codes "FILE_DESCRIPTION" ∷ codes "FILE_NAME" ∷ codes "FILE_SCHEMA" ∷ []

-- the list of a section is that of its DATA
abbrev pub data_entities : Option (List Param) → List Entity
data_entities None = []
data_entities (Some params) = data_entity params ∷ []

-- all entities of a file: those of its header, its DATA with their lists, and the parts of its instances
abbrev pub entities_of : Content → List Entity
entities_of f = f.header ++ flat_map (λ s. data_entities s.params) f.sections ++ flat_map (λ i. i.parts) f.instances

-- how many instances the sections have
abbrev pub counted : List Section → ℕ
counted ss = sum_by (λ s. s.count) ss

-- The rule of a file, with a limit on the lists and typed parameters that are open at once: its keywords, spellings
-- and other values have the forms of their tokens, its header begins with the three named entities and none is
-- named as the end of the section, it has a data section, its sections have all of its instances, each instance has a
-- part, no two have one number.
pub record IsFileWithin (limit : ℕ) (f : Content) : Type 0 where
  pub names : take 3 (map (λ e. e.keyword) f.header) ≡ header_names
  pub no_end : AllByRecursion (λ e. e.keyword ≢ codes "ENDSEC") f.header
  pub section : 0 < length f.sections
  pub counts : counted f.sections ≡ length f.instances
  pub parts : AllByRecursion (λ i. 0 < length i.parts) f.instances
  pub whole : AllByRecursion IsWhole (entities_of f)
  pub spelled : AllByRecursion IsSpelled (plainest_words f)
  pub differ : NumbersDiffer f.instances
  pub nested : AllByRecursion (IsNestedWithin limit) (entities_of f)

abbrev pub IsFile : Content → Type 0
IsFile = IsFileWithin MAX_OPEN_LISTS
