-- Private (only the functions of this crate cite these words): what the reader of a part text does at a token. It keeps what
-- was read so far, and which words may stand next.
use Rattle.std.specs.Prelude.{◌≡◌, ℕ, ◌+◌, ◌-◌, Bool, true, false, ◌&&◌, ◌==◌, nat_lt, cond, List, [], ◌∷◌, ◌++◌, length, slice_range, codes, Option, Some, None, Result, Ok, Err}
use Rattle.std.specs.Str.{bytes_eq}
use Rattle.sn_lex.specs.declared.token.Token.{Token}
use Rattle.sn_lex.specs.declared.token.Token.TheVariants.{FileStart, FileEnd, Keyword, Number, Integer, Real, Text, Enumeration, Binary, LeftParen, RightParen, Comma, Semicolon, Equals, Dollar, Star}
use Rattle.sn_p21.specs.declared.fault.P21Fault.{P21Fault}
use Rattle.sn_p21.specs.declared.fault.P21Fault.TheVariants as fault
use Rattle.sn_p21.specs.declared.file.Param.{Param}
use Rattle.sn_p21.specs.declared.file.Param.TheVariants as param
use Rattle.sn_p21.specs.declared.file.Entity.{Entity}
use Rattle.sn_p21.specs.declared.file.Section.{Section}
use Rattle.sn_p21.specs.declared.grammar.place.Place.{Place}
use Rattle.sn_p21.specs.declared.grammar.place.Place.TheVariants.{Fixed as FixedAt, HeaderEntity, OwnList, FirstParam, NextParam, AfterParam, TypedList, Section as SectionAt, NextSection, SectionParams, Instance as InstanceAt, Body, FirstPart, NextPart, Done}
use Rattle.sn_p21.specs.declared.grammar.place.Fixed.{Fixed}
use Rattle.sn_p21.specs.declared.grammar.place.Fixed.TheVariants as fixed
use Rattle.sn_p21.specs.declared.grammar.place.Owner.{Owner}
use Rattle.sn_p21.specs.declared.grammar.place.Owner.TheVariants as owner
use Rattle.sn_p21.specs.declared.grammar.list.Opening.{Opening}
use Rattle.sn_p21.specs.declared.grammar.list.Opening.TheVariants.{Plain, Typed}
use Rattle.sn_p21.specs.declared.grammar.list.OpenList.{OpenList}
use Rattle.sn_p21.specs.declared.grammar.reader.Reader.{Reader}
use Rattle.sn_p21.specs.Numbers.{has_number}

-- What a text carries.

-- without the first and the last byte
abbrev pub inner : List ℕ → List ℕ
inner text = slice_range text 1 (length text - 1)

-- how many bytes the first one takes: an apostrophe is written twice
abbrev pub width : List ℕ → ℕ
width [] = 1
width (c ∷ []) = 1
width (c ∷ d ∷ cs) = cond (c == 39) (cond (d == 39) 2 1) 1

-- an apostrophe that is written twice is one
abbrev pub halved : List ℕ → List ℕ
halved [] = []
halved (c ∷ []) = c ∷ []
halved (c ∷ d ∷ cs) = cond (c == 39) (cond (d == 39) (c ∷ halved cs) (c ∷ halved (d ∷ cs))) (c ∷ halved (d ∷ cs))

abbrev pub value_of : Token → List ℕ → List ℕ
value_of Keyword text = text
value_of Integer text = text
value_of Real text = text
value_of Text text = halved (inner text)
value_of Enumeration text = inner text
value_of Binary text = inner text
value_of _ text = []

-- the parameter that a token is by itself
abbrev pub value_param : Token → List ℕ → Option Param
value_param Integer value = Some (param.Int value)
value_param Real value = Some (param.Real value)
value_param Text value = Some (param.Text value)
value_param Enumeration value = Some (param.Enum value)
value_param Binary value = Some (param.Binary value)
value_param (Number n) value = Some (param.Ref n)
value_param Dollar value = Some param.Absent
value_param Star value = Some param.Derived
value_param _ value = None

-- Words that the grammar fixes.

abbrev pub is_keyword_named : Token → List ℕ → List ℕ → Bool
is_keyword_named Keyword value name = bytes_eq value name
is_keyword_named _ value name = false

abbrev pub is_semicolon : Token → Bool
is_semicolon Semicolon = true
is_semicolon _ = false

abbrev pub is_equals : Token → Bool
is_equals Equals = true
is_equals _ = false

abbrev pub is_file_start : Token → Bool
is_file_start FileStart = true
is_file_start _ = false

abbrev pub accepts : Fixed → Token → List ℕ → Bool
accepts fixed.FileStart t value = is_file_start t
accepts fixed.Equals t value = is_equals t
accepts fixed.Header t value = is_keyword_named t value (codes "HEADER")
accepts _ t value = is_semicolon t

abbrev pub place_after : Fixed → Place
place_after fixed.FileStart = FixedAt fixed.FileStartEnd
place_after fixed.FileStartEnd = FixedAt fixed.Header
place_after fixed.Header = FixedAt fixed.HeaderEnd
place_after fixed.HeaderEnd = HeaderEntity
place_after fixed.HeaderEntityEnd = HeaderEntity
place_after fixed.HeaderSectionEnd = SectionAt
place_after fixed.SectionParamsEnd = InstanceAt
place_after fixed.Equals = Body
place_after fixed.InstanceEnd = InstanceAt
place_after fixed.DataSectionEnd = NextSection
place_after fixed.FileEndEnd = Done

-- Lists.

abbrev pub empty_list : Opening → OpenList
empty_list opening = record { opening = opening; params = [] }

abbrev pub param_of_list : Opening → List Param → Param
param_of_list Plain ps = param.List ps
param_of_list (Typed keyword) ps = param.Typed keyword ps

abbrev pub list_param : OpenList → Param
list_param list = param_of_list list.opening list.params

abbrev pub first_place : Opening → Place
first_place Plain = FirstParam
first_place (Typed keyword) = NextParam

abbrev pub is_typed_opening : Opening → Bool
is_typed_opening Plain = false
is_typed_opening (Typed keyword) = true

abbrev pub is_typed : OpenList → Bool
is_typed list = is_typed_opening list.opening

-- Steps.

-- why a word may not stand next: the grammar has none such there; an earlier instance has this number; one list more
-- would be open than may be
pub data Refusal : Type 0 where
  unexpected : Refusal
  twice : ℕ → Refusal
  deep : Refusal

abbrev pub Step : Type 0
Step = Result Reader Refusal

abbrev pub goes : Place → Reader → Step
goes place s = Ok (record s { place = place })

abbrev pub step_fixed : Fixed → Reader → Token → List ℕ → Step
step_fixed f s t value = cond (accepts f t value) (goes (place_after f) s) (Err unexpected)

-- the keyword of an entity
abbrev pub starts_entity : Owner → Reader → List ℕ → Reader
starts_entity owner s name = record s { owner = owner; keyword = name; place = OwnList }

abbrev pub is_keyword : Token → Bool
is_keyword Keyword = true
is_keyword _ = false

-- whether a header entity of this keyword may stand behind so many
abbrev pub names_header_entity : ℕ → Token → List ℕ → Bool
names_header_entity count t value =
    cond (count == 0) (is_keyword_named t value (codes "FILE_DESCRIPTION"))
    (cond (count == 1) (is_keyword_named t value (codes "FILE_NAME"))
    (cond (count == 2) (is_keyword_named t value (codes "FILE_SCHEMA")) (is_keyword t)))

-- whether this ends the header behind so many entities
abbrev pub ends_header : ℕ → Token → List ℕ → Bool
ends_header count t value = nat_lt 2 count && is_keyword_named t value (codes "ENDSEC")

abbrev pub step_header_entity : Reader → Token → List ℕ → Step
step_header_entity s t value =
    cond (ends_header (length s.header) t value) (goes (FixedAt fixed.HeaderSectionEnd) s)
    (cond (names_header_entity (length s.header) t value) (Ok (starts_entity owner.Header s value)) (Err unexpected))

abbrev pub step_own_list : Reader → Token → Step
step_own_list s LeftParen = Ok (record s { list = empty_list Plain; place = FirstParam })
step_own_list s _ = Err unexpected

-- one list more is open, with a limit on those that are open at once
abbrev pub opens : ℕ → Opening → Reader → Step
opens limit opening s = cond (nat_lt (length s.outer + 1) limit) (Ok (record s { outer = s.outer ++ s.list ∷ []; list = empty_list opening; place = first_place opening })) (Err deep)

abbrev pub list_with : OpenList → Param → OpenList
list_with list p = record list { params = list.params ++ p ∷ [] }

abbrev pub takes_param : Reader → Param → Reader
takes_param s p = record s { list = list_with s.list p; place = AfterParam }

abbrev pub takes_value : Reader → Option Param → Step
takes_value s None = Err unexpected
takes_value s (Some p) = Ok (takes_param s p)

abbrev pub step_param : ℕ → Reader → Token → List ℕ → Step
step_param limit s Keyword value = Ok (record s { typed = value; place = TypedList })
step_param limit s LeftParen value = opens limit Plain s
step_param limit s t value = takes_value s (value_param t value)

abbrev pub step_typed_list : ℕ → Reader → Token → Step
step_typed_list limit s LeftParen = opens limit (Typed s.typed) (record s { typed = [] })
step_typed_list limit s _ = Err unexpected

abbrev pub empty_section : Section
empty_section = record { params = None; count = 0 }

-- a section of these parameters that has no instance yet
abbrev pub begins_section : Place → Option (List Param) → Reader → Reader
begins_section place params s = record s { section = record { params = params; count = 0 }; place = place }

-- a section with one instance more
abbrev pub counts_one : Section → Section
counts_one s = record { params = s.params; count = s.count + 1 }

-- the section that was read goes to the others
abbrev pub ends_section : Reader → Reader
ends_section s = record s { sections = s.sections ++ s.section ∷ []; section = empty_section; place = FixedAt fixed.DataSectionEnd }

-- an instance with its parts goes to the others
abbrev pub takes_instance : Reader → List Entity → Step
takes_instance s parts = cond (has_number s.number s.instances) (Err (twice s.number)) (Ok (record s { section = counts_one s.section; instances = s.instances ++ (record { number = s.number; parts = parts }) ∷ []; place = FixedAt fixed.InstanceEnd }))

abbrev pub takes_entity : Owner → Reader → Entity → Step
takes_entity owner.Header s e = Ok (record s { header = s.header ++ e ∷ []; place = FixedAt fixed.HeaderEntityEnd })
takes_entity owner.Section s e = Ok (begins_section (FixedAt fixed.SectionParamsEnd) (Some e.params) s)
takes_entity owner.Simple s e = takes_instance s (e ∷ [])
takes_entity owner.Complex s e = Ok (record s { parts = s.parts ++ e ∷ []; place = NextPart })

abbrev pub parted_behind : {A : Type 0} → A → Option (List A × A) → List A × A
parted_behind x None = ([], x)
parted_behind x (Some p) = (x ∷ p.0, p.1)

-- the last of a list, and those before it
abbrev pub parted : {A : Type 0} → List A → Option (List A × A)
parted [] = None
parted (x ∷ xs) = Some (parted_behind x (parted xs))

-- the innermost list is closed: it is a parameter of the one around it, or the list of the entity
abbrev pub closes_in : Reader → Option (List OpenList × OpenList) → Step
closes_in s None = takes_entity s.owner (record s { keyword = []; list = empty_list Plain }) (record { keyword = s.keyword; params = s.list.params })
closes_in s (Some around) = Ok (takes_param (record s { outer = around.0; list = around.1 }) (list_param s.list))

abbrev pub closes : Reader → Step
closes s = closes_in s (parted s.outer)

abbrev pub step_first_param : ℕ → Reader → Token → List ℕ → Step
step_first_param limit s RightParen value = closes s
step_first_param limit s t value = step_param limit s t value

abbrev pub step_after_param : Reader → Token → Step
step_after_param s Comma = cond (is_typed s.list) (Err unexpected) (goes NextParam s)
step_after_param s RightParen = closes s
step_after_param s _ = Err unexpected

-- the DATA of a section
abbrev pub step_section : Reader → Token → List ℕ → Step
step_section s t value = cond (is_keyword_named t value (codes "DATA")) (Ok (record (starts_entity owner.Section s value) { place = SectionParams })) (Err unexpected)

abbrev pub step_next_section : Reader → Token → List ℕ → Step
step_next_section s FileEnd value = goes (FixedAt fixed.FileEndEnd) s
step_next_section s t value = step_section s t value

abbrev pub step_section_params : Reader → Token → Step
step_section_params s Semicolon = Ok (begins_section InstanceAt None (record s { keyword = [] }))
step_section_params s t = step_own_list s t

abbrev pub step_instance : Reader → Token → List ℕ → Step
step_instance s (Number n) value = cond (has_number n s.instances) (Err (twice n)) (Ok (record s { number = n; place = FixedAt fixed.Equals }))
step_instance s t value = cond (is_keyword_named t value (codes "ENDSEC")) (Ok (ends_section s)) (Err unexpected)

abbrev pub step_body : Reader → Token → List ℕ → Step
step_body s Keyword value = Ok (starts_entity owner.Simple s value)
step_body s LeftParen value = goes FirstPart s
step_body s _ value = Err unexpected

abbrev pub step_first_part : Reader → Token → List ℕ → Step
step_first_part s Keyword value = Ok (starts_entity owner.Complex s value)
step_first_part s _ value = Err unexpected

abbrev pub step_next_part : Reader → Token → List ℕ → Step
step_next_part s RightParen value = takes_instance (record s { parts = [] }) s.parts
step_next_part s t value = step_first_part s t value

abbrev pub step_at : ℕ → Place → Reader → Token → List ℕ → Step
step_at limit (FixedAt f) s t value = step_fixed f s t value
step_at limit HeaderEntity s t value = step_header_entity s t value
step_at limit OwnList s t value = step_own_list s t
step_at limit FirstParam s t value = step_first_param limit s t value
step_at limit NextParam s t value = step_param limit s t value
step_at limit AfterParam s t value = step_after_param s t
step_at limit TypedList s t value = step_typed_list limit s t
step_at limit SectionAt s t value = step_section s t value
step_at limit NextSection s t value = step_next_section s t value
step_at limit SectionParams s t value = step_section_params s t
step_at limit InstanceAt s t value = step_instance s t value
step_at limit Body s t value = step_body s t value
step_at limit FirstPart s t value = step_first_part s t value
step_at limit NextPart s t value = step_next_part s t value
step_at limit Done s t value = Err unexpected

-- with a limit on the lists and typed parameters that are open at once
abbrev pub step : ℕ → Reader → Token → List ℕ → Step
step limit s t value = step_at limit s.place s t value

-- What a function of the reader answers for a step.

abbrev pub Refuses : Refusal → ℕ → P21Fault → Type 0
Refuses why at (fault.Lex f) = ⊥
Refuses why at (fault.Unexpected o) = (why ≡ unexpected) × (o ≡ at)
Refuses why at (fault.Twice n o) = (why ≡ twice n) × (o ≡ at)
Refuses why at (fault.TooDeep o) = (why ≡ deep) × (o ≡ at)
Refuses why at fault.Memory = Unit {0}

-- the function answered Ok and left the reader as the step says, or its fault is that of the step, or memory is wanting
abbrev pub Steps : {T : Type 0} → Step → ℕ → Result T P21Fault → Reader → Type 0
Steps step at (Ok _) new = step ≡ Ok new
Steps step at (Err fault.Memory) new = Unit {0}
Steps step at (Err f) new = (why : Refusal) × (step ≡ Err why) × Refuses why at f

-- the function answered Ok and this holds, or memory is wanting
abbrev pub Gives : {T : Type 0} → Result T P21Fault → Type 0 → Type 0
Gives (Ok _) P = P
Gives (Err fault.Memory) P = Unit {0}
Gives (Err _) P = ⊥

abbrev pub start : Reader
start = record { place = FixedAt fixed.FileStart; header = []; sections = []; section = empty_section; instances = []; number = 0; parts = []; owner = owner.Header; keyword = []; typed = []; list = empty_list Plain; outer = [] }

-- the whole file was read
abbrev pub is_done : Reader → Type 0
is_done s = s.place ≡ Done
