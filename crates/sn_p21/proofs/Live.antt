-- From each state that the reader keeps, some words lead to the end of a file.
use Rattle.std.proofs.Common.{◌≡◌, ℕ, zero, suc, ◌+◌, ◌<◌, ◌≤◌, Bool, true, false, ◌&&◌, cond, nat_lt, inl, ⊎_elim, List, [], ◌∷◌, ◌++◌, length, codes, Option, Some, None, Ok, Err, refl, sym, ap, subst, ◌∙◌, length-append, arith, rules, tests}
use Rattle.std.specs.List.{AllByRecursion}
use Rattle.sn_lex.specs.declared.token.Token.TheVariants.{FileStart, FileEnd, Keyword, LeftParen, RightParen, Semicolon, Equals, Dollar}
use Rattle.sn_p21.specs.declared.file.Param.TheVariants as param
use Rattle.sn_p21.specs.declared.file.Entity.{Entity}
use Rattle.sn_p21.specs.declared.file.Instance.{Instance}
use Rattle.sn_p21.specs.declared.file.Section.{Section}
use Rattle.sn_p21.specs.declared.grammar.place.Place.{Place}
use Rattle.sn_p21.specs.declared.grammar.place.Place.TheVariants.{Fixed as FixedAt, HeaderEntity, OwnList, FirstParam, NextParam, AfterParam, TypedList, Section as SectionAt, NextSection, SectionParams, Instance as InstanceAt, Body, FirstPart, NextPart, Done}
use Rattle.sn_p21.specs.declared.grammar.place.Fixed.{Fixed}
use Rattle.sn_p21.specs.declared.grammar.place.Fixed.TheVariants as fixed
use Rattle.sn_p21.specs.declared.grammar.place.Owner.{Owner}
use Rattle.sn_p21.specs.declared.grammar.place.Owner.TheVariants as owner
use Rattle.sn_p21.specs.declared.grammar.list.Opening.TheVariants.{Plain, Typed}
use Rattle.sn_p21.specs.declared.grammar.list.OpenList.{OpenList}
use Rattle.sn_p21.specs.declared.grammar.reader.Reader.{Reader}
use Rattle.sn_p21.specs.Numbers.{has_number}
use Rattle.sn_p21.specs.Word.{Word, IsSpelled, mark, keyword}
use Rattle.sn_p21.specs.Reader.{Step, Refusal, unexpected, twice, deep, step, begins_section, counts_one, ends_section, takes_entity, takes_instance, takes_param, list_param, closes_in, parted, empty_list, names_header_entity, ends_header}
use Rattle.sn_p21.proofs.ListWords.{parted_cases}
use Rattle.sn_p21.proofs.Kept.{Before, IsBefore, FixedKept, KeptAt, Kept, IsOutside}
use Rattle.sn_p21.proofs.Runs.{and_then, run}

-- Words with their texts.

file_start : IsSpelled (mark FileStart)
file_start = (codes "ISO-10303-21", (refl, refl))

file_end : IsSpelled (mark FileEnd)
file_end = (codes "END-ISO-10303-21", (refl, refl))

semicolon : IsSpelled (mark Semicolon)
semicolon = (codes ";", (refl, refl))

equals : IsSpelled (mark Equals)
equals = (codes "=", (refl, refl))

left : IsSpelled (mark LeftParen)
left = (codes "(", (refl, refl))

right : IsSpelled (mark RightParen)
right = (codes ")", (refl, refl))

dollar : IsSpelled (mark Dollar)
dollar = (codes "$", (refl, refl))

header_name : IsSpelled (keyword (codes "HEADER"))
header_name = (codes "HEADER", (inl (refl, refl), refl))

data_name : IsSpelled (keyword (codes "DATA"))
data_name = (codes "DATA", (inl (refl, refl), refl))

section_end : IsSpelled (keyword (codes "ENDSEC"))
section_end = (codes "ENDSEC", (inl (refl, refl), refl))

description : IsSpelled (keyword (codes "FILE_DESCRIPTION"))
description = (codes "FILE_DESCRIPTION", (inl (refl, refl), refl))

file_name : IsSpelled (keyword (codes "FILE_NAME"))
file_name = (codes "FILE_NAME", (inl (refl, refl), refl))

schema : IsSpelled (keyword (codes "FILE_SCHEMA"))
schema = (codes "FILE_SCHEMA", (inl (refl, refl), refl))

letter : IsSpelled (keyword (codes "A"))
letter = (codes "A", (inl (refl, refl), refl))

-- the words that close a file
pub closing_spelled : AllByRecursion IsSpelled (keyword (codes "ENDSEC") ∷ mark Semicolon ∷ mark FileEnd ∷ mark Semicolon ∷ [])
closing_spelled = (section_end, (semicolon, (file_end, (semicolon, tt))))

-- the number of the instance that an entity of this owner belongs to is a new one
abbrev pub IsNew : Owner → ℕ → List Instance → Type 0
IsNew owner.Header n is = Unit {0}
IsNew owner.Section n is = Unit {0}
IsNew owner.Simple n is = has_number n is ≡ false
IsNew owner.Complex n is = has_number n is ≡ false

-- the keyword of a typed parameter stands where its list may be opened
abbrev pub HasListRoom : ℕ → Place → Reader → Type 0
HasListRoom limit TypedList s = length s.outer + 1 < limit
HasListRoom limit _ s = Unit {0}

header_count : (n m : ℕ) (v : List ℕ) → n ≡ m → ends_header m Keyword v ≡ false → ends_header n Keyword v ≡ false
header_count n m v e h = subst (λ k. ends_header k Keyword v ≡ false) (sym e) h

header_named : (n m : ℕ) (v : List ℕ) → n ≡ m → names_header_entity m Keyword v ≡ true → names_header_entity n Keyword v ≡ true
header_named n m v e h = subst (λ k. names_header_entity k Keyword v ≡ true) (sym e) h

module _ (limit : ℕ) where
  -- some words lead to the end of a file
  abbrev pub Finishes : Reader → Type 0
  Finishes s = (rest : List Word) × AllByRecursion IsSpelled rest × (t : Reader) × (run limit s rest ≡ Ok t) × (t.place ≡ Done)

  takes : (s r : Reader) (w : Word) → IsSpelled w → step limit s w.token w.value ≡ Ok r → Finishes r → Finishes s
  takes s r w spelled e f = (w ∷ f.0, (spelled, f.1), f.2, ap (λ x. and_then x (λ next. run limit next f.0)) e ∙ f.3, f.4)

  -- At the words that the grammar fixes behind the header.

  at_done : (s : Reader) → Finishes (record s { place = Done })
  at_done s = ([], tt, record s { place = Done }, refl, refl)

  at_file_end_end : (s : Reader) → Finishes (record s { place = FixedAt fixed.FileEndEnd })
  at_file_end_end s = takes (record s { place = FixedAt fixed.FileEndEnd }) (record s { place = Done }) (mark Semicolon) semicolon refl (at_done s)

  at_next_section : (s : Reader) → Finishes (record s { place = NextSection })
  at_next_section s = takes (record s { place = NextSection }) (record s { place = FixedAt fixed.FileEndEnd }) (mark FileEnd) file_end refl (at_file_end_end s)

  at_data_section_end : (s : Reader) → Finishes (record s { place = FixedAt fixed.DataSectionEnd })
  at_data_section_end s = takes (record s { place = FixedAt fixed.DataSectionEnd }) (record s { place = NextSection }) (mark Semicolon) semicolon refl (at_next_section s)

  at_instance : (s : Reader) → Finishes (record s { place = InstanceAt })
  at_instance s = takes (record s { place = InstanceAt }) (ends_section s) (keyword (codes "ENDSEC")) section_end refl (at_data_section_end (ends_section s))

  at_instance_end : (s : Reader) → Finishes (record s { place = FixedAt fixed.InstanceEnd })
  at_instance_end s = takes (record s { place = FixedAt fixed.InstanceEnd }) (record s { place = InstanceAt }) (mark Semicolon) semicolon refl (at_instance s)

  at_section_params_end : (s : Reader) → Finishes (record s { place = FixedAt fixed.SectionParamsEnd })
  at_section_params_end s = takes (record s { place = FixedAt fixed.SectionParamsEnd }) (record s { place = InstanceAt }) (mark Semicolon) semicolon refl (at_instance s)

  at_section_params : (s : Reader) → Finishes (record s { place = SectionParams })
  at_section_params s =
      let r = begins_section InstanceAt None (record s { keyword = [] }) in
      takes (record s { place = SectionParams }) r (mark Semicolon) semicolon refl (at_instance r)

  at_section : (s : Reader) → Finishes (record s { place = SectionAt })
  at_section s =
      let r = record s { owner = owner.Section; keyword = codes "DATA" } in
      takes (record s { place = SectionAt }) (record r { place = SectionParams }) (keyword (codes "DATA")) data_name refl (at_section_params r)

  at_header_section_end : (s : Reader) → Finishes (record s { place = FixedAt fixed.HeaderSectionEnd })
  at_header_section_end s = takes (record s { place = FixedAt fixed.HeaderSectionEnd }) (record s { place = SectionAt }) (mark Semicolon) semicolon refl (at_section s)

  -- Within the header.

  ended : (b : Bool) (s : Reader) (other : Step) → b ≡ true → cond b (Ok s) other ≡ Ok s
  ended b s other e = ap (λ c. cond c (Ok s) other) e

  begun_step : (b d : Bool) (s t : Reader) → b ≡ false → d ≡ true → cond b (Ok s) (cond d (Ok t) (Err unexpected)) ≡ Ok t
  begun_step b d s t e f = ap (λ c. cond c (Ok s) (cond d (Ok t) (Err unexpected))) e ∙ ap (λ c. cond c (Ok t) (Err unexpected)) f

  long_header : (s : Reader) → 3 ≤ length s.header → Finishes (record s { place = HeaderEntity })
  long_header s three =
      let ends : ends_header (length s.header) Keyword (codes "ENDSEC") ≡ true = ap (λ b. b && true) (let z : nat_lt 2 (length s.header) ≡ true = search (rules, tests) in z) in
      takes (record s { place = HeaderEntity }) (record s { place = FixedAt fixed.HeaderSectionEnd }) (keyword (codes "ENDSEC")) section_end (ended _ _ _ ends) (at_header_section_end s)

  -- an entity of no parameters ends the list that is its own
  own_list : (s r : Reader) → s.outer ≡ [] → takes_entity s.owner (record s { place = FirstParam; keyword = []; list = empty_list Plain }) (record { keyword = s.keyword; params = [] }) ≡ Ok r → Finishes r → Finishes (record s { place = OwnList })
  own_list s r none h f =
      let opened = record s { place = FirstParam; list = empty_list Plain } in
      takes (record s { place = OwnList }) opened (mark LeftParen) left refl (takes opened r (mark RightParen) right (ap (λ o. closes_in opened (parted o)) none ∙ h) f)

  -- one header entity more
  header_more : (s : Reader) (name : List ℕ) → IsSpelled (keyword name) → s.outer ≡ [] → ends_header (length s.header) Keyword name ≡ false → names_header_entity (length s.header) Keyword name ≡ true → ((r : Reader) → length r.header ≡ length s.header + 1 → r.outer ≡ [] → Finishes (record r { place = HeaderEntity })) → Finishes (record s { place = HeaderEntity })
  header_more s name spelled none ends names more =
      let e : Entity = record { keyword = name; params = [] } in
      let started = record s { place = OwnList; owner = owner.Header; keyword = name } in
      let taken = record started { place = FixedAt fixed.HeaderEntityEnd; keyword = []; list = empty_list Plain; header = s.header ++ e ∷ [] } in
      let finish = takes taken (record taken { place = HeaderEntity }) (mark Semicolon) semicolon refl (more taken (length-append s.header (e ∷ [])) none) in
      takes (record s { place = HeaderEntity }) started (keyword name) spelled (begun_step _ _ _ _ ends names) (own_list started taken none refl finish)

  header_of_two : (s : Reader) → length s.header ≡ 2 → s.outer ≡ [] → Finishes (record s { place = HeaderEntity })
  header_of_two s two none = header_more s (codes "FILE_SCHEMA") schema none (header_count (length s.header) 2 (codes "FILE_SCHEMA") two refl) (header_named (length s.header) 2 (codes "FILE_SCHEMA") two refl) (λ r e o. long_header r (omega arith))

  header_of_one : (s : Reader) → length s.header ≡ 1 → s.outer ≡ [] → Finishes (record s { place = HeaderEntity })
  header_of_one s one none = header_more s (codes "FILE_NAME") file_name none (header_count (length s.header) 1 (codes "FILE_NAME") one refl) (header_named (length s.header) 1 (codes "FILE_NAME") one refl) (λ r e o. header_of_two r (omega arith) o)

  header_of_none : (s : Reader) → length s.header ≡ 0 → s.outer ≡ [] → Finishes (record s { place = HeaderEntity })
  header_of_none s empty none = header_more s (codes "FILE_DESCRIPTION") description none (header_count (length s.header) 0 (codes "FILE_DESCRIPTION") empty refl) (header_named (length s.header) 0 (codes "FILE_DESCRIPTION") empty refl) (λ r e o. header_of_one r (omega arith) o)

  at_header_entity : (h : List Entity) (s : Reader) → s.header ≡ h → s.outer ≡ [] → Finishes (record s { place = HeaderEntity })
  at_header_entity [] s e none = header_of_none s (ap length e) none
  at_header_entity (c ∷ []) s e none = header_of_one s (ap length e) none
  at_header_entity (c ∷ d ∷ []) s e none = header_of_two s (ap length e) none
  at_header_entity (c ∷ d ∷ f ∷ h) s e none = long_header s (let n = ap length e in omega arith)

  -- At entities and instances.

  fresh_step : (b : Bool) (why : Refusal) (t : Reader) → b ≡ false → cond b (Err why) (Ok t) ≡ Ok t
  fresh_step b why t e = ap (λ c. cond c (Err why) (Ok t)) e

  -- the instance ends with these parts
  taken_instance : (s : Reader) (ps : List Entity) → has_number s.number s.instances ≡ false → (r : Reader) × (takes_instance s ps ≡ Ok r) × Finishes r
  taken_instance s ps new =
      let r = record s { section = counts_one s.section; instances = s.instances ++ (record { number = s.number; parts = ps }) ∷ []; place = FixedAt fixed.InstanceEnd } in
      (r, fresh_step (has_number s.number s.instances) (twice s.number) r new, at_instance_end r)

  at_next_part : (s : Reader) → has_number s.number s.instances ≡ false → Finishes (record s { place = NextPart })
  at_next_part s new =
      let t = taken_instance (record s { place = NextPart; parts = [] }) s.parts new in
      takes (record s { place = NextPart }) t.0 (mark RightParen) right t.1 t.2

  taken_entity : (o : Owner) (s : Reader) (e : Entity) → s.outer ≡ [] → IsNew o s.number s.instances → (r : Reader) × (takes_entity o s e ≡ Ok r) × Finishes r
  taken_entity owner.Header s e none new =
      let r = record s { header = s.header ++ e ∷ []; place = FixedAt fixed.HeaderEntityEnd } in
      (r, refl, takes r (record r { place = HeaderEntity }) (mark Semicolon) semicolon refl (at_header_entity r.header r refl none))
  taken_entity owner.Section s e none new =
      let r = begins_section (FixedAt fixed.SectionParamsEnd) (Some e.params) s in
      (r, refl, at_section_params_end r)
  taken_entity owner.Simple s e none new = taken_instance s (e ∷ []) new
  taken_entity owner.Complex s e none new =
      let r = record s { parts = s.parts ++ e ∷ []; place = NextPart } in
      (r, refl, at_next_part r new)

  at_own_list : (s : Reader) → s.outer ≡ [] → IsNew s.owner s.number s.instances → Finishes (record s { place = OwnList })
  at_own_list s none new =
      let t = taken_entity s.owner (record s { place = FirstParam; keyword = []; list = empty_list Plain }) (record { keyword = s.keyword; params = [] }) none new in
      own_list s t.0 none t.1 t.2

  at_body : (s : Reader) → s.outer ≡ [] → has_number s.number s.instances ≡ false → Finishes (record s { place = Body })
  at_body s none new =
      let started = record s { place = OwnList; owner = owner.Simple; keyword = codes "A" } in
      takes (record s { place = Body }) started (keyword (codes "A")) letter refl (at_own_list started none new)

  at_first_part : (s : Reader) → s.outer ≡ [] → has_number s.number s.instances ≡ false → Finishes (record s { place = FirstPart })
  at_first_part s none new =
      let started = record s { place = OwnList; owner = owner.Complex; keyword = codes "A" } in
      takes (record s { place = FirstPart }) started (keyword (codes "A")) letter refl (at_own_list started none new)

  -- At parameters.

  closed : (s r : Reader) (o : Option (List OpenList × OpenList)) → parted s.outer ≡ o → closes_in (record s { place = AfterParam }) o ≡ Ok r → Finishes r → Finishes (record s { place = AfterParam })
  closed s r o e h f = takes (record s { place = AfterParam }) r (mark RightParen) right (ap (closes_in (record s { place = AfterParam })) e ∙ h) f

  -- so many lists around the innermost one
  at_after_param : (count : ℕ) (s : Reader) → length s.outer ≡ count → IsNew s.owner s.number s.instances → Finishes (record s { place = AfterParam })
  at_after_param zero s n new =
      ⊎_elim
      (λ c.
      let t = taken_entity s.owner (record s { place = AfterParam; keyword = []; list = empty_list Plain }) (record { keyword = s.keyword; params = s.list.params }) c.0 new in
      closed s t.0 None c.1 t.1 t.2)
      (λ c. absurd (let e = ap length c.2 in let m = length-append c.0 (c.1 ∷ []) in omega arith))
      (parted_cases s.outer)
  at_after_param (suc count) s n new =
      ⊎_elim
      (λ c. absurd (let e = ap (length {A = OpenList}) c.0 in omega arith))
      (λ c.
      let r = takes_param (record s { place = AfterParam; outer = c.0; list = c.1 }) (list_param s.list) in
      closed s r (Some (c.0, c.1)) c.3 refl (at_after_param count r (let e = ap length c.2 in let m = length-append c.0 (c.1 ∷ []) in omega arith) new))
      (parted_cases s.outer)

  at_next_param : (s : Reader) → IsNew s.owner s.number s.instances → Finishes (record s { place = NextParam })
  at_next_param s new =
      let r = takes_param s param.Absent in
      takes (record s { place = NextParam }) r (mark Dollar) dollar refl (at_after_param (length s.outer) r refl new)

  at_first_param : (s : Reader) → IsNew s.owner s.number s.instances → Finishes (record s { place = FirstParam })
  at_first_param s new =
      let r = takes_param s param.Absent in
      takes (record s { place = FirstParam }) r (mark Dollar) dollar refl (at_after_param (length s.outer) r refl new)

  opens_step : (b : Bool) (t : Reader) → b ≡ true → cond b (Ok t) (Err deep) ≡ Ok t
  opens_step b t e = ap (λ c. cond c (Ok t) (Err deep)) e

  at_typed_list : (s : Reader) → IsNew s.owner s.number s.instances → length s.outer + 1 < limit → Finishes (record s { place = TypedList })
  at_typed_list s new room =
      let r = record s { typed = []; outer = s.outer ++ s.list ∷ []; list = empty_list (Typed s.typed); place = NextParam } in
      takes (record s { place = TypedList }) r (mark LeftParen) left (opens_step (nat_lt (length s.outer + 1) limit) r (search (rules, tests))) (at_next_param r new)

  -- At every place.

  before_new : (o : Owner) (h : List Entity) (ss : List Section) (sec : Section) (is : List Instance) (n : ℕ) (ps : List Entity) (name : List ℕ) (ws : List Word) → Before limit o h ss sec is n ps name ws → IsNew o n is
  before_new owner.Header h ss sec is n ps name ws k = tt
  before_new owner.Section h ss sec is n ps name ws k = tt
  before_new owner.Simple h ss sec is n ps name ws k = k.4
  before_new owner.Complex h ss sec is n ps name ws k = k.4

  pub is_new : (s : Reader) (ws : List Word) → IsBefore limit s ws → IsNew s.owner s.number s.instances
  is_new s ws k = before_new s.owner s.header s.sections s.section s.instances s.number s.parts s.keyword ws k

  at_header_end : (s : Reader) → s.outer ≡ [] → Finishes (record s { place = FixedAt fixed.HeaderEnd })
  at_header_end s none = takes (record s { place = FixedAt fixed.HeaderEnd }) (record s { place = HeaderEntity }) (mark Semicolon) semicolon refl (at_header_entity s.header s refl none)

  at_header : (s : Reader) → s.outer ≡ [] → Finishes (record s { place = FixedAt fixed.Header })
  at_header s none = takes (record s { place = FixedAt fixed.Header }) (record s { place = FixedAt fixed.HeaderEnd }) (keyword (codes "HEADER")) header_name refl (at_header_end s none)

  at_file_start_end : (s : Reader) → s.outer ≡ [] → Finishes (record s { place = FixedAt fixed.FileStartEnd })
  at_file_start_end s none = takes (record s { place = FixedAt fixed.FileStartEnd }) (record s { place = FixedAt fixed.Header }) (mark Semicolon) semicolon refl (at_header s none)

  at_fixed : (f : Fixed) (s : Reader) (ws : List Word) → FixedKept limit f s ws → s.outer ≡ [] → Finishes (record s { place = FixedAt f })
  at_fixed fixed.FileStart s ws k none = takes (record s { place = FixedAt fixed.FileStart }) (record s { place = FixedAt fixed.FileStartEnd }) (mark FileStart) file_start refl (at_file_start_end s none)
  at_fixed fixed.FileStartEnd s ws k none = at_file_start_end s none
  at_fixed fixed.Header s ws k none = at_header s none
  at_fixed fixed.HeaderEnd s ws k none = at_header_end s none
  at_fixed fixed.HeaderEntityEnd s ws k none = takes (record s { place = FixedAt fixed.HeaderEntityEnd }) (record s { place = HeaderEntity }) (mark Semicolon) semicolon refl (at_header_entity s.header s refl none)
  at_fixed fixed.HeaderSectionEnd s ws k none = at_header_section_end s
  at_fixed fixed.SectionParamsEnd s ws k none = at_section_params_end s
  at_fixed fixed.Equals s ws k none = takes (record s { place = FixedAt fixed.Equals }) (record s { place = Body }) (mark Equals) equals refl (at_body s none k.4)
  at_fixed fixed.InstanceEnd s ws k none = at_instance_end s
  at_fixed fixed.DataSectionEnd s ws k none = at_data_section_end s
  at_fixed fixed.FileEndEnd s ws k none = at_file_end_end s

  at_place : (p : Place) (s : Reader) (ws : List Word) → KeptAt limit p s ws → IsOutside p s → HasListRoom limit p s → Finishes (record s { place = p })
  at_place (FixedAt f) s ws k o room = at_fixed f s ws k o
  at_place HeaderEntity s ws k o room = at_header_entity s.header s refl o
  at_place OwnList s ws k o room = at_own_list s o (is_new s k.0 k.1)
  at_place FirstParam s ws k o room = at_first_param s (is_new s k.0.front k.0.before)
  at_place NextParam s ws k o room = at_next_param s (is_new s k.front k.before)
  at_place AfterParam s ws k o room = at_after_param (length s.outer) s refl (is_new s k.front k.before)
  at_place TypedList s ws k o room = at_typed_list s (is_new s k.1.front k.1.before) room
  at_place SectionAt s ws k o room = at_section s
  at_place NextSection s ws k o room = at_next_section s
  at_place SectionParams s ws k o room = at_section_params s
  at_place InstanceAt s ws k o room = at_instance s
  at_place Body s ws k o room = at_body s o k.4
  at_place FirstPart s ws k o room = at_first_part s o k.4
  at_place NextPart s ws k o room = at_next_part s k.5
  at_place Done s ws k o room = at_done s

  pub finishes : (s : Reader) (ws : List Word) → Kept limit s ws → HasListRoom limit s.place s → Finishes s
  finishes s ws k room = at_place s.place s ws k.0 k.1 room
