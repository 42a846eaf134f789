-- The faults of words.
use Rattle.std.proofs.Common.{◌≡◌, ◌≢◌, ℕ, ◌+◌, ◌≤◌, Bool, true, false, cond, nat_lt, ⊎_elim, List, [], ◌∷◌, ◌++◌, length, codes, Option, Some, None, Ok, Err, refl, sym, ap, subst, ◌∙◌, arith}
use Rattle.std.specs.List.{AllByRecursion}
use Rattle.std.proofs.lemmas.Bool.{lt-ltb}
use Rattle.sn_lex.specs.declared.token.Token.{Token}
use Rattle.sn_lex.specs.declared.token.Token.TheVariants.{FileEnd, Keyword, Number, LeftParen, RightParen, Comma, Semicolon}
use Rattle.sn_p21.specs.declared.limits.TheConstants.{MAX_OPEN_LISTS}
use Rattle.sn_p21.specs.declared.fault.P21Fault.{P21Fault}
use Rattle.sn_p21.specs.declared.fault.P21Fault.TheVariants as fault
use Rattle.sn_p21.specs.declared.file.Entity.{Entity}
use Rattle.sn_p21.specs.declared.grammar.place.Place.{Place}
use Rattle.sn_p21.specs.declared.grammar.place.Place.TheVariants.{Fixed as FixedAt, HeaderEntity, OwnList, FirstParam, NextParam, AfterParam, TypedList, Section as SectionAt, NextSection, SectionParams, Instance as InstanceAt, Body, FirstPart, NextPart, Done}
use Rattle.sn_p21.specs.declared.grammar.place.Fixed.{Fixed}
use Rattle.sn_p21.specs.declared.grammar.place.Fixed.TheVariants as fixed
use Rattle.sn_p21.specs.declared.grammar.place.Owner.{Owner}
use Rattle.sn_p21.specs.declared.grammar.place.Owner.TheVariants as owner
use Rattle.sn_p21.specs.declared.grammar.list.Opening.{Opening}
use Rattle.sn_p21.specs.declared.grammar.list.Opening.TheVariants.{Plain, Typed}
use Rattle.sn_p21.specs.declared.grammar.list.OpenList.{OpenList}
use Rattle.sn_p21.specs.declared.grammar.reader.Reader.{Reader}
use Rattle.sn_p21.specs.FirstFault.{IsTaken, IsDeeper, IsWordFault}
use Rattle.sn_p21.specs.Grammar.{closing_words}
use Rattle.sn_p21.specs.Numbers.{has_number}
use Rattle.sn_p21.specs.Word.{Word, Carries, IsSpelled, IsSpelling, mark}
use Rattle.sn_p21.specs.Reader.{Step, Refusal, unexpected, twice, deep, Refuses, accepts, place_after, is_keyword_named, names_header_entity, ends_header, empty_list, first_place, is_typed, parted, ends_section, step, step_at, step_param, opens, takes_entity, closes, closes_in, start}
use Rattle.sn_p21.proofs.FilesRead.{file_is_read, join_all}
use Rattle.sn_p21.proofs.FileKept.{content, start_kept, whole_is_file}
use Rattle.sn_p21.proofs.Kept.{KeptAt}
use Rattle.sn_p21.proofs.KeptLemmas.{same_reader, no_reader, word}
use Rattle.sn_p21.proofs.NumberLemmas.{has_number-true, has_number-from}
use Rattle.sn_p21.proofs.TwoLimits.{run_more, same_or_deep}
use Rattle.sn_p21.proofs.Live.{IsNew, HasListRoom, is_new, closing_spelled}
use Rattle.sn_p21.proofs.Begins.{begin_within_ran, ran_within, higher}
use Rattle.sn_p21.proofs.Runs.{and_then, run, first_gave, front_ran, joined_ran}

-- Steps that are no number taken and no list too deep.

abbrev pub IsPlain : Step → Type 0
IsPlain (Ok s) = Unit {0}
IsPlain (Err unexpected) = Unit {0}
IsPlain (Err (twice n)) = ⊥
IsPlain (Err deep) = ⊥

plain_either : (b : Bool) (s : Reader) → IsPlain (cond b (Ok s) (Err unexpected))
plain_either true s = tt
plain_either false s = tt

plain_unless : (b : Bool) (s : Reader) → IsPlain (cond b (Err unexpected) (Ok s))
plain_unless true s = tt
plain_unless false s = tt

plain_header : (b d : Bool) (s t : Reader) → IsPlain (cond b (Ok s) (cond d (Ok t) (Err unexpected)))
plain_header true d s t = tt
plain_header false true s t = tt
plain_header false false s t = tt

plain_new : (b : Bool) (n : ℕ) (s : Reader) → b ≡ false → IsPlain (cond b (Err (twice n)) (Ok s))
plain_new b n s e = subst (λ c. IsPlain (cond c (Err (twice n)) (Ok s))) (sym e) tt

plain_entity : (o : Owner) (s : Reader) (e : Entity) → IsNew o s.number s.instances → IsPlain (takes_entity o s e)
plain_entity owner.Header s e new = tt
plain_entity owner.Section s e new = tt
plain_entity owner.Simple s e new = plain_new (has_number s.number s.instances) s.number _ new
plain_entity owner.Complex s e new = tt

plain_close : (o : Option (List OpenList × OpenList)) (s : Reader) → IsNew s.owner s.number s.instances → IsPlain (closes_in s o)
plain_close None s new = plain_entity s.owner (record s { keyword = []; list = empty_list Plain }) (record { keyword = s.keyword; params = s.list.params }) new
plain_close (Some o) s new = tt

plain_closes : (s : Reader) → IsNew s.owner s.number s.instances → IsPlain (closes s)
plain_closes s new = plain_close (parted s.outer) s new

-- What a step is: plain, or a number that an earlier instance has, or one list more than may be open.

-- the number is taken
pub record NumberTaken (p : Place) (s : Reader) (t : Token) (r : Step) : Type 0 where
  pub n : ℕ
  pub place : p ≡ InstanceAt
  pub token : t ≡ Number n
  pub among : has_number n s.instances ≡ true
  pub refused : r ≡ Err (twice n)

-- the list would be opened if one more could be open
pub record ListDeep (t : Token) (r above : Step) : Type 0 where
  pub token : t ≡ LeftParen
  pub after : Reader
  pub opened : above ≡ Ok after
  pub room : HasListRoom (MAX_OPEN_LISTS + 1) after.place after
  pub refused : r ≡ Err deep

pub data StepCase (p : Place) (s : Reader) (t : Token) (r above : Step) : Type 0 where
  plain : IsPlain r → StepCase p s t r above
  taken : NumberTaken p s t r → StepCase p s t r above
  deeper : ListDeep t r above → StepCase p s t r above

abbrev pub CaseAt : Place → Reader → Token → List ℕ → Type 0
CaseAt p s t v = StepCase p s t (step_at MAX_OPEN_LISTS p s t v) (step_at (MAX_OPEN_LISTS + 1) p s t v)

first_place_room : (limit : ℕ) (opening : Opening) (s : Reader) → HasListRoom limit (first_place opening) s
first_place_room limit Plain s = tt
first_place_room limit (Typed name) s = tt

opening_case : (b d : Bool) (p : Place) (s r : Reader) → d ≡ true → HasListRoom (MAX_OPEN_LISTS + 1) r.place r → StepCase p s LeftParen (cond b (Ok r) (Err deep)) (cond d (Ok r) (Err deep))
opening_case true d p s r e room = plain tt
opening_case false d p s r e room = deeper (record { token = refl; after = r; opened = ap (λ c. cond c (Ok r) (Err deep)) e; room = room; refused = refl })

opens_case : (opening : Opening) (p : Place) (s q : Reader) → length q.outer + 1 ≤ MAX_OPEN_LISTS → StepCase p s LeftParen (opens MAX_OPEN_LISTS opening q) (opens (MAX_OPEN_LISTS + 1) opening q)
opens_case opening p s q depth =
    let r = record q { outer = q.outer ++ q.list ∷ []; list = empty_list opening; place = first_place opening } in
    opening_case (nat_lt (length q.outer + 1) MAX_OPEN_LISTS) (nat_lt (length q.outer + 1) (MAX_OPEN_LISTS + 1)) p s r (lt-ltb _ _ (omega arith)) (first_place_room (MAX_OPEN_LISTS + 1) opening r)

param_case : (p : Place) (t : Token) (s : Reader) (v : List ℕ) → length s.outer + 1 ≤ MAX_OPEN_LISTS → StepCase p s t (step_param MAX_OPEN_LISTS s t v) (step_param (MAX_OPEN_LISTS + 1) s t v)
param_case p LeftParen s v depth = opens_case Plain p s s depth
param_case p _ s v depth = plain tt

first_case : (t : Token) (s : Reader) (v : List ℕ) → length s.outer + 1 ≤ MAX_OPEN_LISTS → IsNew s.owner s.number s.instances → CaseAt FirstParam s t v
first_case RightParen s v depth new = plain (plain_closes s new)
first_case LeftParen s v depth new = opens_case Plain FirstParam s s depth
first_case _ s v depth new = plain tt

after_case : (t : Token) (s : Reader) (v : List ℕ) → IsNew s.owner s.number s.instances → CaseAt AfterParam s t v
after_case RightParen s v new = plain (plain_closes s new)
after_case Comma s v new = plain (plain_unless (is_typed s.list) _)
after_case _ s v new = plain tt

typed_case : (t : Token) (s : Reader) (v : List ℕ) → length s.outer + 1 ≤ MAX_OPEN_LISTS → CaseAt TypedList s t v
typed_case LeftParen s v depth = opens_case (Typed s.typed) TypedList s (record s { typed = [] }) depth
typed_case _ s v depth = plain tt

number_case : (b : Bool) (n : ℕ) (s r : Reader) (above : Step) → has_number n s.instances ≡ b → StepCase InstanceAt s (Number n) (cond b (Err (twice n)) (Ok r)) above
number_case true n s r above e = taken (record { n = n; place = refl; token = refl; among = e; refused = refl })
number_case false n s r above e = plain tt

instance_case : (t : Token) (s : Reader) (v : List ℕ) → CaseAt InstanceAt s t v
instance_case (Number n) s v = number_case (has_number n s.instances) n s _ _ refl
instance_case Keyword s v = plain (plain_either (is_keyword_named Keyword v (codes "ENDSEC")) _)
instance_case _ s v = plain tt

section_case : (t : Token) (s : Reader) (v : List ℕ) → CaseAt SectionAt s t v
section_case t s v = plain (plain_either (is_keyword_named t v (codes "DATA")) _)

next_section_case : (t : Token) (s : Reader) (v : List ℕ) → CaseAt NextSection s t v
next_section_case FileEnd s v = plain tt
next_section_case Keyword s v = plain (plain_either (is_keyword_named Keyword v (codes "DATA")) _)
next_section_case _ s v = plain tt

section_params_case : (t : Token) (s : Reader) (v : List ℕ) → CaseAt SectionParams s t v
section_params_case Semicolon s v = plain tt
section_params_case LeftParen s v = plain tt
section_params_case _ s v = plain tt

own_list_case : (t : Token) (s : Reader) (v : List ℕ) → CaseAt OwnList s t v
own_list_case LeftParen s v = plain tt
own_list_case _ s v = plain tt

body_case : (t : Token) (s : Reader) (v : List ℕ) → CaseAt Body s t v
body_case Keyword s v = plain tt
body_case _ s v = plain tt

first_part_case : (t : Token) (s : Reader) (v : List ℕ) → CaseAt FirstPart s t v
first_part_case Keyword s v = plain tt
first_part_case _ s v = plain tt

next_part_case : (t : Token) (s : Reader) (v : List ℕ) → has_number s.number s.instances ≡ false → CaseAt NextPart s t v
next_part_case RightParen s v new = plain (plain_new (has_number s.number s.instances) s.number _ new)
next_part_case _ s v new = plain tt

case_at : (p : Place) (s : Reader) (t : Token) (v : List ℕ) (ws : List Word) → KeptAt MAX_OPEN_LISTS p s ws → CaseAt p s t v
case_at (FixedAt f) s t v ws k = plain (plain_either (accepts f t v) _)
case_at HeaderEntity s t v ws k = plain (plain_header (ends_header (length s.header) t v) (names_header_entity (length s.header) t v) _ _)
case_at OwnList s t v ws k = own_list_case t s v
case_at FirstParam s t v ws k = first_case t s v k.0.depth (is_new MAX_OPEN_LISTS s k.0.front k.0.before)
case_at NextParam s t v ws k = param_case NextParam t s v k.depth
case_at AfterParam s t v ws k = after_case t s v (is_new MAX_OPEN_LISTS s k.front k.before)
case_at TypedList s t v ws k = typed_case t s v k.1.depth
case_at SectionAt s t v ws k = section_case t s v
case_at NextSection s t v ws k = next_section_case t s v
case_at SectionParams s t v ws k = section_params_case t s v
case_at InstanceAt s t v ws k = instance_case t s v
case_at Body s t v ws k = body_case t s v
case_at FirstPart s t v ws k = first_part_case t s v
case_at NextPart s t v ws k = next_part_case t s v k.5
case_at Done s t v ws k = plain tt

step_case : (ws : List Word) (s : Reader) (t : Token) (v : List ℕ) → AllByRecursion IsSpelled ws → run MAX_OPEN_LISTS start ws ≡ Ok s → CaseAt s.place s t v
step_case ws s t v spelled h = case_at s.place s t v ws (start_kept MAX_OPEN_LISTS (omega arith) ws s spelled h).0

-- Refusals that differ.

abbrev pub IsTwice : Refusal → Type 0
IsTwice (twice n) = Unit {0}
IsTwice _ = ⊥

abbrev pub IsDeep : Refusal → Type 0
IsDeep deep = Unit {0}
IsDeep _ = ⊥

same_refusal : (r : Step) (why other : Refusal) → r ≡ Err why → r ≡ Err other → why ≡ other
same_refusal r why other e f = cc

not_plain : (r : Step) (why : Refusal) → r ≡ Err why → IsPlain r → IsPlain (Err why)
not_plain r why e h = subst IsPlain e h

-- A number that is taken.

closes_fixed : (f : Fixed) → accepts f Keyword (codes "ENDSEC") ≡ false
closes_fixed fixed.FileStart = refl
closes_fixed fixed.Equals = refl
closes_fixed fixed.Header = refl
closes_fixed _ = refl

closes_header : {A : Type 0} → (b d : Bool) (s r t : Reader) → and_then (cond b (Ok (record s { place = FixedAt fixed.HeaderSectionEnd })) (cond d (Ok (record r { place = OwnList })) (Err unexpected))) (λ next. run MAX_OPEN_LISTS next (mark Semicolon ∷ mark FileEnd ∷ mark Semicolon ∷ [])) ≡ Ok t → A
closes_header true d s r t h = no_reader unexpected t h
closes_header false true s r t h = no_reader unexpected t h
closes_header false false s r t h = no_reader unexpected t h

-- only where an instance may stand do the words that close a file lead to its end
closes_at : (p : Place) (s t : Reader) → run MAX_OPEN_LISTS (record s { place = p }) closing_words ≡ Ok t → (p ≡ InstanceAt) × (s.instances ≡ t.instances)
closes_at (FixedAt f) s t h = no_reader unexpected t (sym (ap (λ b. and_then (cond b (Ok (record s { place = place_after f })) (Err unexpected)) (λ next. run MAX_OPEN_LISTS next (mark Semicolon ∷ mark FileEnd ∷ mark Semicolon ∷ []))) (closes_fixed f)) ∙ h)
closes_at HeaderEntity s t h = closes_header (ends_header (length s.header) Keyword (codes "ENDSEC")) (names_header_entity (length s.header) Keyword (codes "ENDSEC")) s (record s { owner = owner.Header; keyword = codes "ENDSEC" }) t h
closes_at InstanceAt s t h = (refl, ap (λ (r : Reader). r.instances) (same_reader (record (ends_section s) { place = Done }) t h))
closes_at SectionAt s t h = no_reader unexpected t h
closes_at NextSection s t h = no_reader unexpected t h
closes_at SectionParams s t h = no_reader unexpected t h
closes_at OwnList s t h = no_reader unexpected t h
closes_at FirstParam s t h = no_reader unexpected t h
closes_at NextParam s t h = no_reader unexpected t h
closes_at AfterParam s t h = no_reader unexpected t h
closes_at TypedList s t h = no_reader unexpected t h
closes_at Body s t h = no_reader unexpected t h
closes_at FirstPart s t h = no_reader unexpected t h
closes_at NextPart s t h = no_reader unexpected t h
closes_at Done s t h = no_reader unexpected t h

taken_twice : (ws : List Word) (s : Reader) (n : ℕ) → run MAX_OPEN_LISTS start ws ≡ Ok s → IsTaken n ws → step MAX_OPEN_LISTS s (Number n) [] ≡ Err (twice n)
taken_twice ws s n h k =
    let whole = file_is_read MAX_OPEN_LISTS k.0 (ws ++ closing_words) k.2 k.1 in
    let parts = front_ran MAX_OPEN_LISTS ws closing_words start _ whole.2 in
    let same : parts.0 ≡ s = same_reader parts.0 s (sym parts.1 ∙ h) in
    let at = closes_at s.place s _ (ap (λ r. run MAX_OPEN_LISTS r closing_words) (sym same) ∙ parts.2) in
    let among = ap (has_number n) at.1 ∙ has_number-from n k.0.instances k.3 in
    ap (λ p. step_at MAX_OPEN_LISTS p s (Number n) []) at.0 ∙ ap (λ b. cond b (Err (twice n)) (Ok (record s { number = n; place = FixedAt fixed.Equals }))) among

number_word : (t : Token) (v text : List ℕ) (n : ℕ) → Carries t text v → t ≡ Number n → word t v ≡ mark (Number n)
number_word t v text n c e = ap (λ u. word u v) e ∙ ap (word (Number n)) (subst (λ u. Carries u text v) e c)

paren_word : (t : Token) (v text : List ℕ) → Carries t text v → t ≡ LeftParen → word t v ≡ mark LeftParen
paren_word t v text c e = ap (λ u. word u v) e ∙ ap (word LeftParen) (subst (λ u. Carries u text v) e c)

-- a number of the instances so far
number_taken : (ws : List Word) (s : Reader) (n : ℕ) → AllByRecursion IsSpelled ws → run MAX_OPEN_LISTS start ws ≡ Ok s → s.place ≡ InstanceAt → has_number n s.instances ≡ true → IsTaken n ws
number_taken ws s n spelled h e among =
    let done = record (ends_section s) { place = Done } in
    let closed : run MAX_OPEN_LISTS s closing_words ≡ Ok done = ap (λ p. run MAX_OPEN_LISTS (record s { place = p }) closing_words) e in
    let whole = whole_is_file MAX_OPEN_LISTS (omega arith) (ws ++ closing_words) done (join_all IsSpelled ws closing_words spelled closing_spelled) (joined_ran MAX_OPEN_LISTS ws closing_words start s _ h closed) refl in
    (content done, whole.0, whole.1, has_number-true n s.instances among)

abbrev pub TwiceSaid : List Word → Token → List ℕ → ℕ → Type 0
TwiceSaid ws t v n = (word t v ≡ mark (Number n)) × IsTaken n ws

twice_taken : (ws : List Word) (s : Reader) (t : Token) (v text : List ℕ) (n : ℕ) → Carries t text v → AllByRecursion IsSpelled ws → run MAX_OPEN_LISTS start ws ≡ Ok s → step MAX_OPEN_LISTS s t v ≡ Err (twice n) → TwiceSaid ws t v n
twice_taken ws s t v text n c spelled h k = by (step_case ws s t v spelled h)
  where
    by : CaseAt s.place s t v → TwiceSaid ws t v n
    by (plain p) = absurd (not_plain (step MAX_OPEN_LISTS s t v) (twice n) k p)
    by (taken m) =
        let same : m.n ≡ n = (let z = same_refusal (step MAX_OPEN_LISTS s t v) (twice m.n) (twice n) m.refused k in cc) in
        subst (TwiceSaid ws t v) same (number_word t v text m.n c m.token, number_taken ws s m.n spelled h m.place m.among)
    by (deeper m) = absurd (subst IsDeep (same_refusal (step MAX_OPEN_LISTS s t v) deep (twice n) m.refused k) tt)

-- A list too deep.

deeper_unlike : (ws : List Word) (s : Reader) (w : Word) → run MAX_OPEN_LISTS start ws ≡ Ok s → step MAX_OPEN_LISTS s w.token w.value ≡ Err unexpected → IsDeeper ws w → ⊥
deeper_unlike ws s w h k d =
    let more = MAX_OPEN_LISTS + 1 in
    let all = begin_within_ran more (ws ++ w ∷ []) d.1 in
    let parts = front_ran more ws (w ∷ []) start all.0 all.1 in
    let same : parts.0 ≡ s = same_reader parts.0 s (sym parts.1 ∙ run_more MAX_OPEN_LISTS more higher ws start s h) in
    let first = first_gave more (step more parts.0 w.token w.value) [] all.0 parts.2 in
    let opened : step more s w.token w.value ≡ Ok first.0 = ap (λ r. step more r w.token w.value) (sym same) ∙ first.1 in
    ⊎_elim
    (λ e. no_reader unexpected first.0 (sym k ∙ e ∙ opened))
    (λ e. subst IsDeep (same_refusal (step MAX_OPEN_LISTS s w.token w.value) deep unexpected e k) tt)
    (same_or_deep MAX_OPEN_LISTS more higher s w.token w.value)

deep_deeper : (ws : List Word) (s : Reader) (t : Token) (v text : List ℕ) → IsSpelling (word t v) text → AllByRecursion IsSpelled ws → run MAX_OPEN_LISTS start ws ≡ Ok s → step MAX_OPEN_LISTS s t v ≡ Err deep → IsDeeper ws (word t v)
deep_deeper ws s t v text c spelled h k = by (step_case ws s t v spelled h)
  where
    by : CaseAt s.place s t v → IsDeeper ws (word t v)
    by (plain p) = absurd (not_plain (step MAX_OPEN_LISTS s t v) deep k p)
    by (taken m) = absurd (subst IsTwice (same_refusal (step MAX_OPEN_LISTS s t v) (twice m.n) deep m.refused k) tt)
    by (deeper m) =
        let more = MAX_OPEN_LISTS + 1 in
        let w = word t v in
        let last : run more s (w ∷ []) ≡ Ok m.after = ap (λ x. and_then x (λ next. Ok next)) m.opened in
        let ran = joined_ran more ws (w ∷ []) start s m.after (run_more MAX_OPEN_LISTS more higher ws start s h) last in
        (paren_word t v text c.1 m.token, ran_within more (omega arith) (ws ++ w ∷ []) m.after (join_all IsSpelled ws (w ∷ []) spelled ((text, c), tt)) ran m.room)

-- a step that is refused has the fault of its word
pub refused_fault : (ws : List Word) (s : Reader) (t : Token) (v text : List ℕ) (why : Refusal) (at : ℕ) (f : P21Fault) → IsSpelling (word t v) text → AllByRecursion IsSpelled ws → run MAX_OPEN_LISTS start ws ≡ Ok s → step MAX_OPEN_LISTS s t v ≡ Err why → Refuses why at f → f ≢ fault.Memory → IsWordFault ws (word t v) at f
refused_fault ws s t v text why at (fault.Unexpected o) c spelled h k r other =
    let refused = k ∙ ap Err r.0 in (
      r.1,
      λ n e taken. subst IsTwice (same_refusal (step MAX_OPEN_LISTS s t v) (twice n) unexpected (ap (λ (w : Word). step MAX_OPEN_LISTS s w.token w.value) e ∙ taken_twice ws s n h taken) refused) tt,
      deeper_unlike ws s (word t v) h refused,
    )
refused_fault ws s t v text why at (fault.Twice n o) c spelled h k r other =
    let said = twice_taken ws s t v text n c.1 spelled h (k ∙ ap Err r.0) in
    (r.1, said.0, said.1)
refused_fault ws s t v text why at (fault.TooDeep o) c spelled h k r other = (r.1, deep_deeper ws s t v text c spelled h (k ∙ ap Err r.0))
refused_fault ws s t v text why at (fault.Lex f) c spelled h k r other = absurd r
refused_fault ws s t v text why at fault.Memory c spelled h k r other = absurd (other refl)
