-- Words begin a part text exactly where the reader takes them.
use Rattle.std.proofs.Common.{◌≡◌, ℕ, ◌+◌, ◌<◌, ◌≤◌, ◌⊎◌, inl, inr, ⊎_elim, List, [], ◌∷◌, ◌++◌, length, Ok, refl, sym, ap, subst, ◌∙◌, arith}
use Rattle.std.specs.List.{AllByRecursion}
use Rattle.std.proofs.lemmas.Bool.{cases_lt}
use Rattle.sn_lex.specs.declared.token.Token.TheVariants.{Keyword}
use Rattle.sn_p21.specs.declared.limits.TheConstants.{MAX_OPEN_LISTS}
use Rattle.sn_p21.specs.declared.grammar.place.Place.{Place}
use Rattle.sn_p21.specs.declared.grammar.place.Place.TheVariants.{TypedList}
use Rattle.sn_p21.specs.declared.grammar.reader.Reader.{Reader}
use Rattle.sn_p21.specs.FirstFault.{BeginWithin, Begin, within, typed}
use Rattle.sn_p21.specs.Word.{Word, IsSpelled, keyword}
use Rattle.sn_p21.specs.Reader.{unexpected, step, step_at, start}
use Rattle.sn_p21.proofs.FilesRead.{file_is_read, front_all, join_all}
use Rattle.sn_p21.proofs.FileKept.{content, start_kept, whole_is_file}
use Rattle.sn_p21.proofs.Kept.{KeptAt}
use Rattle.sn_p21.proofs.KeptLemmas.{Gave, same_reader, no_reader}
use Rattle.sn_p21.proofs.TwoLimits.{run_more, keyword_same}
use Rattle.sn_p21.proofs.Live.{HasListRoom, finishes}
use Rattle.sn_p21.proofs.Runs.{and_then, run, first_gave, front_ran, joined_ran}

-- words that the reader took
abbrev pub Ran : ℕ → List Word → Type 0
Ran limit ws = (s : Reader) × (run limit start ws ≡ Ok s)

pub begin_within_ran : (limit : ℕ) (ws : List Word) → BeginWithin limit ws → Ran limit ws
begin_within_ran limit ws b =
    let whole = file_is_read limit b.0 (ws ++ b.1) b.3 b.2 in
    let front = front_ran limit ws b.1 start _ whole.2 in
    (front.0, front.1)

pub ran_within : (limit : ℕ) → 0 < limit → (ws : List Word) (s : Reader) → AllByRecursion IsSpelled ws → run limit start ws ≡ Ok s → HasListRoom limit s.place s → BeginWithin limit ws
ran_within limit some ws s spelled h room =
    let f = finishes limit s ws (start_kept limit some ws s spelled h) room in
    let all = joined_ran limit ws f.0 start s f.2 h f.3 in
    let whole = whole_is_file limit some (ws ++ f.0) f.2 (join_all IsSpelled ws f.0 spelled f.1) all f.4 in
    (content f.2, f.0, whole.0, whole.1)

-- the limit and one more
pub higher : MAX_OPEN_LISTS ≤ MAX_OPEN_LISTS + 1
higher = omega arith

typed_ran : (ws front : List Word) (name : List ℕ) → ws ≡ front ++ keyword name ∷ [] → Ran MAX_OPEN_LISTS front → Ran (MAX_OPEN_LISTS + 1) ws → Ran MAX_OPEN_LISTS ws
typed_ran ws front name e k m =
    let parts = front_ran (MAX_OPEN_LISTS + 1) front (keyword name ∷ []) start m.0 (ap (run (MAX_OPEN_LISTS + 1) start) (sym e) ∙ m.1) in
    let same = same_reader k.0 parts.0 (sym (run_more MAX_OPEN_LISTS (MAX_OPEN_LISTS + 1) higher front start k.0 k.1) ∙ parts.1) in
    let last : run MAX_OPEN_LISTS k.0 (keyword name ∷ []) ≡ Ok m.0 = ap (λ x. and_then x (λ next. Ok next)) (keyword_same MAX_OPEN_LISTS (MAX_OPEN_LISTS + 1) k.0 name) ∙ ap (λ r. run (MAX_OPEN_LISTS + 1) r (keyword name ∷ [])) same ∙ parts.2 in
    (m.0, ap (run MAX_OPEN_LISTS start) e ∙ joined_ran MAX_OPEN_LISTS front (keyword name ∷ []) start k.0 m.0 k.1 last)

pub begin_ran : (ws : List Word) → Begin ws → Ran MAX_OPEN_LISTS ws
begin_ran ws (within b) = begin_within_ran MAX_OPEN_LISTS ws b
begin_ran ws (typed front name e b m) = typed_ran ws front name e (begin_within_ran MAX_OPEN_LISTS front b) (begin_within_ran (MAX_OPEN_LISTS + 1) ws m)

room_cases : (limit : ℕ) (p : Place) (s : Reader) → HasListRoom limit p s ⊎ ((p ≡ TypedList) × (limit ≤ length s.outer + 1))
room_cases limit TypedList s = ⊎_elim (λ h. inl h) (λ h. inr (refl, h)) (cases_lt (length s.outer + 1) limit)
room_cases limit _ s = inl tt

no_keyword : (limit : ℕ) (p : Place) (s r : Reader) (v : List ℕ) → p ≡ TypedList → Gave (step_at limit p s Keyword v) r → ⊥
no_keyword limit p s r v e h = no_reader unexpected r (ap (λ q. step_at limit q s Keyword v) (sym e) ∙ h)

-- where a keyword is read there is room
keyword_room : (limit : ℕ) (s t : Reader) (name : List ℕ) → run limit s (keyword name ∷ []) ≡ Ok t → HasListRoom limit s.place s
keyword_room limit s t name h =
    let first = first_gave limit (step limit s Keyword name) [] t h in
    ⊎_elim (λ room. room) (λ c. absurd (no_keyword limit s.place s first.0 name c.0 first.1)) (room_cases limit s.place s)

-- the keyword of a typed parameter whose list may not be opened
typed_begins : (ws : List Word) (s : Reader) → AllByRecursion IsSpelled ws → run MAX_OPEN_LISTS start ws ≡ Ok s → s.place ≡ TypedList → KeptAt MAX_OPEN_LISTS TypedList s ws → Begin ws
typed_begins ws s spelled h place k =
    let word = keyword s.typed in
    let parts = front_ran MAX_OPEN_LISTS k.0 (word ∷ []) start s (ap (run MAX_OPEN_LISTS start) (sym k.2) ∙ h) in
    let front_spelled = front_all IsSpelled k.0 (word ∷ []) (subst (AllByRecursion IsSpelled) k.2 spelled) in
    let room = keyword_room MAX_OPEN_LISTS parts.0 s s.typed parts.2 in
    let below : length s.outer + 1 < MAX_OPEN_LISTS + 1 = (let d = k.1.depth in omega arith) in
    let above = subst (λ p. HasListRoom (MAX_OPEN_LISTS + 1) p s) (sym place) below in
    typed k.0 s.typed k.2 (ran_within MAX_OPEN_LISTS (omega arith) k.0 parts.0 front_spelled parts.1 room) (ran_within (MAX_OPEN_LISTS + 1) (omega arith) ws s spelled (run_more MAX_OPEN_LISTS (MAX_OPEN_LISTS + 1) higher ws start s h) above)

pub ran_begins : (ws : List Word) (s : Reader) → AllByRecursion IsSpelled ws → run MAX_OPEN_LISTS start ws ≡ Ok s → Begin ws
ran_begins ws s spelled h =
    ⊎_elim
    (λ room. within (ran_within MAX_OPEN_LISTS (omega arith) ws s spelled h room))
    (λ c. typed_begins ws s spelled h c.0 (subst (λ p. KeptAt MAX_OPEN_LISTS p s ws) c.0 (start_kept MAX_OPEN_LISTS (omega arith) ws s spelled h).0))
    (room_cases MAX_OPEN_LISTS s.place s)
