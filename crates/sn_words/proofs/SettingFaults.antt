-- Where an option or an assignment cannot stand, and what one adds.
use Rattle.std.proofs.Common.{◌≡◌, ◌≢◌, ℕ, zero, suc, ◌+◌, ◌<◌, List, [], ◌∷◌, ◌++◌, length, drop, Option, Some, None, true, false, refl, sym, ap, ◌∙◌, subst, arith, codes, add-one}
use Rattle.std.specs.Prelude.{ℤ, All, Any, IfNone, slice_get, is_some}
use Rattle.sn_geom.specs.Decimal.{HasOneNumber, ScalesToOne}
use Rattle.sn_words.specs.Command.{Setting, cell, raw, assign, words_of, IsRead, Departs}
use Rattle.sn_words.specs.Reading.{IsFresh, with_setting, MayFollow, StopsAt, TakesSetting}
use Rattle.sn_words.specs.WordForms.{IsPitchWord, IsBoxWord, IsAssignmentWord}
use Rattle.sn_geom.specs.declared.limits.TheConstants.{LEAST_PITCH}
use Rattle.sn_words.specs.declared.options.Assign.{Assign}
use Rattle.sn_words.specs.declared.options.RawBox.{RawBox}
use Rattle.sn_words.specs.declared.seen.Seen.{Seen}
use Rattle.sn_words.proofs.Departures.{departs_first, departs_second}
use Rattle.sn_words.proofs.Samples.{sample_pitch, sample_box, sample_box_word}
use Rattle.sn_words.proofs.SettingLemmas.{first_setting, ends_here, preceded}
use Rattle.sn_words.proofs.WordLemmas.{no_assignment, assignment_same}

-- ---- lists and options

pub tail_at : (words : List (List ℕ)) (at : ℕ) (w : List ℕ) → slice_get words at ≡ Some w → drop at words ≡ w ∷ drop (at + 1) words
tail_at [] at w e = absurd (cc)
tail_at (x ∷ xs) zero w e = let same : x ≡ w = cc in ap (λ t. t ∷ xs) same
tail_at (x ∷ xs) (suc at) w e = rw (add-one) (let h = tail_at xs at w e in rw add-one at h)

pub get_behind : (words : List (List ℕ)) (at : ℕ) → slice_get words at ≡ slice_get (drop at words) 0
get_behind [] zero = refl
get_behind [] (suc at) = refl
get_behind (x ∷ xs) zero = refl
get_behind (x ∷ xs) (suc at) = get_behind xs at

pub get_within : (words : List (List ℕ)) (at : ℕ) (w : List ℕ) → slice_get words at ≡ Some w → at < length words
get_within [] at w e = absurd (cc)
get_within (x ∷ xs) zero w e = omega arith
get_within (x ∷ xs) (suc at) w e = let h = get_within xs at w e in omega arith

pub none_from : {X : Type 0} (o : Option X) → is_some o ≡ false → o ≡ None
none_from None e = refl
none_from (Some x) e = absurd (cc)

pub some_differs : {X : Type 0} (o : Option X) → is_some o ≡ true → o ≡ None → ⊥
some_differs None e h = cc
some_differs (Some x) e h = cc

-- ---- the pitch

record CellFollows (g : Seen) (later : List (List ℕ)) : Type 0 where
  word : List ℕ
  pitch : ℕ
  rest : List (List ℕ)
  order : later ≡ word ∷ rest
  read : IsPitchWord word pitch
  fresh : g.pitch ≡ None

cell_by : (g : Seen) (later rest : List (List ℕ)) (s : Setting) → codes "--cell" ∷ later ≡ words_of s ++ rest → IsRead s → IsFresh g s → CellFollows g later
cell_by g later rest (cell w p) e h f = record { word = w; pitch = p; rest = rest; order = cc; read = h; fresh = f }
cell_by g later rest (raw w b) e h f = let c : ◌≡◌ {A = ℕ} 99 114 = cc in absurd (omega arith)
cell_by g later rest (assign w a) e h f =
    let word : codes "--cell" ≡ w = cc in
    absurd (no_assignment _ a (subst (λ t. IsAssignmentWord t a) (sym word) h))

cell_follows : (g : Seen) (later : List (List ℕ)) → MayFollow g (codes "--cell" ∷ later) → CellFollows g later
cell_follows g later may = let first = first_setting g (codes "--cell") later may in cell_by g later first.rest first.setting first.order first.read first.fresh

pub cell_twice : (g : Seen) (after : List (List ℕ)) → (g.pitch ≡ None → ⊥) → Departs (MayFollow g) (codes "--cell" ∷ after) 1
cell_twice g after seen = departs_first (MayFollow g) (codes "--cell") after ([], (g, ends_here g)) (λ later may. seen (cell_follows g later may).fresh)

pub cell_bad : (g : Seen) (after : List (List ℕ)) → g.pitch ≡ None → ((word : List ℕ) (pitch : ℕ) → slice_get after 0 ≡ Some word → ¬ IsPitchWord word pitch)
    → Departs (MayFollow g) (codes "--cell" ∷ after) 2
cell_bad g after fresh none =
    let sample = cell (codes "20") LEAST_PITCH in
    let all = with_setting g sample in
    departs_second (MayFollow g) (codes "--cell") after (codes "20" ∷ [], (all, preceded g sample [] all sample_pitch fresh (ends_here all)))
    (λ may. let follows = cell_follows g [] may in let order = follows.order in cc)
    (λ second later here may.
    let follows = cell_follows g (second ∷ later) may in
    let same : second ≡ follows.word = (let order = follows.order in cc) in
    none second follows.pitch here (subst (λ w. IsPitchWord w follows.pitch) (sym same) follows.read))

-- ---- the raw box

record RawFollows (g : Seen) (later : List (List ℕ)) : Type 0 where
  word : List ℕ
  box : RawBox
  rest : List (List ℕ)
  order : later ≡ word ∷ rest
  read : IsBoxWord word box
  fresh : g.raw ≡ None

raw_by : (g : Seen) (later rest : List (List ℕ)) (s : Setting) → codes "--raw" ∷ later ≡ words_of s ++ rest → IsRead s → IsFresh g s → RawFollows g later
raw_by g later rest (cell w p) e h f = let c : ◌≡◌ {A = ℕ} 114 99 = cc in absurd (omega arith)
raw_by g later rest (raw w b) e h f = record { word = w; box = b; rest = rest; order = cc; read = h; fresh = f }
raw_by g later rest (assign w a) e h f =
    let word : codes "--raw" ≡ w = cc in
    absurd (no_assignment _ a (subst (λ t. IsAssignmentWord t a) (sym word) h))

raw_follows : (g : Seen) (later : List (List ℕ)) → MayFollow g (codes "--raw" ∷ later) → RawFollows g later
raw_follows g later may = let first = first_setting g (codes "--raw") later may in raw_by g later first.rest first.setting first.order first.read first.fresh

pub raw_twice : (g : Seen) (after : List (List ℕ)) → (g.raw ≡ None → ⊥) → Departs (MayFollow g) (codes "--raw" ∷ after) 1
raw_twice g after seen = departs_first (MayFollow g) (codes "--raw") after ([], (g, ends_here g)) (λ later may. seen (raw_follows g later may).fresh)

pub raw_bad : (g : Seen) (after : List (List ℕ)) → g.raw ≡ None → ((word : List ℕ) (box : RawBox) → slice_get after 0 ≡ Some word → ¬ IsBoxWord word box)
    → Departs (MayFollow g) (codes "--raw" ∷ after) 2
raw_bad g after fresh none =
    let sample = raw (codes "0,0,0,1,1,1") sample_box in
    let all = with_setting g sample in
    departs_second (MayFollow g) (codes "--raw") after (codes "0,0,0,1,1,1" ∷ [], (all, preceded g sample [] all sample_box_word fresh (ends_here all)))
    (λ may. let follows = raw_follows g [] may in let order = follows.order in cc)
    (λ second later here may.
    let follows = raw_follows g (second ∷ later) may in
    let same : second ≡ follows.word = (let order = follows.order in cc) in
    none second follows.box here (subst (λ w. IsBoxWord w follows.box) (sym same) follows.read))

-- ---- assignments

record AssignFollows (g : Seen) (word : List ℕ) : Type 0 where
  assignment : Assign
  read : IsAssignmentWord word assignment
  fresh : All (λ b. b.name ≢ assignment.name) g.sets

assign_by : (g : Seen) (word : List ℕ) (later rest : List (List ℕ)) (s : Setting) → (word ≢ codes "--cell") → (word ≢ codes "--raw")
    → word ∷ later ≡ words_of s ++ rest → IsRead s → IsFresh g s → AssignFollows g word
assign_by g word later rest (cell w p) no_cell no_raw e h f = absurd (no_cell (cc))
assign_by g word later rest (raw w b) no_cell no_raw e h f = absurd (no_raw (cc))
assign_by g word later rest (assign w a) no_cell no_raw e h f =
    let same : word ≡ w = cc in
    record { assignment = a; read = subst (λ t. IsAssignmentWord t a) (sym same) h; fresh = f }

pub assign_bad : (g : Seen) (word : List ℕ) (after : List (List ℕ)) → (word ≢ codes "--cell") → (word ≢ codes "--raw")
    → ((a : Assign) → IsAssignmentWord word a → All (λ b. b.name ≢ a.name) g.sets → ⊥) → Departs (MayFollow g) (word ∷ after) 1
assign_bad g word after no_cell no_raw none =
    departs_first (MayFollow g) word after ([], (g, ends_here g)) (λ later may.
    let first = first_setting g word later may in
    let follows = assign_by g word later first.rest first.setting no_cell no_raw first.order first.read first.fresh in
    none follows.assignment follows.read follows.fresh)

-- ---- at a place of the words

pub stops_at : (g : Seen) (words : List (List ℕ)) (at behind : ℕ) (w : List ℕ) → slice_get words at ≡ Some w
    → Departs (MayFollow g) (w ∷ drop (at + 1) words) behind → StopsAt words at g (at + behind)
stops_at g words at behind w here d = record {
  behind = behind;
  place_is = refl;
  departs = subst (λ t. Departs (MayFollow g) t behind) (sym (tail_at words at w here)) d;
}

pub takes_two : (g : Seen) (words : List (List ℕ)) (at : ℕ) (s : Setting) (first second : List ℕ) → slice_get words at ≡ Some first
    → slice_get words (at + 1) ≡ Some second → words_of s ≡ first ∷ second ∷ [] → IsRead s → IsFresh g s → TakesSetting words at (at + 2) g (with_setting g s)
takes_two g words at s first second here behind two read fresh =
    let e : at + 1 + 1 ≡ at + 2 = omega arith in
    let within = get_within words (at + 1) second behind in
    record {
      setting = s;
      read = read;
      fresh = fresh;
      order = tail_at words at first here ∙ (ap (λ t. first ∷ t) (tail_at words (at + 1) second behind) ∙ (ap (λ n. first ∷ second ∷ drop n words) e ∙ ap (λ l. l ++ drop (at + 2) words) (sym two)));
      later = omega arith;
      within = omega arith;
      new_is = refl;
    }

pub takes_one : (g : Seen) (words : List (List ℕ)) (at : ℕ) (s : Setting) (word : List ℕ) → slice_get words at ≡ Some word
    → words_of s ≡ word ∷ [] → IsRead s → IsFresh g s → TakesSetting words at (at + 1) g (with_setting g s)
takes_one g words at s word here one read fresh =
    let within = get_within words at word here in
    record {
      setting = s;
      read = read;
      fresh = fresh;
      order = tail_at words at word here ∙ ap (λ l. l ++ drop (at + 1) words) (sym one);
      later = omega arith;
      within = omega arith;
      new_is = refl;
    }

-- ---- the refusals of a place, in the form of the functions that answer them

pub stops_twice : (g : Seen) (words : List (List ℕ)) (at place : ℕ) → slice_get words at ≡ Some (codes "--cell") → is_some g.pitch ≡ true → at + 1 ≡ place
    → StopsAt words at g place
stops_twice g words at place here seen same =
    subst (StopsAt words at g) same (stops_at g words at 1 (codes "--cell") here (cell_twice g (drop (at + 1) words) (some_differs g.pitch seen)))

pub stops_pitch : (g : Seen) (words : List (List ℕ)) (at place : ℕ) → slice_get words at ≡ Some (codes "--cell") → is_some g.pitch ≡ false
    → ((word : List ℕ) (pitch : ℕ) → slice_get words (at + 1) ≡ Some word → ¬ IsPitchWord word pitch) → at + 2 ≡ place → StopsAt words at g place
stops_pitch g words at place here seen none same =
    subst (StopsAt words at g) same (stops_at g words at 2 (codes "--cell") here (cell_bad g (drop (at + 1) words) (none_from g.pitch seen)
    (λ word pitch first. none word pitch (get_behind words (at + 1) ∙ first))))

pub stops_raw_twice : (g : Seen) (words : List (List ℕ)) (at place : ℕ) → slice_get words at ≡ Some (codes "--raw") → is_some g.raw ≡ true → at + 1 ≡ place
    → StopsAt words at g place
stops_raw_twice g words at place here seen same =
    subst (StopsAt words at g) same (stops_at g words at 1 (codes "--raw") here (raw_twice g (drop (at + 1) words) (some_differs g.raw seen)))

pub stops_box : (g : Seen) (words : List (List ℕ)) (at place : ℕ) → slice_get words at ≡ Some (codes "--raw") → is_some g.raw ≡ false
    → ((word : List ℕ) (box : RawBox) → slice_get words (at + 1) ≡ Some word → ¬ IsBoxWord word box) → at + 2 ≡ place → StopsAt words at g place
stops_box g words at place here seen none same =
    subst (StopsAt words at g) same (stops_at g words at 2 (codes "--raw") here (raw_bad g (drop (at + 1) words) (none_from g.raw seen)
    (λ word box first. none word box (get_behind words (at + 1) ∙ first))))

pub stops_assign : (g : Seen) (words : List (List ℕ)) (at place : ℕ) (word : List ℕ) → slice_get words at ≡ Some word
    → (slice_get words at ≢ Some (codes "--cell")) → (slice_get words at ≢ Some (codes "--raw"))
    → ((a : Assign) → IsAssignmentWord word a → All (λ b. b.name ≢ a.name) g.sets → ⊥) → at + 1 ≡ place → StopsAt words at g place
stops_assign g words at place word here no_cell no_raw none same =
    subst (StopsAt words at g) same (stops_at g words at 1 word here (assign_bad g word (drop (at + 1) words)
    (λ e. no_cell (here ∙ ap Some e)) (λ e. no_raw (here ∙ ap Some e)) none))

-- a name that stands among those that have been given
pub name_seen : HasOneNumber → ScalesToOne → (sets : List Assign) (word : List ℕ) (a : Assign) → IsAssignmentWord word a → Any (λ b. b.name ≡ a.name) sets
    → (x : Assign) → IsAssignmentWord word x → All (λ b. b.name ≢ x.name) sets → ⊥
name_seen one once sets word a read (k, b, within, at_k, named) x again others =
    let same = assignment_same one once word a x read again in
    others k b within (ap (λ (t : Assign). t.name) at_k ∙ (named ∙ ap (λ (t : Assign). t.name) same))

-- the word at a place has no box
pub no_box : (words : List (List ℕ)) (k : ℕ) (word : List ℕ) (r : Option RawBox) → slice_get words k ≡ Some word
    → IfNone r ((box : RawBox) → ¬ IsBoxWord word box) → IfNone r ((w : List ℕ) (box : RawBox) → slice_get words k ≡ Some w → ¬ IsBoxWord w box)
no_box words k word None here none = λ w box there h. let same : w ≡ word = cc in none box (subst (λ t. IsBoxWord t box) same h)
no_box words k word (Some b) here none = tt

abbrev assign_as : List ℕ → ℤ → Assign
assign_as name value = record { name = name; value = value }

pub assign_taken : (g : Seen) (words : List (List ℕ)) (at : ℕ) (word name copied : List ℕ) (value u v : ℤ) (sets : List Assign) → slice_get words at ≡ Some word
    → IsAssignmentWord word (record { name = name; value = u }) → All (λ b. b.name ≢ name) g.sets → copied ≡ name → u ≡ value → v ≡ value
    → sets ≡ g.sets ++ record { name = copied; value = v } ∷ [] → TakesSetting words at (at + 1) g (record g { sets = sets })
assign_taken g words at word name copied value u v sets here read fresh same here_u here_v added =
    let a = assign_as name u in
    let all : sets ≡ g.sets ++ a ∷ [] = added ∙ (ap (λ n. g.sets ++ assign_as n v ∷ []) same ∙ ap (λ z. g.sets ++ assign_as name z ∷ []) (here_v ∙ sym here_u)) in
    subst (λ s. TakesSetting words at (at + 1) g (record g { sets = s })) (sym all) (takes_one g words at (assign word a) word here refl read fresh)
