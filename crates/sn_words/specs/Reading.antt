-- PRIVATE (only the functions of this crate cite these words): words read one after another.
use Rattle.std.specs.Prelude.{◌≡◌, ◌≢◌, ◌+◌, ◌<◌, ◌≤◌, ◌==◌, ℕ, List, [], ◌∷◌, ◌++◌, Option, Some, None, length, drop, slice_get, filter_map, cond, All}
use Rattle.std.specs.Option.{option_to_list}
use Rattle.sn_words.specs.Command.{Setting, cell, raw, assign, words_of, IsRead, AreSettings, pitch_in, box_in, assignment_in, Departs}
use Rattle.sn_words.specs.WordForms.{IsFileWord}
use Rattle.sn_words.specs.declared.seen.Seen.{Seen}

-- ---- a text cut in two

-- the parts of a text in front of which another stands
abbrev pub behind_text : List ℕ → Option (List ℕ × List ℕ) → Option (List ℕ × List ℕ)
behind_text front None = None
behind_text front (Some p) = Some (front ++ p.0, p.1)

-- what stands before the first byte c, and what stands behind it
abbrev pub cut_at : ℕ → List ℕ → Option (List ℕ × List ℕ)
cut_at c [] = None
cut_at c (b ∷ bs) = cond (b == c) (Some ([], bs)) (behind_text (b ∷ []) (cut_at c bs))

-- ---- options and assignments

-- nothing has been seen
abbrev pub nothing_seen : Seen
nothing_seen = record { pitch = None; raw = None; sets = [] }

-- the setting may stand behind what has been seen
abbrev pub IsFresh : Seen → Setting → Type 0
IsFresh seen (cell word pitch) = seen.pitch ≡ None
IsFresh seen (raw word box) = seen.raw ≡ None
IsFresh seen (assign word a) = All (λ b. b.name ≢ a.name) seen.sets

-- what has been seen with this setting too
abbrev pub with_setting : Seen → Setting → Seen
with_setting seen (cell word pitch) = record seen { pitch = Some pitch }
with_setting seen (raw word box) = record seen { raw = Some box }
with_setting seen (assign word a) = record seen { sets = seen.sets ++ a ∷ [] }

-- what has been seen with these settings too
abbrev pub with_settings : Seen → List Setting → Seen
with_settings seen settings = record {
  pitch = slice_get (option_to_list seen.pitch ++ filter_map pitch_in settings) 0;
  raw = slice_get (option_to_list seen.raw ++ filter_map box_in settings) 0;
  sets = seen.sets ++ filter_map assignment_in settings;
}

-- the words are settings that may stand behind what has been seen, and all that is seen then
pub record EndsSeen (seen : Seen) (words : List (List ℕ)) (all : Seen) : Type 0 where
  pub settings : List Setting
  pub are : AreSettings words settings
  pub fresh : All (IsFresh seen) settings
  pub all_is : all ≡ with_settings seen settings

abbrev pub MayFollow : Seen → List (List ℕ) → Type 0
MayFollow seen words = (all : Seen) × EndsSeen seen words all

-- a setting stands at a place, the next begins at another, and it was added to what was seen
pub record TakesSetting (words : List (List ℕ)) (at next : ℕ) (old new : Seen) : Type 0 where
  pub setting : Setting
  pub read : IsRead setting
  pub fresh : IsFresh old setting
  pub order : drop at words ≡ words_of setting ++ drop next words
  pub later : at < next
  pub within : next ≤ length words
  pub new_is : new ≡ with_setting old setting

-- the words from a place on depart, at a place counted from the first of all, from what may follow
pub record StopsAt (words : List (List ℕ)) (at : ℕ) (seen : Seen) (place : ℕ) : Type 0 where
  pub behind : ℕ
  pub place_is : place ≡ at + behind
  pub departs : Departs (MayFollow seen) (drop at words) behind

-- ---- file words

-- so many file words follow the first word
pub record HasFiles (words : List (List ℕ)) (count : ℕ) (files : List (List ℕ)) : Type 0 where
  pub count_is : length files ≡ count
  pub names : All IsFileWord files
  pub order : drop 1 words ≡ files ++ drop (count + 1) words
  pub within : count < length words

-- fewer file words follow, and the word at the place is none or missing
pub record LacksFile (words : List (List ℕ)) (count place : ℕ) : Type 0 where
  pub files : List (List ℕ)
  pub rest : List (List ℕ)
  pub names : All IsFileWord files
  pub order : drop 1 words ≡ files ++ rest
  pub fewer : length files < count
  pub place_is : place ≡ length files + 2
  pub none : (word : List ℕ) → slice_get rest 0 ≡ Some word → ¬ IsFileWord word
