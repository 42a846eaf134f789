-- Command lines: what follows their first words, that each says one thing, and that it is within its limits.
use Rattle.std.proofs.Common.{◌≡◌, inl, inr, ℕ, List, [], ◌∷◌, ◌++◌, length, refl, sym, ap, ◌∙◌, subst, arith, lit≤}
use Rattle.std.proofs.lemmas.List.Elements.{All-nil, All-cons, All-head, All-tail}
use Rattle.std.proofs.lemmas.List.Kept.{AllPairs-cons}
use Rattle.std.specs.List.{AllPairs, flat_map}
use Rattle.std.specs.Option.{ForSome}
use Rattle.std.specs.Prelude.{All, unwrap_or}
use Rattle.sn_geom.specs.Decimal.{HasOneNumber, ScalesToOne}
use Rattle.sn_words.specs.Command.{Setting, cell, raw, assign, words_of, IsRead, AreTwo, AreSettings, pitch_of, box_of, assignments_of, command_word, TakesFiles, TakesSeed, with_files, with_seed, IsCommand, IsAccepted}
use Rattle.sn_words.specs.CommandLaws.{SaysOneThing, SaysWithinLimits}
use Rattle.sn_words.specs.Options.{Options, IsPitch, IsBox, HasValue, HaveTwoNames, IsWithinLimits}
use Rattle.sn_words.specs.Reading.{MayFollow, EndsSeen, nothing_seen, with_settings}
use Rattle.sn_words.specs.WordForms.{IsFileWord, IsSeedWord}
use Rattle.sn_words.specs.declared.limits.TheConstants.{DEFAULT_PITCH}
use Rattle.sn_words.specs.declared.options.Assign.{Assign}
use Rattle.sn_words.specs.declared.options.Command.{Command}
use Rattle.sn_words.specs.declared.options.Command.TheVariants.{Compile, Verify, Report, Make, Trial}
use Rattle.sn_words.specs.declared.seen.Seen.{Seen}
use Rattle.sn_words.proofs.SettingLemmas.{setting_same, some_word, fresh_for_nothing, AllPairs-first, AllPairs-tail, AllPairs-nil}
use Rattle.sn_words.proofs.WordLemmas.{seed_same}

-- ---- commands by their words

first_byte : List ℕ → ℕ
first_byte [] = 0
first_byte (c ∷ cs) = c

pub command_same : (c d : Command) → command_word c ≡ command_word d → c ≡ d
unfolding first_byte
command_same Compile Compile e = refl
command_same Verify Verify e = refl
command_same Report Report e = refl
command_same Make Make e = refl
command_same Trial Trial e = refl
command_same c d e = let h = ap first_byte e in absurd (omega (arith, h))

pub count_same : (c : Command) (n m : ℕ) → TakesFiles c n → TakesFiles c m → n ≡ m
count_same Compile n m h k = h ∙ sym k
count_same Verify n m h k = h ∙ sym k
count_same Report n m h k = h ∙ sym k
count_same Make n m h k = absurd h
count_same Trial n m h k = absurd h

pub files_or_seed : (c : Command) (n : ℕ) → TakesFiles c n → TakesSeed c → ⊥
files_or_seed Compile n h k = k
files_or_seed Verify n h k = k
files_or_seed Report n h k = k
files_or_seed Make n h k = h
files_or_seed Trial n h k = h

pub record SameParts {X : Type 0} (a b r s : List X) : Type 0 where
  pub front : a ≡ b
  pub rest : r ≡ s

pub parts_same : {X : Type 0} (a b r s : List X) → length a ≡ length b → a ++ r ≡ b ++ s → SameParts a b r s
parts_same [] [] r s n e = record { front = refl; rest = e }
parts_same [] (y ∷ b) r s n e = absurd (omega arith)
parts_same (x ∷ a) [] r s n e = absurd (omega arith)
parts_same (x ∷ a) (y ∷ b) r s n e =
    let first : x ≡ y = cc in
    let tail : a ++ r ≡ b ++ s = cc in
    let same = parts_same a b r s (omega arith) tail in
    record { front = ap (λ t. t ∷ a) first ∙ ap (λ t. y ∷ t) same.front; rest = same.rest }

-- ---- what follows the file words

pub behind_files : (c : Command) (files w : List (List ℕ)) → TakesFiles c (length files) → IsAccepted (command_word c ∷ (files ++ w)) → MayFollow nothing_seen w
behind_files c files w takes (o, inl h) =
    let first : command_word c ≡ command_word h.command = (let order = h.order in cc) in
    let tail : files ++ w ≡ h.files ++ h.rest = (let order = h.order in cc) in
    let count = count_same c (length files) (length h.files) takes (subst (λ d. TakesFiles d (length h.files)) (sym (command_same c h.command first)) h.takes) in
    let same = parts_same files h.files w h.rest count tail in (
      with_settings nothing_seen h.settings,
      record {
        settings = h.settings;
        are = subst (λ r. AreSettings r h.settings) (sym same.rest) h.settings_are;
        fresh = fresh_for_nothing h.settings;
        all_is = refl;
      },
    )
behind_files c files w takes (o, inr h) =
    let first : command_word c ≡ command_word h.command = (let order = h.order in cc) in
    absurd (files_or_seed c (length files) takes (subst TakesSeed (sym (command_same c h.command first)) h.takes))

-- the options of what has been seen
abbrev pub options_of : Command → List (List ℕ) → Seen → Options
options_of command files seen = record {
  command = command;
  files = files;
  seed = 0;
  pitch = unwrap_or seen.pitch DEFAULT_PITCH;
  raw = seen.raw;
  sets = seen.sets;
}

pub before_settings : (c : Command) (files w : List (List ℕ)) (seen : Seen) → TakesFiles c (length files) → All IsFileWord files → EndsSeen nothing_seen w seen
    → IsCommand (command_word c ∷ (files ++ w)) (options_of c files seen)
before_settings c files w seen takes names ends =
    inl (record {
      command = c;
      files = files;
      rest = w;
      settings = ends.settings;
      order = refl;
      takes = takes;
      names = names;
      settings_are = ends.are;
      says = ap (options_of c files) ends.all_is;
    })

-- ---- one list of words says one thing

settings_same : HasOneNumber → ScalesToOne → (words : List (List ℕ)) (ss ts : List Setting) → AreSettings words ss → AreSettings words ts → ss ≡ ts
settings_same one once words [] [] h k = refl
settings_same one once words [] (t ∷ ts) h k = absurd (some_word t (flat_map words_of ts) (sym k.order ∙ h.order))
settings_same one once words (s ∷ ss) [] h k = absurd (some_word s (flat_map words_of ss) (sym h.order ∙ k.order))
settings_same one once words (s ∷ ss) (t ∷ ts) h k =
    let same = setting_same one once s t (flat_map words_of ss) (flat_map words_of ts) (All-head IsRead s ss h.read) (All-head IsRead t ts k.read) (sym h.order ∙ k.order) in
    let left : AreSettings (flat_map words_of ss) ss = record { order = refl; read = All-tail IsRead s ss h.read; single = AllPairs-tail AreTwo s ss h.single } in
    let right : AreSettings (flat_map words_of ss) ts = record { order = same.rest; read = All-tail IsRead t ts k.read; single = AllPairs-tail AreTwo t ts k.single } in
    ap (λ x. x ∷ ss) same.same ∙ ap (λ xs. t ∷ xs) (settings_same one once (flat_map words_of ss) ss ts left right)

pub says_one_thing : HasOneNumber → ScalesToOne → SaysOneThing
says_one_thing one once words o p (inl h) (inl k) =
    let e : command_word h.command ∷ (h.files ++ h.rest) ≡ command_word k.command ∷ (k.files ++ k.rest) = sym h.order ∙ k.order in
    let first : command_word h.command ≡ command_word k.command = cc in
    let tail : h.files ++ h.rest ≡ k.files ++ k.rest = cc in
    let commands = command_same h.command k.command first in
    let count = count_same k.command (length h.files) (length k.files) (subst (λ c. TakesFiles c (length h.files)) commands h.takes) k.takes in
    let parts = parts_same h.files k.files h.rest k.rest count tail in
    let settings = settings_same one once k.rest h.settings k.settings (subst (λ r. AreSettings r h.settings) parts.rest h.settings_are) k.settings_are in
    h.says ∙ (ap (λ c. with_files c h.files h.settings) commands ∙ ap (λ f. with_files k.command f h.settings) parts.front ∙ ap (with_files k.command k.files) settings) ∙ sym k.says
says_one_thing one once words o p (inl h) (inr k) =
    let e : command_word h.command ∷ (h.files ++ h.rest) ≡ command_word k.command ∷ k.word ∷ [] = sym h.order ∙ k.order in
    let first : command_word h.command ≡ command_word k.command = cc in
    absurd (files_or_seed k.command (length h.files) (subst (λ c. TakesFiles c (length h.files)) (command_same h.command k.command first) h.takes) k.takes)
says_one_thing one once words o p (inr h) (inl k) =
    let e : command_word h.command ∷ h.word ∷ [] ≡ command_word k.command ∷ (k.files ++ k.rest) = sym h.order ∙ k.order in
    let first : command_word h.command ≡ command_word k.command = cc in
    absurd (files_or_seed k.command (length k.files) k.takes (subst TakesSeed (command_same h.command k.command first) h.takes))
says_one_thing one once words o p (inr h) (inr k) =
    let e : command_word h.command ∷ h.word ∷ [] ≡ command_word k.command ∷ k.word ∷ [] = sym h.order ∙ k.order in
    let first : command_word h.command ≡ command_word k.command = cc in
    let second : h.word ≡ k.word = cc in
    let seeds = seed_same k.word h.seed k.seed (subst (λ w. IsSeedWord w h.seed) second h.seed_is) k.seed_is in
    h.says ∙ (ap (λ c. with_seed c h.seed) (command_same h.command k.command first) ∙ ap (with_seed k.command) seeds) ∙ sym k.says

-- ---- what words say is within its limits

default_pitch : IsPitch DEFAULT_PITCH
default_pitch = record { least = lit≤ tt; greatest = lit≤ tt }

pitch_within : (ss : List Setting) → All IsRead ss → IsPitch (unwrap_or (pitch_of ss) DEFAULT_PITCH)
pitch_within [] h = default_pitch
pitch_within (cell w p ∷ ss) h = let read = All-head IsRead (cell w p) ss h in read.within
pitch_within (raw w b ∷ ss) h = pitch_within ss (All-tail IsRead (raw w b) ss h)
pitch_within (assign w a ∷ ss) h = pitch_within ss (All-tail IsRead (assign w a) ss h)

box_within : (ss : List Setting) → All IsRead ss → ForSome (box_of ss) IsBox
box_within [] h = λ b e. absurd (cc)
box_within (cell w p ∷ ss) h = box_within ss (All-tail IsRead (cell w p) ss h)
box_within (raw w b ∷ ss) h = λ x e. let read = All-head IsRead (raw w b) ss h in (let same : b ≡ x = cc in subst IsBox same read.box_is)
box_within (assign w a ∷ ss) h = box_within ss (All-tail IsRead (assign w a) ss h)

values_within : (ss : List Setting) → All IsRead ss → All HasValue (assignments_of ss)
values_within [] h = All-nil HasValue
values_within (cell w p ∷ ss) h = values_within ss (All-tail IsRead (cell w p) ss h)
values_within (raw w b ∷ ss) h = values_within ss (All-tail IsRead (raw w b) ss h)
values_within (assign w a ∷ ss) h =
    let read = All-head IsRead (assign w a) ss h in
    All-cons HasValue a (assignments_of ss) read.within (values_within ss (All-tail IsRead (assign w a) ss h))

other_names : (w : List ℕ) (a : Assign) (ss : List Setting) → All (AreTwo (assign w a)) ss → All (HaveTwoNames a) (assignments_of ss)
other_names w a [] h = All-nil (HaveTwoNames a)
other_names w a (cell v p ∷ ss) h = other_names w a ss (All-tail (AreTwo (assign w a)) (cell v p) ss h)
other_names w a (raw v b ∷ ss) h = other_names w a ss (All-tail (AreTwo (assign w a)) (raw v b) ss h)
other_names w a (assign v b ∷ ss) h =
    All-cons (HaveTwoNames a) b (assignments_of ss) (All-head (AreTwo (assign w a)) (assign v b) ss h) (other_names w a ss (All-tail (AreTwo (assign w a)) (assign v b) ss h))

names_within : (ss : List Setting) → AllPairs AreTwo ss → AllPairs HaveTwoNames (assignments_of ss)
names_within [] h = AllPairs-nil HaveTwoNames
names_within (cell w p ∷ ss) h = names_within ss (AllPairs-tail AreTwo (cell w p) ss h)
names_within (raw w b ∷ ss) h = names_within ss (AllPairs-tail AreTwo (raw w b) ss h)
names_within (assign w a ∷ ss) h =
    AllPairs-cons HaveTwoNames a (assignments_of ss) (other_names w a ss (AllPairs-first AreTwo (assign w a) ss h)) (names_within ss (AllPairs-tail AreTwo (assign w a) ss h))

pub says_within_limits : SaysWithinLimits
says_within_limits words o (inl h) =
    subst IsWithinLimits (sym h.says) (record {
      pitch = pitch_within h.settings h.settings_are.read;
      raw = box_within h.settings h.settings_are.read;
      values = values_within h.settings h.settings_are.read;
      names = names_within h.settings h.settings_are.single;
    })
says_within_limits words o (inr h) =
    subst IsWithinLimits (sym h.says) (record {
      pitch = default_pitch;
      raw = λ b e. absurd (cc);
      values = All-nil HasValue;
      names = AllPairs-nil HaveTwoNames;
    })
