-- Where command lines depart, by their first words.
use Rattle.std.proofs.Common.{◌≡◌, ◌⊎◌, inl, inr, ℕ, ◌+◌, ◌-◌, ◌<◌, ◌≤◌, List, [], ◌∷◌, ◌++◌, length, drop, Some, refl, sym, ap, ◌∙◌, subst, arith, codes, length-append, append_assoc}
use Rattle.std.proofs.lemmas.List.{append-nil}
use Rattle.std.proofs.lemmas.List.Elements.{All-nil, All-head, All-tail, All-push, All-append, All-replicate}
use Rattle.std.proofs.Math.ListN.{length-replicate}
use Rattle.std.specs.Prelude.{All, IfOk, MatchResult, Result, Ok, Err, replicate, slice_get}
use Rattle.sn_words.specs.Command.{Begins, Departs, DepartsAt, IsAccepted, IsCommand, TakesFiles, TakesSeed, command_word, with_seed}
use Rattle.sn_words.specs.CommandLaws.{AcceptedOrDeparts, DepartsOnce, SaysOneThing}
use Rattle.sn_words.specs.Options.{Options}
use Rattle.sn_words.specs.Reading.{EndsSeen, HasFiles, LacksFile, MayFollow, StopsAt, nothing_seen}
use Rattle.sn_words.specs.WordForms.{IsFileWord, IsSeedWord}
use Rattle.sn_words.specs.declared.fault.WordFault.{WordFault}
use Rattle.sn_words.specs.declared.fault.WordFault.TheVariants.{At, Memory}
use Rattle.sn_words.specs.declared.options.Command.{Command}
use Rattle.sn_words.specs.declared.options.Command.TheVariants.{Compile}
use Rattle.sn_words.specs.declared.seen.Seen.{Seen}
use Rattle.sn_words.proofs.CommandLemmas.{command_same, count_same, files_or_seed, behind_files, before_settings, options_of}
use Rattle.sn_words.proofs.Departures.{departs_behind, departs_empty, departs_first, departs_second}
use Rattle.sn_words.proofs.Samples.{sample_file, sample_seed}
use Rattle.sn_words.proofs.SettingFaults.{get_behind, tail_at, get_within}
use Rattle.sn_words.proofs.SettingLemmas.{ends_here}

-- ---- the command's word

-- the words by their first
pub by_first : (words : List (List ℕ)) (w : List ℕ) → slice_get words 0 ≡ Some w → words ≡ w ∷ drop 1 words
by_first words w e = tail_at words 0 w e

sample_command : IsAccepted (codes "compile" ∷ codes "p" ∷ [])
sample_command =
    let names = All-replicate IsFileWord 1 (codes "p") sample_file in
    (_, before_settings Compile (codes "p" ∷ []) [] nothing_seen refl names (ends_here nothing_seen))

begins_all : Begins IsAccepted []
begins_all = (codes "compile" ∷ codes "p" ∷ [], sample_command)

-- an accepted list has a command's word
pub accepted_word : (w : List ℕ) (later : List (List ℕ)) → IsAccepted (w ∷ later) → (c : Command) × (w ≡ command_word c)
accepted_word w later (o, inl h) = (h.command, let order = h.order in cc)
accepted_word w later (o, inr h) = (h.command, let order = h.order in cc)

not_empty : ¬ IsAccepted []
not_empty (o, inl h) = let order = h.order in cc
not_empty (o, inr h) = let order = h.order in cc

pub no_command : (words : List (List ℕ)) → ((c : Command) → ¬ (slice_get words 0 ≡ Some (command_word c))) → DepartsAt words 1
no_command [] none = departs_empty IsAccepted begins_all not_empty
no_command (w ∷ after) none =
    departs_first IsAccepted w after begins_all (λ later whole. let found = accepted_word w later whole in none found.0 (ap Some found.1))

-- ---- file words

record NextFile (words : List (List ℕ)) : Type 0 where
  file : List ℕ
  rest : List (List ℕ)
  order : words ≡ file ∷ rest
  name : IsFileWord file

next_file : (files w all rest : List (List ℕ)) → files ++ w ≡ all ++ rest → length files < length all → All IsFileWord all → NextFile w
next_file files w [] rest e less names = absurd (omega arith)
next_file [] w (a ∷ all) rest e less names = record { file = a; rest = all ++ rest; order = e; name = All-head IsFileWord a all names }
next_file (f ∷ files) w (a ∷ all) rest e less names =
    let tail : files ++ w ≡ all ++ rest = cc in
    next_file files w all rest tail (omega arith) (All-tail IsFileWord a all names)

-- where files are still wanted, an accepted list goes on with one
wants_file : (c : Command) (count : ℕ) (files w : List (List ℕ)) → TakesFiles c count → length files < count → IsAccepted (command_word c ∷ (files ++ w)) → NextFile w
wants_file c count files w takes less (o, inl h) =
    let first : command_word c ≡ command_word h.command = (let order = h.order in cc) in
    let tail : files ++ w ≡ h.files ++ h.rest = (let order = h.order in cc) in
    let size = count_same c count (length h.files) takes (subst (λ d. TakesFiles d (length h.files)) (sym (command_same c h.command first)) h.takes) in
    next_file files w h.files h.rest tail (omega arith) h.names
wants_file c count files w takes less (o, inr h) =
    let first : command_word c ≡ command_word h.command = (let order = h.order in cc) in
    absurd (files_or_seed c count takes (subst TakesSeed (sym (command_same c h.command first)) h.takes))

-- file words can still be added
more_files : (c : Command) (count : ℕ) (files : List (List ℕ)) → TakesFiles c count → length files < count → All IsFileWord files
    → Begins IsAccepted (command_word c ∷ files)
more_files c count files takes less names =
    let more = replicate (count - length files) (codes "p") in
    let all = files ++ more in
    let size : length all ≡ count = (let sizes = length-append files more in (let added = length-replicate (count - length files) (codes "p") in omega arith)) in
    let whole = before_settings c all [] nothing_seen (subst (TakesFiles c) (sym size) takes)
    (All-append IsFileWord files more names (All-replicate IsFileWord (count - length files) (codes "p") sample_file)) (ends_here nothing_seen) in (
      more,
      (options_of c all nothing_seen, subst (λ t. IsCommand (command_word c ∷ t) (options_of c all nothing_seen)) (append-nil all) whole),
    )

lacks_by : (c : Command) (count : ℕ) (files rest : List (List ℕ)) → TakesFiles c count → length files < count → All IsFileWord files
    → ((word : List ℕ) → slice_get rest 0 ≡ Some word → ¬ IsFileWord word) → Departs (λ w. IsAccepted (command_word c ∷ (files ++ w))) rest 1
lacks_by c count files [] takes less names none =
    let more = more_files c count files takes less names in
    departs_empty (λ w. IsAccepted (command_word c ∷ (files ++ w))) more
    (λ whole. let next = wants_file c count files [] takes less whole in let order = next.order in cc)
lacks_by c count files (word ∷ after) takes less names none =
    let more = more_files c count files takes less names in
    departs_first (λ w. IsAccepted (command_word c ∷ (files ++ w))) word after more (λ later whole.
    let next = wants_file c count files (word ∷ later) takes less whole in
    let same : word ≡ next.file = (let order = next.order in cc) in
    none word refl (subst IsFileWord (sym same) next.name))

pub lacks_file : (c : Command) (words : List (List ℕ)) (count place : ℕ) → slice_get words 0 ≡ Some (command_word c) → TakesFiles c count
    → LacksFile words count place → DepartsAt words place
lacks_file c words count place first takes lacks =
    let front = command_word c ∷ lacks.files in
    let whole : words ≡ front ++ lacks.rest = by_first words (command_word c) first ∙ ap (λ t. command_word c ∷ t) lacks.order in
    let at : length front + 1 ≡ place = (let here = lacks.place_is in omega arith) in
    subst (DepartsAt words) at
    (subst (λ t. DepartsAt t (length front + 1)) (sym whole)
    (departs_behind IsAccepted (λ w. IsAccepted (front ++ w)) front lacks.rest 1 (λ w h. h) (λ w h. h)
    (lacks_by c count lacks.files lacks.rest takes lacks.fewer lacks.names lacks.none)))

-- reading file words one after another

pub files_start : (words : List (List ℕ)) → 0 < length words → HasFiles words 0 []
files_start words some = record { count_is = refl; names = All-nil IsFileWord; order = refl; within = some }

pub files_more : (words : List (List ℕ)) (k : ℕ) (files : List (List ℕ)) (file : List ℕ) → HasFiles words k files → slice_get words (k + 1) ≡ Some file
    → IsFileWord file → HasFiles words (k + 1) (files ++ file ∷ [])
files_more words k files file has here name = record {
  count_is = (let count = has.count_is in let size = length-append files (file ∷ []) in omega arith);
  names = All-push IsFileWord files file has.names name;
  order = has.order ∙ (ap (λ t. files ++ t) (tail_at words (k + 1) file here) ∙ sym (append_assoc files (file ∷ []) (drop (k + 1 + 1) words)));
  within = get_within words (k + 1) file here;
}

pub files_stop : (words : List (List ℕ)) (k count place : ℕ) (files : List (List ℕ)) → HasFiles words k files → k < count
    → ((word : List ℕ) → slice_get words (k + 1) ≡ Some word → ¬ IsFileWord word) → k + 2 ≡ place → LacksFile words count place
files_stop words k count place files has less none same = record {
  files = files;
  rest = drop (k + 1) words;
  names = has.names;
  order = has.order;
  fewer = (let count = has.count_is in omega arith);
  place_is = (let count = has.count_is in omega arith);
  none = λ word first. none word (get_behind words (k + 1) ∙ first);
}

-- ---- options and assignments behind file words

files_whole : (c : Command) (words : List (List ℕ)) (count : ℕ) (files : List (List ℕ)) → slice_get words 0 ≡ Some (command_word c)
    → HasFiles words count files → words ≡ command_word c ∷ (files ++ drop (count + 1) words)
files_whole c words count files first has = by_first words (command_word c) first ∙ ap (λ t. command_word c ∷ t) has.order

pub says_files : (c : Command) (words : List (List ℕ)) (count : ℕ) (files : List (List ℕ)) (seen : Seen) → slice_get words 0 ≡ Some (command_word c)
    → TakesFiles c count → HasFiles words count files → EndsSeen nothing_seen (drop (count + 1) words) seen → IsCommand words (options_of c files seen)
says_files c words count files seen first takes has ends =
    subst (λ t. IsCommand t (options_of c files seen)) (sym (files_whole c words count files first has))
    (before_settings c files (drop (count + 1) words) seen (subst (TakesFiles c) (sym has.count_is) takes) has.names ends)

pub stops_behind : (c : Command) (words : List (List ℕ)) (count place : ℕ) (files : List (List ℕ)) → slice_get words 0 ≡ Some (command_word c)
    → TakesFiles c count → HasFiles words count files → StopsAt words (count + 1) nothing_seen place → DepartsAt words place
stops_behind c words count place files first takes has stops =
    let front = command_word c ∷ files in
    let given = subst (TakesFiles c) (sym has.count_is) takes in
    let at : length front + stops.behind ≡ place = (let here = stops.place_is in let size = has.count_is in omega arith) in
    subst (DepartsAt words) at
    (subst (λ t. DepartsAt t (length front + stops.behind)) (sym (files_whole c words count files first has))
    (departs_behind IsAccepted (MayFollow nothing_seen) front (drop (count + 1) words) stops.behind (λ w whole. behind_files c files w given whole)
    (λ w may. (options_of c files may.0, before_settings c files w may.0 given has.names may.1)) stops.departs))

-- ---- seeds

record SeedFollows (later : List (List ℕ)) : Type 0 where
  word : List ℕ
  seed : ℕ
  order : later ≡ word ∷ []
  read : IsSeedWord word seed

seed_follows : (c : Command) (later : List (List ℕ)) → TakesSeed c → IsAccepted (command_word c ∷ later) → SeedFollows later
seed_follows c later takes (o, inl h) =
    let first : command_word c ≡ command_word h.command = (let order = h.order in cc) in
    absurd (files_or_seed c (length h.files) (subst (λ d. TakesFiles d (length h.files)) (sym (command_same c h.command first)) h.takes) takes)
seed_follows c later takes (o, inr h) = record { word = h.word; seed = h.seed; order = (let order = h.order in cc); read = h.seed_is }

pub says_seed : (c : Command) (word : List ℕ) (seed : ℕ) → TakesSeed c → IsSeedWord word seed → IsCommand (command_word c ∷ word ∷ []) (with_seed c seed)
says_seed c word seed takes read = inr (record { command = c; word = word; seed = seed; order = refl; takes = takes; seed_is = read; says = refl })

pub no_seed : (c : Command) (words : List (List ℕ)) (place : ℕ) → slice_get words 0 ≡ Some (command_word c) → TakesSeed c
    → ((word : List ℕ) (seed : ℕ) → slice_get words 1 ≡ Some word → ¬ IsSeedWord word seed) → 2 ≡ place → DepartsAt words place
no_seed c words place first takes none same =
    subst (DepartsAt words) same (subst (λ t. DepartsAt t 2) (sym (by_first words (command_word c) first))
    (departs_second IsAccepted (command_word c) (drop 1 words) (codes "1" ∷ [], (with_seed c 1, says_seed c (codes "1") 1 takes sample_seed))
    (λ whole. let follows = seed_follows c [] takes whole in let order = follows.order in cc)
    (λ second later here whole.
    let follows = seed_follows c (second ∷ later) takes whole in
    let word : second ≡ follows.word = (let order = follows.order in cc) in
    none second follows.seed (get_behind words 1 ∙ here) (subst (λ w. IsSeedWord w follows.seed) (sym word) follows.read))))

behind_seed : (words : List (List ℕ)) (w v : List ℕ) → slice_get words 0 ≡ Some w → slice_get words 1 ≡ Some v → words ≡ w ∷ v ∷ drop 2 words
behind_seed words w v first second = by_first words w first ∙ ap (λ t. w ∷ t) (tail_at words 1 v second)

nothing : (words : List (List ℕ)) → length words ≤ 0 → words ≡ []
nothing [] h = refl
nothing (word ∷ words) h = absurd (omega arith)

pub seed_whole : (c : Command) (words : List (List ℕ)) (word : List ℕ) (seed : ℕ) → slice_get words 0 ≡ Some (command_word c) → TakesSeed c
    → slice_get words 1 ≡ Some word → IsSeedWord word seed → length words ≤ 2 → IsCommand words (with_seed c seed)
seed_whole c words word seed first takes second read short =
    let whole = behind_seed words (command_word c) word first second in
    let empty : drop 2 words ≡ [] = nothing (drop 2 words) (let size = ap length whole in omega arith) in
    subst (λ t. IsCommand t (with_seed c seed)) (sym (whole ∙ ap (λ t. command_word c ∷ word ∷ t) empty)) (says_seed c word seed takes read)

third_by : (c : Command) (word : List ℕ) (seed : ℕ) (rest : List (List ℕ)) → TakesSeed c → IsSeedWord word seed → 0 < length rest
    → DepartsAt (command_word c ∷ word ∷ rest) 3
third_by c word seed [] takes read some = absurd (omega arith)
third_by c word seed (third ∷ rest) takes read some =
    let front = command_word c ∷ word ∷ [] in
    departs_behind IsAccepted (λ w. IsAccepted (front ++ w)) front (third ∷ rest) 1 (λ w h. h) (λ w h. h)
    (departs_first (λ w. IsAccepted (front ++ w)) third rest ([], (with_seed c seed, says_seed c word seed takes read)) (λ later whole.
    let follows = seed_follows c (word ∷ third ∷ later) takes whole in let order = follows.order in cc))

pub third_word : (c : Command) (words : List (List ℕ)) (word : List ℕ) (seed place : ℕ) → slice_get words 0 ≡ Some (command_word c) → TakesSeed c
    → slice_get words 1 ≡ Some word → IsSeedWord word seed → 2 < length words → 3 ≡ place → DepartsAt words place
third_word c words word seed place first takes second read long same =
    let whole = behind_seed words (command_word c) word first second in
    subst (DepartsAt words) same (subst (λ t. DepartsAt t 3) (sym whole) (third_by c word seed (drop 2 words) takes read (let size = ap length whole in omega arith)))

-- ---- both answers

-- words that are accepted are read
pub accepted_read : SaysOneThing → AcceptedOrDeparts → (words : List (List ℕ)) (r : Result Options WordFault) → IfOk r (λ o. IsCommand words o)
    → ((place : ℕ) → r ≡ Err (At place) → DepartsAt words place) → (o : Options) → IsCommand words o → MatchResult r (λ p. p ≡ o) (λ e. e ≡ Memory)
accepted_read one either words (Ok p) ok at o says = one words p o ok says
accepted_read one either words (Err Memory) ok at o says = refl
accepted_read one either words (Err (At place)) ok at o says = absurd (either words place (o, says) (at place refl))

-- words that depart are refused at that place
pub departed_refused : DepartsOnce → AcceptedOrDeparts → (words : List (List ℕ)) (r : Result Options WordFault) → IfOk r (λ o. IsCommand words o)
    → ((place : ℕ) → r ≡ Err (At place) → DepartsAt words place) → (place : ℕ) → DepartsAt words place
    → MatchResult r (λ p. ⊥) (λ e. (e ≡ At place) ⊎ (e ≡ Memory))
departed_refused once either words (Ok p) ok at place departs = either words place (p, ok) departs
departed_refused once either words (Err Memory) ok at place departs = inr refl
departed_refused once either words (Err (At other)) ok at place departs = inl (ap At (once words other place (at other refl) departs))
