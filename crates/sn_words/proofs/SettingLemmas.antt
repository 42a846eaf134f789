-- Settings are told apart by their words, and what may follow those that have been seen.
use Rattle.std.proofs.Common.{◌≡◌, ◌≢◌, ℕ, suc, List, [], ◌∷◌, ◌++◌, get_or, Option, Some, None, refl, sym, ap, ◌∙◌, subst, arith, codes, append_assoc}
use Rattle.std.proofs.lemmas.List.{append-nil}
use Rattle.std.proofs.lemmas.List.Elements.{All-nil, All-cons, All-head, All-tail, All-push}
use Rattle.std.proofs.lemmas.List.Kept.{AllPairs-cons}
use Rattle.std.specs.List.{AllPairs, flat_map}
use Rattle.std.specs.Option.{option_to_list}
use Rattle.std.specs.Prelude.{All, slice_get, filter_map}
use Rattle.sn_geom.specs.Decimal.{HasOneNumber, ScalesToOne}
use Rattle.sn_words.specs.Command.{Setting, cell, raw, assign, words_of, IsRead, AreTwo, AreSettings, pitch_in, box_in, assignment_in}
use Rattle.sn_words.specs.Reading.{IsFresh, with_setting, with_settings, EndsSeen, nothing_seen, MayFollow}
use Rattle.sn_words.specs.declared.options.Assign.{Assign}
use Rattle.sn_words.specs.declared.options.RawBox.{RawBox}
use Rattle.sn_words.specs.declared.seen.Seen.{Seen}
use Rattle.sn_words.proofs.Boxes.{box_same}
use Rattle.sn_words.proofs.WordLemmas.{pitch_same, assignment_same, no_assignment}
use Rattle.sn_words.specs.WordForms.{IsAssignmentWord}

-- ---- lists

pub AllPairs-first : {X : Type 0} (R : X → X → Type 0) (x : X) (xs : List X) → AllPairs R (x ∷ xs) → All (R x) xs
AllPairs-first R x xs pairs = λ k d within. pairs 0 (suc k) d (omega arith) (omega arith)

pub AllPairs-tail : {X : Type 0} (R : X → X → Type 0) (x : X) (xs : List X) → AllPairs R (x ∷ xs) → AllPairs R xs
AllPairs-tail R x xs pairs = λ i j d before within. pairs (suc i) (suc j) d (omega arith) (omega arith)

pub AllPairs-nil : {X : Type 0} (R : X → X → Type 0) → AllPairs R []
AllPairs-nil R = λ i j d before within. absurd (omega arith)

All-front : {X : Type 0} (P : X → Type 0) (xs : List X) (y : X) → All P (xs ++ y ∷ []) → All P xs × P y
All-front P [] y h = (All-nil P, All-head P y [] h)
All-front P (x ∷ xs) y h =
    let rest = All-front P xs y (All-tail P x (xs ++ y ∷ []) h) in
    (All-cons P x xs (All-head P x (xs ++ y ∷ []) h) rest.0, rest.1)

-- ---- one setting after another

-- two settings whose words begin one list are one
pub record SameSetting (s t : Setting) (a b : List (List ℕ)) : Type 0 where
  pub same : s ≡ t
  pub rest : a ≡ b

pub setting_same : HasOneNumber → ScalesToOne → (s t : Setting) (a b : List (List ℕ)) → IsRead s → IsRead t → words_of s ++ a ≡ words_of t ++ b → SameSetting s t a b
setting_same one once (cell v p) (cell w q) a b h k e =
    let words : v ≡ w = cc in
    let pitches : p ≡ q = pitch_same w p q (subst (λ x. IsRead (cell x p)) words h) k in
    record { same = cc; rest = cc }
setting_same one once (cell v p) (raw w y) a b h k e = let c : ◌≡◌ {A = ℕ} 99 114 = cc in absurd (omega arith)
setting_same one once (cell v p) (assign w y) a b h k e =
    let word : codes "--cell" ≡ w = cc in
    absurd (no_assignment _ y (subst (λ x. IsAssignmentWord x y) (sym word) k))
setting_same one once (raw v x) (cell w q) a b h k e = let c : ◌≡◌ {A = ℕ} 114 99 = cc in absurd (omega arith)
setting_same one once (raw v x) (raw w y) a b h k e =
    let words : v ≡ w = cc in
    let boxes : x ≡ y = box_same one once w x y (subst (λ t. IsRead (raw t x)) words h) k in
    record { same = cc; rest = cc }
setting_same one once (raw v x) (assign w y) a b h k e =
    let word : codes "--raw" ≡ w = cc in
    absurd (no_assignment _ y (subst (λ t. IsAssignmentWord t y) (sym word) k))
setting_same one once (assign v x) (cell w q) a b h k e =
    let word : codes "--cell" ≡ v = cc in
    absurd (no_assignment _ x (subst (λ t. IsAssignmentWord t x) (sym word) h))
setting_same one once (assign v x) (raw w y) a b h k e =
    let word : codes "--raw" ≡ v = cc in
    absurd (no_assignment _ x (subst (λ t. IsAssignmentWord t x) (sym word) h))
setting_same one once (assign v x) (assign w y) a b h k e =
    let words : v ≡ w = cc in
    let both : x ≡ y = assignment_same one once w x y (subst (λ t. IsAssignmentWord t x) words h) k in
    record { same = cc; rest = cc }

pub some_word : (s : Setting) (rest : List (List ℕ)) → words_of s ++ rest ≡ [] → ⊥
some_word (cell w p) rest e = cc
some_word (raw w b) rest e = cc
some_word (assign w a) rest e = cc

-- ---- settings that may follow

pub fresh_for_nothing : (settings : List Setting) → All (IsFresh nothing_seen) settings
fresh_for_nothing [] = All-nil (IsFresh nothing_seen)
fresh_for_nothing (cell w p ∷ ss) = All-cons (IsFresh nothing_seen) (cell w p) ss refl (fresh_for_nothing ss)
fresh_for_nothing (raw w b ∷ ss) = All-cons (IsFresh nothing_seen) (raw w b) ss refl (fresh_for_nothing ss)
fresh_for_nothing (assign w a ∷ ss) = All-cons (IsFresh nothing_seen) (assign w a) ss (All-nil _) (fresh_for_nothing ss)

fresh_more : (g : Seen) (s t : Setting) → IsFresh g t → AreTwo s t → IsFresh (with_setting g s) t
fresh_more g (cell v p) (cell w q) h two = absurd two
fresh_more g (cell v p) (raw w y) h two = h
fresh_more g (cell v p) (assign w y) h two = h
fresh_more g (raw v x) (cell w q) h two = h
fresh_more g (raw v x) (raw w y) h two = absurd two
fresh_more g (raw v x) (assign w y) h two = h
fresh_more g (assign v x) (cell w q) h two = h
fresh_more g (assign v x) (raw w y) h two = h
fresh_more g (assign v x) (assign w y) h two = All-push (λ b. b.name ≢ y.name) g.sets x h two

fresh_less : (g : Seen) (s t : Setting) → IsFresh g s → IsFresh (with_setting g s) t → IsFresh g t × AreTwo s t
fresh_less g (cell v p) (cell w q) f h = absurd (cc)
fresh_less g (cell v p) (raw w y) f h = (h, tt)
fresh_less g (cell v p) (assign w y) f h = (h, tt)
fresh_less g (raw v x) (cell w q) f h = (h, tt)
fresh_less g (raw v x) (raw w y) f h = absurd (cc)
fresh_less g (raw v x) (assign w y) f h = (h, tt)
fresh_less g (assign v x) (cell w q) f h = (h, tt)
fresh_less g (assign v x) (raw w y) f h = (h, tt)
fresh_less g (assign v x) (assign w y) f h = All-front (λ b. b.name ≢ y.name) g.sets x h

all_fresh_more : (g : Seen) (s : Setting) (ts : List Setting) → All (IsFresh g) ts → All (AreTwo s) ts → All (IsFresh (with_setting g s)) ts
all_fresh_more g s ts fresh two = λ k d within. fresh_more g s (get_or ts k d) (fresh k d within) (two k d within)

all_fresh_less : (g : Seen) (s : Setting) (ts : List Setting) → IsFresh g s → All (IsFresh (with_setting g s)) ts → All (IsFresh g) ts × All (AreTwo s) ts
all_fresh_less g s ts f fresh =
    (λ k d within. (fresh_less g s (get_or ts k d) f (fresh k d within)).0, λ k d within. (fresh_less g s (get_or ts k d) f (fresh k d within)).1)

first_new : {X : Type 0} (o : Option X) (x : X) (xs : List X) → o ≡ None → slice_get (option_to_list o ++ x ∷ xs) 0 ≡ Some x
first_new None x xs e = refl
first_new (Some y) x xs e = absurd (cc)

first_kept : {X : Type 0} (o : Option X) → slice_get (option_to_list o ++ []) 0 ≡ o
first_kept None = refl
first_kept (Some x) = refl

abbrev seen_as : Option ℕ → Option RawBox → List Assign → Seen
seen_as pitch box sets = record { pitch = pitch; raw = box; sets = sets }

with_settings-cons : (g : Seen) (s : Setting) (ts : List Setting) → IsFresh g s → with_settings g (s ∷ ts) ≡ with_settings (with_setting g s) ts
with_settings-cons g (cell w p) ts f =
    ap (λ o. seen_as o (slice_get (option_to_list g.raw ++ filter_map box_in ts) 0) (g.sets ++ filter_map assignment_in ts)) (first_new g.pitch p (filter_map pitch_in ts) f)
with_settings-cons g (raw w b) ts f =
    ap (λ o. seen_as (slice_get (option_to_list g.pitch ++ filter_map pitch_in ts) 0) o (g.sets ++ filter_map assignment_in ts)) (first_new g.raw b (filter_map box_in ts) f)
with_settings-cons g (assign w a) ts f =
    ap (seen_as (slice_get (option_to_list g.pitch ++ filter_map pitch_in ts) 0) (slice_get (option_to_list g.raw ++ filter_map box_in ts) 0))
    (sym (append_assoc g.sets (a ∷ []) (filter_map assignment_in ts)))

pub with_settings-nil : (g : Seen) → with_settings g [] ≡ g
with_settings-nil g =
    ap (λ o. seen_as o (slice_get (option_to_list g.raw ++ []) 0) (g.sets ++ [])) (first_kept g.pitch)
    ∙ ap (λ o. seen_as g.pitch o (g.sets ++ [])) (first_kept g.raw)
    ∙ ap (seen_as g.pitch g.raw) (append-nil g.sets)

pub ends_here : (g : Seen) → EndsSeen g [] g
ends_here g = record {
  settings = [];
  are = record { order = refl; read = All-nil IsRead; single = AllPairs-nil AreTwo };
  fresh = All-nil (IsFresh g);
  all_is = sym (with_settings-nil g);
}

-- the words behind a setting
passed_by : HasOneNumber → ScalesToOne → (g : Seen) (s : Setting) (w : List (List ℕ)) (all : Seen) (ts : List Setting) → IsRead s → IsFresh g s
    → AreSettings (words_of s ++ w) ts → All (IsFresh g) ts → all ≡ with_settings g ts → EndsSeen (with_setting g s) w all
passed_by one once g s w all [] h f are fresh e = absurd (some_word s w are.order)
passed_by one once g s w all (t ∷ ts) h f are fresh e =
    let same = setting_same one once s t w (flat_map words_of ts) h (All-head IsRead t ts are.read) are.order in
    let two = subst (λ x. All (AreTwo x) ts) (sym same.same) (AllPairs-first AreTwo t ts are.single) in
    let all_is = ap (λ x. with_settings g (x ∷ ts)) (sym same.same) ∙ with_settings-cons g s ts f in
    record {
      settings = ts;
      are = record { order = same.rest; read = All-tail IsRead t ts are.read; single = AllPairs-tail AreTwo t ts are.single };
      fresh = all_fresh_more g s ts (All-tail (IsFresh g) t ts fresh) two;
      all_is = e ∙ all_is;
    }

pub passed : HasOneNumber → ScalesToOne → (g : Seen) (s : Setting) (w : List (List ℕ)) (all : Seen) → IsRead s → IsFresh g s
    → EndsSeen g (words_of s ++ w) all → EndsSeen (with_setting g s) w all
passed one once g s w all h f ends = passed_by one once g s w all ends.settings h f ends.are ends.fresh ends.all_is

pub preceded : (g : Seen) (s : Setting) (w : List (List ℕ)) (all : Seen) → IsRead s → IsFresh g s
    → EndsSeen (with_setting g s) w all → EndsSeen g (words_of s ++ w) all
preceded g s w all h f ends =
    let ts = ends.settings in
    let less = all_fresh_less g s ts f ends.fresh in
    record {
      settings = s ∷ ts;
      are = record {
        order = ap (λ x. words_of s ++ x) ends.are.order;
        read = All-cons IsRead s ts h ends.are.read;
        single = AllPairs-cons AreTwo s ts less.1 ends.are.single;
      };
      fresh = All-cons (IsFresh g) s ts f less.0;
      all_is = ends.all_is ∙ sym (with_settings-cons g s ts f);
    }

-- the setting that words begin with
pub record FirstSetting (g : Seen) (words : List (List ℕ)) : Type 0 where
  pub setting : Setting
  pub rest : List (List ℕ)
  pub order : words ≡ words_of setting ++ rest
  pub read : IsRead setting
  pub fresh : IsFresh g setting

first_by : (g : Seen) (w : List ℕ) (later : List (List ℕ)) (ts : List Setting) → AreSettings (w ∷ later) ts → All (IsFresh g) ts → FirstSetting g (w ∷ later)
first_by g w later [] are fresh = let order = are.order in absurd (cc)
first_by g w later (t ∷ ts) are fresh = record {
  setting = t;
  rest = flat_map words_of ts;
  order = are.order;
  read = All-head IsRead t ts are.read;
  fresh = All-head (IsFresh g) t ts fresh;
}

pub first_setting : (g : Seen) (w : List ℕ) (later : List (List ℕ)) → MayFollow g (w ∷ later) → FirstSetting g (w ∷ later)
first_setting g w later (all, ends) = first_by g w later ends.settings ends.are ends.fresh
