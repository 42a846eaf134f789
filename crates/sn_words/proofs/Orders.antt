-- Options in any order.
use Rattle.std.proofs.Common.{◌≡◌, ◌⊎◌, inl, inr, ℕ, List, [], ◌∷◌, ◌++◌, Option, None, refl, sym, ap, ◌∙◌, subst}
use Rattle.std.proofs.lemmas.List.Elements.{All-cons, All-head, All-tail}
use Rattle.std.proofs.lemmas.List.Kept.{AllPairs-cons}
use Rattle.std.specs.List.{AllPairs, cons_option, flat_map}
use Rattle.std.specs.Prelude.{All, filter_map, slice_get, unwrap_or}
use Rattle.sn_words.specs.Command.{Setting, cell, raw, assign, words_of, IsRead, AreTwo, pitch_in, box_in, assignment_in, with_files}
use Rattle.sn_words.specs.CommandLaws.{IsOption, OptionsChangePlaces}
use Rattle.sn_words.specs.Options.{Options}
use Rattle.sn_words.specs.declared.limits.TheConstants.{DEFAULT_PITCH}
use Rattle.sn_words.specs.declared.options.Assign.{Assign}
use Rattle.sn_words.specs.declared.options.Command.{Command}
use Rattle.sn_words.specs.declared.options.RawBox.{RawBox}
use Rattle.sn_words.proofs.SettingLemmas.{AllPairs-first, AllPairs-tail}

two_back : (s t : Setting) → AreTwo s t → AreTwo t s
two_back (cell v p) (cell w q) h = h
two_back (cell v p) (raw w y) h = tt
two_back (cell v p) (assign w y) h = tt
two_back (raw v x) (cell w q) h = tt
two_back (raw v x) (raw w y) h = h
two_back (raw v x) (assign w y) h = tt
two_back (assign v x) (cell w q) h = tt
two_back (assign v x) (raw w y) h = tt
two_back (assign v x) (assign w y) h = λ e. h (sym e)

one_pitch : (s t : Setting) → AreTwo s t → (pitch_in s ≡ None) ⊎ (pitch_in t ≡ None)
one_pitch (cell v p) (cell w q) h = absurd h
one_pitch (cell v p) (raw w y) h = inr refl
one_pitch (cell v p) (assign w y) h = inr refl
one_pitch (raw v x) t h = inl refl
one_pitch (assign v x) t h = inl refl

one_box : (s t : Setting) → AreTwo s t → (box_in s ≡ None) ⊎ (box_in t ≡ None)
one_box (raw v x) (cell w q) h = inr refl
one_box (raw v x) (raw w y) h = absurd h
one_box (raw v x) (assign w y) h = inr refl
one_box (cell v p) t h = inl refl
one_box (assign v x) t h = inl refl

no_assignment_in : (s : Setting) → IsOption s → assignment_in s ≡ None
no_assignment_in (cell v p) h = refl
no_assignment_in (raw v x) h = refl
no_assignment_in (assign v x) h = absurd h

one_assignment : (s t : Setting) → IsOption s ⊎ IsOption t → (assignment_in s ≡ None) ⊎ (assignment_in t ≡ None)
one_assignment s t (inl h) = inl (no_assignment_in s h)
one_assignment s t (inr h) = inr (no_assignment_in t h)

All-swap : (P : Setting → Type 0) (before after : List Setting) (s t : Setting) → All P (before ++ s ∷ t ∷ after) → All P (before ++ t ∷ s ∷ after)
All-swap P [] after s t h =
    let rest = All-tail P s (t ∷ after) h in
    All-cons P t (s ∷ after) (All-head P t after rest) (All-cons P s after (All-head P s (t ∷ after) h) (All-tail P t after rest))
All-swap P (b ∷ before) after s t h =
    All-cons P b (before ++ t ∷ s ∷ after) (All-head P b (before ++ s ∷ t ∷ after) h) (All-swap P before after s t (All-tail P b (before ++ s ∷ t ∷ after) h))

neighbours : (before after : List Setting) (s t : Setting) → AllPairs AreTwo (before ++ s ∷ t ∷ after) → AreTwo s t
neighbours [] after s t h = All-head (AreTwo s) t after (AllPairs-first AreTwo s (t ∷ after) h)
neighbours (b ∷ before) after s t h = neighbours before after s t (AllPairs-tail AreTwo b (before ++ s ∷ t ∷ after) h)

AllPairs-swap : (before after : List Setting) (s t : Setting) → AllPairs AreTwo (before ++ s ∷ t ∷ after) → AllPairs AreTwo (before ++ t ∷ s ∷ after)
AllPairs-swap [] after s t h =
    let first = AllPairs-first AreTwo s (t ∷ after) h in
    let rest = AllPairs-tail AreTwo s (t ∷ after) h in
    let two = two_back s t (All-head (AreTwo s) t after first) in
    AllPairs-cons AreTwo t (s ∷ after) (All-cons (AreTwo t) s after two (AllPairs-first AreTwo t after rest))
    (AllPairs-cons AreTwo s after (All-tail (AreTwo s) t after first) (AllPairs-tail AreTwo t after rest))
AllPairs-swap (b ∷ before) after s t h =
    AllPairs-cons AreTwo b (before ++ t ∷ s ∷ after) (All-swap (AreTwo b) before after s t (AllPairs-first AreTwo b (before ++ s ∷ t ∷ after) h))
    (AllPairs-swap before after s t (AllPairs-tail AreTwo b (before ++ s ∷ t ∷ after) h))

either_way : {Y : Type 0} (a b : Option Y) (ys : List Y) → (a ≡ None) ⊎ (b ≡ None) → cons_option a (cons_option b ys) ≡ cons_option b (cons_option a ys)
either_way a b ys (inl e) = rw e refl
either_way a b ys (inr e) = rw e refl

filter_map-swap : {Y : Type 0} (f : Setting → Option Y) (before after : List Setting) (s t : Setting) → (f s ≡ None) ⊎ (f t ≡ None)
    → filter_map f (before ++ s ∷ t ∷ after) ≡ filter_map f (before ++ t ∷ s ∷ after)
filter_map-swap f [] after s t h = either_way (f s) (f t) (filter_map f after) h
filter_map-swap f (b ∷ before) after s t h = ap (cons_option (f b)) (filter_map-swap f before after s t h)

abbrev options_with : Command → List (List ℕ) → List ℕ → List RawBox → List Assign → Options
options_with command files pitches boxes sets = record {
  command = command;
  files = files;
  seed = 0;
  pitch = unwrap_or (slice_get pitches 0) DEFAULT_PITCH;
  raw = slice_get boxes 0;
  sets = sets;
}

pub options_change_places : OptionsChangePlaces
options_change_places words o h before after s t e option =
    let old = before ++ s ∷ t ∷ after in
    let new = before ++ t ∷ s ∷ after in
    let single : AllPairs AreTwo old = subst (AllPairs AreTwo) e h.settings_are.single in
    let read : All IsRead old = subst (All IsRead) e h.settings_are.read in
    let two = neighbours before after s t single in
    let pitches = filter_map-swap pitch_in before after s t (one_pitch s t two) in
    let boxes = filter_map-swap box_in before after s t (one_box s t two) in
    let sets = filter_map-swap assignment_in before after s t (one_assignment s t option) in
    let says = h.says ∙ (ap (with_files h.command h.files) e
    ∙ ap (λ p. options_with h.command h.files p (filter_map box_in old) (filter_map assignment_in old)) pitches
    ∙ ap (λ b. options_with h.command h.files (filter_map pitch_in new) b (filter_map assignment_in old)) boxes
    ∙ ap (options_with h.command h.files (filter_map pitch_in new) (filter_map box_in new)) sets) in
    inl (record {
      command = h.command;
      files = h.files;
      rest = flat_map words_of new;
      settings = new;
      order = refl;
      takes = h.takes;
      names = h.names;
      settings_are = record { order = refl; read = All-swap IsRead before after s t read; single = AllPairs-swap before after s t single };
      says = says;
    })
