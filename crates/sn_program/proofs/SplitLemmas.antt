-- Words that are left out, and words on lines of their own.
use Rattle.std.proofs.Common.{◌≡◌, ℕ, true, false, ◌||◌, ◌==◌, Bool, Option, Some, None, List, [], ◌∷◌, ◌++◌, ℤ, refl, sym, ◌∙◌, ap, subst, if◌then◌else◌}
use Rattle.std.proofs.lemmas.Bool.{eqb-true}
use Rattle.std.specs.Option.{option_or, option_map}
use Rattle.std.specs.Prelude.{unsigned_abs}
use Rattle.sn_geom.specs.declared.machine.Acts.{Acts}
use Rattle.sn_geom.specs.declared.machine.Word.{Word}
use Rattle.sn_geom.specs.declared.tip.MotionMode.{MotionMode}
use Rattle.sn_geom.specs.declared.tip.MotionMode.TheVariants as mode
use Rattle.sn_geom.specs.Acts.{Act, RunsTo, act_list}
use Rattle.sn_geom.specs.Block.{Block, has_axis, has_g, has_m, value_of, f_of, s_of, t_of, is_empty}
use Rattle.sn_geom.specs.Machine.{State, Modes, motion_of, tip_after_words, stops, motion_after, modes_after, prepared, words_fault, fault_of, acts_of, state_after}
use Rattle.sn_geom.specs.MachineExamples.{word, g, line}
use Rattle.sn_gwrite.specs.Program.{mode_word}
use Rattle.sn_program.specs.Layout.{DoTheSame, DoTheWhole}
use Rattle.sn_program.specs.LayoutLaws.{ModalMotionsMayBeLeftOut, RatesMayStandAlone, LinesMayBeReplaced}
use Rattle.sn_program.proofs.AlikeLemmas.{HaveSameAxes, HaveSameTasks, lost_same, slanted_same, motion_same, tip_same, axis_same, words_fault_same, stops_same, do_the_same}
use Rattle.sn_program.proofs.ReadLemmas.{by_test}

-- ---- modal motions

or-false : (a b : Bool) → (a || b) ≡ false → (a ≡ false) × (b ≡ false)
or-false true b h = absurd (let wrong : true ≡ false = h in cc)
or-false false b h = (refl, h)

-- an axis, and no word for a motion
record MovesOn (words : List Word) : Type 0 where
  pub axis : has_axis words ≡ true
  pub rapid : has_g words 0 ≡ false
  pub feed : has_g words 10 ≡ false
  pub none : has_g words 800 ≡ false

moves_on : (words : List Word) → has_axis words ≡ true → (has_g words 0 || has_g words 10 || has_g words 800) ≡ false → MovesOn words
moves_on words axis none =
    let (both, third) = or-false (has_g words 0 || has_g words 10) (has_g words 800) none in
    let (first, second) = or-false (has_g words 0) (has_g words 10) both in
    record { axis = axis; rapid = first; feed = second; none = third }

motion_stays : (mode : MotionMode) (motion : Option MotionMode) (words : List Word) → motion ≡ Some mode → MovesOn words
    → motion_after motion words ≡ motion_after motion (mode_word mode ∷ words)
motion_stays mode.Rapid motion words active h = rw (h.rapid, h.feed, h.none) active
motion_stays mode.Feed motion words active h = rw (h.rapid, h.feed, h.none) active

prepared_stays : (mode : MotionMode) (s : State) (words : List Word) → s.motion ≡ Some mode → MovesOn words
    → prepared s words ≡ prepared s (mode_word mode ∷ words)
prepared_stays mode.Rapid s words active h =
    let same = motion_stays mode.Rapid s.motion words active h in
    λ i. record (prepared s words) { motion = same i }
prepared_stays mode.Feed s words active h =
    let same = motion_stays mode.Feed s.motion words active h in
    λ i. record (prepared s words) { motion = same i }

axes_behind : (mode : MotionMode) (words : List Word) → HaveSameAxes words (mode_word mode ∷ words)
axes_behind mode.Rapid words = record { x = refl; y = refl; z = refl }
axes_behind mode.Feed words = record { x = refl; y = refl; z = refl }

fault_stays : (mode : MotionMode) (p : State) (words : List Word) → MovesOn words → words_fault p words ≡ words_fault p (mode_word mode ∷ words)
fault_stays mode.Rapid p words h =
    let axes = axes_behind mode.Rapid words in
    rw (lost_same p.tip p.motion words (g 0 ∷ words) axes, slanted_same p.tip words (g 0 ∷ words) axes, h.rapid, h.feed, h.axis) refl
fault_stays mode.Feed p words h =
    let axes = axes_behind mode.Feed words in
    rw (lost_same p.tip p.motion words (g 10 ∷ words) axes, slanted_same p.tip words (g 10 ∷ words) axes, h.rapid, h.feed, h.axis) refl

m_stays : (mode : MotionMode) (words : List Word) (value : ℕ) → has_m words value ≡ has_m (mode_word mode ∷ words) value
m_stays mode.Rapid words value = refl
m_stays mode.Feed words value = refl

stops_stay : (mode : MotionMode) (words : List Word) → stops words ≡ stops (mode_word mode ∷ words)
stops_stay mode.Rapid words = refl
stops_stay mode.Feed words = refl

not_empty : (words : List Word) → has_axis words ≡ true → is_empty words ≡ false
not_empty [] axis = sym axis
not_empty (w ∷ words) axis = refl

pub modal_motions_may_be_left_out : ModalMotionsMayBeLeftOut
modal_motions_may_be_left_out s mode block active axis none =
    let moves = moves_on block.words axis none in
    do_the_same s block (record block { words = mode_word mode ∷ block.words }) (record {
      percent = refl;
      mark = refl;
      says = rw (not_empty block.words axis) refl;
      prepares = prepared_stays mode s block.words active moves;
      fault = λ p. fault_stays mode p block.words moves;
      axes = axes_behind mode block.words;
      change = m_stays mode block.words 6;
      stop = stops_stay mode block.words;
    })

-- ---- words on lines of their own

pub or-right : (b : Bool) → (b || false) ≡ b
or-right true = refl
or-right false = refl

-- the acts and the state of a line of words, by the state that it prepares
abbrev acts_in : State → List Word → Acts
acts_in p words = record {
  mark = None;
  tool = if has_m words 6 then p.tool else None;
  motion = if has_axis words then Some (motion_of p p.tip words) else None;
  end = stops words;
}

abbrev after_in : State → Bool → List Word → State
after_in p ended words = record p { ended = ended || stops words; tip = if has_axis words then tip_after_words p.tip words else p.tip }

plain_fault : (s : State) (words : List Word) → s.closed ≡ false → s.ended ≡ false → fault_of s (line words) ≡ words_fault (prepared s words) words
plain_fault s words counts lasts = rw (counts, lasts) refl

plain_acts : (s : State) (words : List Word) → s.closed ≡ false → acts_of s (line words) ≡ acts_in (prepared s words) words
plain_acts s words counts = rw counts refl

pub plain_after : (s : State) (words : List Word) → s.closed ≡ false → state_after s (line words) ≡ after_in (prepared s words) s.ended words
plain_after s words counts = rw counts refl

acts_in_same : (p : State) (some others : List Word) → HaveSameTasks some others → acts_in p some ≡ acts_in p others
acts_in_same p some others h =
    let axis = axis_same some others h.axes in
    let motion = motion_same p p.tip some others h.axes in
    let stop = stops_same some others h in
    λ i. record { mark = None; tool = if h.m 6 i then p.tool else None; motion = if axis i then Some (motion i) else None; end = stop i }

after_in_same : (p : State) (ended : Bool) (some others : List Word) → HaveSameTasks some others → after_in p ended some ≡ after_in p ended others
after_in_same p ended some others h =
    let axis = axis_same some others h.axes in
    let tip = tip_same p.tip some others h.axes in
    let stop = stops_same some others h in
    λ i. record p { ended = ended || stop i; tip = if axis i then tip i else p.tip }

-- words without a G word set no mode
pub modes_stay : (m : Modes) (words : List Word) → ((tenths : ℕ) → has_g words tenths ≡ false) → modes_after m words ≡ m
modes_stay m words none = λ i. record {
  g21 = kept m.g21 210 i;
  g17 = kept m.g17 170 i;
  g90 = kept m.g90 900 i;
  g94 = kept m.g94 940 i;
  g40 = kept m.g40 400 i;
  g61 = either i;
}
  where
    kept : (b : Bool) (tenths : ℕ) → (b || has_g words tenths) ≡ b
    kept b tenths = ap (λ has. b || has) (none tenths) ∙ or-right b

    either : (m.g61 || has_g words 610 || has_g words 611) ≡ m.g61
    either = ap (λ has. (m.g61 || has_g words 610) || has) (none 611) ∙ or-right (m.g61 || has_g words 610) ∙ kept m.g61 610

-- the other words in the state that a line of one word made, and all words in the state before it
others_do : (s made : State) (w : Word) (words : List Word) → s.closed ≡ false → s.ended ≡ false → made.closed ≡ false → made.ended ≡ false
    → prepared made words ≡ prepared s (w ∷ words) → HaveSameTasks (w ∷ words) words → DoTheSame made (line words) s (line (w ∷ words))
others_do s made w words counts lasts made_counts made_lasts q tasks =
    let all = prepared s (w ∷ words) in
    record {
      fault = plain_fault made words made_counts made_lasts ∙ ap (λ p. words_fault p words) q
          ∙ sym (words_fault_same all (w ∷ words) words tasks) ∙ sym (plain_fault s (w ∷ words) counts lasts);
      acts = plain_acts made words made_counts ∙ ap (λ p. acts_in p words) q ∙ sym (acts_in_same all (w ∷ words) words tasks)
          ∙ sym (plain_acts s (w ∷ words) counts);
      after = plain_after made words made_counts ∙ (λ i. after_in (q i) ((made_lasts ∙ sym lasts) i) words)
          ∙ sym (after_in_same all s.ended (w ∷ words) words tasks) ∙ sym (plain_after s (w ∷ words) counts);
    }

feed_alone : (s : State) (value : ℤ) (words : List Word) → s.closed ≡ false → s.ended ≡ false → value_of words 70 ≡ None
    → DoTheWhole s (line (word 70 value ∷ words)) (line (word 70 value ∷ [])) (line words)
feed_alone s value words counts lasts none =
    let w = word 70 value in
    let n = Some (unsigned_abs value) in
    let made : State = record s { began = true; feed = n } in
    let set : option_or (f_of words) n ≡ n = ap (λ o. option_or (option_map unsigned_abs o) n) none in
    let modes = modes_stay s.modes (w ∷ []) (λ tenths. refl) in
    let after : state_after s (line (w ∷ [])) ≡ made
    = plain_after s (w ∷ []) counts ∙ (λ i. record made { modes = modes i; ended = or-right s.ended i }) in
    let tasks : HaveSameTasks (w ∷ words) words = record { g = λ tenths. refl; m = λ v. refl; h = refl; axes = record { x = refl; y = refl; z = refl } } in
    record {
      accepted = plain_fault s (w ∷ []) counts lasts;
      idle = plain_acts s (w ∷ []) counts;
      same = subst (λ (t : State). DoTheSame t (line words) s (line (w ∷ words))) (sym after)
          (others_do s made w words counts lasts counts lasts (λ i. record (prepared s (w ∷ words)) { feed = set i }) tasks);
    }

speed_alone : (s : State) (value : ℤ) (words : List Word) → s.closed ≡ false → s.ended ≡ false → value_of words 83 ≡ None
    → DoTheWhole s (line (word 83 value ∷ words)) (line (word 83 value ∷ [])) (line words)
speed_alone s value words counts lasts none =
    let w = word 83 value in
    let n = Some (unsigned_abs value) in
    let made : State = record s { began = true; speed = n } in
    let set : option_or (s_of words) n ≡ n = ap (λ o. option_or (option_map unsigned_abs o) n) none in
    let modes = modes_stay s.modes (w ∷ []) (λ tenths. refl) in
    let after : state_after s (line (w ∷ [])) ≡ made
    = plain_after s (w ∷ []) counts ∙ (λ i. record made { modes = modes i; ended = or-right s.ended i }) in
    let tasks : HaveSameTasks (w ∷ words) words = record { g = λ tenths. refl; m = λ v. refl; h = refl; axes = record { x = refl; y = refl; z = refl } } in
    record {
      accepted = plain_fault s (w ∷ []) counts lasts;
      idle = plain_acts s (w ∷ []) counts;
      same = subst (λ (t : State). DoTheSame t (line words) s (line (w ∷ words))) (sym after)
          (others_do s made w words counts lasts counts lasts (λ i. record (prepared s (w ∷ words)) { speed = set i }) tasks);
    }

tool_alone : (s : State) (value : ℤ) (words : List Word) → s.closed ≡ false → s.ended ≡ false → value_of words 84 ≡ None
    → DoTheWhole s (line (word 84 value ∷ words)) (line (word 84 value ∷ [])) (line words)
tool_alone s value words counts lasts none =
    let w = word 84 value in
    let n = Some (unsigned_abs value) in
    let made : State = record s { began = true; chosen = n } in
    let set : option_or (t_of words) n ≡ n = ap (λ o. option_or (option_map unsigned_abs o) n) none in
    let modes = modes_stay s.modes (w ∷ []) (λ tenths. refl) in
    let after : state_after s (line (w ∷ [])) ≡ made
    = plain_after s (w ∷ []) counts ∙ (λ i. record made { modes = modes i; ended = or-right s.ended i }) in
    let tasks : HaveSameTasks (w ∷ words) words = record { g = λ tenths. refl; m = λ v. refl; h = refl; axes = record { x = refl; y = refl; z = refl } } in
    record {
      accepted = plain_fault s (w ∷ []) counts lasts;
      idle = plain_acts s (w ∷ []) counts;
      same = subst (λ (t : State). DoTheSame t (line words) s (line (w ∷ words))) (sym after)
          (others_do s made w words counts lasts counts lasts
          (λ i. record (prepared s (w ∷ words)) { chosen = set i; tool = if has_m words 6 then set i else s.tool }) tasks);
    }

-- a word of a known letter
by_letter : (s : State) (w : Word) (words : List Word) (letter : ℕ) → (w.letter == letter) ≡ true → value_of words w.letter ≡ None
    → (value_of words letter ≡ None → DoTheWhole s (line (word letter w.value ∷ words)) (line (word letter w.value ∷ [])) (line words))
    → DoTheWhole s (line (w ∷ words)) (line (w ∷ [])) (line words)
by_letter s w words letter found none alone =
    let e : w.letter ≡ letter = eqb-true w.letter letter found in
    let same : word letter w.value ≡ w = λ i. word (sym e i) w.value in
    subst (λ (one : Word). DoTheWhole s (line (one ∷ words)) (line (one ∷ [])) (line words)) same
    (alone (subst (λ l. value_of words l ≡ None) e none))

pub rates_may_stand_alone : RatesMayStandAlone
rates_may_stand_alone s w words counts lasts kind none =
    by_test (w.letter == 70) (DoTheWhole s (line (w ∷ words)) (line (w ∷ [])) (line words))
    (λ is. by_letter s w words 70 is none (feed_alone s w.value words counts lasts))
    (λ no_feed. by_test (w.letter == 83) (DoTheWhole s (line (w ∷ words)) (line (w ∷ [])) (line words))
    (λ is. by_letter s w words 83 is none (speed_alone s w.value words counts lasts))
    (λ no_speed. by_letter s w words 84 (rw (no_feed, no_speed) at kind) none (tool_alone s w.value words counts lasts)))

-- ---- lines in the place of others

replaced : (s : State) (some other : Block) (behind : List Block) (acts : List Act) → DoTheSame s some s other → RunsTo s (other ∷ behind) acts → RunsTo s (some ∷ behind) acts
replaced s some other behind acts same (clean, (later, is, runs)) = (
  same.fault ∙ clean,
  (
    later,
    is ∙ ap (λ own. act_list own ++ later) (sym same.acts),
    subst (λ (t : State). RunsTo t behind later) (sym same.after) runs,
  ),
)

turned : (s : State) (some other : Block) → DoTheSame s some s other → DoTheSame s other s some
turned s some other same = record { fault = sym same.fault; acts = sym same.acts; after = sym same.after }

two_for_one : (s : State) (whole first second : Block) (behind : List Block) (acts : List Act) → DoTheWhole s whole first second
    → RunsTo s (whole ∷ behind) acts → RunsTo s (first ∷ second ∷ behind) acts
two_for_one s whole first second behind acts h (clean, (later, is, runs)) = (
  h.accepted,
  (
    acts,
    ap (λ own. act_list own ++ acts) (sym h.idle),
    (
      h.same.fault ∙ clean,
      (
        later,
        is ∙ ap (λ own. act_list own ++ later) (sym h.same.acts),
        subst (λ (t : State). RunsTo t behind later) (sym h.same.after) runs,
      ),
    ),
  ),
)

one_for_two : (s : State) (whole first second : Block) (behind : List Block) (acts : List Act) → DoTheWhole s whole first second
    → RunsTo s (first ∷ second ∷ behind) acts → RunsTo s (whole ∷ behind) acts
one_for_two s whole first second behind acts h (accepted, (middle, split, (clean, (later, is, runs)))) = (
  sym h.same.fault ∙ clean,
  (
    later,
    split ∙ ap (λ own. act_list own ++ middle) h.idle ∙ is ∙ ap (λ own. act_list own ++ later) h.same.acts,
    subst (λ (t : State). RunsTo t behind later) h.same.after runs,
  ),
)

pub lines_may_be_replaced : LinesMayBeReplaced
lines_may_be_replaced s block behind acts = (
  λ other same. (replaced s other block behind acts same, replaced s block other behind acts (turned s other block same)),
  λ first second h. (two_for_one s block first second behind acts h, one_for_two s block first second behind acts h),
)
