-- Blocks that are alike, words in other orders, and what the machine does with them.
use Rattle.std.proofs.Common.{◌≡◌, ℕ, true, false, not, ◌&&◌, ◌||◌, Bool, Option, Some, None, List, [], ◌∷◌, ◌++◌, refl, sym, ◌∙◌, ap, subst, if◌then◌else◌}
use Rattle.std.proofs.lemmas.Bool.{eqb-true}
use Rattle.std.specs.Ordering.{int_eq}
use Rattle.std.specs.Prelude.{◌↔◌, ◌==◌, pos, unsigned_abs}
use Rattle.std.specs.Option.{option_map}
use Rattle.sn_geom.specs.declared.machine.Acts.{Acts}
use Rattle.sn_geom.specs.declared.machine.Word.{Word}
use Rattle.sn_geom.specs.declared.machine.MachFault.{MachFault}
use Rattle.sn_geom.specs.declared.machine.MachFault.TheVariants.{Percent, AfterEnd}
use Rattle.sn_geom.specs.declared.machine.Motion.{Motion}
use Rattle.sn_geom.specs.declared.tip.MotionMode.{MotionMode}
use Rattle.sn_geom.specs.declared.tip.Tip.{Tip}
use Rattle.sn_geom.specs.declared.tip.Tip.TheVariants.{Unknown, Height, At}
use Rattle.sn_geom.specs.Acts.{Act, RunsTo, act_list}
use Rattle.sn_geom.specs.Block.{Block, has_word, has_g, has_m, value_of, h_of, x_of, y_of, z_of, has_axis, lines_of}
use Rattle.sn_geom.specs.LineTextLaws.{HasOneBlock}
use Rattle.sn_geom.specs.Machine.{State, start, says_something, prepared, needs_lost, is_slanted, words_fault, motion_of, tip_after_words, stops, no_acts, state_after}
use Rattle.sn_geom.specs.LineTable.{is_modal}
use Rattle.sn_geom.specs.Meaning.{AreBlocks, Means}
use Rattle.sn_geom.specs.MeaningLaws.{ProgramsHaveOneMeaning}
use Rattle.sn_open.specs.Good.{AreGood}
use Rattle.sn_program.proofs.ReadLemmas.{by_test}
use Rattle.sn_program.specs.Layout.{AreEquivalent, HaveSameWords, AreAlike, DoTheSame, AreSameLines}
use Rattle.sn_program.specs.LayoutLaws.{GoodGoesByTheActs, LinesOfOneBlock, WordsMaySwap}

-- the same values of the axis letters
pub record HaveSameAxes (some others : List Word) : Type 0 where
  pub x : x_of some ≡ x_of others
  pub y : y_of some ≡ y_of others
  pub z : z_of some ≡ z_of others

-- the same words but those that set a feed, a speed or a tool
pub record HaveSameTasks (some others : List Word) : Type 0 where
  pub g : (tenths : ℕ) → has_g some tenths ≡ has_g others tenths
  pub m : (value : ℕ) → has_m some value ≡ has_m others value
  pub h : h_of some ≡ h_of others
  pub axes : HaveSameAxes some others

tasks_of : (some others : List Word) → HaveSameWords some others → HaveSameTasks some others
tasks_of some others h = record {
  g = h.modal 71;
  m = h.modal 77;
  h = ap (option_map unsigned_abs) (h.values 72 refl);
  axes = record { x = h.values 88 refl; y = h.values 89 refl; z = h.values 90 refl };
}

prepared_same : (s : State) (some others : List Word) → HaveSameWords some others → prepared s some ≡ prepared s others
prepared_same s some others h =
    rw (
      h.modal 71 0,
      h.modal 71 10,
      h.modal 71 800,
      h.modal 71 210,
      h.modal 71 170,
      h.modal 71 900,
      h.modal 71 940,
      h.modal 71 400,
      h.modal 71 610,
      h.modal 71 611,
      h.modal 71 430,
      h.modal 71 490,
      h.modal 77 6,
      h.modal 77 3,
      h.modal 77 5,
      h.values 70 refl,
      h.values 83 refl,
      h.values 84 refl,
    ) refl

pub lost_same : (tip : Tip) (motion : Option MotionMode) (some others : List Word) → HaveSameAxes some others
    → needs_lost tip motion some ≡ needs_lost tip motion others
lost_same Unknown motion some others h = rw (h.x, h.y, h.z) refl
lost_same (Height z) motion some others h = rw (h.x, h.y, h.z) refl
lost_same (At p) motion some others h = refl

pub slanted_same : (tip : Tip) (some others : List Word) → HaveSameAxes some others → is_slanted tip some ≡ is_slanted tip others
slanted_same Unknown some others h = refl
slanted_same (Height z) some others h = refl
slanted_same (At p) some others h = rw (h.x, h.y, h.z) refl

pub motion_same : (s : State) (tip : Tip) (some others : List Word) → HaveSameAxes some others → motion_of s tip some ≡ motion_of s tip others
motion_same s Unknown some others h = rw h.z refl
motion_same s (Height z) some others h = rw (h.x, h.y, h.z) refl
motion_same s (At p) some others h = rw (h.x, h.y, h.z) refl

pub tip_same : (tip : Tip) (some others : List Word) → HaveSameAxes some others → tip_after_words tip some ≡ tip_after_words tip others
tip_same Unknown some others h = rw h.z refl
tip_same (Height z) some others h = rw (h.x, h.y, h.z) refl
tip_same (At p) some others h = rw (h.x, h.y, h.z) refl

pub axis_same : (some others : List Word) → HaveSameAxes some others → has_axis some ≡ has_axis others
axis_same some others h = rw (h.x, h.y, h.z) refl

pub words_fault_same : (s : State) (some others : List Word) → HaveSameTasks some others → words_fault s some ≡ words_fault s others
words_fault_same s some others h =
    rw (lost_same s.tip s.motion some others h.axes, slanted_same s.tip some others h.axes, h.g 0, h.g 10, h.g 430, h.m 6, h.h, h.axes.x, h.axes.y, h.axes.z) refl

pub stops_same : (some others : List Word) → HaveSameTasks some others → stops some ≡ stops others
stops_same some others h = rw (h.m 2, h.m 30) refl

-- the fault, the acts and the state of a line, by what it says
abbrev fault_by : State → (percent says : Bool) → Option MachFault → Option MachFault
fault_by s percent says fault =
    if s.closed then None
    else if percent then (if s.began && not s.within_percent then Some Percent else None)
    else if s.ended && says then Some AfterEnd
    else fault

abbrev acts_by : State → (percent : Bool) → (mark : Option ℕ) → (change axis end : Bool) → State → Motion → Acts
acts_by s percent mark change axis end after motion =
    if s.closed || percent then no_acts
    else record { mark = mark; tool = if change then after.tool else None; motion = if axis then Some motion else None; end = end }

abbrev state_by : State → (percent axis stop : Bool) → State → Tip → State
state_by s percent axis stop after tip =
    if s.closed then s
    else if percent then record s { began = true; within_percent = true; closed = s.began }
    else record after { ended = s.ended || stop; tip = if axis then tip else after.tip }

-- what two lines that do the same have in common
pub record HaveInCommon (s : State) (some other : Block) : Type 0 where
  pub percent : some.percent ≡ other.percent
  pub mark : some.mark ≡ other.mark
  pub says : says_something some ≡ says_something other
  pub prepares : prepared s some.words ≡ prepared s other.words
  pub fault : (p : State) → words_fault p some.words ≡ words_fault p other.words
  pub axes : HaveSameAxes some.words other.words
  pub change : has_m some.words 6 ≡ has_m other.words 6
  pub stop : stops some.words ≡ stops other.words

pub do_the_same : (s : State) (some other : Block) → HaveInCommon s some other → DoTheSame s some s other
do_the_same s some other h =
    let axis = axis_same some.words other.words h.axes in
    let fault : words_fault (prepared s some.words) some.words ≡ words_fault (prepared s other.words) other.words
    = h.fault (prepared s some.words) ∙ ap (λ p. words_fault p other.words) h.prepares in
    let motion : motion_of (prepared s some.words) (prepared s some.words).tip some.words ≡ motion_of (prepared s other.words) (prepared s other.words).tip other.words
    = motion_same (prepared s some.words) (prepared s some.words).tip some.words other.words h.axes ∙ ap (λ (p : State). motion_of p p.tip other.words) h.prepares in
    let tip : tip_after_words (prepared s some.words).tip some.words ≡ tip_after_words (prepared s other.words).tip other.words
    = tip_same (prepared s some.words).tip some.words other.words h.axes ∙ ap (λ (p : State). tip_after_words p.tip other.words) h.prepares in
    record {
      fault = λ i. fault_by s (h.percent i) (h.says i) (fault i);
      acts = λ i. acts_by s (h.percent i) (h.mark i) (h.change i) (axis i) (h.stop i) (h.prepares i) (motion i);
      after = λ i. state_by s (h.percent i) (axis i) (h.stop i) (h.prepares i) (tip i);
    }

alike_do_the_same : (s : State) (some other : Block) → AreAlike some other → DoTheSame s some s other
alike_do_the_same s some other h =
    let tasks = tasks_of some.words other.words h.words in
    do_the_same s some other (record {
      percent = h.percent;
      mark = h.mark;
      says = h.says;
      prepares = prepared_same s some.words other.words h.words;
      fault = λ p. words_fault_same p some.words other.words tasks;
      axes = tasks.axes;
      change = tasks.m 6;
      stop = stops_same some.words other.words tasks;
    })

-- Lines that are alike.

abbrev AreAllAlike : List Block → List Block → Type 0
AreAllAlike [] [] = Unit {0}
AreAllAlike [] (other ∷ others) = ⊥
AreAllAlike (block ∷ blocks) [] = ⊥
AreAllAlike (block ∷ blocks) (other ∷ others) = AreAlike block other × AreAllAlike blocks others

runs_same : (s : State) (blocks others : List Block) (acts : List Act) → AreAllAlike blocks others → RunsTo s blocks acts → RunsTo s others acts
runs_same s [] [] acts alike runs = runs
runs_same s [] (other ∷ others) acts alike runs = absurd alike
runs_same s (block ∷ blocks) [] acts alike runs = absurd alike
runs_same s (block ∷ blocks) (other ∷ others) acts (one, all) (clean, (later, is, runs)) =
    let same = alike_do_the_same s block other one in (
      sym same.fault ∙ clean,
      (
        later,
        is ∙ ap (λ own. act_list own ++ later) same.acts,
        subst (λ (state : State). RunsTo state others later) same.after (runs_same (state_after s block) blocks others later all runs),
      ),
    )

-- the other lines are read too, as blocks that are alike
record OthersAre (blocks : List Block) (others : List (List ℕ)) : Type 0 where
  pub other_blocks : List Block
  pub says : AreBlocks others other_blocks
  pub alike : AreAllAlike blocks other_blocks

others_are : HasOneBlock → (lines others : List (List ℕ)) (blocks : List Block) → AreSameLines lines others → AreBlocks lines blocks → OthersAre blocks others
others_are one [] [] [] same says = record { other_blocks = []; says = tt; alike = tt }
others_are one [] [] (b ∷ bs) same says = absurd says
others_are one [] (other ∷ others) blocks same says = absurd same
others_are one (line ∷ lines) [] blocks same says = absurd same
others_are one (line ∷ lines) (other ∷ others) [] same says = absurd says
others_are one (line ∷ lines) (other ∷ others) (b ∷ bs) (first, same) (read, says) =
    let rest = others_are one lines others bs same says in
    record {
      other_blocks = first.other_block ∷ rest.other_blocks;
      says = (first.other_reads, rest.says);
      alike = (subst (λ (block : Block). AreAlike block first.other_block) (one line first.block b first.reads read) first.alike, rest.alike);
    }

-- The relation goes both ways.

turned : (some other : Block) → AreAlike some other → AreAlike other some
turned some other h = record {
  percent = sym h.percent;
  mark = sym h.mark;
  words = record { modal = λ letter value. sym (h.words.modal letter value); values = λ letter plain. sym (h.words.values letter plain) };
  says = sym h.says;
}

same_back : (lines others : List (List ℕ)) → AreSameLines lines others → AreSameLines others lines
same_back [] [] same = tt
same_back [] (other ∷ others) same = absurd same
same_back (line ∷ lines) [] same = absurd same
same_back (line ∷ lines) (other ∷ others) (first, same) = (
  record {
    block = first.other_block;
    other_block = first.block;
    reads = first.other_reads;
    other_reads = first.reads;
    alike = turned first.block first.other_block first.alike;
  },
  same_back lines others same,
)

means_same : HasOneBlock → (text other : List ℕ) (acts : List Act) → AreSameLines (lines_of text) (lines_of other) → Means text acts → Means other acts
means_same one text other acts same means =
    let others = others_are one (lines_of text) (lines_of other) means.blocks same means.says in
    record { blocks = others.other_blocks; says = others.says; runs = runs_same start means.blocks others.other_blocks acts others.alike means.runs }

-- Programs.

pub good_goes_by_the_acts : ProgramsHaveOneMeaning → GoodGoesByTheActs
good_goes_by_the_acts one job text other acts means other_means (found, found_means, good) =
    (acts, other_means, subst (λ (all : List Act). AreGood job all) (one text found acts found_means means) good)

-- programs that mean the same acts are good for the same jobs
pub equivalent : (text other : List ℕ) → ((acts : List Act) → Means text acts ↔ Means other acts) → AreEquivalent text other
equivalent text other same = record {
  means = same;
  good = λ job. (λ (acts, means, good). (acts, (same acts).0 means, good), λ (acts, means, good). (acts, (same acts).1 means, good));
}

pub lines_of_one_block : HasOneBlock → LinesOfOneBlock
lines_of_one_block one text other same =
    equivalent text other (λ acts. (means_same one text other acts same, means_same one other text acts (same_back (lines_of text) (lines_of other) same)))

-- The order of words.

either_order : (a b c : Bool) → (a || (b || c)) ≡ (b || (a || c))
either_order true true c = refl
either_order true false c = refl
either_order false true c = refl
either_order false false c = refl

-- the word has this letter and this value
abbrev is : Word → ℕ → ℕ → Bool
is w letter value = w.letter == letter && int_eq w.value (pos value)

pub same_words : (words : List Word) → HaveSameWords words words
same_words words = record { modal = λ letter value. refl; values = λ letter plain. refl }

swap_first : (some other : Word) (after : List Word) → (some.letter ≡ other.letter → is_modal some.letter ≡ true)
    → HaveSameWords (some ∷ other ∷ after) (other ∷ some ∷ after)
swap_first some other after apart = record {
  modal = λ letter value.
      either_order (is some letter value) (is other letter value) (has_word after letter value);
  values = λ letter plain.
      by_test (some.letter == letter) (value_of (some ∷ other ∷ after) letter ≡ value_of (other ∷ some ∷ after) letter)
      (λ first. by_test (other.letter == letter) (value_of (some ∷ other ∷ after) letter ≡ value_of (other ∷ some ∷ after) letter)
      (λ second.
      let first_is : some.letter ≡ letter = eqb-true some.letter letter first in
      let modal : is_modal some.letter ≡ true = apart (first_is ∙ sym (eqb-true other.letter letter second)) in
      let both : true ≡ false = sym modal ∙ ap is_modal first_is ∙ plain in cc)
      (λ second. rw (first, second) refl))
      (λ first. rw first refl);
}

behind : (word : Word) (some others : List Word) → HaveSameWords some others → HaveSameWords (word ∷ some) (word ∷ others)
behind word some others h = record {
  modal = λ letter value. ap (λ has. is word letter value || has) (h.modal letter value);
  values = λ letter plain.
      by_test (word.letter == letter) (value_of (word ∷ some) letter ≡ value_of (word ∷ others) letter)
      (λ found. rw found refl)
      (λ other. rw other (h.values letter plain));
}

pub words_may_swap : WordsMaySwap
words_may_swap [] after some other apart = swap_first some other after apart
words_may_swap (word ∷ before) after some other apart =
    behind word (before ++ some ∷ other ∷ after) (before ++ other ∷ some ∷ after) (words_may_swap before after some other apart)
