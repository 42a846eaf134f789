-- How the machine runs the lines of each part, from any state that agrees with what is kept.
use Rattle.std.proofs.Common.{ℕ, ◌≡◌, ◌≢◌, ◌≤◌, ◌+◌, ⊎_elim, Bool, true, false, List, [], ◌∷◌, map, Option, None, Some, ℤ, refl, sym, ap, subst, ◌∙◌, arith}
use Rattle.std.specs.Prelude.{◌==◌, IsSome, IfSome, unwrap_or}
use Rattle.std.specs.Ordering.{int_eq}
use Rattle.std.proofs.lemmas.Bool.{false_from_ne_true, eq-eqb}
use Rattle.std.proofs.lemmas.Bool.Decides.{Decides-int_eq, nat_tests}
use Rattle.sn_geom.specs.Acts.{Act, Mark, PutTool, Enter, Locate, Rapid, Feed, End, RunsTo}
use Rattle.sn_geom.specs.Machine.{State, start}
use Rattle.sn_geom.specs.Tip.{tip_after}
use Rattle.sn_geom.specs.declared.units.Pt3.{Pt3}
use Rattle.sn_geom.specs.declared.tip.MotionMode.{MotionMode}
use Rattle.sn_geom.specs.declared.tip.MotionMode.TheVariants as mode
use Rattle.sn_geom.specs.declared.tip.Tip.{Tip}
use Rattle.sn_geom.specs.declared.tip.Tip.TheVariants.{Unknown, Height, At}
use Rattle.sn_gwrite.specs.Agreement.{AgreesBetween, AgreesAt, Agrees, all_modes, motion_from, motion_act}
use Rattle.sn_gwrite.specs.Program.{Form, PercentSign, AllModes, ToolNote, StepMark, ToolChange, LengthOffset, SpindleSpeed, FeedRate, HeightMotion, PlaneMotion, form_block, tools_forms, head_forms, change_forms, rates_forms, motion_form, end_forms}
use Rattle.sn_gwrite.specs.Kept.{Kept, IsKept, IsBegun, HasTool, IsTurning, IsToolNumber, IsRate, MayRapid, MayFeed, IsStraight, unused, begun, with_tool, with_rates, moved, ended}
use Rattle.sn_gwrite.specs.declared.kept.Stage.{Stage}
use Rattle.sn_gwrite.proofs.LineRuns.{Ran, Runs, one_line, line_before, blocks_are_run}

-- ---- states

-- a state within a program, before its end
abbrev pub within : Option MotionMode → (feed speed chosen tool : Option ℕ) → (offset turning : Bool) → Tip → State
within motion feed speed chosen tool offset turning tip = record {
  began = true;
  within_percent = true;
  closed = false;
  ended = false;
  modes = all_modes;
  motion = motion;
  feed = feed;
  speed = speed;
  chosen = chosen;
  tool = tool;
  offset = offset;
  turning = turning;
  tip = tip;
}

between : (kept : Kept) (s : State) → IsBegun kept → Agrees kept s → AgreesBetween kept s
between kept s is agrees = subst (λ (stage : Stage). AgreesAt stage kept s) is agrees

agrees_between : (kept : Kept) (s : State) → IsBegun kept → AgreesBetween kept s → Agrees kept s
agrees_between kept s is agrees = subst (λ (stage : Stage). AgreesAt stage kept s) (sym is) agrees

-- a state that agrees is one of those
is_within : (kept : Kept) (s : State) → AgreesBetween kept s → s ≡ within s.motion kept.feed kept.speed s.chosen kept.tool s.offset s.turning kept.tip
is_within kept s a = λ i. record {
  began = a.began i;
  within_percent = a.within_percent i;
  closed = a.not_closed i;
  ended = a.not_ended i;
  modes = a.modes i;
  motion = s.motion;
  feed = a.feed i;
  speed = a.speed i;
  chosen = s.chosen;
  tool = a.tool i;
  offset = s.offset;
  turning = s.turning;
  tip = a.tip i;
}

within_agrees : (kept : Kept) (motion : Option MotionMode) (chosen : Option ℕ) (offset turning : Bool)
    → (IsSome kept.tool → offset ≡ true) → (IsTurning kept → turning ≡ true)
    → AgreesBetween kept (within motion kept.feed kept.speed chosen kept.tool offset turning kept.tip)
within_agrees kept motion chosen offset turning applied turns = record {
  began = refl;
  within_percent = refl;
  not_closed = refl;
  not_ended = refl;
  modes = refl;
  feed = refl;
  speed = refl;
  tool = refl;
  offset = applied;
  tip = refl;
  turning = turns;
}

-- what is so from each of those is so from each state that agrees
from_within : (old new : Kept) (forms : List Form) (acts : List Act)
    → ((motion : Option MotionMode) (chosen : Option ℕ) (offset turning : Bool) → (IsSome old.tool → offset ≡ true) → (IsTurning old → turning ≡ true)
    → Ran (within motion old.feed old.speed chosen old.tool offset turning old.tip) forms acts new)
    → IsBegun old → (s : State) → Agrees old s → Ran s forms acts new
from_within old new forms acts ran is s agrees =
    let a = between old s is agrees in
    subst (λ (state : State). Ran state forms acts new) (sym (is_within old s a)) (ran s.motion s.chosen s.offset s.turning a.offset a.turning)

-- ---- the head

tools_run : (number : ℕ) (tools : List ℕ) → Ran (within None None None None None false false Unknown) (tools_forms number tools) [] (begun unused)
tools_run number [] = record { runs = refl; agrees = within_agrees (begun unused) None None false false (λ some. absurd (cc)) (λ turns. absurd (cc)) }
tools_run number (instance ∷ instances) =
    let state = within None None None None None false false Unknown in
    line_before state state (ToolNote number instance) (tools_forms (number + 1) instances) [] [] (begun unused)
    (record { clean = refl; gives = refl; leads = refl }) (tools_run (number + 1) instances)

pub head_run : (tools : List ℕ) (s : State) → Agrees unused s → Ran s (head_forms tools) [] (begun unused)
head_run tools s agrees =
    let state = within None None None None None false false Unknown in
    let percent : State = record start { began = true; within_percent = true } in
    let modes = line_before percent state AllModes (tools_forms 1 tools) [] [] (begun unused) (record { clean = refl; gives = refl; leads = refl }) (tools_run 1 tools) in
    subst (λ (state : State). Ran state (head_forms tools) [] (begun unused)) (sym agrees)
    (line_before start percent PercentSign (AllModes ∷ tools_forms 1 tools) [] [] (begun unused) (record { clean = refl; gives = refl; leads = refl }) modes)

-- ---- marks, tools, rates

pub mark_run : (kept : Kept) (ws : ℕ) → IsBegun kept → (s : State) → Agrees kept s → Ran s (StepMark ws ∷ []) (Mark ws ∷ []) kept
mark_run kept ws is = from_within kept kept (StepMark ws ∷ []) (Mark ws ∷ []) (λ motion chosen offset turning applied turns.
    let state = within motion kept.feed kept.speed chosen kept.tool offset turning kept.tip in
    one_line state state (StepMark ws) (Mark ws ∷ []) kept (record { clean = refl; gives = refl; leads = refl })
    (agrees_between kept state is (within_agrees kept motion chosen offset turning applied turns))) is

positive_test : (n : ℕ) → 1 ≤ n → (n == 0) ≡ false
positive_test n positive = grind (arith, nat_tests)

pub change_run : (kept : Kept) (k : ℕ) → IsBegun kept → IsToolNumber k → (s : State) → Agrees kept s
    → Ran s (change_forms k) (PutTool k ∷ []) (with_tool kept k)
change_run kept k is number = from_within kept (with_tool kept k) (change_forms k) (PutTool k ∷ []) (λ motion chosen offset turning applied turns.
    let state = within motion kept.feed kept.speed chosen kept.tool offset turning kept.tip in
    let changed = within motion kept.feed kept.speed (Some k) (Some k) false false Unknown in
    let applied = within motion kept.feed kept.speed (Some k) (Some k) true false Unknown in
    line_before state changed (ToolChange k) (LengthOffset k ∷ []) (PutTool k ∷ []) [] (with_tool kept k) (record { clean = refl; gives = refl; leads = refl })
    (one_line changed applied (LengthOffset k) [] (with_tool kept k)
    (record { clean = rw (positive_test k number.0, eq-eqb k k refl) refl; gives = refl; leads = refl })
    (agrees_between (with_tool kept k) applied is
    (within_agrees (with_tool kept k) motion (Some k) true false (λ some. refl) (λ turns. absurd (cc)))))) is

pub rates_run : (kept : Kept) (speed feed : ℕ) → IsBegun kept → (s : State) → Agrees kept s
    → Ran s (rates_forms speed feed) [] (with_rates kept speed feed)
rates_run kept speed feed is = from_within kept (with_rates kept speed feed) (rates_forms speed feed) [] (λ motion chosen offset turning applied turns.
    let state = within motion kept.feed kept.speed chosen kept.tool offset turning kept.tip in
    let turned = within motion kept.feed (Some speed) chosen kept.tool offset true kept.tip in
    let set = within motion (Some feed) (Some speed) chosen kept.tool offset true kept.tip in
    line_before state turned (SpindleSpeed speed) (FeedRate feed ∷ []) [] [] (with_rates kept speed feed) (record { clean = refl; gives = refl; leads = refl })
    (one_line turned set (FeedRate feed) [] (with_rates kept speed feed) (record { clean = refl; gives = refl; leads = refl })
    (agrees_between (with_rates kept speed feed) set is
    (within_agrees (with_rates kept speed feed) motion chosen offset true applied (λ turns. refl))))) is

-- ---- the end

-- whichever its lines are, from each state within a program
pub end_runs : (motion : Option MotionMode) (feed speed chosen tool : Option ℕ) (offset turning : Bool) (tip : Tip)
    → RunsTo (within motion feed speed chosen tool offset turning tip) (map form_block end_forms) (End ∷ [])
end_runs motion feed speed chosen tool offset turning tip =
    blocks_are_run (within motion feed speed chosen tool offset turning tip) (map form_block end_forms) refl

pub end_run : (kept : Kept) → IsBegun kept → (s : State) → Agrees kept s → Ran s end_forms (End ∷ []) (ended kept)
end_run kept is = from_within kept (ended kept) end_forms (End ∷ []) (λ motion chosen offset turning applied turns.
    record { runs = end_runs motion kept.feed kept.speed chosen kept.tool offset turning kept.tip; agrees = refl }) is

-- ---- motions

equal_test : (x : ℤ) → int_eq x x ≡ true
equal_test x = (Decides-int_eq x x).1 refl

other_test : (x y : ℤ) → x ≢ y → int_eq x y ≡ false
other_test x y differ = false_from_ne_true (int_eq x y) (λ e. differ ((Decides-int_eq x y).0 e))

by_test : (b : Bool) (R : Type 0) → (b ≡ true → R) → (b ≡ false → R) → R
by_test true R met other = met refl
by_test false R met other = other refl

-- a tool in the spindle
record HasNumber (tool : Option ℕ) : Type 0 where
  pub k : ℕ
  pub is : tool ≡ Some k
  pub positive : (k == 0) ≡ false

tool_number : (tool : Option ℕ) → IsSome tool → IfSome tool IsToolNumber → HasNumber tool
tool_number None some limits = absurd (cc)
tool_number (Some k) some limits = record { k = k; is = refl; positive = positive_test k limits.0 }

rate_number : (rate : Option ℕ) → IsSome rate → IfSome rate IsRate → HasNumber rate
rate_number None some limits = absurd (cc)
rate_number (Some n) some limits = record { k = n; is = refl; positive = positive_test n limits.0 }

-- with a tool in the spindle, its length offset applied
abbrev ready : Option MotionMode → (feed speed chosen : Option ℕ) → ℕ → Bool → Tip → State
ready motion feed speed chosen k turning tip = within motion feed speed chosen (Some k) true turning tip

enter_runs : (motion : Option MotionMode) (feed speed chosen : Option ℕ) (k : ℕ) (turning : Bool) (z : ℤ) → (k == 0) ≡ false
    → Runs (ready motion feed speed chosen k turning Unknown) (HeightMotion mode.Rapid z) (Enter z ∷ []) (ready (Some mode.Rapid) feed speed chosen k turning (Height z))
enter_runs motion feed speed chosen k turning z positive = record { clean = rw positive refl; gives = refl; leads = refl }

locate_runs : (motion : Option MotionMode) (feed speed chosen : Option ℕ) (k : ℕ) (turning : Bool) (z : ℤ) (to : Pt3) → (k == 0) ≡ false → z ≡ to.z
    → Runs (ready motion feed speed chosen k turning (Height z)) (PlaneMotion mode.Rapid to.x to.y) (Locate to ∷ [])
    (ready (Some mode.Rapid) feed speed chosen k turning (At to))
locate_runs motion feed speed chosen k turning z to positive level =
    let at : ℤ → Pt3 = λ h. record { x = to.x; y = to.y; z = h } in
    record {
      clean = rw (positive, equal_test z) refl;
      gives = ap (λ h. Locate (at h) ∷ []) level;
      leads = ap (λ h. ready (Some mode.Rapid) feed speed chosen k turning (At (at h))) level;
    }

-- in rapid from a place to a place, in the plane or in height
rapid_plane_runs : (motion : Option MotionMode) (feed speed chosen : Option ℕ) (k : ℕ) (turning : Bool) (from to : Pt3) → (k == 0) ≡ false → from.z ≡ to.z
    → Runs (ready motion feed speed chosen k turning (At from)) (PlaneMotion mode.Rapid to.x to.y) (Rapid from to k ∷ [])
    (ready (Some mode.Rapid) feed speed chosen k turning (At to))
rapid_plane_runs motion feed speed chosen k turning from to positive level =
    let at : ℤ → Pt3 = λ h. record { x = to.x; y = to.y; z = h } in
    record {
      clean = rw (positive, equal_test from.z) refl;
      gives = ap (λ h. Rapid from (at h) k ∷ []) level;
      leads = ap (λ h. ready (Some mode.Rapid) feed speed chosen k turning (At (at h))) level;
    }

rapid_height_runs : (motion : Option MotionMode) (feed speed chosen : Option ℕ) (k : ℕ) (turning : Bool) (from to : Pt3) → (k == 0) ≡ false
    → from.x ≡ to.x → from.y ≡ to.y → int_eq to.z from.z ≡ false
    → Runs (ready motion feed speed chosen k turning (At from)) (HeightMotion mode.Rapid to.z) (Rapid from to k ∷ [])
    (ready (Some mode.Rapid) feed speed chosen k turning (At to))
rapid_height_runs motion feed speed chosen k turning from to positive across along differs =
    let there : Pt3 = record { x = from.x; y = from.y; z = to.z } in
    let same : there ≡ to = λ i. record { x = across i; y = along i; z = to.z } in
    record {
      clean = rw (positive, differs, equal_test from.x, equal_test from.y) refl;
      gives = ap (λ p. Rapid from p k ∷ []) same;
      leads = ap (λ p. ready (Some mode.Rapid) feed speed chosen k turning (At p)) same;
    }

-- at feed from a place to a place, in the plane or in height
feed_plane_runs : (motion : Option MotionMode) (f s : ℕ) (chosen : Option ℕ) (k : ℕ) (from to : Pt3) → (f == 0) ≡ false → (s == 0) ≡ false → (k == 0) ≡ false
    → from.z ≡ to.z
    → Runs (ready motion (Some f) (Some s) chosen k true (At from)) (PlaneMotion mode.Feed to.x to.y) (Feed from to f s k ∷ [])
    (ready (Some mode.Feed) (Some f) (Some s) chosen k true (At to))
feed_plane_runs motion f s chosen k from to feeds turns positive level =
    let at : ℤ → Pt3 = λ h. record { x = to.x; y = to.y; z = h } in
    record {
      clean = rw (positive, equal_test from.z, feeds, turns) refl;
      gives = ap (λ h. Feed from (at h) f s k ∷ []) level;
      leads = ap (λ h. ready (Some mode.Feed) (Some f) (Some s) chosen k true (At (at h))) level;
    }

feed_height_runs : (motion : Option MotionMode) (f s : ℕ) (chosen : Option ℕ) (k : ℕ) (from to : Pt3) → (f == 0) ≡ false → (s == 0) ≡ false → (k == 0) ≡ false
    → from.x ≡ to.x → from.y ≡ to.y → int_eq to.z from.z ≡ false
    → Runs (ready motion (Some f) (Some s) chosen k true (At from)) (HeightMotion mode.Feed to.z) (Feed from to f s k ∷ [])
    (ready (Some mode.Feed) (Some f) (Some s) chosen k true (At to))
feed_height_runs motion f s chosen k from to feeds turns positive across along differs =
    let there : Pt3 = record { x = from.x; y = from.y; z = to.z } in
    let same : there ≡ to = λ i. record { x = across i; y = along i; z = to.z } in
    record {
      clean = rw (positive, differs, equal_test from.x, equal_test from.y, feeds, turns) refl;
      gives = ap (λ p. Feed from p f s k ∷ []) same;
      leads = ap (λ p. ready (Some mode.Feed) (Some f) (Some s) chosen k true (At p)) same;
    }

-- a straight motion from a place, in the plane where the height stays, else in height
abbrev straight_form : MotionMode → Pt3 → Pt3 → Form
straight_form m from to = motion_form m (At from) to

straight_cases : (m : MotionMode) (from to : Pt3) (P : Form → Type 0) → IsStraight from to
    → (from.z ≡ to.z → P (PlaneMotion m to.x to.y))
    → (from.x ≡ to.x → from.y ≡ to.y → int_eq to.z from.z ≡ false → P (HeightMotion m to.z))
    → P (straight_form m from to)
straight_cases m from to P straight plane height =
    by_test (int_eq from.z to.z) (P (straight_form m from to))
    (λ same. rw same (plane ((Decides-int_eq from.z to.z).0 same)))
    (λ other.
    let differ : from.z ≢ to.z = λ e. let met = (Decides-int_eq from.z to.z).1 e in let both : false ≡ true = sym other ∙ met in cc in
    rw other (⊎_elim {C = P (HeightMotion m to.z)} (λ level. absurd (differ level)) (λ (across, along). height across along (other_test to.z from.z (λ e. differ (sym e)))) straight.straight))

-- a rapid from each tip
rapid_runs : (motion : Option MotionMode) (feed speed chosen : Option ℕ) (k : ℕ) (turning : Bool) (f s : ℕ) (tip : Tip) (to : Pt3) → (k == 0) ≡ false → MayRapid tip to
    → Runs (ready motion feed speed chosen k turning tip) (motion_form mode.Rapid tip to) (motion_from mode.Rapid f s k tip to ∷ [])
    (ready (Some mode.Rapid) feed speed chosen k turning (tip_after tip to))
rapid_runs motion feed speed chosen k turning f s Unknown to positive may = enter_runs motion feed speed chosen k turning to.z positive
rapid_runs motion feed speed chosen k turning f s (Height z) to positive may = locate_runs motion feed speed chosen k turning z to positive may
rapid_runs motion feed speed chosen k turning f s (At from) to positive may =
    straight_cases mode.Rapid from to (λ form. Runs (ready motion feed speed chosen k turning (At from)) form (Rapid from to k ∷ []) (ready (Some mode.Rapid) feed speed chosen k turning (At to)))
    may (rapid_plane_runs motion feed speed chosen k turning from to positive) (rapid_height_runs motion feed speed chosen k turning from to positive)

-- the same of a number that is kept
rapid_of : (tip : Tip) (to : Pt3) (motion : Option MotionMode) (chosen feed speed tool : Option ℕ) (offset turning : Bool)
    → HasNumber tool → offset ≡ true → MayRapid tip to
    → Runs (within motion feed speed chosen tool offset turning tip) (motion_form mode.Rapid tip to)
    (motion_from mode.Rapid (unwrap_or feed 0) (unwrap_or speed 0) (unwrap_or tool 0) tip to ∷ [])
    (within (Some mode.Rapid) feed speed chosen tool offset turning (tip_after tip to))
rapid_of tip to motion chosen feed speed tool offset turning k applied may =
    rw (k.is, applied) (rapid_runs motion feed speed chosen k.k turning (unwrap_or feed 0) (unwrap_or speed 0) tip to k.positive may)

pub rapid_run : (kept : Kept) (to : Pt3) → IsKept kept → IsBegun kept → HasTool kept → MayRapid kept.tip to → (s : State) → Agrees kept s
    → Ran s (motion_form mode.Rapid kept.tip to ∷ []) (motion_act mode.Rapid kept to ∷ []) (moved kept to)
rapid_run kept to rule is has may =
    let form = motion_form mode.Rapid kept.tip to in
    let act = motion_act mode.Rapid kept to in
    from_within kept (moved kept to) (form ∷ []) (act ∷ []) (λ motion chosen offset turning applied turns.
    let state = within motion kept.feed kept.speed chosen kept.tool offset turning kept.tip in
    let after = within (Some mode.Rapid) kept.feed kept.speed chosen kept.tool offset turning (tip_after kept.tip to) in
    let runs = rapid_of kept.tip to motion chosen kept.feed kept.speed kept.tool offset turning (tool_number kept.tool has rule.tool) (applied has) may in
    one_line state after form (act ∷ []) (moved kept to) runs
    (agrees_between (moved kept to) after is (within_agrees (moved kept to) (Some mode.Rapid) chosen offset turning applied turns))) is

-- a feed from a known place
feed_runs : (motion : Option MotionMode) (f s : ℕ) (chosen : Option ℕ) (k : ℕ) (tip : Tip) (to : Pt3) → (f == 0) ≡ false → (s == 0) ≡ false → (k == 0) ≡ false
    → MayFeed tip to
    → Runs (ready motion (Some f) (Some s) chosen k true tip) (motion_form mode.Feed tip to) (motion_from mode.Feed f s k tip to ∷ [])
    (ready (Some mode.Feed) (Some f) (Some s) chosen k true (tip_after tip to))
feed_runs motion f s chosen k Unknown to feeds turns positive may = absurd may
feed_runs motion f s chosen k (Height z) to feeds turns positive may = absurd may
feed_runs motion f s chosen k (At from) to feeds turns positive may =
    straight_cases mode.Feed from to (λ form. Runs (ready motion (Some f) (Some s) chosen k true (At from)) form (Feed from to f s k ∷ []) (ready (Some mode.Feed) (Some f) (Some s) chosen k true (At to)))
    may (feed_plane_runs motion f s chosen k from to feeds turns positive) (feed_height_runs motion f s chosen k from to feeds turns positive)

-- the same of numbers that are kept
feed_of : (tip : Tip) (to : Pt3) (motion : Option MotionMode) (chosen feed speed tool : Option ℕ) (offset turning : Bool)
    → HasNumber feed → HasNumber speed → HasNumber tool → offset ≡ true → turning ≡ true → MayFeed tip to
    → Runs (within motion feed speed chosen tool offset turning tip) (motion_form mode.Feed tip to)
    (motion_from mode.Feed (unwrap_or feed 0) (unwrap_or speed 0) (unwrap_or tool 0) tip to ∷ [])
    (within (Some mode.Feed) feed speed chosen tool offset turning (tip_after tip to))
feed_of tip to motion chosen feed speed tool offset turning f s k applied turns may =
    rw (f.is, s.is, k.is, applied, turns) (feed_runs motion f.k s.k chosen k.k tip to f.positive s.positive k.positive may)

pub feed_run : (kept : Kept) (to : Pt3) → IsKept kept → IsBegun kept → HasTool kept → IsTurning kept → MayFeed kept.tip to → (s : State) → Agrees kept s
    → Ran s (motion_form mode.Feed kept.tip to ∷ []) (motion_act mode.Feed kept to ∷ []) (moved kept to)
feed_run kept to rule is has turn may =
    let form = motion_form mode.Feed kept.tip to in
    let act = motion_act mode.Feed kept to in
    from_within kept (moved kept to) (form ∷ []) (act ∷ []) (λ motion chosen offset turning applied turns.
    let rates = rule.turning turn in
    let state = within motion kept.feed kept.speed chosen kept.tool offset turning kept.tip in
    let after = within (Some mode.Feed) kept.feed kept.speed chosen kept.tool offset turning (tip_after kept.tip to) in
    let runs = feed_of kept.tip to motion chosen kept.feed kept.speed kept.tool offset turning (rate_number kept.feed rates.1 rule.feed)
    (rate_number kept.speed rates.0 rule.speed) (tool_number kept.tool has rule.tool) (applied has) (turns turn) may in
    one_line state after form (act ∷ []) (moved kept to) runs
    (agrees_between (moved kept to) after is (within_agrees (moved kept to) (Some mode.Feed) chosen offset turning applied turns))) is
