-- Laws of what the parts of a program that is written mean (this project's own).
use Rattle.std.specs.Prelude.{ℕ, ◌≡◌, ◌≢◌, true, None, ◌≤◌, ◌<◌, ◌^◌, List, [], ◌∷◌, ◌++◌, length, All}
use Rattle.sn_geom.specs.Acts.{Act, Mark, PutTool, End}
use Rattle.sn_geom.specs.Machine.{State, start, fault_of, state_after}
use Rattle.sn_geom.specs.Meaning.{MeansFrom, Means}
use Rattle.sn_geom.specs.declared.units.Pt3.{Pt3}
use Rattle.sn_geom.specs.declared.tip.MotionMode.TheVariants as mode
use Rattle.sn_gwrite.specs.Agreement.{Agrees, PartMeans, motion_act}
use Rattle.sn_gwrite.specs.Program.{PercentSign, form_block, head_text, mark_text, change_text, rates_text, motion_text, end_text}
use Rattle.sn_gwrite.specs.Kept.{Kept, IsKept, IsBegun, HasTool, IsTurning, IsToolNumber, IsRate, IsPoint, MayRapid, MayFeed, unused, begun, with_tool, with_rates, moved, ended}
use Rattle.sn_gwrite.specs.declared.kept.Stage.TheVariants.{Unused, Begun, Ended, Failed}

-- Each part, from what is kept before it to what is kept then.

abbrev pub HeadMeans : Type 0
HeadMeans = (tools : List ℕ) → length tools < 2 ^ 64 → All (λ instance. instance < 2 ^ 32) tools → PartMeans unused (begun unused) (head_text tools) []

abbrev pub MarkMeans : Type 0
MarkMeans = (kept : Kept) (ws : ℕ) → IsBegun kept → 1 ≤ ws → ws < 2 ^ 32 → PartMeans kept kept (mark_text ws) (Mark ws ∷ [])

abbrev pub ChangeMeans : Type 0
ChangeMeans = (kept : Kept) (k : ℕ) → IsBegun kept → IsToolNumber k → PartMeans kept (with_tool kept k) (change_text k) (PutTool k ∷ [])

abbrev pub RatesMean : Type 0
RatesMean =
    (kept : Kept) (speed feed : ℕ) → IsBegun kept → IsRate speed → IsRate feed
    → PartMeans kept (with_rates kept speed feed) (rates_text speed feed) []

abbrev pub RapidMeans : Type 0
RapidMeans =
    (kept : Kept) (to : Pt3) → IsKept kept → IsBegun kept → HasTool kept → MayRapid kept.tip to → IsPoint to
    → PartMeans kept (moved kept to) (motion_text mode.Rapid kept.tip to) (motion_act mode.Rapid kept to ∷ [])

abbrev pub FeedMeans : Type 0
FeedMeans =
    (kept : Kept) (to : Pt3) → IsKept kept → IsBegun kept → HasTool kept → IsTurning kept → MayFeed kept.tip to → IsPoint to
    → PartMeans kept (moved kept to) (motion_text mode.Feed kept.tip to) (motion_act mode.Feed kept to ∷ [])

abbrev pub EndMeans : Type 0
EndMeans = (kept : Kept) → IsBegun kept → PartMeans kept (ended kept) end_text (End ∷ [])

-- Parts in a row.

-- two parts in a row mean the acts of the first and then those of the second
abbrev pub PartsMeanInTurn : Type 0
PartsMeanInTurn =
    (old kept new : Kept) (front back : List ℕ) (some others : List Act)
    → PartMeans old kept front some → PartMeans kept new back others → PartMeans old new (front ++ back) (some ++ others)

-- no part means no act, and what is kept stays
abbrev pub NoPartMeansNothing : Type 0
NoPartMeansNothing = (kept : Kept) → PartMeans kept kept [] []

-- parts from the first on are a program, which means their acts
abbrev pub PartsAreProgram : Type 0
PartsAreProgram = (kept : Kept) (program : List ℕ) (acts : List Act) → PartMeans unused kept program acts → Means program acts

-- Agreement.

-- where a state agrees, it is that at the start before the head, the next percent line closes the program before the end, no text
-- does an act after the end, and no state agrees after a write that failed
abbrev pub StatesAgreeByStage : Type 0
StatesAgreeByStage =
    (kept : Kept) (state : State) → Agrees kept state
    → (kept.stage ≡ Unused → state ≡ start)
    × (kept.stage ≡ Begun → (fault_of state (form_block PercentSign) ≡ None) × ((state_after state (form_block PercentSign)).closed ≡ true))
    × (kept.stage ≡ Ended → (text : List ℕ) (acts : List Act) (after : State) → MeansFrom state text acts after → acts ≡ [])
    × (kept.stage ≢ Failed)

-- What every emitter keeps, call by call.

abbrev pub KeptStays : Type 0
KeptStays =
    (kept : Kept) → IsKept kept
    → IsKept (begun kept)
    × ((k : ℕ) → IsToolNumber k → IsKept (with_tool kept k))
    × ((speed feed : ℕ) → IsRate speed → IsRate feed → IsKept (with_rates kept speed feed))
    × ((to : Pt3) → IsKept (moved kept to))
    × IsKept (ended kept)

abbrev pub UnusedIsKept : Type 0
UnusedIsKept = IsKept unused
