-- What each part means, and parts in a row.
use Rattle.std.proofs.Common.{ℕ, suc, ◌≡◌, ◌<◌, ◌≤◌, ◌+◌, ◌^◌, List, [], ◌∷◌, ◌++◌, length, refl, sym, ap, subst, ◌∙◌, arith, append_assoc, append-nil, ⊎_elim, inl, inr}
use Rattle.std.specs.Prelude.{All, Result, Ok, Err, OnOk}
use Rattle.sn_geom.specs.Acts.{Act, Mark, PutTool, End}
use Rattle.sn_geom.specs.Machine.{State, start}
use Rattle.sn_geom.specs.Meaning.{IsWholeLines}
use Rattle.sn_geom.proofs.Meanings.{mean_in_turn, nothing_means_nothing, ended_texts_do_nothing}
use Rattle.sn_geom.specs.declared.tip.MotionMode.TheVariants as mode
use Rattle.sn_gwrite.specs.Agreement.{AgreesAt, Agrees, PartMeans, motion_act}
use Rattle.sn_gwrite.specs.AgreementLaws.{HeadMeans, MarkMeans, ChangeMeans, RatesMean, RapidMeans, FeedMeans, EndMeans, PartsMeanInTurn, NoPartMeansNothing, PartsAreProgram, StatesAgreeByStage, KeptStays, UnusedIsKept}
use Rattle.sn_gwrite.specs.Program.{PercentSign, AllModes, tools_forms, head_forms, mark_forms, change_forms, rates_forms, motion_forms, end_forms, head_text, mark_text, change_text, rates_text, motion_text, end_text}
use Rattle.sn_gwrite.specs.Kept.{Kept, unused, begun, with_tool, with_rates, moved, ended}
use Rattle.sn_gwrite.specs.declared.kept.Stage.{Stage}
use Rattle.sn_gwrite.specs.declared.kept.Stage.TheVariants.{Unused, Begun, Ended, Failed}
use Rattle.sn_gwrite.proofs.LineRuns.{AreRead, proper_read, note_is_read, read_part_means, part_means}
use Rattle.sn_gwrite.proofs.PartLines.{head-text, mark-forms, change-forms, rates-forms, motion-forms, end-forms}
use Rattle.sn_gwrite.proofs.PartRuns.{head_run, mark_run, change_run, rates_run, rapid_run, feed_run, end_run}

-- ---- parts

notes_read : (number : ℕ) (tools : List ℕ) → number + length tools ≤ 2 ^ 64 → All (λ t. t < 2 ^ 32) tools → AreRead (tools_forms number tools)
notes_read number [] few each = tt
notes_read number (t ∷ ts) few each =
    (note_is_read number t (omega arith) (each 0 0 (omega arith)), notes_read (number + 1) ts (omega arith) (λ k d h. each (suc k) d (omega arith)))

pub head_means : HeadMeans
head_means tools few each =
    let first = proper_read (PercentSign ∷ AllModes ∷ []) (tt, (tt, tt)) in
    read_part_means unused (begun unused) (head_text tools) (head_forms tools) [] (head-text tools)
    (first.0, (first.1.0, notes_read 1 tools (omega arith) each)) (head_run tools)

pub mark_means : MarkMeans
mark_means kept ws is low high =
    part_means kept kept (mark_text ws) (mark_forms ws) (Mark ws ∷ []) (mark-forms ws low high) (mark_run kept ws is)

pub change_means : ChangeMeans
change_means kept k is number =
    part_means kept (with_tool kept k) (change_text k) (change_forms k) (PutTool k ∷ []) (change-forms k number) (change_run kept k is number)

pub rates_mean : RatesMean
rates_mean kept speed feed is h k =
    part_means kept (with_rates kept speed feed) (rates_text speed feed) (rates_forms speed feed) [] (rates-forms speed feed h k)
    (rates_run kept speed feed is)

pub rapid_means : RapidMeans
rapid_means kept to rule is has may point =
    part_means kept (moved kept to) (motion_text mode.Rapid kept.tip to) (motion_forms mode.Rapid kept.tip to) (motion_act mode.Rapid kept to ∷ [])
    (motion-forms mode.Rapid kept.tip to point.x point.y point.z) (rapid_run kept to rule is has may)

pub feed_means : FeedMeans
feed_means kept to rule is has turn may point =
    part_means kept (moved kept to) (motion_text mode.Feed kept.tip to) (motion_forms mode.Feed kept.tip to) (motion_act mode.Feed kept to ∷ [])
    (motion-forms mode.Feed kept.tip to point.x point.y point.z) (feed_run kept to rule is has turn may)

pub end_means : EndMeans
end_means kept is = part_means kept (ended kept) end_text end_forms (End ∷ []) end-forms (end_run kept is)

-- ---- parts in a row

lines_in_turn : (front back : List ℕ) → IsWholeLines front → IsWholeLines back → IsWholeLines (front ++ back)
lines_in_turn front back first second =
    ⊎_elim {C = IsWholeLines (front ++ back)}
    (λ none. subst (λ (text : List ℕ). IsWholeLines (front ++ text)) (sym none) (subst IsWholeLines (sym (append-nil front)) first))
    (λ (line, ends). inr (front ++ line, ap (λ text. front ++ text) ends ∙ sym (append_assoc front line (10 ∷ []))))
    second

pub parts_mean_in_turn : PartsMeanInTurn
parts_mean_in_turn old kept new front back some others p q = record {
  lines = lines_in_turn front back p.lines q.lines;
  means = λ state agrees.
      let first = p.means state agrees in
      let second = q.means first.after first.agrees in
      record {
        after = second.after;
        means = mean_in_turn state front back some others first.after second.after p.lines first.means second.means;
        agrees = second.agrees;
      };
}

pub no_part_means_nothing : NoPartMeansNothing
no_part_means_nothing kept = record {
  lines = inl refl;
  means = λ state agrees. record { after = state; means = nothing_means_nothing state; agrees = agrees };
}

pub parts_are_program : PartsAreProgram
parts_are_program kept program acts p =
    let whole = (p.means start refl).means in
    record { blocks = whole.blocks; says = whole.says; runs = whole.runs }

-- ---- agreement

at_stage : (kept : Kept) (state : State) (stage : Stage) → Agrees kept state → kept.stage ≡ stage → AgreesAt stage kept state
at_stage kept state stage agrees is = subst (λ (s : Stage). AgreesAt s kept state) is agrees

pub states_agree_by_stage : StatesAgreeByStage
states_agree_by_stage kept state agrees = (
  λ is. at_stage kept state Unused agrees is,
  λ is. let between = at_stage kept state Begun agrees is in
      (rw (between.not_closed, between.began, between.within_percent) refl, rw (between.not_closed, between.began) refl),
  λ is text acts after means. ended_texts_do_nothing state after text acts (at_stage kept state Ended agrees is) means,
  λ is. at_stage kept state Failed agrees is,
)

-- ---- what is kept

pub unused_is_kept : UnusedIsKept
unused_is_kept = record { tool = tt; speed = tt; feed = tt; turning = λ turns. absurd (cc) }

pub kept_stays : KeptStays
kept_stays kept rule = (
  record { tool = rule.tool; speed = rule.speed; feed = rule.feed; turning = rule.turning },
  λ k number. record { tool = number; speed = rule.speed; feed = rule.feed; turning = λ turns. absurd (cc) },
  λ speed feed h k. record { tool = rule.tool; speed = h; feed = k; turning = λ turns. (refl, refl) },
  λ to. record { tool = rule.tool; speed = rule.speed; feed = rule.feed; turning = rule.turning },
  record { tool = rule.tool; speed = rule.speed; feed = rule.feed; turning = rule.turning },
)

-- the same of what is kept in other words
pub means_as : (old new kept : Kept) (text : List ℕ) (acts : List Act) → new ≡ kept → PartMeans old kept text acts → PartMeans old new text acts
means_as old new kept text acts same means = subst (λ (k : Kept). PartMeans old k text acts) (sym same) means

-- what a call did where it ended well
pub where_ok : {T E : Type 0} (result : Result T E) (P Q : Type 0) → (P → Q) → OnOk result P → OnOk result Q
where_ok (Ok value) P Q f p = f p
where_ok (Err error) P Q f p = p
