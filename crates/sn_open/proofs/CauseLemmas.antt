-- The causes of a line: a cause with a cell is that of the one motion of the line, and a line has one first cause.
use Rattle.std.proofs.Common.{Bool, true, false, ℕ, ◌+◌, ◌≤◌, ◌≡◌, Option, None, Some, List, [], ◌∷◌, ◌++◌, slice_get, refl, sym, ap, subst, ◌∙◌, arith}
use Rattle.sn_geom.specs.declared.units.Cell.{Cell}
use Rattle.sn_raster.specs.Heights.{IsFirst}
use Rattle.sn_geom.specs.declared.machine.Acts.{Acts}
use Rattle.sn_geom.specs.declared.machine.Motion.{Motion}
use Rattle.sn_geom.specs.declared.machine.Motion.TheVariants as motion
use Rattle.sn_geom.specs.Acts.{Act, act_list, mark_acts, tool_acts, motion_acts, end_acts}
use Rattle.sn_geom.specs.Acts.Act.{Mark, PutTool, Enter, Locate, Rapid, Feed, End}
use Rattle.sn_geom.specs.Block.{Block}
use Rattle.sn_geom.specs.LineText.{LineText}
use Rattle.sn_geom.specs.LineTextLaws.{HasOneBlock, HasOneFault, HasNotBoth}
use Rattle.sn_geom.specs.Machine.{State, fault_of, acts_of}
use Rattle.sn_outline.specs.Job.{Job}
use Rattle.sn_outline.specs.declared.job.StepJob.{StepJob}
use Rattle.sn_open.specs.Good.{IsCurrent}
use Rattle.sn_open.specs.Verdict.{IsActCause, IsCauseAmong, IsCauseOfActs, IsLineCause, rank, IsMetForbidden, IsMetDeep, IsMetInRapid}
use Rattle.sn_open.specs.VerdictLaws.{LinesHaveOneFirstCause, UnreadLinesAreAtFault, RefusedLinesAreAtFault}
use Rattle.sn_open.specs.declared.verdict.Cause.{Cause}
use Rattle.sn_open.specs.declared.verdict.Cause.TheVariants.{LineFault, MachFault, WrongMark, LowEntry, Early, OtherTool, OtherFeed, OtherSpeed, Gouge, Deep, Crash}
use Rattle.sn_open.proofs.CellLemmas.{one_first_cell}

pub one_step : (job : Job) (before : List Act) (s t : StepJob) → IsCurrent job before s → IsCurrent job before t → s ≡ t
one_step job before s t (k, count, is) (l, count', is') =
    let same : k ≡ l = omega arith in
    let moved = subst (λ n. slice_get job.steps n ≡ Some s) same is in
    cc

-- The acts of a line.

-- motions count
abbrev weight : Act → ℕ
weight (Mark n) = 0
weight (PutTool k) = 0
weight (Enter z) = 1
weight (Locate p) = 1
weight (Rapid from to tool) = 1
weight (Feed from to feed speed tool) = 1
weight End = 0

abbrev motions : List Act → ℕ
motions [] = 0
motions (act ∷ acts) = weight act + motions acts

motions_joined : (some others : List Act) → motions (some ++ others) ≡ motions some + motions others
motions_joined [] others = omega arith
motions_joined (act ∷ acts) others = let h = motions_joined acts others in omega arith

no_motion_in_mark : (n : Option ℕ) → motions (mark_acts n) ≡ 0
no_motion_in_mark None = refl
no_motion_in_mark (Some n) = refl

no_motion_in_tool : (n : Option ℕ) → motions (tool_acts n) ≡ 0
no_motion_in_tool None = refl
no_motion_in_tool (Some n) = refl

no_motion_in_end : (b : Bool) → motions (end_acts b) ≡ 0
no_motion_in_end false = refl
no_motion_in_end true = refl

one_motion : (m : Option Motion) → motions (motion_acts m) ≤ 1
one_motion None = omega arith
one_motion (Some (motion.Enter z)) = omega arith
one_motion (Some (motion.Locate p)) = omega arith
one_motion (Some (motion.Rapid a b tool)) = omega arith
one_motion (Some (motion.Feed a b feed speed tool)) = omega arith

few_motions : (acts : Acts) → motions (act_list acts) ≤ 1
few_motions acts =
    let a = motions_joined (mark_acts acts.mark) (tool_acts acts.tool ++ (motion_acts acts.motion ++ end_acts acts.end)) in
    let b = motions_joined (tool_acts acts.tool) (motion_acts acts.motion ++ end_acts acts.end) in
    let c = motions_joined (motion_acts acts.motion) (end_acts acts.end) in
    omega (arith, no_motion_in_mark acts.mark, no_motion_in_tool acts.tool, no_motion_in_end acts.end, one_motion acts.motion)

-- behind which acts of a list with one motion this one stands
record IsSame (front other : List Act) (act act' : Act) : Type 0 where
  pub fronts : front ≡ other
  pub acts : act ≡ act'

heads : (a b : Act) (xs ys : List Act) → a ∷ xs ≡ b ∷ ys → (a ≡ b) × (xs ≡ ys)
heads a b xs ys e = (ap (λ l. head l) e, ap (λ l. tail l) e)
  where
    head : List Act → Act
    head [] = a
    head (x ∷ l) = x

    tail : List Act → List Act
    tail [] = []
    tail (x ∷ l) = l

too_many : (act act' : Act) (front back back' : List Act) → weight act ≡ 1 → weight act' ≡ 1 → back ≡ front ++ act' ∷ back' → motions (act ∷ back) ≤ 1 → ⊥
too_many act act' front back back' w w' e few =
    let h = motions_joined front (act' ∷ back') in
    let g = ap motions e in
    omega arith

same_motion : (front front' back back' : List Act) (act act' : Act) → front ++ act ∷ back ≡ front' ++ act' ∷ back' → weight act ≡ 1 → weight act' ≡ 1
    → motions (front ++ act ∷ back) ≤ 1 → IsSame front front' act act'
same_motion [] [] back back' act act' e w w' few = record { fronts = refl; acts = (heads act act' back back' e).0 }
same_motion [] (x ∷ front') back back' act act' e w w' few =
    absurd (too_many act act' front' back back' w w' (heads act x back (front' ++ act' ∷ back') e).1 few)
same_motion (x ∷ front) [] back back' act act' e w w' few =
    let few' = subst (λ l. motions l ≤ 1) e few in
    absurd (too_many act' act front back' back w' w (sym (heads x act' (front ++ act ∷ back) back' e).1) few')
same_motion (x ∷ front) (y ∷ front') back back' act act' e w w' few =
    let (first, rest) = heads x y (front ++ act ∷ back) (front' ++ act' ∷ back') e in
    let fewer : motions (front ++ act ∷ back) ≤ 1 = omega arith in
    let h = same_motion front front' back back' act act' rest w w' fewer in
    record { fronts = λ i. first i ∷ h.fronts i; acts = h.acts }

-- a cause with a cell, of a motion between known places
record HasCell (K : Cell → Cause) : Type 0 where
  pub heavy : (job : Job) (before : List Act) (act : Act) (c : Cell) → IsActCause job before act (K c) → weight act ≡ 1
  pub one : (job : Job) (before : List Act) (act : Act) (c c' : Cell) → IsActCause job before act (K c) → IsActCause job before act (K c') → c ≡ c'

one_cell_among : (K : Cell → Cause) → HasCell K → (job : Job) (before : List Act) (acts : Acts) (c c' : Cell) → IsCauseAmong job before (act_list acts) (K c)
    → IsCauseAmong job before (act_list acts) (K c') → c ≡ c'
one_cell_among K has job before acts c c' h k =
    let w = has.heavy job (before ++ h.front) h.act c h.causes in
    let w' = has.heavy job (before ++ k.front) k.act c' k.causes in
    let few = subst (λ l. motions l ≤ 1) h.all (few_motions acts) in
    let same = same_motion h.front k.front h.back k.back h.act k.act (sym h.all ∙ k.all) w w' few in
    let other : IsActCause job (before ++ h.front) k.act (K c') = subst (λ (front : List Act). IsActCause job (before ++ front) k.act (K c')) (sym same.fronts) k.causes in
    let moved : IsActCause job (before ++ h.front) h.act (K c') = subst (λ (act : Act). IsActCause job (before ++ h.front) act (K c')) (sym same.acts) other in
    has.one job (before ++ h.front) h.act c c' h.causes moved

not_wrong : (c : Cell) (K : Cell → Cause) → 8 ≤ rank (K c) → ¬ (K c ≡ WrongMark)
not_wrong c K high e = let h = ap rank e in omega arith

not_low : (c : Cell) (K : Cell → Cause) → 8 ≤ rank (K c) → ¬ (K c ≡ LowEntry)
not_low c K high e = let h = ap rank e in omega arith

gouge_heavy : (job : Job) (before : List Act) (act : Act) (c : Cell) → IsActCause job before act (Gouge c) → weight act ≡ 1
gouge_heavy job before (Mark n) c h = absurd (not_wrong c Gouge (omega arith) h.0)
gouge_heavy job before (PutTool k) c h = absurd h
gouge_heavy job before (Enter z) c h = refl
gouge_heavy job before (Locate p) c h = refl
gouge_heavy job before (Rapid a b tool) c h = refl
gouge_heavy job before (Feed a b feed speed tool) c h = refl
gouge_heavy job before End c h = absurd h

gouge_one : (job : Job) (before : List Act) (act : Act) (c c' : Cell) → IsActCause job before act (Gouge c) → IsActCause job before act (Gouge c') → c ≡ c'
gouge_one job before (Mark n) c c' h k = absurd (not_wrong c Gouge (omega arith) h.0)
gouge_one job before (PutTool n) c c' h k = absurd h
gouge_one job before (Enter z) c c' h k = absurd (not_low c Gouge (omega arith) h.0)
gouge_one job before (Locate p) c c' h k = absurd (not_low c Gouge (omega arith) h.0)
gouge_one job before (Rapid a b tool) c c' h k = absurd h
gouge_one job before (Feed a b feed speed tool) c c' (s, current, first) (t, current', first') =
    let same = one_step job before t s current' current in
    one_first_cell (IsMetForbidden job before s a b) c c' first (subst (λ (s : StepJob). IsFirst (IsMetForbidden job before s a b) c') same first')
gouge_one job before End c c' h k = absurd h

deep_heavy : (job : Job) (before : List Act) (act : Act) (c : Cell) → IsActCause job before act (Deep c) → weight act ≡ 1
deep_heavy job before (Mark n) c h = absurd (not_wrong c Deep (omega arith) h.0)
deep_heavy job before (PutTool k) c h = absurd h
deep_heavy job before (Enter z) c h = refl
deep_heavy job before (Locate p) c h = refl
deep_heavy job before (Rapid a b tool) c h = refl
deep_heavy job before (Feed a b feed speed tool) c h = refl
deep_heavy job before End c h = absurd h

deep_one : (job : Job) (before : List Act) (act : Act) (c c' : Cell) → IsActCause job before act (Deep c) → IsActCause job before act (Deep c') → c ≡ c'
deep_one job before (Mark n) c c' h k = absurd (not_wrong c Deep (omega arith) h.0)
deep_one job before (PutTool n) c c' h k = absurd h
deep_one job before (Enter z) c c' h k = absurd (not_low c Deep (omega arith) h.0)
deep_one job before (Locate p) c c' h k = absurd (not_low c Deep (omega arith) h.0)
deep_one job before (Rapid a b tool) c c' h k = absurd h
deep_one job before (Feed a b feed speed tool) c c' (s, current, (sideways, first)) (t, current', (sideways', first')) =
    let same = one_step job before t s current' current in
    one_first_cell (IsMetDeep job before s a b) c c' first (subst (λ (s : StepJob). IsFirst (IsMetDeep job before s a b) c') same first')
deep_one job before End c c' h k = absurd h

crash_heavy : (job : Job) (before : List Act) (act : Act) (c : Cell) → IsActCause job before act (Crash c) → weight act ≡ 1
crash_heavy job before (Mark n) c h = absurd (not_wrong c Crash (omega arith) h.0)
crash_heavy job before (PutTool k) c h = absurd h
crash_heavy job before (Enter z) c h = refl
crash_heavy job before (Locate p) c h = refl
crash_heavy job before (Rapid a b tool) c h = refl
crash_heavy job before (Feed a b feed speed tool) c h = refl
crash_heavy job before End c h = absurd h

crash_one : (job : Job) (before : List Act) (act : Act) (c c' : Cell) → IsActCause job before act (Crash c) → IsActCause job before act (Crash c') → c ≡ c'
crash_one job before (Mark n) c c' h k = absurd (not_wrong c Crash (omega arith) h.0)
crash_one job before (PutTool n) c c' h k = absurd h
crash_one job before (Enter z) c c' h k = absurd (not_low c Crash (omega arith) h.0)
crash_one job before (Locate p) c c' h k = absurd (not_low c Crash (omega arith) h.0)
crash_one job before (Rapid a b tool) c c' h k = one_first_cell (IsMetInRapid job before a b tool) c c' h k
crash_one job before (Feed a b feed speed tool) c c' h k = absurd h
crash_one job before End c c' h k = absurd h

-- The causes of a line.

pub record LineFacts : Type 0 where
  pub one_block : HasOneBlock
  pub one_fault : HasOneFault
  pub not_both : HasNotBoth

of_one_line : (K : Cell → Cause) → HasCell K → HasOneBlock → (job : Job) (state : State) (before : List Act) (line : List ℕ) (c c' : Cell)
    → IsCauseOfActs job state before line (K c) → IsCauseOfActs job state before line (K c') → c ≡ c'
of_one_line K has one_block job state before line c c' h k =
    let same = one_block line k.block h.block k.says h.says in
    one_cell_among K has job before (acts_of state h.block) c c' h.among
    (subst (λ (b : Block). IsCauseAmong job before (act_list (acts_of state b)) (K c')) same k.among)

one_cause : LineFacts → (job : Job) (state : State) (before : List Act) (line : List ℕ) (some other : Cause) → rank some ≡ rank other
    → IsLineCause job state before line some → IsLineCause job state before line other → some ≡ other
one_cause facts job state before line (LineFault f) (LineFault g) e h k = ap LineFault (facts.one_fault line f g h k)
one_cause facts job state before line (MachFault m) (MachFault n) e (b, says, is) (b', says', is') =
    let same = facts.one_block line b b' says says' in
    let moved = subst (λ (b : Block). fault_of state b ≡ Some m) same is in
    cc
one_cause facts job state before line WrongMark WrongMark e h k = refl
one_cause facts job state before line LowEntry LowEntry e h k = refl
one_cause facts job state before line Early Early e h k = refl
one_cause facts job state before line OtherTool OtherTool e h k = refl
one_cause facts job state before line OtherFeed OtherFeed e h k = refl
one_cause facts job state before line OtherSpeed OtherSpeed e h k = refl
one_cause facts job state before line (Gouge c) (Gouge c') e h k =
    ap Gouge (of_one_line Gouge (record { heavy = gouge_heavy; one = gouge_one }) facts.one_block job state before line c c' h k)
one_cause facts job state before line (Deep c) (Deep c') e h k =
    ap Deep (of_one_line Deep (record { heavy = deep_heavy; one = deep_one }) facts.one_block job state before line c c' h k)
one_cause facts job state before line (Crash c) (Crash c') e h k =
    ap Crash (of_one_line Crash (record { heavy = crash_heavy; one = crash_one }) facts.one_block job state before line c c' h k)
one_cause facts job state before line some other e h k = absurd (omega arith)

pub lines_have_one_first_cause : LineFacts → LinesHaveOneFirstCause
lines_have_one_first_cause facts job state before line some other f g =
    let p = f.first other g.holds in
    let q = g.first some f.holds in
    one_cause facts job state before line some other (omega arith) f.holds g.holds

pub unread_lines_are_at_fault : UnreadLinesAreAtFault
unread_lines_are_at_fault job state before line f h = record { holds = h; first = λ other k. omega arith }

after_machine : LineFacts → (job : Job) (state : State) (before : List Act) (line : List ℕ) (block : Block) (other : Cause) → LineText line block
    → IsLineCause job state before line other → 1 ≤ rank other
after_machine facts job state before line block (LineFault f) says h = absurd (facts.not_both line block f says h)
after_machine facts job state before line block other says h = omega arith

pub refused_lines_are_at_fault : LineFacts → RefusedLinesAreAtFault
refused_lines_are_at_fault facts job state before line block m says is =
    record { holds = (block, says, is); first = λ other h. after_machine facts job state before line block other says h }
