-- The lines of a program, and the first one at fault.
use Rattle.std.proofs.Common.{ℕ, ◌+◌, ◌≡◌, ◌⊎◌, inl, inr, ⊎_elim, None, Some, List, [], ◌∷◌, ◌++◌, length, refl, sym, ap, subst, ◌∙◌, arith, append_assoc, append-nil, length-append}
use Rattle.sn_geom.specs.Acts.{Act, act_list, RunsTo}
use Rattle.sn_geom.specs.Block.{Block}
use Rattle.sn_geom.specs.LineText.{LineText}
use Rattle.sn_geom.specs.LineTextLaws.{HasOneBlock}
use Rattle.sn_geom.specs.Machine.{State, start, fault_of, acts_of, state_after, state_after_all}
use Rattle.sn_geom.specs.Meaning.{AreBlocks}
use Rattle.sn_outline.specs.Job.{Job}
use Rattle.sn_open.specs.Verdict.{IsCauseAmong, AreRight, IsLineCause, IsFirstCause, IsFirstAtFault, MeansRight}
use Rattle.sn_open.specs.VerdictLaws.{LinesAreCounted, FirstLinesAreAtFault}
use Rattle.sn_open.specs.declared.verdict.Cause.{Cause}
use Rattle.sn_open.specs.declared.verdict.Cause.TheVariants.{LineFault, MachFault}
use Rattle.sn_open.proofs.CauseLemmas.{LineFacts, lines_have_one_first_cause, unread_lines_are_at_fault, refused_lines_are_at_fault}

lines_heads : (a b : List ℕ) (xs ys : List (List ℕ)) → a ∷ xs ≡ b ∷ ys → (a ≡ b) × (xs ≡ ys)
lines_heads a b xs ys e = (ap (λ l. head l) e, ap (λ l. tail l) e)
  where
    head : List (List ℕ) → List ℕ
    head [] = a
    head (x ∷ l) = x

    tail : List (List ℕ) → List (List ℕ)
    tail [] = []
    tail (x ∷ l) = l

-- two lines of one program: the same, or one of them stands before the other
record IsSameLine (front front' : List (List ℕ)) (line line' : List ℕ) : Type 0 where
  pub fronts : front ≡ front'
  pub lines : line ≡ line'

abbrev IsBeforeLine : List (List ℕ) → List (List ℕ) → List ℕ → Type 0
IsBeforeLine front front' line = (middle : List (List ℕ)) × (front' ≡ front ++ line ∷ middle)

placed : (front front' back back' : List (List ℕ)) (line line' : List ℕ) → front ++ line ∷ back ≡ front' ++ line' ∷ back'
    → IsSameLine front front' line line' ⊎ (IsBeforeLine front front' line ⊎ IsBeforeLine front' front line')
placed [] [] back back' line line' e = inl (record { fronts = refl; lines = (lines_heads line line' back back' e).0 })
placed [] (l ∷ front') back back' line line' e =
    inr (inl (front', λ i. sym ((lines_heads line l back (front' ++ line' ∷ back') e).0) i ∷ front'))
placed (l ∷ front) [] back back' line line' e =
    inr (inr (front, λ i. (lines_heads l line' (front ++ line ∷ back) back' e).0 i ∷ front))
placed (l ∷ front) (k ∷ front') back back' line line' e =
    let (first, rest) = lines_heads l k (front ++ line ∷ back) (front' ++ line' ∷ back') e in
    ⊎_elim {C = IsSameLine (l ∷ front) (k ∷ front') line line' ⊎ (IsBeforeLine (l ∷ front) (k ∷ front') line ⊎ IsBeforeLine (k ∷ front') (l ∷ front) line')}
    (λ same. inl (record { fronts = λ i. first i ∷ same.fronts i; lines = same.lines }))
    (λ apart. inr (⊎_elim {C = IsBeforeLine (l ∷ front) (k ∷ front') line ⊎ IsBeforeLine (k ∷ front') (l ∷ front) line'}
    (λ (middle, is). inl (middle, λ i. sym first i ∷ is i))
    (λ (middle, is). inr (middle, λ i. first i ∷ is i)) apart))
    (placed front front' back back' line line' rest)

pub same_blocks : HasOneBlock → (lines : List (List ℕ)) (some others : List Block) → AreBlocks lines some → AreBlocks lines others → some ≡ others
same_blocks one [] [] [] p q = refl
same_blocks one [] [] (c ∷ cs) p q = absurd q
same_blocks one [] (b ∷ bs) others p q = absurd p
same_blocks one (line ∷ lines) [] others p q = absurd p
same_blocks one (line ∷ lines) (b ∷ bs) [] p q = absurd q
same_blocks one (line ∷ lines) (b ∷ bs) (c ∷ cs) p q = λ i. one line b c p.0 q.0 i ∷ same_blocks one lines bs cs p.1 q.1 i

pub same_acts : (state : State) (blocks : List Block) (some others : List Act) → RunsTo state blocks some → RunsTo state blocks others → some ≡ others
same_acts state [] some others p q = p ∙ sym q
same_acts state (b ∷ bs) some others (clean, (later, is, runs)) (clean', (later', is', runs')) =
    is ∙ ap (λ acts. act_list (acts_of state b) ++ acts) (same_acts (state_after state b) bs later later' runs runs') ∙ sym is'

-- the machine comes to the line and accepts it, and goes on
record IsPassed (state : State) (front : List (List ℕ)) (line : List ℕ) (acts : List Act) : Type 0 where
  pub blocks : List Block
  pub before : List Act
  pub block : Block
  pub behind : List Act
  pub says : AreBlocks front blocks
  pub runs : RunsTo state blocks before
  pub text : LineText line block
  pub accepted : fault_of (state_after_all state blocks) block ≡ None
  pub all : acts ≡ before ++ (act_list (acts_of (state_after_all state blocks) block) ++ behind)

pass : (state : State) (front back : List (List ℕ)) (line : List ℕ) (blocks : List Block) (acts : List Act) → AreBlocks (front ++ line ∷ back) blocks
    → RunsTo state blocks acts → IsPassed state front line acts
pass state [] back line [] acts says runs = absurd says
pass state [] back line (b ∷ bs) acts says (clean, (later, is, ran)) =
    record { blocks = []; before = []; block = b; behind = later; says = tt; runs = refl; text = says.0; accepted = clean; all = is }
pass state (l ∷ front) back line [] acts says runs = absurd says
pass state (l ∷ front) back line (b ∷ bs) acts says (clean, (later, is, ran)) =
    let rest = pass (state_after state b) front back line bs later says.1 ran in
    let own = act_list (acts_of state b) in
    record {
      blocks = b ∷ rest.blocks;
      before = own ++ rest.before;
      block = rest.block;
      behind = rest.behind;
      says = (says.0, rest.says);
      runs = (clean, (rest.before, refl, rest.runs));
      text = rest.text;
      accepted = rest.accepted;
      all = is ∙ ap (λ more. own ++ more) rest.all ∙ sym (append_assoc own rest.before (act_list (acts_of (state_after_all state (b ∷ rest.blocks)) rest.block) ++ rest.behind));
    }

in_all : (before own behind front back : List Act) (act : Act) → own ≡ front ++ act ∷ back
    → before ++ (own ++ behind) ≡ (before ++ front) ++ act ∷ (back ++ behind)
in_all before own behind front back act e =
    ap (λ l. before ++ (l ++ behind)) e ∙ ap (λ l. before ++ l) (append_assoc front (act ∷ back) behind) ∙ sym (append_assoc before front (act ∷ (back ++ behind)))

pub cause_in_all : (job : Job) (acts before own behind : List Act) (cause : Cause) → acts ≡ before ++ (own ++ behind) → AreRight job acts → ¬ IsCauseAmong job before own cause
cause_in_all job acts before own behind cause is right h =
    right cause (record { front = before ++ h.front; act = h.act; back = h.back ++ behind; all = is ∙ in_all before own behind h.front h.back h.act h.all; causes = h.causes })

-- a line that is passed has no cause, where none of all acts has one
abbrev NoLineCause : Job → List (List ℕ) → List ℕ → Type 0
NoLineCause job front line =
    (blocks : List Block) (before : List Act) (cause : Cause) → AreBlocks front blocks → RunsTo start blocks before
    → ¬ IsLineCause job (state_after_all start blocks) before line cause

no_cause_at : LineFacts → (job : Job) (state : State) (acts before behind : List Act) (line : List ℕ) (block : Block) (cause : Cause) → LineText line block
    → fault_of state block ≡ None → acts ≡ before ++ (act_list (acts_of state block) ++ behind) → AreRight job acts → ¬ IsLineCause job state before line cause
no_cause_at facts job state acts before behind line block (LineFault f) text accepted is right h = facts.not_both line block f text h
no_cause_at facts job state acts before behind line block (MachFault m) text accepted is right (b, says, faulty) =
    let same = facts.one_block line b block says text in
    let moved = subst (λ (b : Block). fault_of state b ≡ Some m) same faulty in
    cc
no_cause_at facts job state acts before behind line block cause text accepted is right h =
    let same = facts.one_block line h.block block h.says text in
    cause_in_all job acts before (act_list (acts_of state block)) behind cause is right
    (subst (λ (b : Block). IsCauseAmong job before (act_list (acts_of state b)) cause) same h.among)

no_cause : LineFacts → (job : Job) (front : List (List ℕ)) (line : List ℕ) (acts : List Act) → IsPassed start front line acts → AreRight job acts → NoLineCause job front line
no_cause facts job front line acts p right blocks before cause says runs h =
    let same = same_blocks facts.one_block front blocks p.blocks says p.says in
    let ran = subst (λ (bs : List Block). RunsTo start bs before) same runs in
    let acts_same = same_acts start p.blocks before p.before ran p.runs in
    let at : IsLineCause job (state_after_all start p.blocks) before line cause = subst (λ (bs : List Block). IsLineCause job (state_after_all start bs) before line cause) same h in
    let after : IsLineCause job (state_after_all start p.blocks) p.before line cause =
    subst (λ (l : List Act). IsLineCause job (state_after_all start p.blocks) l line cause) acts_same at in
    no_cause_at facts job (state_after_all start p.blocks) acts p.before p.behind line p.block cause p.text p.accepted p.all right after

-- a line at fault has a cause
has_cause : (job : Job) (program : List ℕ) (n : ℕ) (cause : Cause) (f : IsFirstAtFault job program n cause)
    → IsLineCause job (state_after_all start f.comes.blocks) f.before f.line cause
has_cause job program n cause f = subst (λ (s : State). IsLineCause job s f.before f.line cause) f.comes.reaches f.first.holds

pub not_at_fault : LineFacts → (job : Job) (program : List ℕ) (acts : List Act) (n : ℕ) (cause : Cause) → MeansRight job program acts → ¬ IsFirstAtFault job program n cause
not_at_fault facts job program acts n cause m f =
    let says = subst (λ (lines : List (List ℕ)). AreBlocks lines m.means.blocks) f.comes.lines m.means.says in
    let passed = pass start f.comes.front f.comes.back f.line m.means.blocks acts says m.means.runs in
    no_cause facts job f.comes.front f.line acts passed m.right f.comes.blocks f.before cause f.comes.says f.comes.runs (has_cause job program n cause f)

not_before : LineFacts → (job : Job) (program : List ℕ) (n n' : ℕ) (cause cause' : Cause) (f : IsFirstAtFault job program n cause) (g : IsFirstAtFault job program n' cause')
    → ¬ IsBeforeLine f.comes.front g.comes.front f.line
not_before facts job program n n' cause cause' f g (middle, is) =
    let says = subst (λ (lines : List (List ℕ)). AreBlocks lines g.comes.blocks) is g.comes.says in
    let passed = pass start f.comes.front middle f.line g.comes.blocks g.before says g.comes.runs in
    no_cause facts job f.comes.front f.line g.before passed g.comes.right f.comes.blocks f.before cause f.comes.says f.comes.runs (has_cause job program n cause f)

-- the first causes at one line are one
at_one_line : LineFacts → (job : Job) (program : List ℕ) (n n' : ℕ) (cause cause' : Cause) (f : IsFirstAtFault job program n cause) (g : IsFirstAtFault job program n' cause')
    → IsSameLine f.comes.front g.comes.front f.line g.line → (n ≡ n') × (cause ≡ cause')
at_one_line facts job program n n' cause cause' f g same =
    let says = subst (λ (lines : List (List ℕ)). AreBlocks lines g.comes.blocks) (sym same.fronts) g.comes.says in
    let blocks = same_blocks facts.one_block f.comes.front f.comes.blocks g.comes.blocks f.comes.says says in
    let runs = subst (λ (bs : List Block). RunsTo start bs g.before) (sym blocks) g.comes.runs in
    let before = same_acts start f.comes.blocks f.before g.before f.comes.runs runs in
    let states = f.comes.reaches ∙ ap (λ bs. state_after_all start bs) blocks ∙ sym g.comes.reaches in
    let First : State → List Act → List ℕ → Type 0 = λ s acts line. IsFirstCause (IsLineCause job s acts line) cause' in
    let a : First f.state g.before g.line = subst (λ (s : State). First s g.before g.line) (sym states) g.first in
    let b : First f.state f.before g.line = subst (λ (l : List Act). First f.state l g.line) (sym before) a in
    let c : First f.state f.before f.line = subst (λ (l : List ℕ). First f.state f.before l) (sym same.lines) b in (
      f.comes.counted ∙ ap (λ l. length l + 1) same.fronts ∙ sym g.comes.counted,
      lines_have_one_first_cause facts job f.state f.before f.line cause cause' f.first c,
    )

pub one_at_fault : LineFacts → (job : Job) (program : List ℕ) (n n' : ℕ) (cause cause' : Cause) → IsFirstAtFault job program n cause → IsFirstAtFault job program n' cause'
    → (n ≡ n') × (cause ≡ cause')
one_at_fault facts job program n n' cause cause' f g =
    ⊎_elim {C = (n ≡ n') × (cause ≡ cause')}
    (at_one_line facts job program n n' cause cause' f g)
    (λ apart. absurd (⊎_elim {C = ⊥} (not_before facts job program n n' cause cause' f g) (not_before facts job program n' n cause' cause g f) apart))
    (placed f.comes.front g.comes.front f.comes.back g.comes.back f.line g.line (sym f.comes.lines ∙ g.comes.lines))

pub lines_are_counted : LinesAreCounted
lines_are_counted job program n cause f =
    let h = length-append f.comes.front (f.line ∷ f.comes.back) in
    let g = ap length f.comes.lines in
    let k = f.comes.counted in
    (omega arith, omega arith)

-- First lines.

nothing_among : (job : Job) (before : List Act) (cause : Cause) → ¬ IsCauseAmong job before [] cause
nothing_among job before cause h =
    let e = ap length h.all in
    omega (arith, length-append h.front (h.act ∷ h.back))

pub first_lines_are_at_fault : LineFacts → FirstLinesAreAtFault
first_lines_are_at_fault facts job program line next back = (
  λ f lines faulty. record {
    line = line;
    state = start;
    before = [];
    comes = record {
      front = [];
      back = back;
      lines = lines;
      counted = omega arith;
      blocks = [];
      says = tt;
      runs = refl;
      reaches = refl;
      right = nothing_among job [];
    };
    first = unread_lines_are_at_fault job start [] line f faulty;
  },
  λ block other m lines says accepted nothing says' faulty. record {
    line = next;
    state = state_after start block;
    before = [];
    comes = record {
      front = line ∷ [];
      back = back;
      lines = lines;
      counted = omega arith;
      blocks = block ∷ [];
      says = (says, tt);
      runs = (accepted, ([], sym nothing ∙ sym (append-nil (act_list (acts_of start block))), refl));
      reaches = refl;
      right = nothing_among job [];
    };
    first = refused_lines_are_at_fault facts job (state_after start block) [] next other m says' faulty;
  },
)
