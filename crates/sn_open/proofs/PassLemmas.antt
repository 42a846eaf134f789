-- Passes of acts, and the laws of what is left of the material.
use Rattle.std.proofs.Common.{ℕ, zero, suc, ◌≡◌, ⊎_elim, Bool, true, false, Option, None, Some, List, [], ◌∷◌, ◌++◌, ℤ, pos, ◌+ℤ◌, ◌-ℤ◌, refl, sym, ap, subst, ◌∙◌, arith, append_assoc}
use Rattle.std.specs.Prelude.{Contains, ◌==◌}
use Rattle.std.proofs.lemmas.List.Elements.{Contains-append_left, Contains-append_right, Contains-append_cases}
use Rattle.std.proofs.lemmas.Bool.{eqb-true, eq-eqb}
use Rattle.sn_geom.proofs.Ring.{sums}
use Rattle.sn_geom.specs.declared.units.Body.{Body}
use Rattle.sn_geom.specs.declared.units.Pt3.{Pt3}
use Rattle.sn_geom.specs.Sweep.{Touch}
use Rattle.sn_outline.specs.JobRule.{HaveOneBody}
use Rattle.sn_outline.specs.declared.job.StepJob.{StepJob}
use Rattle.sn_raster.specs.Heights.{low_end, Pass}
use Rattle.sn_geom.specs.Acts.{Act}
use Rattle.sn_geom.specs.Acts.Act.{Mark, PutTool, Enter, Locate, Rapid, Feed, End}
use Rattle.sn_open.specs.Good.{body_of, marks, pass_of, passes}
use Rattle.sn_open.specs.GoodLaws.{FeedCutsAboveItsPoint, OnlyFeedsCut, CutStaysCut, SameActsLeaveTheSame}

-- The body of a tool.

by_test : {R : Type 0} (b : Bool) → (b ≡ true → R) → (b ≡ false → R) → R
by_test true same other = same refl
by_test false same other = other refl

-- the first element, and a later one
here : {X : Type 0} (x : X) (xs : List X) → Contains (x ∷ xs) x
here x xs = (0, omega arith, refl)

there : {X : Type 0} (x y : X) (xs : List X) → Contains xs y → Contains (x ∷ xs) y
there x y xs (k, below, is) = (suc k, omega arith, is)

-- the body of a tool is that of a step with it
pub body_first : (steps : List StepJob) (tool : ℕ) (body : Body) → body_of steps tool ≡ Some body
    → (step : StepJob) × Contains steps step × (step.tool ≡ tool) × (step.body ≡ body)
body_first [] tool body e = absurd (cc)
body_first (s ∷ ss) tool body e =
    by_test (s.tool == tool)
    (λ same. let own = rw same at e in (s, here s ss, eqb-true s.tool tool same, (let is : s.body ≡ body = cc in is)))
    (λ other. let (t, inside, is, its) = body_first ss tool body (rw other at e) in (t, there s t ss inside, is, its))

-- a step's tool has a body
body_there : (steps : List StepJob) (step : StepJob) → Contains steps step → (body : Body) × (body_of steps step.tool ≡ Some body)
body_there [] step (k, below, is) = absurd (omega arith)
body_there (s ∷ ss) step (zero, below, is) = (s.body, rw (eq-eqb s.tool step.tool (ap (λ t. t.tool) is)) refl)
body_there (s ∷ ss) step (suc k, below, is) =
    by_test (s.tool == step.tool)
    (λ same. (s.body, rw same refl))
    (λ other. let (body, later) = body_there ss step (k, omega arith, is) in (body, rw other later))

-- where steps of one tool have one body it is that of the tool
pub one_body : (steps : List StepJob) (step : StepJob) → HaveOneBody steps → Contains steps step → body_of steps step.tool ≡ Some step.body
one_body steps step one inside =
    let (body, is) = body_there steps step inside in
    let (t, there_t, same, its) = body_first steps step.tool body is in
    is ∙ ap Some (sym its ∙ one t step there_t inside same)

-- Acts in a row.

pub marks_append : (some others : List Act) → marks (some ++ others) ≡ marks some ++ marks others
marks_append [] others = refl
marks_append (Mark n ∷ acts) others = ap (λ (ms : List ℕ). n ∷ ms) (marks_append acts others)
marks_append (PutTool k ∷ acts) others = marks_append acts others
marks_append (Enter z ∷ acts) others = marks_append acts others
marks_append (Locate p ∷ acts) others = marks_append acts others
marks_append (Rapid from to tool ∷ acts) others = marks_append acts others
marks_append (Feed from to feed speed tool ∷ acts) others = marks_append acts others
marks_append (End ∷ acts) others = marks_append acts others

pub passes_append : (steps : List StepJob) (some others : List Act) → passes steps (some ++ others) ≡ passes steps some ++ passes steps others
passes_append steps [] others = refl
passes_append steps (Mark n ∷ acts) others = passes_append steps acts others
passes_append steps (PutTool k ∷ acts) others = passes_append steps acts others
passes_append steps (Enter z ∷ acts) others = passes_append steps acts others
passes_append steps (Locate p ∷ acts) others = passes_append steps acts others
passes_append steps (Rapid from to tool ∷ acts) others = passes_append steps acts others
passes_append steps (Feed from to feed speed tool ∷ acts) others =
    ap (λ (ps : List Pass). pass_of (body_of steps tool) from to ++ ps) (passes_append steps acts others)
    ∙ sym (append_assoc (pass_of (body_of steps tool) from to) (passes steps acts) (passes steps others))
passes_append steps (End ∷ acts) others = passes_append steps acts others

-- The passes of acts.

later_pass : (steps : List StepJob) (act : Act) (acts : List Act) (pass : Pass) → Contains (passes steps acts) pass → Contains (passes steps (act ∷ acts)) pass
later_pass steps (Mark n) acts pass inside = inside
later_pass steps (PutTool k) acts pass inside = inside
later_pass steps (Enter z) acts pass inside = inside
later_pass steps (Locate p) acts pass inside = inside
later_pass steps (Rapid from to tool) acts pass inside = inside
later_pass steps (Feed from to feed speed tool) acts pass inside = Contains-append_right (pass_of (body_of steps tool) from to) (passes steps acts) pass inside
later_pass steps End acts pass inside = inside

-- a feed with a tool that has a body is a pass
pub fed_pass : (steps : List StepJob) (acts : List Act) (from to : Pt3) (feed speed tool : ℕ) (body : Body) → body_of steps tool ≡ Some body
    → Contains acts (Feed from to feed speed tool) → Contains (passes steps acts) (record { body = body; from = from; to = to })
fed_pass steps [] from to feed speed tool body is (k, below, e) = absurd (omega arith)
fed_pass steps (act ∷ acts) from to feed speed tool body is (zero, below, e) =
    let pass : Pass = record { body = body; from = from; to = to } in
    subst (λ (a : Act). Contains (passes steps (a ∷ acts)) pass) (sym e)
    (subst (λ (o : Option Body). Contains (pass_of o from to ++ passes steps acts) pass) (sym is) (here pass (passes steps acts)))
fed_pass steps (act ∷ acts) from to feed speed tool body is (suc k, below, e) =
    later_pass steps act acts (record { body = body; from = from; to = to })
    (fed_pass steps acts from to feed speed tool body is (k, omega arith, e))

-- a feed of the acts, with a step of its tool that has the body of the pass
pub record IsFed (steps : List StepJob) (acts : List Act) (pass : Pass) : Type 0 where
  pub feed : ℕ
  pub speed : ℕ
  pub step : StepJob
  pub fed : Contains acts (Feed pass.from pass.to feed speed step.tool)
  pub executed : Contains steps step
  pub body : step.body ≡ pass.body
  pub found : body_of steps step.tool ≡ Some pass.body

later_fed : (steps : List StepJob) (act : Act) (acts : List Act) (pass : Pass) → IsFed steps acts pass → IsFed steps (act ∷ acts) pass
later_fed steps act acts pass fed = record {
  feed = fed.feed;
  speed = fed.speed;
  step = fed.step;
  fed = there act (Feed pass.from pass.to fed.feed fed.speed fed.step.tool) acts fed.fed;
  executed = fed.executed;
  body = fed.body;
  found = fed.found;
}

first_fed : (steps : List StepJob) (from to : Pt3) (feed speed tool : ℕ) (acts : List Act) (pass : Pass) (o : Option Body) → body_of steps tool ≡ o
    → Contains (pass_of o from to) pass → IsFed steps (Feed from to feed speed tool ∷ acts) pass
first_fed steps from to feed speed tool acts pass None is (k, below, e) = absurd (omega arith)
first_fed steps from to feed speed tool acts pass (Some body) is (suc k, below, e) = absurd (omega arith)
first_fed steps from to feed speed tool acts pass (Some body) is (zero, below, e) =
    let (t, inside, same, its) = body_first steps tool body is in
    subst (λ (p : Pass). IsFed steps (Feed from to feed speed tool ∷ acts) p) e
    (record {
      feed = feed;
      speed = speed;
      step = t;
      fed = subst (λ (k : ℕ). Contains (Feed from to feed speed tool ∷ acts) (Feed from to feed speed k)) (sym same) (here (Feed from to feed speed tool) acts);
      executed = inside;
      body = its;
      found = subst (λ (k : ℕ). body_of steps k ≡ Some body) (sym same) is;
    })

-- each pass is that of a feed
pub pass_fed : (steps : List StepJob) (acts : List Act) (pass : Pass) → Contains (passes steps acts) pass → IsFed steps acts pass
pass_fed steps [] pass (k, below, e) = absurd (omega arith)
pass_fed steps (Mark n ∷ acts) pass inside = later_fed steps (Mark n) acts pass (pass_fed steps acts pass inside)
pass_fed steps (PutTool k ∷ acts) pass inside = later_fed steps (PutTool k) acts pass (pass_fed steps acts pass inside)
pass_fed steps (Enter z ∷ acts) pass inside = later_fed steps (Enter z) acts pass (pass_fed steps acts pass inside)
pass_fed steps (Locate p ∷ acts) pass inside = later_fed steps (Locate p) acts pass (pass_fed steps acts pass inside)
pass_fed steps (Rapid from to tool ∷ acts) pass inside = later_fed steps (Rapid from to tool) acts pass (pass_fed steps acts pass inside)
pass_fed steps (Feed from to feed speed tool ∷ acts) pass inside =
    ⊎_elim (first_fed steps from to feed speed tool acts pass (body_of steps tool) refl)
    (λ later. later_fed steps (Feed from to feed speed tool) acts pass (pass_fed steps acts pass later))
    (Contains-append_cases (pass_of (body_of steps tool) from to) (passes steps acts) pass inside)
pass_fed steps (End ∷ acts) pass inside = later_fed steps End acts pass (pass_fed steps acts pass inside)

-- the passes of earlier acts are passes of all
earlier_pass : (steps : List StepJob) (before after : List Act) (pass : Pass) → Contains (passes steps before) pass → Contains (passes steps (before ++ after)) pass
earlier_pass steps [] after pass (k, below, e) = absurd (omega arith)
earlier_pass steps (Mark n ∷ acts) after pass inside = earlier_pass steps acts after pass inside
earlier_pass steps (PutTool k ∷ acts) after pass inside = earlier_pass steps acts after pass inside
earlier_pass steps (Enter z ∷ acts) after pass inside = earlier_pass steps acts after pass inside
earlier_pass steps (Locate p ∷ acts) after pass inside = earlier_pass steps acts after pass inside
earlier_pass steps (Rapid from to tool ∷ acts) after pass inside = earlier_pass steps acts after pass inside
earlier_pass steps (Feed from to feed speed tool ∷ acts) after pass inside =
    let own = pass_of (body_of steps tool) from to in
    ⊎_elim (λ first. Contains-append_left own (passes steps (acts ++ after)) pass first)
    (λ later. Contains-append_right own (passes steps (acts ++ after)) pass (earlier_pass steps acts after pass later))
    (Contains-append_cases own (passes steps acts) pass inside)
earlier_pass steps (End ∷ acts) after pass inside = earlier_pass steps acts after pass inside

-- The laws.

up_and_down : (z : ℤ) (e : ℕ) → (z +ℤ pos e) -ℤ pos e ≡ z
up_and_down z e = omega (arith, sums)

down_and_up : (z : ℤ) (e : ℕ) → (z -ℤ pos e) +ℤ pos e ≡ z
down_and_up z e = omega (arith, sums)

pub feed_cuts_above_its_point : FeedCutsAboveItsPoint
feed_cuts_above_its_point job acts from to feed speed step c one executed fed touch left =
    left.uncut
    (record { body = step.body; from = from; to = to })
    (fed_pass job.steps acts from to feed speed step.tool step.body (one_body job.steps step one executed) fed)
    (subst (λ z. Touch step.body.d from to (record (low_end job.pitch c) { z = z })) (sym (up_and_down c.z step.body.e)) touch)

pub only_feeds_cut : OnlyFeedsCut
only_feeds_cut job acts c raw none = record {
  raw = raw;
  uncut = λ pass inside cut.
      let fed = pass_fed job.steps acts pass inside in
      none pass.from pass.to fed.feed fed.speed fed.step (record c { z = c.z -ℤ pos fed.step.body.e }) fed.executed fed.fed
      (subst (λ (body : Body). Touch body.d pass.from pass.to (record (low_end job.pitch c) { z = c.z -ℤ pos body.e })) (sym fed.body) cut)
      (ap (λ z. record c { z = z }) (down_and_up c.z fed.step.body.e));
}

pub cut_stays_cut : CutStaysCut
cut_stays_cut job before after c left = record {
  raw = left.raw;
  uncut = λ pass inside. left.uncut pass (earlier_pass job.steps before after pass inside);
}

kept_pass : (steps : List StepJob) (some others : List Act) → ((act : Act) → Contains some act → Contains others act)
    → (pass : Pass) → Contains (passes steps some) pass → Contains (passes steps others) pass
kept_pass steps some others all pass inside =
    let fed = pass_fed steps some pass inside in
    fed_pass steps others pass.from pass.to fed.feed fed.speed fed.step.tool pass.body fed.found
    (all (Feed pass.from pass.to fed.feed fed.speed fed.step.tool) fed.fed)

pub same_acts_leave_the_same : SameActsLeaveTheSame
same_acts_leave_the_same job some others c same = (
  λ left. record { raw = left.raw; uncut = λ pass inside. left.uncut pass (kept_pass job.steps others some (λ act. (same act).1) pass inside) },
  λ left. record { raw = left.raw; uncut = λ pass inside. left.uncut pass (kept_pass job.steps some others (λ act. (same act).0) pass inside) },
)
