-- The parts of executed steps, one after the other.
use Rattle.std.proofs.Common.{◌≡◌, refl, sym, ◌∙◌, ap, subst, ℕ, ℤ, zero, suc, ◌+◌, ◌<◌, ◌≤◌, List, [], ◌∷◌, ◌++◌, length, get_or, take, drop, ◌≢◌, ◌⊎◌, inl, inr, arith}
use Rattle.std.specs.Prelude.{Result, Ok, Err}
use Rattle.std.specs.List.{Contains}
use Rattle.std.proofs.lemmas.Grind.{take_at_read}
use Rattle.std.proofs.lemmas.List.Elements.{Contains-push_cases}
use Rattle.sn_model.specs.ModelContent.{ModelContent}
use Rattle.sn_frame.specs.declared.frame.FrameFault.{FrameFault}
use Rattle.sn_frame.specs.Frame.{Transform}
use Rattle.sn_feature.specs.declared.fault.StepFault.{StepFault}
use Rattle.sn_feature.specs.declared.entities.Feature.{Feature}
use Rattle.sn_feature.specs.declared.entities.Task.{Task}
use Rattle.sn_feature.specs.declared.entities.Tool.{Tool}
use Rattle.sn_feature.specs.declared.parts.PlacedFeature.{PlacedFeature}
use Rattle.sn_feature.specs.declared.parts.StepParts.{StepParts}
use Rattle.sn_feature.specs.Entities.{task_of, feature_of, tool_of}
use Rattle.sn_feature.specs.Tooling.{bottom_of, corner_of, body_of}
use Rattle.sn_feature.specs.Refusal.{◌>>=◌, as_step_fault}
use Rattle.sn_feature.specs.Step.{placed_feature, parts_of, judged, step_by, step_of}
use Rattle.sn_outline.specs.declared.limits.TheConstants.{MOST_STEPS}
use Rattle.sn_feature.specs.declared.fault.StepFault.TheVariants as step
use Rattle.sn_flow.specs.declared.fault.JobFault.{JobFault}
use Rattle.sn_flow.specs.declared.fault.JobFault.TheVariants as fault
use Rattle.sn_flow.specs.Faults.{of_step, ◌failing_as◌}
use Rattle.sn_flow.specs.JobOf.{all_parts}
use Rattle.sn_feature.specs.StepLaws.{IsSamePlace}
use Rattle.sn_flow.specs.PartsRule.{KeepPartsRule, AreSteps}

-- What an Ok step is.

ok_is : {A E : Type 0} {x y : A} → (let r : Result A E = Ok x in r ≡ Ok y) → x ≡ y
ok_is e = cc

err_is : {A E : Type 0} {e f : E} → (let r : Result A E = Err e in r ≡ Err f) → e ≡ f
err_is h = cc

split_at : (xs : List ℕ) (i : ℕ) → i < length xs → take i xs ++ get_or xs i 0 ∷ drop (suc i) xs ≡ xs
split_at [] i within = absurd (omega arith)
split_at (x ∷ xs) zero within = refl
split_at (x ∷ xs) (suc i) within = ap (λ ys. x ∷ ys) (split_at xs i (omega arith))

err_is_not_ok : {A E : Type 0} {x : A} {e : E} → Err e ≡ Ok x → ⊥
err_is_not_ok e = cc

-- the parts are those of the task, whose feature stands at its place
pub record IsStepOf (m : ModelContent) (frame : Transform) (t : Task) (p : StepParts) : Type 0 where
  pub placed : PlacedFeature
  pub stands : placed_feature m frame t.feature ≡ Ok placed
  pub parts : p ≡ parts_of m t placed

judged_step : (m : ModelContent) (frame : Transform) (t : Task) (p : StepParts) (placed : PlacedFeature) (r : Result (Unit {0}) StepFault) → placed_feature m frame t.feature ≡ Ok placed
    → (r >>= λ _. Ok (parts_of m t placed)) ≡ Ok p → IsStepOf m frame t p
judged_step m frame t p placed (Ok u) stands e = record { placed = placed; stands = stands; parts = sym (ok_is e) }
judged_step m frame t p placed (Err why) stands e = absurd (err_is_not_ok e)

placed_step : (m : ModelContent) (frame : Transform) (raw_top : ℤ) (t : Task) (p : StepParts) (r : Result PlacedFeature FrameFault) → placed_feature m frame t.feature ≡ r
    → (as_step_fault r >>= λ placed. judged m t raw_top (parts_of m t placed) >>= λ _. Ok (parts_of m t placed)) ≡ Ok p → IsStepOf m frame t p
placed_step m frame raw_top t p (Ok placed) stands e = judged_step m frame t p placed (judged m t raw_top (parts_of m t placed)) stands e
placed_step m frame raw_top t p (Err why) stands e = absurd (err_is_not_ok e)

pub step_is : (m : ModelContent) (frame : Transform) (raw_top : ℤ) (ws : ℕ) (p : StepParts) → step_of m frame raw_top ws ≡ Ok p → IsStepOf m frame (task_of m ws) p
unfolding step_of step_by
step_is m frame raw_top ws p e = placed_step m frame raw_top (task_of m ws) p (placed_feature m frame (task_of m ws).feature) refl e

-- One tool has one body, and one feature one place.

feature_from : (m : ModelContent) (a b : ℕ) → (task_of m a).names.feature ≡ (task_of m b).names.feature → (task_of m a).feature ≡ (task_of m b).feature
unfolding task_of
feature_from m a b e = ap (feature_of m) e

tool_from : (m : ModelContent) (a b : ℕ) → (task_of m a).operation.tool ≡ (task_of m b).operation.tool → (task_of m a).tool ≡ (task_of m b).tool
unfolding task_of
tool_from m a b e = ap (tool_of m) e

pub ws_of_step : (m : ModelContent) (frame : Transform) (ws : ℕ) (p : StepParts) → IsStepOf m frame (task_of m ws) p → p.ws ≡ ws
unfolding parts_of task_of
ws_of_step m frame ws p s = ap (λ (q : StepParts). q.ws) s.parts

feature_of_step : (m : ModelContent) (frame : Transform) (t : Task) (p : StepParts) → IsStepOf m frame t p → p.feature ≡ t.names.feature
unfolding parts_of
feature_of_step m frame t p s = ap (λ (q : StepParts). q.feature) s.parts

tool_of_step : (m : ModelContent) (frame : Transform) (t : Task) (p : StepParts) → IsStepOf m frame t p → p.tool ≡ t.operation.tool
unfolding parts_of
tool_of_step m frame t p s = ap (λ (q : StepParts). q.tool) s.parts

same_body : (m : ModelContent) (frame : Transform) (t u : Task) (p q : StepParts) → IsStepOf m frame t p → IsStepOf m frame u q → t.tool ≡ u.tool → p.body ≡ q.body
unfolding parts_of
same_body m frame t u p q s r e = ap (λ (q : StepParts). q.body) s.parts ∙ ap (λ (k : Tool). body_of k) e ∙ sym (ap (λ (q : StepParts). q.body) r.parts)

same_place : (m : ModelContent) (frame : Transform) (t u : Task) (p q : StepParts) → IsStepOf m frame t p → IsStepOf m frame u q → t.feature ≡ u.feature → IsSamePlace p q
unfolding parts_of
same_place m frame t u p q s r e =
    let placed = ok_is (sym s.stands ∙ ap (placed_feature m frame) e ∙ r.stands) in
    record {
      outline = ap (λ (q : StepParts). q.outline) s.parts ∙ ap (λ (w : PlacedFeature). w.outline) placed ∙ sym (ap (λ (q : StepParts). q.outline) r.parts);
      top = ap (λ (q : StepParts). q.top) s.parts ∙ ap (λ (w : PlacedFeature). w.top) placed ∙ sym (ap (λ (q : StepParts). q.top) r.parts);
      floor = ap (λ (q : StepParts). q.floor) s.parts ∙ ap (λ (w : PlacedFeature). w.floor) placed ∙ sym (ap (λ (q : StepParts). q.floor) r.parts);
      bottom = ap (λ (q : StepParts). q.bottom) s.parts ∙ ap (λ (f : Feature). bottom_of m f.form) e ∙ sym (ap (λ (q : StepParts). q.bottom) r.parts);
      corner = ap (λ (q : StepParts). q.corner) s.parts ∙ ap (λ (f : Feature). corner_of m f.form) e ∙ sym (ap (λ (q : StepParts). q.corner) r.parts);
    }

pub one_body : (m : ModelContent) (frame : Transform) (raw_top : ℤ) (a b : ℕ) (p q : StepParts) → step_of m frame raw_top a ≡ Ok p → step_of m frame raw_top b ≡ Ok q → p.tool ≡ q.tool → p.body ≡ q.body
one_body m frame raw_top a b p q e f same =
    let s = step_is m frame raw_top a p e in
    let r = step_is m frame raw_top b q f in
    same_body m frame (task_of m a) (task_of m b) p q s r (tool_from m a b (sym (tool_of_step m frame (task_of m a) p s) ∙ same ∙ tool_of_step m frame (task_of m b) q r))

pub one_place : (m : ModelContent) (frame : Transform) (raw_top : ℤ) (a b : ℕ) (p q : StepParts) → step_of m frame raw_top a ≡ Ok p → step_of m frame raw_top b ≡ Ok q → p.feature ≡ q.feature → IsSamePlace p q
one_place m frame raw_top a b p q e f same =
    let s = step_is m frame raw_top a p e in
    let r = step_is m frame raw_top b q f in
    same_place m frame (task_of m a) (task_of m b) p q s r (feature_from m a b (sym (feature_of_step m frame (task_of m a) p s) ∙ same ∙ feature_of_step m frame (task_of m b) q r))

-- Lists of steps.

pub record AreFirst (r : Result StepParts StepFault) (s : Result (List StepParts) JobFault) (parts : List StepParts) : Type 0 where
  pub part : StepParts
  pub rest : List StepParts
  pub first : r ≡ Ok part
  pub others : s ≡ Ok rest
  pub all : parts ≡ part ∷ rest

pub joined : Result StepParts StepFault → Result (List StepParts) JobFault → Result (List StepParts) JobFault
joined r s = (r failing_as of_step) >>= λ part. s >>= λ parts. Ok (part ∷ parts)

taken_apart : (r : Result StepParts StepFault) (s : Result (List StepParts) JobFault) (parts : List StepParts) → joined r s ≡ Ok parts → AreFirst r s parts
unfolding joined
taken_apart (Ok part) (Ok rest) parts e = record { part = part; rest = rest; first = refl; others = refl; all = sym (ok_is e) }
taken_apart (Ok part) (Err why) parts e = absurd (err_is_not_ok e)
taken_apart (Err why) s parts e = absurd (err_is_not_ok e)

module _ (m : ModelContent) (frame : Transform) (raw_top : ℤ) where
  all_cons : (ws : ℕ) (steps : List ℕ) → all_parts m frame raw_top (ws ∷ steps) ≡ joined (step_of m frame raw_top ws) (all_parts m frame raw_top steps)
  unfolding joined
  all_cons ws steps = refl

  pub first_of_all : (ws : ℕ) (steps : List ℕ) (parts : List StepParts) → all_parts m frame raw_top (ws ∷ steps) ≡ Ok parts → AreFirst (step_of m frame raw_top ws) (all_parts m frame raw_top steps) parts
  first_of_all ws steps parts e = taken_apart (step_of m frame raw_top ws) (all_parts m frame raw_top steps) parts (sym (all_cons ws steps) ∙ e)

  pub with_first : (ws : ℕ) (steps : List ℕ) (part : StepParts) (rest : List StepParts) → step_of m frame raw_top ws ≡ Ok part → all_parts m frame raw_top steps ≡ Ok rest → all_parts m frame raw_top (ws ∷ steps) ≡ Ok (part ∷ rest)
  unfolding joined
  with_first ws steps part rest e f = all_cons ws steps ∙ ap (λ (r : Result StepParts StepFault). joined r (all_parts m frame raw_top steps)) e ∙ ap (joined (Ok part)) f

  pub first_fails : (ws : ℕ) (steps : List ℕ) (why : StepFault) → step_of m frame raw_top ws ≡ Err why → all_parts m frame raw_top (ws ∷ steps) ≡ Err (of_step why)
  unfolding joined
  first_fails ws steps why e = all_cons ws steps ∙ ap (λ (r : Result StepParts StepFault). joined r (all_parts m frame raw_top steps)) e

  others_fail : (ws : ℕ) (steps : List ℕ) (part : StepParts) (why : JobFault) → step_of m frame raw_top ws ≡ Ok part → all_parts m frame raw_top steps ≡ Err why → all_parts m frame raw_top (ws ∷ steps) ≡ Err why
  unfolding joined
  others_fail ws steps part why e f = all_cons ws steps ∙ ap (λ (r : Result StepParts StepFault). joined r (all_parts m frame raw_top steps)) e ∙ ap (joined (Ok part)) f

  pub push_part : (steps : List ℕ) (parts : List StepParts) (ws : ℕ) (part : StepParts) → all_parts m frame raw_top steps ≡ Ok parts → step_of m frame raw_top ws ≡ Ok part → all_parts m frame raw_top (steps ++ ws ∷ []) ≡ Ok (parts ++ part ∷ [])
  push_part [] parts ws part e f = with_first ws [] part [] f refl ∙ ap (λ (ps : List StepParts). Ok (ps ++ part ∷ [])) (ok_is e)
  push_part (x ∷ steps) parts ws part e f =
      let a = first_of_all x steps parts e in
      with_first x (steps ++ ws ∷ []) a.part (a.rest ++ part ∷ []) a.first (push_part steps a.rest ws part a.others f) ∙ ap (λ (ps : List StepParts). Ok (ps ++ part ∷ [])) (sym a.all)

  pub fail_behind : (before : List ℕ) (parts : List StepParts) (ws : ℕ) (after : List ℕ) (why : StepFault) → all_parts m frame raw_top before ≡ Ok parts → step_of m frame raw_top ws ≡ Err why → all_parts m frame raw_top (before ++ ws ∷ after) ≡ Err (of_step why)
  fail_behind [] parts ws after why e f = first_fails ws after why f
  fail_behind (x ∷ before) parts ws after why e f =
      let a = first_of_all x before parts e in
      others_fail x (before ++ ws ∷ after) a.part (of_step why) a.first (fail_behind before a.rest ws after why a.others f)

  among : (x : ℕ) (steps : List ℕ) (part : StepParts) (rest : List StepParts) (p : StepParts) → step_of m frame raw_top x ≡ Ok part → (Contains rest p → (ws : ℕ) × (step_of m frame raw_top ws ≡ Ok p)) → Contains (part ∷ rest) p → (ws : ℕ) × (step_of m frame raw_top ws ≡ Ok p)
  among x steps part rest p e later (zero, within, is) = (x, e ∙ ap (λ (q : StepParts). Ok q) is)
  among x steps part rest p e later (suc k, within, is) = later (k, omega arith, is)

  pub step_of_part : (steps : List ℕ) (parts : List StepParts) → all_parts m frame raw_top steps ≡ Ok parts → (p : StepParts) → Contains parts p → (ws : ℕ) × (step_of m frame raw_top ws ≡ Ok p)
  step_of_part [] parts e p (k, within, is) = let none = ap (λ (ps : List StepParts). length ps) (ok_is e) in absurd (omega arith)
  step_of_part (x ∷ steps) parts e p (k, within, is) =
      let a = first_of_all x steps parts e in
      let In : List StepParts → Type 0 = λ ps. Contains ps p in
      among x steps a.part a.rest p a.first (step_of_part steps a.rest a.others p) (subst In a.all (k, within, is))

  pub length_of_parts : (steps : List ℕ) (parts : List StepParts) → all_parts m frame raw_top steps ≡ Ok parts → length parts ≡ length steps
  length_of_parts [] parts e = ap (λ (ps : List StepParts). length ps) (sym (ok_is e))
  length_of_parts (x ∷ steps) parts e =
      let a = first_of_all x steps parts e in
      let h = length_of_parts steps a.rest a.others in
      ap (λ (ps : List StepParts). length ps) a.all ∙ (let g : length (a.part ∷ a.rest) ≡ length (x ∷ steps) = omega arith in g)

pub parts_rule : (m : ModelContent) (frame : Transform) (raw_top : ℤ) (steps : List ℕ) (parts : List StepParts) → length steps ≤ MOST_STEPS → AreSteps m frame raw_top steps parts → KeepPartsRule parts
parts_rule m frame raw_top steps parts few are = record {
  few = let same = length_of_parts m frame raw_top steps parts are.all in omega arith;
  proper = are.proper;
  corner = are.corner;
  body = λ p q in_p in_q same.
      let (a, e) = step_of_part m frame raw_top steps parts are.all p in_p in
      let (b, f) = step_of_part m frame raw_top steps parts are.all q in_q in
      one_body m frame raw_top a b p q e f same;
  place = λ p q in_p in_q same.
      let (a, e) = step_of_part m frame raw_top steps parts are.all p in_p in
      let (b, f) = step_of_part m frame raw_top steps parts are.all q in_q in
      one_place m frame raw_top a b p q e f same;
}

-- One more step.

pub refused_part : (m : ModelContent) (frame : Transform) (raw_top : ℤ) (steps : List ℕ) (i : ℕ) (parts : List StepParts) (f : StepFault) (why : JobFault) → i < length steps
    → all_parts m frame raw_top (take i steps) ≡ Ok parts → why ≡ of_step f → (let r : Result StepParts StepFault = Err f in (r ≡ Err step.Memory) ⊎ (r ≡ step_of m frame raw_top (get_or steps i 0)))
    → why ≢ fault.Memory → all_parts m frame raw_top steps ≡ Err why
refused_part m frame raw_top steps i parts f why within all is (inl memory) other = absurd (other (is ∙ ap of_step (err_is memory)))
refused_part m frame raw_top steps i parts f why within all is (inr told) other =
    let Fails : List ℕ → Type 0 = λ ns. all_parts m frame raw_top ns ≡ Err (of_step f) in
    subst Fails (split_at steps i within) (fail_behind m frame raw_top (take i steps) parts (get_or steps i 0) (drop (suc i) steps) f all (sym told)) ∙ ap (λ (e : JobFault). Err e) (sym is)

pub part_more : (m : ModelContent) (frame : Transform) (raw_top : ℤ) (steps : List ℕ) (i : ℕ) (parts : List StepParts) (p : StepParts) → i < length steps
    → all_parts m frame raw_top (take i steps) ≡ Ok parts → (let r : Result StepParts StepFault = Ok p in (r ≡ Err step.Memory) ⊎ (r ≡ step_of m frame raw_top (get_or steps i 0)))
    → all_parts m frame raw_top (take (i + 1) steps) ≡ Ok (parts ++ p ∷ [])
part_more m frame raw_top steps i parts p within all (inl memory) = absurd (err_is_not_ok (sym memory))
part_more m frame raw_top steps i parts p within all (inr told) = rw ((take_at_read steps i 0 within).1) (push_part m frame raw_top (take i steps) parts (get_or steps i 0) p all (sym told))

-- what holds of each part holds with one more
pub each_more : (P : StepParts → Type 0) (parts : List StepParts) (p : StepParts) → ((q : StepParts) → Contains parts q → P q) → P p → (q : StepParts) → Contains (parts ++ p ∷ []) q → P q
each_more P parts p each new q among = elim (Contains-push_cases parts p q among) [ inl before ↦ each q before | inr is ↦ subst P is new ]
