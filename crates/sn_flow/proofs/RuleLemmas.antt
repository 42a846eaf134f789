-- The steps that are made of the parts of executed steps keep the rule of jobs.
use Rattle.std.proofs.Common.{◌≡◌, refl, sym, ◌∙◌, ap, subst, ℕ, ℤ, zero, suc, ◌*◌, ◌<◌, ◌≤◌, min, List, [], ◌∷◌, map, length, get_or, Option, Some, None, arith}
use Rattle.std.specs.Prelude.{nat_eq, unwrap_or, IfSome}
use Rattle.std.specs.List.{All, Contains, filter, fold, reduce}
use Rattle.std.proofs.lemmas.List.{length-map}
use Rattle.std.proofs.lemmas.List.Elements.{All-filter, All-map, All-head, Contains-get_or}
use Rattle.sn_geom.specs.declared.limits.TheConstants.{REACH, MOST_DIAMETER}
use Rattle.sn_outline.specs.declared.job.StepJob.{StepJob}
use Rattle.sn_geom.specs.declared.units.Pt3.{Pt3}
use Rattle.sn_outline.specs.JobRule.{IsProper, AreNumbered, HaveOneBody, HaveOneFeature, IsSameFeature, IsSecurityHeight, IsJob, KeepRule}
use Rattle.sn_words.specs.Options.{IsBox, IsPitch as WordPitch}
use Rattle.sn_feature.specs.declared.parts.StepParts.{StepParts}
use Rattle.sn_feature.specs.StepRule.{AreProper}
use Rattle.sn_feature.specs.StepLaws.{IsSamePlace}
use Rattle.sn_flow.specs.PartsRule.{KeepPartsRule}
use Rattle.sn_flow.specs.Steps.{tools_of, least_diameter, corner_among, step_among}
use Rattle.sn_flow.specs.Tools.{number_in}
use Rattle.sn_flow.proofs.ToolLemmas.{numbers_filled, numbers_differ}

-- Elements of lists.

pub get_or-map : {A B : Type 0} (f : A → B) (xs : List A) (k : ℕ) (d : A) → get_or (map f xs) k (f d) ≡ f (get_or xs k d)
get_or-map f [] k d = refl
get_or-map f (x ∷ xs) zero d = refl
get_or-map f (x ∷ xs) (suc k) d = get_or-map f xs k d

pub contains_map : {A B : Type 0} (f : A → B) (xs : List A) (x : A) → Contains xs x → Contains (map f xs) (f x)
contains_map f xs x (k, within, is) = (k, rw length-map within, get_or-map f xs k x ∙ ap f is)

pub contains_tail : {A : Type 0} (x y : A) (xs : List A) → Contains xs y → Contains (x ∷ xs) y
contains_tail x y xs (k, within, is) = (suc k, omega arith, is)

element_of_map : {A B : Type 0} (f : A → B) (xs : List A) (k : ℕ) (y : B) → k < length (map f xs) → (x : A) × Contains xs x × (get_or (map f xs) k y ≡ f x)
element_of_map f [] k y within = absurd (omega arith)
element_of_map f (x ∷ xs) zero y within = (x, (0, omega arith, refl), refl)
element_of_map f (x ∷ xs) (suc k) y within = let (z, among, is) = element_of_map f xs k y (omega arith) in (z, contains_tail x z xs among, is)

pub map_contains : {A B : Type 0} (f : A → B) (xs : List A) (y : B) → Contains (map f xs) y → (x : A) × Contains xs x × (f x ≡ y)
map_contains f xs y (k, within, is) = let (x, among, at) = element_of_map f xs k y within in (x, among, sym at ∙ is)

all_of_contained : {A : Type 0} (P : A → Type 0) (xs : List A) → ((x : A) → Contains xs x → P x) → All P xs
all_of_contained P xs h = λ k d within. h (get_or xs k d) (Contains-get_or xs k d within)

-- Numbers of tools.

pub numbered : (parts : List StepParts) → AreNumbered (map (step_among parts) parts) (length (tools_of parts))
numbered parts k = (
  λ (i, s, within, at, is).
      let (p, among, made) = map_contains (step_among parts) parts s (i, within, at) in
      (numbers_filled (map (λ (q : StepParts). q.tool) parts) k).0 (p.tool, contains_map (λ (q : StepParts). q.tool) parts p among, ap (λ (t : StepJob). t.tool) made ∙ is),
  λ bounds.
      let (n, used, is) = (numbers_filled (map (λ (q : StepParts). q.tool) parts) k).1 bounds in
      let (p, among, named) = map_contains (λ (q : StepParts). q.tool) parts n used in
      let (i, within, at) = contains_map (step_among parts) parts p among in
      (i, step_among parts p, within, at, ap (number_in (tools_of parts)) named ∙ is),
)

pub one_body : (parts : List StepParts) → KeepPartsRule parts → HaveOneBody (map (step_among parts) parts)
one_body parts rule s t first second same =
    let (p, in_p, is_p) = map_contains (step_among parts) parts s first in
    let (q, in_q, is_q) = map_contains (step_among parts) parts t second in
    let numbers = ap (λ (u : StepJob). u.tool) is_p ∙ same ∙ sym (ap (λ (u : StepJob). u.tool) is_q) in
    let tool = numbers_differ (map (λ (q : StepParts). q.tool) parts) p.tool q.tool (contains_map (λ (q : StepParts). q.tool) parts p in_p) (contains_map (λ (q : StepParts). q.tool) parts q in_q) numbers in
    sym (ap (λ (u : StepJob). u.body) is_p) ∙ rule.body p q in_p in_q tool ∙ ap (λ (u : StepJob). u.body) is_q

same_feature : (parts : List StepParts) (p q : StepParts) → p.feature ≡ q.feature → IsSamePlace p q → IsSameFeature (step_among parts p) (step_among parts q)
same_feature parts p q feature place = record {
  outline = place.outline;
  top = place.top;
  floor = place.floor;
  bottom = place.bottom;
  corner = ap (λ (c : Option ℕ). unwrap_or c (least_diameter parts p.feature)) place.corner ∙ ap (λ n. unwrap_or q.corner (least_diameter parts n)) feature;
}

pub one_feature : (parts : List StepParts) → KeepPartsRule parts → HaveOneFeature (map (step_among parts) parts)
one_feature parts rule s t first second same =
    let (p, in_p, is_p) = map_contains (step_among parts) parts s first in
    let (q, in_q, is_q) = map_contains (step_among parts) parts t second in
    let feature = ap (λ (u : StepJob). u.feature) is_p ∙ same ∙ sym (ap (λ (u : StepJob). u.feature) is_q) in
    let is = same_feature parts p q feature (rule.place p q in_p in_q feature) in
    subst (λ (u : StepJob). IsSameFeature u t) is_p (subst (λ (u : StepJob). IsSameFeature (step_among parts p) u) is_q is)

-- Corner diameters.

fold_below : (a bound : ℕ) (xs : List ℕ) → a ≤ bound → fold min a xs ≤ bound
fold_below a bound [] h = h
fold_below a bound (x ∷ xs) h = fold_below (min a x) bound xs (omega arith)

reduced_below : (xs : List ℕ) (bound : ℕ) → All (λ x. x ≤ bound) xs → unwrap_or (reduce min xs) 0 ≤ bound
reduced_below [] bound h = omega arith
reduced_below (x ∷ xs) bound h = fold_below x bound xs (All-head (λ x. x ≤ bound) x xs h)

body_below : (p : StepParts) → AreProper p → p.body.d ≤ MOST_DIAMETER
body_below p proper = (proper 0 0 (omega arith)).body.at_most

least_below : (parts : List StepParts) (feature : ℕ) → ((p : StepParts) → Contains parts p → AreProper p) → least_diameter parts feature ≤ MOST_DIAMETER
least_below parts feature proper =
    let Below : StepParts → Type 0 = λ p. p.body.d ≤ MOST_DIAMETER in
    let all : All Below parts = all_of_contained Below parts (λ p among. body_below p (proper p among)) in
    reduced_below _ MOST_DIAMETER (All-map (λ d. d ≤ MOST_DIAMETER) (λ (p : StepParts). p.body.d) (filter (λ (p : StepParts). nat_eq p.feature feature) parts) (All-filter (λ (p : StepParts). nat_eq p.feature feature) Below parts all))

corner_below : (given : Option ℕ) (least : ℕ) → IfSome given (λ d. d ≤ 2 * REACH) → least ≤ 2 * REACH → unwrap_or given least ≤ 2 * REACH
corner_below None least h l = l
corner_below (Some d) least h l = h

pub proper_step : (parts : List StepParts) → KeepPartsRule parts → (p : StepParts) → Contains parts p → IsProper (step_among parts p)
proper_step parts rule p among =
    let least = least_below parts p.feature rule.proper in
    rule.proper p among (number_in (tools_of parts) p.tool) (corner_among parts p) (corner_below p.corner (least_diameter parts p.feature) (rule.corner p among) (omega (arith, least)))

pub steps_keep_rule : (parts : List StepParts) → KeepPartsRule parts → KeepRule (map (step_among parts) parts) (length (tools_of parts))
steps_keep_rule parts rule = record {
  few = rw length-map rule.few;
  numbered = numbered parts;
  bodies = one_body parts rule;
  features = one_feature parts rule;
  proper = All-map IsProper (step_among parts) parts (all_of_contained (λ p. IsProper (step_among parts p)) parts (proper_step parts rule));
}

-- Jobs.

pub is_job : (pitch : ℕ) (low high : Pt3) (sec : ℤ) (parts : List StepParts) (steps : List StepJob) (used : List ℕ) → WordPitch pitch → IsBox (record { low = low; high = high })
    → IsSecurityHeight sec high.z → KeepRule (map (step_among parts) parts) (length (tools_of parts)) → steps ≡ map (step_among parts) parts → used ≡ tools_of parts
    → IsJob (record { pitch = pitch; low = low; high = high; sec = sec; steps = steps; tools = used })
is_job pitch low high sec parts steps used pitched box height rule made uses =
    let same : KeepRule steps (length used) = subst (λ (ts : List ℕ). KeepRule steps (length ts)) (sym uses) (subst (λ (ss : List StepJob). KeepRule ss (length (tools_of parts))) (sym made) rule) in
    record {
      pitch = record { at_least = pitched.least; at_most = pitched.greatest };
      raw_box = record { x = box.x; y = box.y; z = box.z };
      security = height;
      few_steps = same.few;
      tools = same.numbered;
      bodies = same.bodies;
      features = same.features;
      proper = same.proper;
    }
