-- What is gathered over the steps of a job, with one more step.
use Rattle.std.proofs.Common.{◌≡◌, refl, sym, ◌∙◌, ap, ℕ, ◌+◌, ◌<◌, ◌≤◌, Bool, true, false, cond, min, List, [], ◌∷◌, ◌++◌, map, length, get_or, take, Some, append-nil, arith}
use Rattle.std.specs.Prelude.{nat_eq}
use Rattle.std.specs.List.{filter, reduce}
use Rattle.std.proofs.lemmas.List.Elements.{filter-append}
use Rattle.std.proofs.lemmas.List.{length-map}
use Rattle.std.proofs.lemmas.Grind.{fold-append, take_at_read}
use Rattle.sn_feature.specs.declared.parts.StepParts.{StepParts}
use Rattle.sn_outline.specs.declared.job.StepJob.{StepJob}
use Rattle.sn_flow.specs.Steps.{tools_of, corner_among, step_among}
use Rattle.sn_feature.specs.Step.{step_with}
use Rattle.sn_flow.specs.Tools.{number_in}
use Rattle.sn_flow.specs.Gathered.{used_then, lesser_of, lesser_with, least_of}
use Rattle.sn_flow.proofs.ToolLemmas.{first_uses-push, few_first_uses}

pub map-push : {A B : Type 0} (f : A → B) (xs : List A) (x : A) → map f (xs ++ x ∷ []) ≡ map f xs ++ f x ∷ []
map-push f [] x = refl
map-push f (y ∷ xs) x = ap (λ ys. f y ∷ ys) (map-push f xs x)

pub tools_of-push : (ps : List StepParts) (p : StepParts) → tools_of (ps ++ p ∷ []) ≡ used_then (tools_of ps) p.tool
tools_of-push ps p = rw (map-push (λ (q : StepParts). q.tool) ps p) (first_uses-push (map (λ q. q.tool) ps) p.tool)

pub tools_of_more : (ps : List StepParts) (i : ℕ) (d : StepParts) → i < length ps → tools_of (take (i + 1) ps) ≡ used_then (tools_of (take i ps)) (get_or ps i d).tool
tools_of_more ps i d within = rw ((take_at_read ps i d within).1) (tools_of-push (take i ps) (get_or ps i d))

reduce-push : (xs : List ℕ) (x : ℕ) → reduce min (xs ++ x ∷ []) ≡ lesser_of (reduce min xs) x
reduce-push [] x = refl
reduce-push (y ∷ xs) x = ap Some (fold-append min y xs (x ∷ []))

diameters : ℕ → List StepParts → List ℕ
diameters feature ps = map (λ p. p.body.d) (filter (λ p. nat_eq p.feature feature) ps)

least_step : (feature : ℕ) (ps : List StepParts) (p : StepParts) (b : Bool) → reduce min (map (λ (q : StepParts). q.body.d) (filter (λ (q : StepParts). nat_eq q.feature feature) ps ++ cond b (p ∷ []) [])) ≡ cond b (lesser_of (least_of feature ps) p.body.d) (least_of feature ps)
least_step feature ps p true = rw (map-push (λ (q : StepParts). q.body.d) (filter (λ (q : StepParts). nat_eq q.feature feature) ps) p) (reduce-push (map (λ (q : StepParts). q.body.d) (filter (λ (q : StepParts). nat_eq q.feature feature) ps)) p.body.d)
least_step feature ps p false = rw append-nil refl

pub least_of-push : (feature : ℕ) (ps : List StepParts) (p : StepParts) → least_of feature (ps ++ p ∷ []) ≡ lesser_with feature (least_of feature ps) p
least_of-push feature ps p = rw (filter-append (λ (q : StepParts). nat_eq q.feature feature) ps (p ∷ [])) (least_step feature ps p (nat_eq p.feature feature))

pub least_of_more : (feature : ℕ) (ps : List StepParts) (i : ℕ) (d : StepParts) → i < length ps → least_of feature (take (i + 1) ps) ≡ lesser_with feature (least_of feature (take i ps)) (get_or ps i d)
least_of_more feature ps i d within = rw ((take_at_read ps i d within).1) (least_of-push feature (take i ps) (get_or ps i d))

-- Lists that are taken apart.

pub nothing_left : {X : Type 0} (xs : List X) → length xs ≡ 0 → xs ≡ []
nothing_left [] h = refl
nothing_left (x ∷ xs) h = absurd (omega arith)

pub within_split : {X : Type 0} (ys : List X) (x : X) (rest : List X) → length ys < length (ys ++ x ∷ rest)
within_split [] x rest = omega arith
within_split (y ∷ ys) x rest = let h = within_split ys x rest in omega arith

pub at_split : {X : Type 0} (f : X → ℕ) (ys : List X) (x : X) (rest : List X) (d : ℕ) → get_or (map f (ys ++ x ∷ rest)) (length ys) d ≡ f x
at_split f [] x rest d = refl
at_split f (y ∷ ys) x rest d = at_split f ys x rest d

pub corner_at : (parts made : List StepParts) (p : StepParts) (left : List StepParts) (corners : List ℕ) → made ++ p ∷ left ≡ parts → corners ≡ map (corner_among parts) parts → (length made < length corners) × ((d : ℕ) → get_or corners (length made) d ≡ corner_among parts p)
corner_at parts made p left corners split corners_are =
    let same = corners_are ∙ ap (map (corner_among parts)) (sym split) in (
      rw same (rw length-map (within_split made p left)),
      λ d. ap (λ cs. get_or cs (length made) d) same ∙ at_split (corner_among parts) made p left d,
    )

pub made_more : (parts made : List StepParts) (p : StepParts) (steps : List StepJob) (step : StepJob) → steps ≡ map (step_among parts) made → step ≡ step_among parts p → steps ++ step ∷ [] ≡ map (step_among parts) (made ++ p ∷ [])
made_more parts made p steps step is new = rw is (rw new (sym (map-push (step_among parts) made p)))

pub step_made : (parts : List StepParts) (p : StepParts) (tools : List ℕ) (number corner : ℕ) (step : StepJob) → tools ≡ tools_of parts → number ≡ number_in tools p.tool → corner ≡ corner_among parts p → step ≡ step_with p number corner → step ≡ step_among parts p
step_made parts p tools number corner step used place is made = made ∙ (ap (λ k. step_with p k corner) (place ∙ ap (λ ts. number_in ts p.tool) used) ∙ ap (λ d. step_with p (number_in (tools_of parts) p.tool) d) is)

length-push : {X : Type 0} (ys : List X) (y : X) → length (ys ++ y ∷ []) ≡ length ys + 1
length-push [] y = refl
length-push (x ∷ ys) y = let h = length-push ys y in omega arith

pub count_more : {X : Type 0} (ys : List X) (y : X) (k : ℕ) → k ≡ length ys → k + 1 ≡ length (ys ++ y ∷ [])
count_more ys y k is = rw is (sym (length-push ys y))

-- there are no more tools than steps
pub few_tools : (ps : List StepParts) → length (tools_of ps) ≤ length ps
few_tools ps = let h = few_first_uses (map (λ (q : StepParts). q.tool) ps) in omega (arith, length-map ps (λ (q : StepParts). q.tool))
