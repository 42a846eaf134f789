-- The laws of steps and of their refusals.
use Rattle.std.proofs.Common.{◌≡◌, ◌≢◌, ℕ, ◌+◌, ◌/◌, Bool, true, false, ◌⊎◌, inl, inr, ⊎_elim, ℤ, pos, ◌+ℤ◌, ◌-ℤ◌, unsigned_abs, Option, Some, None, Result, Ok, Err, refl, sym, ap, ◌∙◌, subst, arith}
use Rattle.std.specs.Prelude.{if◌then◌else◌, int_lt, ◌≤ℤ◌, ◌<ℤ◌, nat_le}
use Rattle.std.specs.List.{list_all, Contains}
use Rattle.std.proofs.lemmas.Bool.{cases_Bool}
use Rattle.std.proofs.lemmas.Bool.Decides.{nat_tests}
use Rattle.std.proofs.lemmas.Int.{ints}
use Rattle.sn_geom.specs.declared.limits.TheConstants.{REACH}
use Rattle.sn_geom.specs.declared.units.Pt.{Pt}
use Rattle.sn_geom.specs.Length.{IsLength}
use Rattle.sn_model.specs.ModelContent.{ModelContent}
use Rattle.sn_frame.specs.declared.frame.FrameFault.{FrameFault}
use Rattle.sn_frame.specs.declared.frame.FrameFault.TheVariants.{Skew, OutOfRange}
use Rattle.sn_frame.specs.Frame.{Transform, composed, is_axis, is_in_range, is_skew, is_upright, placed}
use Rattle.sn_outline.specs.declared.outline.Shape.{Shape}
use Rattle.sn_feature.specs.declared.entities.Cutter.{Cutter}
use Rattle.sn_feature.specs.declared.entities.Cutter.TheVariants.{Endmill, TwistDrill}
use Rattle.sn_feature.specs.declared.entities.Feature.{Feature}
use Rattle.sn_feature.specs.declared.entities.Task.{Task}
use Rattle.sn_feature.specs.declared.fault.StepFault.{StepFault}
use Rattle.sn_feature.specs.declared.fault.StepFault.TheVariants.{Frame, Depth, BadOutline, WrongTool, ShortTool, Memory}
use Rattle.sn_feature.specs.declared.parts.PlacedFeature.{PlacedFeature}
use Rattle.sn_feature.specs.declared.parts.StepParts.{StepParts}
use Rattle.sn_feature.specs.declared.site.Site.{Site}
use Rattle.sn_feature.specs.Entities.{workingstep_of, feature_of, tool_of, task_of}
use Rattle.sn_feature.specs.Outline.{sketch_of, is_bad_outline, lands_in_range, outline_points, placed_shape, put, shape_at, path_direction, straight_path, profile_placement, site_of, outline_site}
use Rattle.sn_feature.specs.Placement.{axis_of, reference_of, location, placement_of, composed_at, upright_at, ratios, upright_frame, plane_height}
use Rattle.sn_feature.specs.Refusal.{◌>>=◌, refused_where, length_in_range, as_step_fault}
use Rattle.sn_feature.specs.Step.{placed_feature, parts_of, lowest_tip, judged, step_by, step_of}
use Rattle.sn_feature.specs.StepLaws.{IsStepOf, PartsTell, IsSamePlace, StepsAgree, NeverMemory, IsFit, StepsAreFit, PointOfDrill, FrameFaultsInOrder, RefusalsInOrder, FaultsInOrder}
use Rattle.sn_feature.specs.Tooling.{bottom_of, corner_of, body_of, point_length, is_wrong_tool, is_short_tool}
use Rattle.sn_feature.proofs.Chains.{placed_ok, step_ok, IsJudged, IsMade}
use Rattle.sn_feature.proofs.PutLemmas.{not_all}

-- Steps.

made : (m : ModelContent) (w : Transform) (raw_top : ℤ) (ws : ℕ) (p : StepParts) → step_of m w raw_top ws ≡ Ok p → IsMade m w raw_top (task_of m ws) p
unfolding step_of
made m w raw_top ws p h = step_ok m w raw_top (task_of m ws) p h

pub parts_tell : PartsTell
unfolding task_of parts_of
parts_tell m w raw_top ws p h =
    let by = made m w raw_top ws p h in
    let at = placed_ok m w (task_of m ws).feature by.placed by.stands in
    subst (IsStepOf m ws) by.parts (record { ws = refl; feature = refl; tool = refl; floor = at.depth })

module _ (m : ModelContent) (w : Transform) (raw_top : ℤ) (a b : ℕ) (p q : StepParts) (is_p : step_of m w raw_top a ≡ Ok p) (is_q : step_of m w raw_top b ≡ Ok q) where
  same_place : (f g : Feature) (x y : PlacedFeature) → f ≡ g → placed_feature m w f ≡ Ok x → placed_feature m w g ≡ Ok y → x ≡ y
  same_place f g x y e h k = let same = ap (placed_feature m w) e in cc

  agree_feature : p.feature ≡ q.feature → IsSamePlace p q
  unfolding task_of parts_of
  agree_feature e =
      let x = made m w raw_top a p is_p in
      let y = made m w raw_top b q is_q in
      let named : (workingstep_of m a).feature ≡ (workingstep_of m b).feature = ap (λ (z : StepParts). z.feature) x.parts ∙ (e ∙ sym (ap (λ (z : StepParts). z.feature) y.parts)) in
      let feature : (task_of m a).feature ≡ (task_of m b).feature = ap (feature_of m) named in
      let place = same_place (task_of m a).feature (task_of m b).feature x.placed y.placed feature x.stands y.stands in
      let whole : IsSamePlace (parts_of m (task_of m a) x.placed) (parts_of m (task_of m b) y.placed) = record {
        outline = ap (λ (z : PlacedFeature). z.outline) place;
        top = ap (λ (z : PlacedFeature). z.top) place;
        floor = ap (λ (z : PlacedFeature). z.floor) place;
        bottom = ap (λ (z : Feature). bottom_of m z.form) feature;
        corner = ap (λ (z : Feature). corner_of m z.form) feature;
      } in
      subst (λ (z : StepParts). IsSamePlace z q) x.parts (subst (λ (z : StepParts). IsSamePlace (parts_of m (task_of m a) x.placed) z) y.parts whole)

  agree_tool : p.tool ≡ q.tool → p.body ≡ q.body
  unfolding task_of parts_of
  agree_tool e =
      let x = made m w raw_top a p is_p in
      let y = made m w raw_top b q is_q in
      let named : (task_of m a).operation.tool ≡ (task_of m b).operation.tool = ap (λ (z : StepParts). z.tool) x.parts ∙ (e ∙ sym (ap (λ (z : StepParts). z.tool) y.parts)) in
      sym (ap (λ (z : StepParts). z.body) x.parts) ∙ (ap (λ (n : ℕ). body_of (tool_of m n)) named ∙ ap (λ (z : StepParts). z.body) y.parts)

pub steps_agree : StepsAgree
steps_agree = record { feature = λ m w raw_top a b p q is_p is_q. agree_feature m w raw_top a b p q is_p is_q; tool = λ m w raw_top a b p q is_p is_q. agree_tool m w raw_top a b p q is_p is_q }

not_above : (top floor : ℤ) → int_lt top floor ≡ false → floor ≤ℤ top
not_above top floor h = grind (arith, ints)

long_enough : (o : Option ℕ) (raw_top tip : ℤ) → is_short_tool o raw_top tip ≡ false → (l : ℕ) → o ≡ Some l → (raw_top -ℤ tip) ≤ℤ pos l
unfolding is_short_tool
long_enough None raw_top tip h l e = absurd cc
long_enough (Some k) raw_top tip h l e =
    let same : k ≡ l = cc in subst (λ (n : ℕ). (raw_top -ℤ tip) ≤ℤ pos n) same (not_above (pos k) (raw_top -ℤ tip) h)

pub steps_are_fit : StepsAreFit
unfolding task_of parts_of
steps_are_fit m w raw_top ws p h =
    let by = made m w raw_top ws p h in
    let told = subst (λ (z : StepParts). IsFit m raw_top ws z) by.parts in
    let j = subst (λ (z : StepParts). IsJudged m (task_of m ws) raw_top z) (sym by.parts) by.judged in
    told (record {
      tip = j.tip;
      depth = not_above (parts_of m (task_of m ws) by.placed).top (parts_of m (task_of m ws) by.placed).floor j.depth;
      outline = j.outline;
      tool = j.tool;
      length = long_enough (task_of m ws).tool.length raw_top (lowest_tip (parts_of m (task_of m ws) by.placed)) j.short;
    })

point_by : (c : Cutter) (d e : ℕ) → c ≡ TwistDrill → elim c [ Endmill ↦ e | TwistDrill ↦ (d + 1) / 2 ] ≡ (d + 1) / 2
point_by Endmill d e h = absurd cc
point_by TwistDrill d e h = refl

pub point_of_drill : PointOfDrill
unfolding point_length
point_of_drill t h = let e = point_by t.cutter t.diameter t.edge h in rw e (omega arith, omega arith)

-- Refusals.

bind_err : {A B E : Type 0} (r : Result A E) (k : A → Result B E) (e : E) → r ≡ Err e → (r >>= k) ≡ Err e
bind_err (Ok x) k e h = absurd cc
bind_err (Err d) k e h = cc

bind_go : {A B E : Type 0} (r : Result A E) (k : A → Result B E) (x : A) → r ≡ Ok x → (r >>= k) ≡ k x
bind_go (Ok y) k x h = ap k (let same : y ≡ x = cc in same)
bind_go (Err d) k x h = absurd cc

came_from : {A B E : Type 0} (r : Result A E) (k : A → Result B E) (e : E) → (r >>= k) ≡ Err e → (r ≡ Err e) ⊎ ((x : A) × (k x ≡ Err e))
came_from (Ok x) k e h = inr (x, h)
came_from (Err d) k e h = inl cc

no_memory_frame : {A : Type 0} (r : Result A FrameFault) → as_step_fault r ≡ Err Memory → ⊥
no_memory_frame (Ok x) h = absurd cc
no_memory_frame (Err e) h = absurd (let other : Frame e ≡ Memory = cc in cc)

no_memory_refused : (b : Bool) (e : StepFault) → e ≢ Memory → refused_where b e ≡ Err Memory → ⊥
no_memory_refused true e ne h = ne cc
no_memory_refused false e ne h = absurd cc

no_memory_judged : (m : ModelContent) (t : Task) (raw_top : ℤ) (p : StepParts) → judged m t raw_top p ≡ Err Memory → ⊥
unfolding judged
no_memory_judged m t raw_top p h =
    ⊎_elim (λ first. no_memory_frame _ first) (λ x.
    ⊎_elim (λ second. no_memory_refused (int_lt p.top p.floor) (Depth t.names.feature) (λ e. absurd cc) second) (λ y.
    ⊎_elim (λ third. no_memory_refused (is_bad_outline m t.feature.form) (BadOutline t.names.feature) (λ e. absurd cc) third) (λ z.
    ⊎_elim (λ fourth. no_memory_refused (is_wrong_tool t.feature.form t.operation t.tool) (WrongTool t.ws) (λ e. absurd cc) fourth)
    (λ v. no_memory_refused (is_short_tool t.tool.length raw_top x.0) (ShortTool t.ws) (λ e. absurd cc) v.1)
    (came_from (refused_where (is_wrong_tool t.feature.form t.operation t.tool) (WrongTool t.ws)) _ Memory z.1))
    (came_from (refused_where (is_bad_outline m t.feature.form) (BadOutline t.names.feature)) _ Memory y.1))
    (came_from (refused_where (int_lt p.top p.floor) (Depth t.names.feature)) _ Memory x.1))
    (came_from (as_step_fault (length_in_range (lowest_tip p) t.feature.placement)) _ Memory h)

pub never_memory : NeverMemory
unfolding step_of step_by
never_memory m w raw_top ws h =
    let t = task_of m ws in
    ⊎_elim (λ first. no_memory_frame _ first) (λ x.
    ⊎_elim (λ second. no_memory_judged m t raw_top (parts_of m t x.0) second) (λ y. absurd (let no : Ok (parts_of m t x.0) ≡ Err Memory = y.1 in cc))
    (came_from (judged m t raw_top (parts_of m t x.0)) _ Memory x.1))
    (came_from (as_step_fault (placed_feature m w t.feature)) _ Memory h)

-- Frames.

skew_first : (m : ModelContent) (w : Transform) (n : ℕ) → is_skew (axis_of m n) (reference_of m n) ≡ true → upright_frame m w n ≡ Err (Skew n)
unfolding upright_frame placement_of
skew_first m w n h = bind_err _ _ (Skew n) (by_test (is_skew (axis_of m n) (reference_of m n)) h) where
  by_test : (b : Bool) → b ≡ true → (let r : Result Transform FrameFault = if b then Err (Skew n) else Ok (placed (location m n) (axis_of m n) (reference_of m n)) in r) ≡ Err (Skew n)
  by_test true e = refl
  by_test false e = absurd cc

frame_if : (b : Bool) (f : Transform) (e : FrameFault) → b ≡ false → (let r : Result Transform FrameFault = if b then Ok f else Err e in r) ≡ Err e
frame_if true f e h = absurd cc
frame_if false f e h = refl

frame_when : (b : Bool) (f : Transform) (e : FrameFault) → b ≡ true → (let r : Result Transform FrameFault = if b then Ok f else Err e in r) ≡ Ok f
frame_when true f e h = refl
frame_when false f e h = absurd cc

range_second : (m : ModelContent) (w : Transform) (n : ℕ) (inner : Transform) → placement_of m n ≡ Ok inner → is_in_range (composed w inner).shift ≡ false → upright_frame m w n ≡ Err (OutOfRange n)
unfolding upright_frame composed_at
range_second m w n inner is h = bind_go (placement_of m n) _ inner is ∙ bind_err _ _ (OutOfRange n) (frame_if (is_in_range (composed w inner).shift) (composed w inner) (OutOfRange n) h)

upright_third : (m : ModelContent) (w : Transform) (n : ℕ) (inner : Transform) → placement_of m n ≡ Ok inner → is_in_range (composed w inner).shift ≡ true → is_upright (composed w inner) ≡ false → upright_frame m w n ≡ Err (Skew n)
unfolding upright_frame composed_at upright_at
upright_third m w n inner is h k =
    bind_go (placement_of m n) _ inner is
    ∙ (bind_go _ _ (composed w inner) (frame_when (is_in_range (composed w inner).shift) (composed w inner) (OutOfRange n) h) ∙ frame_if (is_upright (composed w inner)) (composed w inner) (Skew n) k)

path_refused : (m : ModelContent) (f : Feature) (n : ℕ) → path_direction m f.form ≡ Some n → is_axis (ratios m n) ≡ false → straight_path m f.form ≡ Err (Skew n)
unfolding straight_path
path_refused m f n is h = by_path (path_direction m f.form) is where
  by_axis : (b : Bool) → b ≡ false → (let r : Result (Unit {0}) FrameFault = if b then Ok tt else Err (Skew n) in r) ≡ Err (Skew n)
  by_axis true e = absurd cc
  by_axis false e = refl

  by_path : (o : Option ℕ) → o ≡ Some n → elim o as (λ x. Result (Unit {0}) FrameFault) [ None ↦ Ok tt | Some k ↦ (if is_axis (ratios m k) then Ok tt else Err (Skew k)) ] ≡ Err (Skew n)
  by_path None e = absurd cc
  by_path (Some k) e = let same : k ≡ n = cc in subst (λ (j : ℕ). (let r : Result (Unit {0}) FrameFault = if is_axis (ratios m j) then Ok tt else Err (Skew j) in r) ≡ Err (Skew n)) (sym same) (by_axis (is_axis (ratios m n)) h)

profile_refused : (m : ModelContent) (f : Feature) (frame : Transform) (n : ℕ) (why : FrameFault) → profile_placement m f.form ≡ Some n → upright_frame m frame n ≡ Err why → outline_site m (site_of frame f.placement) f.form ≡ Err why
unfolding outline_site
profile_refused m f frame n why is h = by_profile (profile_placement m f.form) is where
  by_profile : (o : Option ℕ) → o ≡ Some n → elim o as (λ x. Result Site FrameFault) [ None ↦ Ok (site_of frame f.placement) | Some k ↦ (upright_frame m frame k >>= λ g. Ok (site_of g k)) ] ≡ Err why
  by_profile None e = absurd cc
  by_profile (Some k) e = let same : k ≡ n = cc in bind_err (upright_frame m frame k) _ why (ap (upright_frame m frame) same ∙ h)

point_refused : (m : ModelContent) (f : Feature) (site : Site) (p : Pt) → Contains (outline_points (sketch_of m f.form)) p → lands_in_range site.frame p ≡ false → shape_at site (sketch_of m f.form) ≡ Err (OutOfRange site.placement)
unfolding shape_at
point_refused m f site p among h = by_test (list_all (lands_in_range site.frame) (outline_points (sketch_of m f.form))) (not_all (put site.frame) (lands_in_range site.frame) (outline_points (sketch_of m f.form)) among.0 p among.1 (ap (lands_in_range site.frame) among.2 ∙ h)) where
  by_test : (b : Bool) → b ≡ false → (let r : Result Shape FrameFault = if b then Ok (placed_shape site.frame (sketch_of m f.form)) else Err (OutOfRange site.placement) in r) ≡ Err (OutOfRange site.placement)
  by_test true e = absurd cc
  by_test false e = refl

floor_refused : (z : ℤ) (n : ℕ) → ¬ IsLength z → length_in_range z n ≡ Err (OutOfRange n)
floor_refused z n h = by_test (nat_le (unsigned_abs z) REACH) (⊎_elim (λ yes. absurd (h (grind (arith, nat_tests, yes)))) (λ no. no) (cases_Bool (nat_le (unsigned_abs z) REACH))) where
  by_test : (b : Bool) → b ≡ false → (let r : Result ℤ FrameFault = if b then Ok z else Err (OutOfRange n) in r) ≡ Err (OutOfRange n)
  by_test true e = absurd cc
  by_test false e = refl

frame_faults : (m : ModelContent) (w : Transform) (f : Feature) → FrameFaultsInOrder m w f
unfolding placed_feature
frame_faults m w f = record {
  skew = λ h. bind_err _ _ (Skew f.placement) (skew_first m w f.placement h);
  range = λ inner is h. bind_err _ _ (OutOfRange f.placement) (range_second m w f.placement inner is h);
  upright = λ inner is h k. bind_err _ _ (Skew f.placement) (upright_third m w f.placement inner is h k);
  path = λ frame n is along h. bind_go (upright_frame m w f.placement) _ frame is ∙ bind_err _ _ (Skew n) (path_refused m f n along h);
  profile = λ frame n why is straight at h. bind_go (upright_frame m w f.placement) _ frame is ∙ (bind_go (straight_path m f.form) _ tt straight ∙ bind_err _ _ why (profile_refused m f frame n why at h));
  point = λ frame site p is straight at among h. bind_go (upright_frame m w f.placement) _ frame is ∙ (bind_go (straight_path m f.form) _ tt straight ∙ (bind_go (outline_site m (site_of frame f.placement) f.form) _ site at ∙ bind_err _ _ (OutOfRange site.placement) (point_refused m f site p among h)));
  floor = λ frame site s is straight at drawn h. bind_go (upright_frame m w f.placement) _ frame is ∙ (bind_go (straight_path m f.form) _ tt straight ∙ (bind_go (outline_site m (site_of frame f.placement) f.form) _ site at ∙ (bind_go (shape_at site (sketch_of m f.form)) _ s drawn ∙ bind_err _ _ (OutOfRange f.placement) (floor_refused (frame.shift.z +ℤ plane_height m f.depth) f.placement h))));
}

as_step_err : {A : Type 0} (r : Result A FrameFault) (why : FrameFault) → r ≡ Err why → as_step_fault r ≡ Err (Frame why)
as_step_err r why h = ap as_step_fault h

first_fault : (m : ModelContent) (w : Transform) (raw_top : ℤ) (t : Task) (why : FrameFault) → placed_feature m w t.feature ≡ Err why → step_by m w raw_top t ≡ Err (Frame why)
unfolding step_by
first_fault m w raw_top t why h = bind_err _ _ (Frame why) (as_step_err (placed_feature m w t.feature) why h)

-- Refusals behind frames.

module _ (m : ModelContent) (w : Transform) (raw_top : ℤ) (t : Task) (placed : PlacedFeature) (stands : placed_feature m w t.feature ≡ Ok placed) where
  later : (why : StepFault) → judged m t raw_top (parts_of m t placed) ≡ Err why → step_by m w raw_top t ≡ Err why
  unfolding step_by
  later why h = bind_go (as_step_fault (placed_feature m w t.feature)) _ placed (ap as_step_fault stands) ∙ bind_err _ _ why h

within : (z : ℤ) (n : ℕ) → IsLength z → as_step_fault (length_in_range z n) ≡ Ok z
within z n h = by_test (nat_le (unsigned_abs z) REACH) (⊎_elim (λ yes. yes) (λ no. absurd (grind (arith, nat_tests, no, h))) (cases_Bool (nat_le (unsigned_abs z) REACH))) where
  by_test : (b : Bool) → b ≡ true → as_step_fault (let r : Result ℤ FrameFault = if b then Ok z else Err (OutOfRange n) in r) ≡ Ok z
  by_test true e = refl
  by_test false e = absurd cc

refused_when : (b : Bool) (e : StepFault) → b ≡ true → refused_where b e ≡ Err e
refused_when true e h = refl
refused_when false e h = absurd cc

passed_when : (b : Bool) (e : StepFault) → b ≡ false → refused_where b e ≡ Ok tt
passed_when true e h = absurd cc
passed_when false e h = refl

is_above : (a b : ℤ) → a <ℤ b → int_lt a b ≡ true
is_above a b h = grind (arith, ints)

is_not_above : (a b : ℤ) → b ≤ℤ a → int_lt a b ≡ false
is_not_above a b h = grind (arith, ints)

too_short : (o : Option ℕ) (raw_top tip : ℤ) (l : ℕ) → o ≡ Some l → pos l <ℤ (raw_top -ℤ tip) → is_short_tool o raw_top tip ≡ true
unfolding is_short_tool
too_short None raw_top tip l e h = absurd cc
too_short (Some k) raw_top tip l e h = let same : k ≡ l = cc in ap (λ (n : ℕ). int_lt (pos n) (raw_top -ℤ tip)) same ∙ is_above (pos l) (raw_top -ℤ tip) h

module _ (m : ModelContent) (t : Task) (raw_top : ℤ) (p : StepParts) where
  judged_tip : ¬ IsLength (lowest_tip p) → judged m t raw_top p ≡ Err (Frame (OutOfRange t.feature.placement))
  unfolding judged
  judged_tip h = bind_err _ _ (Frame (OutOfRange t.feature.placement)) (as_step_err _ _ (floor_refused (lowest_tip p) t.feature.placement h))

  judged_depth : IsLength (lowest_tip p) → p.top <ℤ p.floor → judged m t raw_top p ≡ Err (Depth t.names.feature)
  unfolding judged
  judged_depth tip h =
      bind_go _ _ (lowest_tip p) (within (lowest_tip p) t.feature.placement tip)
      ∙ bind_err _ _ (Depth t.names.feature) (refused_when _ _ (is_above p.top p.floor h))

  judged_outline : IsLength (lowest_tip p) → p.floor ≤ℤ p.top → is_bad_outline m t.feature.form ≡ true → judged m t raw_top p ≡ Err (BadOutline t.names.feature)
  unfolding judged
  judged_outline tip deep h =
      bind_go _ _ (lowest_tip p) (within (lowest_tip p) t.feature.placement tip)
      ∙ (bind_go _ _ tt (passed_when _ (Depth t.names.feature) (is_not_above p.top p.floor deep))
      ∙ bind_err _ _ (BadOutline t.names.feature) (refused_when _ _ h))

  judged_tool : IsLength (lowest_tip p) → p.floor ≤ℤ p.top → is_bad_outline m t.feature.form ≡ false → is_wrong_tool t.feature.form t.operation t.tool ≡ true → judged m t raw_top p ≡ Err (WrongTool t.ws)
  unfolding judged
  judged_tool tip deep good h =
      bind_go _ _ (lowest_tip p) (within (lowest_tip p) t.feature.placement tip)
      ∙ (bind_go _ _ tt (passed_when _ (Depth t.names.feature) (is_not_above p.top p.floor deep))
      ∙ (bind_go _ _ tt (passed_when _ (BadOutline t.names.feature) good)
      ∙ bind_err _ _ (WrongTool t.ws) (refused_when _ _ h)))

  judged_short : (l : ℕ) → IsLength (lowest_tip p) → p.floor ≤ℤ p.top → is_bad_outline m t.feature.form ≡ false → is_wrong_tool t.feature.form t.operation t.tool ≡ false → t.tool.length ≡ Some l → pos l <ℤ (raw_top -ℤ lowest_tip p) → judged m t raw_top p ≡ Err (ShortTool t.ws)
  unfolding judged
  judged_short l tip deep good right given h =
      bind_go _ _ (lowest_tip p) (within (lowest_tip p) t.feature.placement tip)
      ∙ (bind_go _ _ tt (passed_when _ (Depth t.names.feature) (is_not_above p.top p.floor deep))
      ∙ (bind_go _ _ tt (passed_when _ (BadOutline t.names.feature) good)
      ∙ (bind_go _ _ tt (passed_when _ (WrongTool t.ws) right)
      ∙ refused_when _ _ (too_short t.tool.length raw_top (lowest_tip p) l given h))))

refusals : (m : ModelContent) (w : Transform) (raw_top : ℤ) (t : Task) (placed : PlacedFeature) → placed_feature m w t.feature ≡ Ok placed → RefusalsInOrder m w raw_top t (parts_of m t placed)
refusals m w raw_top t placed stands =
    let p = parts_of m t placed in
    record {
      tip = λ h. later m w raw_top t placed stands (Frame (OutOfRange t.feature.placement)) (judged_tip m t raw_top p h);
      depth = λ tip h. later m w raw_top t placed stands (Depth t.names.feature) (judged_depth m t raw_top p tip h);
      outline = λ tip deep h. later m w raw_top t placed stands (BadOutline t.names.feature) (judged_outline m t raw_top p tip deep h);
      tool = λ tip deep good h. later m w raw_top t placed stands (WrongTool t.ws) (judged_tool m t raw_top p tip deep good h);
      short = λ l tip deep good right given h. later m w raw_top t placed stands (ShortTool t.ws) (judged_short m t raw_top p l tip deep good right given h);
    }

pub faults_in_order : FaultsInOrder
faults_in_order = (frame_faults, first_fault, refusals)
