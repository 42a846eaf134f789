-- What follows where a chain of refusals ends with a value.
use Rattle.std.proofs.Common.{◌≡◌, ℕ, Bool, true, false, leb, ℤ, ◌+ℤ◌, unsigned_abs, [], Result, Ok, Err, refl, sym, ap, ◌∙◌, subst, arith}
use Rattle.std.specs.Prelude.{if◌then◌else◌, int_lt}
use Rattle.std.specs.List.{list_all}
use Rattle.std.proofs.lemmas.Bool.Decides.{nat_tests}
use Rattle.sn_geom.specs.declared.limits.TheConstants.{REACH}
use Rattle.sn_geom.specs.Length.{IsLength}
use Rattle.sn_model.specs.ModelContent.{ModelContent}
use Rattle.sn_frame.specs.declared.frame.FrameFault.{FrameFault}
use Rattle.sn_frame.specs.Frame.{Transform, composed, is_in_range, is_upright}
use Rattle.sn_feature.specs.declared.entities.Feature.{Feature}
use Rattle.sn_feature.specs.declared.entities.Task.{Task}
use Rattle.sn_feature.specs.declared.parts.PlacedFeature.{PlacedFeature}
use Rattle.sn_feature.specs.declared.parts.StepParts.{StepParts}
use Rattle.sn_feature.specs.declared.site.Site.{Site}
use Rattle.sn_feature.specs.declared.sketch.Sketch.{Sketch}
use Rattle.sn_outline.specs.declared.outline.Shape.{Shape}
use Rattle.sn_feature.specs.Outline.{sketch_of, is_bad_outline, lands_in_range, outline_points, placed_shape, shape_at, straight_path, site_of, outline_site}
use Rattle.sn_feature.specs.Placement.{placement_of, composed_at, upright_at, upright_frame, plane_height}
use Rattle.sn_feature.specs.Refusal.{◌>>=◌, refused_where, length_in_range, as_step_fault}
use Rattle.sn_feature.specs.Step.{placed_feature, parts_of, lowest_tip, judged, step_by}
use Rattle.sn_feature.specs.Tooling.{is_wrong_tool, is_short_tool}

pub bind_ok : {A B E : Type 0} (r : Result A E) (k : A → Result B E) (y : B) → (r >>= k) ≡ Ok y → (x : A) × (r ≡ Ok x) × (k x ≡ Ok y)
bind_ok (Ok x) k y h = (x, refl, h)
bind_ok (Err e) k y h = absurd cc

pub as_step_ok : {A : Type 0} (r : Result A FrameFault) (x : A) → as_step_fault r ≡ Ok x → r ≡ Ok x
as_step_ok (Ok y) x h = cc
as_step_ok (Err e) x h = absurd cc

pub refused_ok : {E : Type 0} (b : Bool) (e : E) (u : Unit {0}) → refused_where b e ≡ Ok u → b ≡ false
refused_ok true e u h = absurd cc
refused_ok false e u h = refl

within_ok : (b : Bool) (z x : ℤ) (e : FrameFault) → (if b then Ok z else Err e) ≡ Ok x → (b ≡ true) × (z ≡ x)
within_ok true z x e h = (refl, cc)
within_ok false z x e h = absurd cc

pub in_range_ok : (z : ℤ) (n : ℕ) (x : ℤ) → length_in_range z n ≡ Ok x → IsLength z × (z ≡ x)
in_range_ok z n x h = let p = within_ok (leb (unsigned_abs z) REACH) z x _ h in (grind (arith, nat_tests, p.0), p.1)

-- What the chain of a workingstep's tool and heights tells.
pub record IsJudged (m : ModelContent) (t : Task) (raw_top : ℤ) (p : StepParts) : Type 0 where
  pub tip : IsLength (lowest_tip p)
  pub depth : int_lt p.top p.floor ≡ false
  pub outline : is_bad_outline m t.feature.form ≡ false
  pub tool : is_wrong_tool t.feature.form t.operation t.tool ≡ false
  pub short : is_short_tool t.tool.length raw_top (lowest_tip p) ≡ false

pub judged_ok : (m : ModelContent) (t : Task) (raw_top : ℤ) (p : StepParts) (u : Unit {0}) → judged m t raw_top p ≡ Ok u → IsJudged m t raw_top p
unfolding judged
judged_ok m t raw_top p u h =
    let first = bind_ok (as_step_fault (length_in_range (lowest_tip p) t.feature.placement)) _ u h in
    let tip = in_range_ok (lowest_tip p) t.feature.placement first.0 (as_step_ok _ first.0 first.1) in
    let second = bind_ok (refused_where (int_lt p.top p.floor) _) _ u first.2 in
    let third = bind_ok (refused_where (is_bad_outline m t.feature.form) _) _ u second.2 in
    let fourth = bind_ok (refused_where (is_wrong_tool t.feature.form t.operation t.tool) _) _ u third.2 in
    let fifth = refused_ok (is_short_tool t.tool.length raw_top first.0) _ u fourth.2 in
    record {
      tip = tip.0;
      depth = refused_ok _ _ second.0 second.1;
      outline = refused_ok _ _ third.0 third.1;
      tool = refused_ok _ _ fourth.0 fourth.1;
      short = ap (is_short_tool t.tool.length raw_top) tip.1 ∙ fifth;
    }

-- Where the feature is.
pub record IsPlaced (m : ModelContent) (f : Feature) (placed : PlacedFeature) : Type 0 where
  pub top : IsLength placed.top
  pub floor : IsLength placed.floor
  pub depth : placed.floor ≡ (placed.top +ℤ plane_height m f.depth)
  pub frame : Transform
  pub shape : placed.outline.shape ≡ placed_shape frame (sketch_of m f.form)

composed_ok : (b : Bool) (f g : Transform) (e : FrameFault) → (if b then Ok f else Err e) ≡ Ok g → (b ≡ true) × (f ≡ g)
composed_ok true f g e h = (refl, cc)
composed_ok false f g e h = absurd cc

shape_if_ok : (b : Bool) (x y : Shape) (e : FrameFault) → (if b then Ok x else Err e) ≡ Ok y → x ≡ y
shape_if_ok true x y e h = cc
shape_if_ok false x y e h = absurd cc

height_in_range : (f : Transform) → is_in_range f.shift ≡ true → IsLength f.shift.z
unfolding is_in_range
height_in_range f h = grind (arith, nat_tests, h)

upright_ok : (m : ModelContent) (outer : Transform) (n : ℕ) (f : Transform) → upright_frame m outer n ≡ Ok f → IsLength f.shift.z
unfolding upright_frame composed_at upright_at
upright_ok m outer n f h =
    let first = bind_ok (placement_of m n) _ f h in
    let second = bind_ok (composed_at outer n first.0) _ f first.2 in
    let made = composed_ok (is_in_range (composed outer first.0).shift) (composed outer first.0) second.0 _ second.1 in
    let kept = composed_ok (is_upright second.0) second.0 f _ second.2 in
    let same : composed outer first.0 ≡ f = made.1 ∙ kept.1 in
    subst (λ (g : Transform). IsLength g.shift.z) same (height_in_range (composed outer first.0) made.0)

shape_ok : (s : Site) (k : Sketch) (x : Shape) → shape_at s k ≡ Ok x → x ≡ placed_shape s.frame k
unfolding shape_at
shape_ok s k x h = sym (shape_if_ok (list_all (lands_in_range s.frame) (outline_points k)) (placed_shape s.frame k) x _ h)

pub placed_ok : (m : ModelContent) (w : Transform) (f : Feature) (placed : PlacedFeature) → placed_feature m w f ≡ Ok placed → IsPlaced m f placed
unfolding placed_feature
placed_ok m w f placed h =
    let first = bind_ok (upright_frame m w f.placement) _ placed h in
    let second = bind_ok (straight_path m f.form) _ placed first.2 in
    let third = bind_ok (outline_site m (site_of first.0 f.placement) f.form) _ placed second.2 in
    let fourth = bind_ok (shape_at third.0 (sketch_of m f.form)) _ placed third.2 in
    let fifth = bind_ok (length_in_range (first.0.shift.z +ℤ plane_height m f.depth) f.placement) _ placed fourth.2 in
    let floor = in_range_ok (first.0.shift.z +ℤ plane_height m f.depth) f.placement fifth.0 fifth.1 in
    let made : record { top = first.0.shift.z; floor = fifth.0; outline = record { shape = fourth.0; islands = [] } } ≡ placed = cc (fifth.2) in
    subst (IsPlaced m f) made (record {
      top = upright_ok m w f.placement first.0 first.1;
      floor = subst IsLength floor.1 floor.0;
      depth = sym floor.1;
      frame = third.0.frame;
      shape = shape_ok third.0 (sketch_of m f.form) fourth.0 fourth.1;
    })

-- What a step is made of.
pub record IsMade (m : ModelContent) (w : Transform) (raw_top : ℤ) (t : Task) (p : StepParts) : Type 0 where
  pub placed : PlacedFeature
  pub stands : placed_feature m w t.feature ≡ Ok placed
  pub parts : parts_of m t placed ≡ p
  pub judged : IsJudged m t raw_top p

pub step_ok : (m : ModelContent) (w : Transform) (raw_top : ℤ) (t : Task) (p : StepParts) → step_by m w raw_top t ≡ Ok p → IsMade m w raw_top t p
unfolding step_by
step_ok m w raw_top t p h =
    let first = bind_ok (as_step_fault (placed_feature m w t.feature)) _ p h in
    let second = bind_ok (judged m t raw_top (parts_of m t first.0)) _ p first.2 in
    let is : parts_of m t first.0 ≡ p = cc (second.2) in
    record {
      placed = first.0;
      stands = as_step_ok _ first.0 first.1;
      parts = is;
      judged = subst (λ (q : StepParts). IsJudged m t raw_top q) is (judged_ok m t raw_top (parts_of m t first.0) second.0 second.1);
    }
