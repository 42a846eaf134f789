-- The parts of a step that is not refused are those of a proper step.
use Rattle.std.proofs.Common.{◌≡◌, ℕ, suc, ◌+◌, ◌*◌, ◌/◌, ◌≤◌, min, eqb, ltb, Bool, true, false, ◌||◌, ℤ, pos, List, [], ◌∷◌, length, map, Option, Some, None, IfSome, unwrap_or, Ok, refl, sym, ap, subst, arith}
use Rattle.std.specs.Prelude.{if◌then◌else◌, not, int_lt, ◌≤ℤ◌}
use Rattle.std.proofs.lemmas.Bool.Decides.{nat_tests}
use Rattle.std.proofs.lemmas.Int.{ints}
use Rattle.sn_geom.specs.declared.limits.TheConstants.{REACH, NO_DEPTH}
use Rattle.sn_geom.specs.declared.units.Pt.{Pt}
use Rattle.sn_model.specs.ModelContent.{ModelContent}
use Rattle.sn_frame.specs.declared.direction.Axis.{Axis}
use Rattle.sn_frame.specs.declared.direction.Axis.TheVariants as axis
use Rattle.sn_frame.specs.declared.direction.Direction.{Direction}
use Rattle.sn_frame.specs.Frame.{Transform}
use Rattle.sn_outline.specs.declared.job.Way.{Way}
use Rattle.sn_outline.specs.declared.job.Way.TheVariants as way
use Rattle.sn_outline.specs.declared.outline.Shape.{Shape}
use Rattle.sn_outline.specs.JobRule.{IsToolBody, IsRate, HasSize, IsShapeFor}
use Rattle.sn_feature.specs.declared.entities.Course.{Course}
use Rattle.sn_feature.specs.declared.entities.Course.TheVariants as course
use Rattle.sn_feature.specs.declared.entities.Cutter.{Cutter}
use Rattle.sn_feature.specs.declared.entities.Cutter.TheVariants.{Endmill, TwistDrill}
use Rattle.sn_feature.specs.declared.entities.Cutting.{Cutting}
use Rattle.sn_feature.specs.declared.entities.Cutting.TheVariants.{Plane, BottomAndSide, Drilling}
use Rattle.sn_feature.specs.declared.entities.Form.{Form}
use Rattle.sn_feature.specs.declared.entities.Form.TheVariants.{Face, Pocket, Slot, Hole}
use Rattle.sn_feature.specs.declared.entities.Operation.{Operation}
use Rattle.sn_feature.specs.declared.entities.Task.{Task}
use Rattle.sn_feature.specs.declared.entities.Tool.{Tool}
use Rattle.sn_feature.specs.declared.parts.PlacedFeature.{PlacedFeature}
use Rattle.sn_feature.specs.declared.sketch.Sketch.{Sketch}
use Rattle.sn_feature.specs.declared.sketch.Sketch.TheVariants.{Rectangle, Circle, Polygon, Trail}
use Rattle.sn_feature.specs.Entities.{listed, length_of, profile_length_of, course_of, feed_of, speed_of}
use Rattle.sn_feature.specs.Outline.{at, origin, plane_point, polyline, polyline_count, reach, straight, heading, trail, sketch_of, is_upward, is_bad_line, is_bad_course, is_bad_outline, placed_shape, between, put}
use Rattle.sn_feature.specs.Step.{placed_feature, judged, parts_of}
use Rattle.sn_feature.specs.StepRule.{AreProper}
use Rattle.sn_feature.specs.Targets.{LeadsTask, HasDiameter, IsSized}
use Rattle.sn_feature.specs.Tooling.{body_of, point_length, axial_depth, radial_depth, is_hole_of, is_slot_of, is_drilling, way_of, is_hole, is_for, can_cut, is_wrong_tool}
use Rattle.sn_feature.specs.declared.parts.StepParts.{StepParts}
use Rattle.sn_feature.proofs.Chains.{IsJudged, IsPlaced, judged_ok, placed_ok}

-- Bodies.

or_false_first : (a b : Bool) → (a || b) ≡ false → a ≡ false
or_false_first true b h = absurd cc
or_false_first false b h = refl

or_false_second : (a b : Bool) → (a || b) ≡ false → b ≡ false
or_false_second true b h = absurd cc
or_false_second false b h = h

body_by : (c : Cutter) (d e : ℕ) → 2 * e ≤ d → 2 * elim c [ Endmill ↦ e | TwistDrill ↦ (d + 1) / 2 ] ≤ d + 1
body_by Endmill d e h = omega arith
body_by TwistDrill d e h = omega arith

edge_fits : (f : Form) (o : Operation) (t : Tool) → is_wrong_tool f o t ≡ false → 2 * t.edge ≤ t.diameter
unfolding is_wrong_tool
edge_fits f o t h =
    let last : ltb t.diameter (2 * t.edge) ≡ false = or_false_second (not (is_for o.cutting f) || not (can_cut t.cutter o.cutting)) _ h in
    grind (arith, nat_tests, last)

tool_body : (t : Tool) → HasDiameter t → 2 * t.edge ≤ t.diameter → IsToolBody (body_of t)
unfolding body_of point_length
tool_body t limits fits = record { at_least = limits.at_least; at_most = limits.at_most; point = body_by t.cutter t.diameter t.edge fits }

-- Shapes.

map_length : (f : Transform) (ps : List Pt) → length (map (put f) ps) ≡ length ps
map_length f [] = refl
map_length f (p ∷ ps) = ap suc (map_length f ps)

sized : (f : Transform) (k : Sketch) → IsSized k → HasSize (placed_shape f k)
unfolding between
sized f (Rectangle a b) h = tt
sized f (Circle d) h = h
sized f (Polygon ps) h = tt
sized f (Trail ps width) h = h

-- A trail that is not bad has two points.

polyline_length : (m : ModelContent) (n : ℕ) → length (polyline m n) ≡ polyline_count m n
unfolding polyline polyline_count
polyline_length m n = points_length (listed m n 0) where
  points_length : (ns : List ℕ) → length (map (plane_point m) ns) ≡ length ns
  points_length [] = refl
  points_length (k ∷ ks) = ap suc (points_length ks)

straight_length : (d : Direction) (distance : ℕ) → is_upward d ≡ false → 2 ≤ length (straight d distance)
unfolding straight
straight_length d distance h = by_axis d.along h where
  by_axis : (a : Axis) → elim a [ axis.X ↦ false | axis.Y ↦ false | axis.Z ↦ true ] ≡ false → 2 ≤ length (elim a as (λ b. List Pt) [ axis.X ↦ origin ∷ at (reach d distance) (pos 0) ∷ [] | axis.Y ↦ origin ∷ at (pos 0) (reach d distance) ∷ [] | axis.Z ↦ [] ])
  by_axis axis.X h = omega arith
  by_axis axis.Y h = omega arith
  by_axis axis.Z h = absurd cc

trail_length : (m : ModelContent) (c : Course) → is_bad_course m c ≡ false → 2 ≤ length (trail m c)
unfolding is_bad_line
trail_length m (course.Linear c) h = straight_length (heading m c.direction) (length_of m c.distance) (or_false_second (eqb (length_of m c.distance) 0) _ h)
trail_length m (course.General n) h =
    let long : ltb (polyline_count m n) 2 ≡ false = or_false_first _ _ h in
    let same = polyline_length m n in
    grind (arith, nat_tests, long, same)

-- The way asks for the shape.

way_by : (drilled slotted : Bool) → Way
way_by drilled slotted = if drilled then way.Drill else (if slotted then way.Trail else way.Clear)

clear_only : (drilled : Bool) (w : ℕ) (s : Shape) → drilled ≡ false → IsShapeFor (if drilled then way.Drill else (if false then way.Trail else way.Clear)) w s
clear_only true w s h = absurd cc
clear_only false w s h = tt

on_circle : (drilled : Bool) (w d : ℕ) (f : Transform) → IsShapeFor (if drilled then way.Drill else (if false then way.Trail else way.Clear)) w (placed_shape f (Circle d))
on_circle true w d f = tt
on_circle false w d f = tt

on_trail : (drilled slotted : Bool) (w width : ℕ) (f : Transform) (ps : List Pt) → drilled ≡ false → (slotted ≡ true → w ≡ width) → 2 ≤ length ps → IsShapeFor (if drilled then way.Drill else (if slotted then way.Trail else way.Clear)) w (placed_shape f (Trail ps width))
on_trail true slotted w width f ps h k l = absurd cc
on_trail false true w width f ps h k l = (let same = map_length f ps in omega (arith, same), sym (k refl))
on_trail false false w width f ps h k l = tt

not_drilled : (f : Form) (o : Operation) (t : Tool) → is_wrong_tool f o t ≡ false → is_hole f ≡ false → is_drilling o.cutting ≡ false
unfolding is_wrong_tool
not_drilled f o t h hole = by_cutting o.cutting (or_false_first _ _ (or_false_first _ _ h)) where
  by_cutting : (k : Cutting) → not (is_for k f) ≡ false → is_drilling k ≡ false
  by_cutting Plane h = refl
  by_cutting BottomAndSide h = refl
  by_cutting Drilling h = absurd (let wrong : not (is_hole f) ≡ true = ap not hole in cc)

or_false : (b : Bool) → b ≡ false → (b || false) ≡ false
or_false b h = ap (λ x. x || false) h

shape_for : (m : ModelContent) (f : Form) (o : Operation) (t : Tool) (g : Transform) → is_bad_outline m f ≡ false → is_wrong_tool f o t ≡ false → IsShapeFor (way_of m f o t.diameter) (t.diameter + 2 * o.side) (placed_shape g (sketch_of m f))
unfolding way_of is_hole_of is_slot_of sketch_of is_bad_outline
shape_for m (Face f) o t g bad wrong = clear_only (is_drilling o.cutting || false) _ _ (or_false _ (not_drilled (Face f) o t wrong refl))
shape_for m (Pocket p) o t g bad wrong = clear_only (is_drilling o.cutting || false) _ _ (or_false _ (not_drilled (Pocket p) o t wrong refl))
shape_for m (Slot s) o t g bad wrong =
    on_trail (is_drilling o.cutting || false) (eqb (t.diameter + 2 * o.side) (profile_length_of m s.swept)) (t.diameter + 2 * o.side) (profile_length_of m s.swept) g (trail m (course_of m s.course))
    (or_false _ (not_drilled (Slot s) o t wrong refl)) (λ e. grind (arith, nat_tests, e)) (trail_length m (course_of m s.course) (or_false_second (eqb (profile_length_of m s.swept) 0) _ bad))
shape_for m (Hole h) o t g bad wrong = on_circle (is_drilling o.cutting || eqb (t.diameter + 2 * o.side) (length_of m h.diameter)) _ (length_of m h.diameter) g

-- Steps.

axial_least : (o : Option ℕ) → IfSome o (λ z. (1 ≤ z) × (z ≤ REACH)) → (1 ≤ unwrap_or o NO_DEPTH) × (unwrap_or o NO_DEPTH ≤ NO_DEPTH)
axial_least (Some z) h = (h.0, omega (arith, h.1))
axial_least None h = (omega arith, omega arith)

radial_most : (o : Option ℕ) (d : ℕ) → min (unwrap_or o (d / 2)) d ≤ d
radial_most o d = omega arith

below_top : (top floor : ℤ) → int_lt top floor ≡ false → floor ≤ℤ top
below_top top floor h = grind (arith, ints)

are_proper : (m : ModelContent) (t : Task) (raw_top : ℤ) (placed : PlacedFeature) → LeadsTask m t → IsSized (sketch_of m t.feature.form) → IsPlaced m t.feature placed → IsJudged m t raw_top (parts_of m t placed) → IsRate (feed_of m t.operation.technology) → IsRate (speed_of m t.operation.technology) → AreProper (parts_of m t placed)
unfolding parts_of axial_depth radial_depth body_of
are_proper m t raw_top placed leads size place judged feed speed tool corner h =
    let shape = place.shape in
    let fits = edge_fits t.feature.form t.operation t.tool judged.tool in
    let axial = axial_least t.operation.axial leads.operation.axial in
    record {
      numbered = omega (arith, leads.numbered);
      body = tool_body t.tool leads.diameter fits;
      allowances = record { side = leads.operation.side; under = leads.operation.under; corner = h };
      depths = record { axial_at_least = axial.0; axial_at_most = axial.1; radial = radial_most t.operation.radial t.tool.diameter };
      heights = record { top = place.top; floor = place.floor; tip = judged.tip; floor_below_top = below_top placed.top placed.floor judged.depth };
      rates = (feed, speed);
      size = subst HasSize (sym shape) (sized place.frame (sketch_of m t.feature.form) size);
      shape = subst (IsShapeFor (way_of m t.feature.form t.operation t.tool.diameter) (t.tool.diameter + 2 * t.operation.side)) (sym shape) (shape_for m t.feature.form t.operation t.tool place.frame judged.outline judged.tool);
    }

-- the same of a step's parts as its calls give them
pub step_is_proper : (m : ModelContent) (t : Task) (raw_top : ℤ) (w : Transform) (placed : PlacedFeature) (p : StepParts) (k : Sketch) (u : Unit {0}) → LeadsTask m t → k ≡ sketch_of m t.feature.form → IsSized k → Ok placed ≡ placed_feature m w t.feature → p ≡ parts_of m t placed → IsRate p.feed → IsRate p.speed → Ok u ≡ judged m t raw_top p → AreProper p
unfolding parts_of
step_is_proper m t raw_top w placed p k u leads sketched size at is feed speed told =
    subst AreProper (sym is) (are_proper m t raw_top placed leads (subst IsSized sketched size)
    (placed_ok m w t.feature placed (sym at))
    (subst (λ (q : StepParts). IsJudged m t raw_top q) is (judged_ok m t raw_top p u (sym told)))
    (subst (λ (q : StepParts). IsRate q.feed) is feed)
    (subst (λ (q : StepParts). IsRate q.speed) is speed))
