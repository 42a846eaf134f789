-- Laws of the workpiece, the raw box and the security height.
use Rattle.std.proofs.Common.{◌≡◌, ◌≢◌, ◌⊎◌, ◌↔◌, refl, sym, ◌∙◌, ap, inl, inr, ℕ, suc, ℤ, pos, ◌+ℤ◌, ◌*ℤ◌, ◌≤ℤ◌, Bool, true, false, IsTrue, List, [], ◌∷◌, ◌++◌, Option, Some, None, arith}
use Rattle.std.specs.Prelude.{Result, Ok, nat_eq, unwrap_or, if◌then◌else◌}
use Rattle.std.specs.Int.{int_min, int_max}
use Rattle.std.specs.List.{All, Contains, find, fold, reduce}
use Rattle.std.specs.Option.{option_map, option_or, option_and_then}
use Rattle.std.proofs.lemmas.Grind.{common_steps}
use Rattle.std.proofs.lemmas.Int.{ints, int_max_is, int_min_is, fold-int_max_bounds, fold-int_max_reached}
use Rattle.std.proofs.lemmas.List.Elements.{All-nil, All-cons, All-head, All-tail}
use Rattle.sn_geom.specs.declared.units.Pt3.{Pt3}
use Rattle.sn_geom.proofs.Ring.{sums, expand}
use Rattle.sn_model.specs.ModelContent.{ModelContent}
use Rattle.sn_refs.specs.Reference.{names_block}
use Rattle.sn_frame.specs.declared.frame.FrameFault.{FrameFault}
use Rattle.sn_frame.specs.Matrix.{Vector, dot_product, row_x, row_y, row_z, IsSignedUnit}
use Rattle.sn_frame.specs.Frame.{Transform, applied, vector_of, identity}
use Rattle.sn_walk.specs.Node.{main_setup}
use Rattle.sn_feature.specs.Entities.{named, named_if}
use Rattle.sn_flow.specs.Setup.{workpiece_of, listed_of, workpiece_setup_of, placement_or_identity, workpiece_frame, block_if, block_of, security_heights}
use Rattle.sn_flow.specs.SetupLaws.{FirstNamingTells, UnnamedStandsAtOrigin, BoundedByBlock, RawpieceFirst, OwnBlockElse, IsBetween, zero as origin, BlockInBox, GreatestOrRawTop}
use Rattle.sn_flow.proofs.BoxLemmas.{HoldsOfUnits, of_unit, minus_one}

-- Findings.

differs : (a b : ℕ) → a ≢ b → nat_eq a b ≡ false
differs a b h = grind (arith, common_steps)

equals : (a b : ℕ) → a ≡ b → nat_eq a b ≡ true
equals a b h = grind (arith, common_steps)

found : (f : ℕ → ℕ) (w : ℕ) (before : List ℕ) (s : ℕ) (after : List ℕ) → All (λ n. f n ≢ w) before → f s ≡ w → find (λ n. nat_eq (f n) w) (before ++ s ∷ after) ≡ Some s
found f w [] s after all is = rw (equals (f s) w is) refl
found f w (x ∷ before) s after all is = rw (differs (f x) w (All-head (λ n. f n ≢ w) x before all)) (found f w before s after (All-tail (λ n. f n ≢ w) x before all) is)

not_found : (f : ℕ → ℕ) (w : ℕ) (ns : List ℕ) → All (λ n. f n ≢ w) ns → find (λ n. nat_eq (f n) w) ns ≡ None
not_found f w [] all = refl
not_found f w (x ∷ ns) all = rw (differs (f x) w (All-head (λ n. f n ≢ w) x ns all)) (not_found f w ns (All-tail (λ n. f n ≢ w) x ns all))

by_workpiece : ModelContent → Option ℕ → Result Transform FrameFault
by_workpiece m o = placement_or_identity m (option_map (λ n. named m n 1) (option_and_then (workpiece_setup_of m) o))

by_setting : ModelContent → Option ℕ → Result Transform FrameFault
by_setting m o = placement_or_identity m (option_map (λ n. named m n 1) o)

set_up : (m : ModelContent) (w : ℕ) (ns : List ℕ) (o : Option ℕ) → workpiece_of m ≡ Some w → listed_of m (main_setup m) 1 ≡ ns → find (λ n. nat_eq (named m n 0) w) ns ≡ o → workpiece_frame m ≡ by_setting m o
unfolding by_workpiece by_setting
set_up m w ns o named_first list is =
    ap (by_workpiece m) named_first ∙ ap (λ (ks : List ℕ). by_setting m (find (λ n. nat_eq (named m n 0) w) ks)) list ∙ ap (by_setting m) is

pub first_naming_tells : FirstNamingTells
unfolding by_setting
first_naming_tells m w s before after named_first list others is =
    set_up m w (before ++ s ∷ after) (Some s) named_first list (found (λ n. named m n 0) w before s after others is)

unnamed : (m : ModelContent) (o : Option ℕ) → workpiece_of m ≡ o → ((w : ℕ) → o ≡ Some w → All (λ n. named m n 0 ≢ w) (listed_of m (main_setup m) 1)) → workpiece_frame m ≡ Ok identity
unfolding by_workpiece by_setting
unnamed m None e h = ap (by_workpiece m) e
unnamed m (Some w) e h = set_up m w (listed_of m (main_setup m) 1) None e refl (not_found (λ n. named m n 0) w (listed_of m (main_setup m) 1) (h w refl))

pub unnamed_stands : UnnamedStandsAtOrigin
unnamed_stands m h = unnamed m (workpiece_of m) refl h

-- Blocks.

some_is : {a b : ℕ} → Some a ≡ Some b → a ≡ b
some_is e = cc

chosen : (m : ModelContent) (n b : ℕ) (t : Bool) → names_block n m ≡ t → ((if t then Some n else None) ≡ Some b) ↔ ((Some n ≡ Some b) × IsTrue (names_block b m))
chosen m n b true e = (λ h. (h, ap (λ k. names_block k m) (sym (some_is h)) ∙ e), λ h. h.0)
chosen m n b false e = (λ h. absurd (cc), λ h. absurd (let t = sym e ∙ ap (λ k. names_block k m) (some_is h.0) ∙ h.1 in cc))

bounded : (m : ModelContent) (o : Option ℕ) (b : ℕ) → (block_if m o ≡ Some b) ↔ ((o ≡ Some b) × IsTrue (names_block b m))
bounded m None b = (λ h. absurd (cc), λ h. absurd (let e = h.0 in cc))
bounded m (Some n) b = chosen m n b (names_block n m) refl

pub bounded_by_block : BoundedByBlock
bounded_by_block m w b = bounded m (named_if m w 1) b

pub rawpiece_first : RawpieceFirst
rawpiece_first m w r b e f = ap (λ (o : Option ℕ). option_or (option_and_then (block_of m) o) (block_of m w)) e ∙ ap (λ (o : Option ℕ). option_or o (block_of m w)) f

own : (m : ModelContent) (w : ℕ) (o : Option ℕ) → ((r : ℕ) → o ≡ Some r → block_of m r ≡ None) → option_or (option_and_then (block_of m) o) (block_of m w) ≡ block_of m w
own m w None h = refl
own m w (Some r) h = ap (λ (o : Option ℕ). option_or o (block_of m w)) (h r refl)

pub own_block_else : OwnBlockElse
own_block_else m w h = own m w (named_if m w 0) h

-- Heights.

bounds : (zs : List ℤ) (top : ℤ) → All (λ z. z ≤ℤ unwrap_or (reduce int_max zs) top) zs
bounds [] top = All-nil (λ z. z ≤ℤ top)
bounds (z ∷ zs) top =
    let (first, others) = fold-int_max_bounds z zs (fold int_max z zs) refl in
    All-cons (λ x. x ≤ℤ fold int_max z zs) z zs first others

one_of : (zs : List ℤ) (top : ℤ) → zs ≢ [] → Contains zs (unwrap_or (reduce int_max zs) top)
one_of [] top h = absurd (h refl)
one_of (z ∷ zs) top h = elim (fold-int_max_reached z zs (fold int_max z zs) refl) [
  | inl is ↦ (0, omega arith, sym is)
  | inr (k, within, is) ↦ (suc k, omega arith, is)
]

pub greatest_or_raw_top : GreatestOrRawTop
greatest_or_raw_top = record {
  bound = λ m steps raw_top. bounds (security_heights m steps) raw_top;
  reached = λ m steps raw_top some. one_of (security_heights m steps) raw_top some;
  none = λ m steps raw_top is. ap (λ (zs : List ℤ). unwrap_or (reduce int_max zs) raw_top) is;
}

-- Points of a block.

abbrev IsSpan : ℤ → ℤ → Type 0
IsSpan v d = ((pos 0 ≤ℤ v) × (v ≤ℤ d)) ⊎ ((d ≤ℤ v) × (v ≤ℤ pos 0))

spans : (px py pz fx fy fz : ℤ) → pos 0 ≤ℤ px → px ≤ℤ fx → pos 0 ≤ℤ py → py ≤ℤ fy → pos 0 ≤ℤ pz → pz ≤ℤ fz
    → HoldsOfUnits (λ a b c. IsSpan (a *ℤ px +ℤ b *ℤ py +ℤ c *ℤ pz) (a *ℤ fx +ℤ b *ℤ fy +ℤ c *ℤ fz))
spans px py pz fx fy fz h i j k l n = record {
  plus_x = inl (simp expand (omega (arith, sums)), simp expand (omega (arith, sums)));
  minus_x = inr (simp (minus_one, expand) (omega (arith, sums)), simp (minus_one, expand) (omega (arith, sums)));
  plus_y = inl (simp expand (omega (arith, sums)), simp expand (omega (arith, sums)));
  minus_y = inr (simp (minus_one, expand) (omega (arith, sums)), simp (minus_one, expand) (omega (arith, sums)));
  plus_z = inl (simp expand (omega (arith, sums)), simp expand (omega (arith, sums)));
  minus_z = inr (simp (minus_one, expand) (omega (arith, sums)), simp (minus_one, expand) (omega (arith, sums)));
}

between : (s d v : ℤ) → IsSpan v d → (int_min s (d +ℤ s) ≤ℤ (v +ℤ s)) × ((v +ℤ s) ≤ℤ int_max s (d +ℤ s))
between s d v (inl (low, high)) = (omega (arith, ints, int_min_is), omega (arith, ints, int_max_is))
between s d v (inr (low, high)) = (omega (arith, ints, int_min_is), omega (arith, ints, int_max_is))

row_between : (r : Vector) (far p : Pt3) (s : ℤ) → IsSignedUnit r → IsBetween origin far p
    → (int_min s (dot_product r (vector_of far) +ℤ s) ≤ℤ (dot_product r (vector_of p) +ℤ s)) × ((dot_product r (vector_of p) +ℤ s) ≤ℤ int_max s (dot_product r (vector_of far) +ℤ s))
row_between r far p s unit inside =
    between s (dot_product r (vector_of far)) (dot_product r (vector_of p))
    (of_unit (λ a b c. IsSpan (a *ℤ p.x +ℤ b *ℤ p.y +ℤ c *ℤ p.z) (a *ℤ far.x +ℤ b *ℤ far.y +ℤ c *ℤ far.z))
    (spans p.x p.y p.z far.x far.y far.z inside.x.0 inside.x.1 inside.y.0 inside.y.1 inside.z.0 inside.z.1) r.x r.y r.z unit)

pub block_in_box : BlockInBox
unfolding applied
block_in_box f far p turn inside = record {
  x = row_between (row_x f.matrix) far p f.shift.x turn.row_x inside;
  y = row_between (row_y f.matrix) far p f.shift.y turn.row_y inside;
  z = row_between (row_z f.matrix) far p f.shift.z turn.row_z inside;
}
