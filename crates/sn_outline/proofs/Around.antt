-- Ways around a polygon: from another first point, in the other direction, with a spike.
use Rattle.std.proofs.Common.{◌≡◌, ◌↔◌, ◌⊎◌, inl, inr, ℕ, ◌%◌, Bool, true, false, cond, ◌&&◌, ◌||◌, ℤ, pos, ◌-ℤ◌, int_le, int_lt, List, [], ◌∷◌, ◌++◌, reverse, refl, sym, ap, ◌∙◌, subst, arith}
use Rattle.std.proofs.lemmas.Int.{ints}
use Rattle.std.proofs.lemmas.List.{append-nil, reverse-append}
use Rattle.std.specs.List.{Any}
use Rattle.sn_geom.specs.declared.units.Pt.{Pt}
use Rattle.sn_geom.specs.declared.units.Seg.{Seg}
use Rattle.sn_geom.specs.Sweep.{Near}
use Rattle.sn_geom.proofs.Nearness.{near_either_way}
use Rattle.sn_outline.specs.Polygon.{path, end_of, edges, rises, falls, beside, crosses_right, crossings, InPolygon}
use Rattle.sn_outline.specs.PolygonLaws.{AnyPointIsFirst, EitherDirection, SpikeEnclosesNothing}
use Rattle.sn_outline.proofs.Counting.{count-cons}
use Rattle.sn_outline.proofs.Crossing.{beside-turned}
use Rattle.sn_outline.proofs.Paths.{IsNear, any_here, any_there, any_cases}
use Rattle.sn_outline.proofs.Alike.{IsAlike, same_list, alike_then, alike_one, alike_append, alike_swap, any_left, any_right, any_parts, count-append}

-- ---- paths in a row
pub path-append : (p : Pt) (xs ys : List Pt) → path p (xs ++ ys) ≡ path p xs ++ path (end_of p xs) ys
path-append p [] ys = refl
path-append p (q ∷ rest) ys = ap (λ es. (record { a = p; b = q }) ∷ es) (path-append q rest ys)

pub end_of-append : (p : Pt) (xs ys : List Pt) → end_of p (xs ++ ys) ≡ end_of (end_of p xs) ys
end_of-append p [] ys = refl
end_of-append p (q ∷ rest) ys = end_of-append q rest ys

pub edges-append : (front : List Pt) (a : Pt) (back : List Pt) → edges (front ++ a ∷ back) ≡ path (end_of a back) (front ++ a ∷ back)
edges-append [] a back = refl
edges-append (x ∷ front) a back = ap (λ p. path p (x ∷ (front ++ a ∷ back))) (end_of-append x front (a ∷ back))

-- ---- alike borders
pub alike_polygons : (xs ys : List Pt) (p : Pt) → IsAlike (crosses_right p) (IsNear 0 p) (edges xs) (edges ys) → InPolygon xs p ↔ InPolygon ys p
alike_polygons xs ys p alike = (
  λ inside. elim inside [ inl on ↦ inl (alike.to on) | inr odd ↦ inr (ap (λ n. n % 2) (sym alike.count) ∙ odd) ],
  λ inside. elim inside [ inl on ↦ inl (alike.from on) | inr odd ↦ inr (ap (λ n. n % 2) alike.count ∙ odd) ],
)

same_polygons : (xs ys : List Pt) (p : Pt) → xs ≡ ys → InPolygon xs p ↔ InPolygon ys p
same_polygons xs ys p e = subst (λ zs. InPolygon xs p ↔ InPolygon zs p) e (λ h. h, λ h. h)

-- ---- another first point
halves : (a : Pt) (front : List Pt) (b : Pt) (back : List Pt) →
    edges ((a ∷ front) ++ b ∷ back) ≡ path (end_of b back) (a ∷ front) ++ path (end_of a front) (b ∷ back)
halves a front b back = edges-append (a ∷ front) b back ∙ path-append (end_of b back) (a ∷ front) (b ∷ back)

pub any_point_is_first : AnyPointIsFirst
any_point_is_first [] back p = same_polygons back (back ++ []) p (sym (append-nil back))
any_point_is_first (a ∷ front) [] p = same_polygons ((a ∷ front) ++ []) (a ∷ front) p (append-nil (a ∷ front))
any_point_is_first (a ∷ front) (b ∷ back) p =
    let f = crosses_right p in
    let P = IsNear 0 p in
    let one = path (end_of b back) (a ∷ front) in
    let other = path (end_of a front) (b ∷ back) in
    alike_polygons ((a ∷ front) ++ b ∷ back) ((b ∷ back) ++ a ∷ front) p
    (alike_then f P _ _ _ (same_list f P _ (one ++ other) (halves a front b back))
    (alike_then f P _ _ _ (alike_swap f P one other) (same_list f P (other ++ one) _ (sym (halves b back a front)))))

-- ---- the other direction
and_comm : (a b : Bool) → (a && b) ≡ (b && a)
and_comm true true = refl
and_comm true false = refl
and_comm false true = refl
and_comm false false = refl

or_comm : (a b : Bool) → (a || b) ≡ (b || a)
or_comm true true = refl
or_comm true false = refl
or_comm false true = refl
or_comm false false = refl

negative : (z w : ℤ) → w ≡ pos 0 -ℤ z → int_lt (pos 0) w ≡ int_lt z (pos 0)
negative z w e = grind (arith, ints)

positive : (z w : ℤ) → w ≡ pos 0 -ℤ z → int_lt w (pos 0) ≡ int_lt (pos 0) z
positive z w e = grind (arith, ints)

pub crosses_right-turned : (p a b : Pt) → crosses_right p (record { a = b; b = a }) ≡ crosses_right p (record { a = a; b = b })
crosses_right-turned p a b =
    let e : Seg = record { a = a; b = b } in
    let turned : Seg = record { a = b; b = a } in
    let up : rises p.y turned ≡ falls p.y e = and_comm (int_le b.y p.y) (int_lt p.y a.y) in
    let down : falls p.y turned ≡ rises p.y e = and_comm (int_lt p.y b.y) (int_le a.y p.y) in
    let left = negative (beside p e) (beside p turned) (beside-turned p a b) in
    let right = positive (beside p e) (beside p turned) (beside-turned p a b) in
    ap (λ t. t && int_lt (pos 0) (beside p turned) || falls p.y turned && int_lt (beside p turned) (pos 0)) up ∙
    ap (λ t. falls p.y e && int_lt (pos 0) (beside p turned) || t && int_lt (beside p turned) (pos 0)) down ∙
    ap (λ t. falls p.y e && t || rises p.y e && int_lt (beside p turned) (pos 0)) left ∙
    ap (λ t. falls p.y e && int_lt (beside p e) (pos 0) || rises p.y e && t) right ∙
    or_comm (falls p.y e && int_lt (beside p e) (pos 0)) (rises p.y e && int_lt (pos 0) (beside p e))

turned_along : (q p r : Pt) (xs : List Pt) →
    IsAlike (crosses_right q) (IsNear 0 q) (path r (reverse xs ++ p ∷ [])) (path p xs ++ (record { a = end_of p xs; b = r }) ∷ [])
turned_along q p r [] = alike_one (crosses_right q) (IsNear 0 q) (record { a = r; b = p }) (record { a = p; b = r }) (crosses_right-turned q p r) (near_either_way 0 r p q)
turned_along q p r (x ∷ rest) =
    let f = crosses_right q in
    let P = IsNear 0 q in
    let backward = reverse rest ++ x ∷ [] in
    let last_edge : Seg = record { a = end_of x rest; b = r } in
    let first : Seg = record { a = p; b = x } in
    let first_turned : Seg = record { a = x; b = p } in
    let split : path r (reverse (x ∷ rest) ++ p ∷ []) ≡ path r backward ++ first_turned ∷ [] =
    ap (λ zs. path r (zs ++ p ∷ [])) (reverse-append (x ∷ []) rest) ∙
    path-append r backward (p ∷ []) ∙
    ap (λ z. path r backward ++ (record { a = z; b = p }) ∷ []) (end_of-append r (reverse rest) (x ∷ [])) in
    alike_then f P _ _ _ (same_list f P _ _ split)
    (alike_then f P _ _ _
    (alike_append f P (path r backward) (path x rest ++ last_edge ∷ []) (first_turned ∷ []) (first ∷ []) (turned_along q x r rest)
    (alike_one f P first_turned first (crosses_right-turned q p x) (near_either_way 0 x p q)))
    (alike_swap f P (path x rest ++ last_edge ∷ []) (first ∷ [])))

pub either_direction : EitherDirection
either_direction [] p = (λ h. h, λ h. h)
either_direction (a ∷ rest) p =
    let f = crosses_right p in
    let P = IsNear 0 p in
    let closing : Seg = record { a = end_of a rest; b = a } in
    let split : edges (reverse (a ∷ rest)) ≡ path a (reverse rest ++ a ∷ []) =
    ap edges (reverse-append (a ∷ []) rest) ∙ edges-append (reverse rest) a [] in
    alike_polygons (reverse (a ∷ rest)) (a ∷ rest) p
    (alike_then f P _ _ _ (same_list f P _ _ split)
    (alike_then f P _ _ _ (turned_along p a a rest) (alike_swap f P (path a rest) (closing ∷ []))))

-- ---- a spike
module _ (front back : List Pt) (a b p : Pt) where
  abbrev last : Pt
  last = end_of a back

  abbrev before : List Seg
  before = path last front

  abbrev into : Seg
  into = record { a = end_of last front; b = a }

  abbrev there : Seg
  there = record { a = a; b = b }

  abbrev back_again : Seg
  back_again = record { a = b; b = a }

  abbrev after : List Seg
  after = path a back

  with_spike : edges (front ++ a ∷ b ∷ a ∷ back) ≡ before ++ into ∷ there ∷ back_again ∷ after
  with_spike = edges-append front a (b ∷ a ∷ back) ∙ path-append last front (a ∷ b ∷ a ∷ back)

  without_spike : edges (front ++ a ∷ back) ≡ before ++ into ∷ after
  without_spike = edges-append front a back ∙ path-append last front (a ∷ back)

  abbrev f : Seg → Bool
  f = crosses_right p

  abbrev P : Seg → Type 0
  P = IsNear 0 p

  same_parity : crossings p (edges (front ++ a ∷ b ∷ a ∷ back)) % 2 ≡ crossings p (edges (front ++ a ∷ back)) % 2
  same_parity =
      let twice : cond {A = ℕ} (f back_again) 1 0 ≡ cond {A = ℕ} (f there) 1 0 = ap {B = ℕ} (λ t. cond t 1 0) (crosses_right-turned p a b) in
      let long = ap (crossings p) with_spike ∙ count-append f before (into ∷ there ∷ back_again ∷ after) in
      let short = ap (crossings p) without_spike ∙ count-append f before (into ∷ after) in
      let c = count-cons f into (there ∷ back_again ∷ after) in
      let d = count-cons f there (back_again ∷ after) in
      let e = count-cons f back_again after in
      let g = count-cons f into after in
      omega arith

  on_spike : Any P (before ++ into ∷ there ∷ back_again ∷ after) → Near 0 a b p ⊎ Any P (before ++ into ∷ after)
  on_spike some =
      elim (any_parts P before (into ∷ there ∷ back_again ∷ after) some) [
        | inl left ↦ inr (any_left P before (into ∷ after) left)
        | inr right ↦ elim (any_cases P into (there ∷ back_again ∷ after) right) [
          | inl here ↦ inr (any_right P before (into ∷ after) (any_here P into after here))
          | inr more ↦ elim (any_cases P there (back_again ∷ after) more) [
            | inl here ↦ inl here
            | inr more ↦ elim (any_cases P back_again after more) [
              | inl here ↦ inl ((near_either_way 0 a b p).1 here)
              | inr more ↦ inr (any_right P before (into ∷ after) (any_there P into after more))
            ]
          ]
        ]
      ]

  still_on : Any P (before ++ into ∷ after) → Any P (before ++ into ∷ there ∷ back_again ∷ after)
  still_on some =
      elim (any_parts P before (into ∷ after) some) [
        | inl left ↦ any_left P before (into ∷ there ∷ back_again ∷ after) left
        | inr right ↦ any_right P before (into ∷ there ∷ back_again ∷ after) (elim (any_cases P into after right) [
          | inl here ↦ any_here P into (there ∷ back_again ∷ after) here
          | inr more ↦ any_there P into (there ∷ back_again ∷ after) (any_there P there (back_again ∷ after) (any_there P back_again after more))
        ])
      ]

  spike_on : Near 0 a b p → Any P (before ++ into ∷ there ∷ back_again ∷ after)
  spike_on near = any_right P before (into ∷ there ∷ back_again ∷ after) (any_there P into (there ∷ back_again ∷ after) (any_here P there (back_again ∷ after) near))

  pub one_spike : InPolygon (front ++ a ∷ b ∷ a ∷ back) p ↔ (Near 0 a b p ⊎ InPolygon (front ++ a ∷ back) p)
  one_spike = (
    λ inside. elim inside [
      | inl on ↦ elim (on_spike (subst (Any P) with_spike on)) [ inl near ↦ inl near | inr off ↦ inr (inl (subst (Any P) (sym without_spike) off)) ]
      | inr odd ↦ inr (inr (sym same_parity ∙ odd))
    ],
    λ either. elim either [
      | inl near ↦ inl (subst (Any P) (sym with_spike) (spike_on near))
      | inr inside ↦ elim inside [
        | inl on ↦ inl (subst (Any P) (sym with_spike) (still_on (subst (Any P) without_spike on)))
        | inr odd ↦ inr (same_parity ∙ odd)
      ]
    ],
  )

pub spike_encloses_nothing : SpikeEnclosesNothing
spike_encloses_nothing front back a b p = one_spike front back a b p
