-- Lists of edges in which as many pass a test, and which have a property in common.
use Rattle.std.proofs.Common.{◌≡◌, ◌↔◌, ◌⊎◌, inl, inr, ◌+◌, Bool, cond, List, [], ◌∷◌, ◌++◌, refl, sym, ap, ◌∙◌, subst, arith}
use Rattle.std.proofs.lemmas.List.Sums.{sum_by-append}
use Rattle.std.specs.List.{Any, count_by}
use Rattle.sn_geom.specs.declared.units.Seg.{Seg}
use Rattle.sn_outline.proofs.Counting.{count-cons}
use Rattle.sn_outline.proofs.Paths.{any_here, any_there, any_cases, any_none}

-- ---- some element of two lists in a row
module _ {X : Type 0} (P : X → Type 0) where
  pub any_left : (xs ys : List X) → Any P xs → Any P (xs ++ ys)
  any_left [] ys some = absurd (any_none P some)
  any_left (x ∷ xs) ys some =
      elim (any_cases P x xs some) [ inl here ↦ any_here P x (xs ++ ys) here | inr later ↦ any_there P x (xs ++ ys) (any_left xs ys later) ]

  pub any_right : (xs ys : List X) → Any P ys → Any P (xs ++ ys)
  any_right [] ys some = some
  any_right (x ∷ xs) ys some = any_there P x (xs ++ ys) (any_right xs ys some)

  pub any_parts : (xs ys : List X) → Any P (xs ++ ys) → Any P xs ⊎ Any P ys
  any_parts [] ys some = inr some
  any_parts (x ∷ xs) ys some =
      elim (any_cases P x (xs ++ ys) some) [
        | inl here ↦ inl (any_here P x xs here)
        | inr later ↦ elim (any_parts xs ys later) [ inl left ↦ inl (any_there P x xs left) | inr right ↦ inr right ]
      ]

pub count-append : {X : Type 0} (f : X → Bool) (xs ys : List X) → count_by f (xs ++ ys) ≡ count_by f xs + count_by f ys
count-append f xs ys = sum_by-append (λ x. cond (f x) 1 0) xs ys

-- ---- alike lists
pub record IsAlike (f : Seg → Bool) (P : Seg → Type 0) (es fs : List Seg) : Type 0 where
  pub count : count_by f es ≡ count_by f fs
  pub to : Any P es → Any P fs
  pub from : Any P fs → Any P es

module _ (f : Seg → Bool) (P : Seg → Type 0) where
  pub itself : (es : List Seg) → IsAlike f P es es
  itself es = record { count = refl; to = λ some. some; from = λ some. some }

  pub same_list : (es fs : List Seg) → es ≡ fs → IsAlike f P es fs
  same_list es fs e = subst (IsAlike f P es) e (itself es)

  pub alike_then : (es fs gs : List Seg) → IsAlike f P es fs → IsAlike f P fs gs → IsAlike f P es gs
  alike_then es fs gs a b = record { count = a.count ∙ b.count; to = λ some. b.to (a.to some); from = λ some. a.from (b.from some) }

  pub alike_one : (e g : Seg) → f e ≡ f g → P e ↔ P g → IsAlike f P (e ∷ []) (g ∷ [])
  alike_one e g same_test same = record {
    count = count-cons f e [] ∙ ap (λ b. cond b 1 0 + count_by f []) same_test ∙ sym (count-cons f g []);
    to = λ some. elim (any_cases P e [] some) [ inl here ↦ any_here P g [] (same.0 here) | inr later ↦ absurd (any_none P later) ];
    from = λ some. elim (any_cases P g [] some) [ inl here ↦ any_here P e [] (same.1 here) | inr later ↦ absurd (any_none P later) ];
  }

  pub alike_append : (es fs gs hs : List Seg) → IsAlike f P es fs → IsAlike f P gs hs → IsAlike f P (es ++ gs) (fs ++ hs)
  alike_append es fs gs hs a b = record {
    count = count-append f es gs ∙ (let left = a.count in let right = b.count in let sum : count_by f es + count_by f gs ≡ count_by f fs + count_by f hs = omega arith in sum) ∙ sym (count-append f fs hs);
    to = λ some. elim (any_parts P es gs some) [ inl left ↦ any_left P fs hs (a.to left) | inr right ↦ any_right P fs hs (b.to right) ];
    from = λ some. elim (any_parts P fs hs some) [ inl left ↦ any_left P es gs (a.from left) | inr right ↦ any_right P es gs (b.from right) ];
  }

  pub alike_swap : (es fs : List Seg) → IsAlike f P (es ++ fs) (fs ++ es)
  alike_swap es fs = record {
    count = omega (arith, count-append f es fs, count-append f fs es);
    to = λ some. elim (any_parts P es fs some) [ inl left ↦ any_right P fs es left | inr right ↦ any_left P fs es right ];
    from = λ some. elim (any_parts P fs es some) [ inl left ↦ any_right P es fs left | inr right ↦ any_left P es fs right ];
  }
