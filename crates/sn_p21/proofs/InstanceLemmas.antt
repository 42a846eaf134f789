-- Instances by their numbers.
use Rattle.std.proofs.Common.{◌≡◌, ℕ, Bool, true, false, cond, ◌||◌, eqb, List, [], ◌∷◌, ◌++◌, Option, Some, None, is_some, refl, ap, ◌∙◌}
use Rattle.std.specs.Map.{lookup}
use Rattle.std.specs.Option.{option_copied}
use Rattle.std.specs.Borrow.{Bor}
use Rattle.sn_p21.specs.declared.file.Instance.{Instance}
use Rattle.sn_p21.specs.Numbers.{has_number, instance_of, instances_of, AreByNumber}

pub lookup_by_number : (n : ℕ) (es : List (ℕ × Instance)) → AreByNumber es → lookup (eqb n) es ≡ instance_of n (instances_of es)
lookup_by_number n [] h = refl
lookup_by_number n (e ∷ es) h =
    ap (λ k. cond (eqb n k) (Some e.1) (lookup (eqb n) es)) h.0 ∙ ap (λ r. cond (eqb n e.1.number) (Some e.1) r) (lookup_by_number n es h.1)

pub is_some_copied : {A : Type 0} → (o : Option (Bor A)) → is_some o ≡ is_some (option_copied o)
is_some_copied None = refl
is_some_copied (Some x) = refl

is_some_cond : (b : Bool) (i : Instance) (o : Option Instance) (r : Bool) → is_some o ≡ r → is_some (cond b (Some i) o) ≡ (b || r)
is_some_cond true i o r h = refl
is_some_cond false i o r h = h

pub has_instance : (n : ℕ) (is : List Instance) → is_some (instance_of n is) ≡ has_number n is
has_instance n [] = refl
has_instance n (i ∷ is) = is_some_cond (eqb n i.number) i (instance_of n is) (has_number n is) (has_instance n is)

none_from : (o : Option Instance) → is_some o ≡ false → o ≡ None
none_from None h = refl
none_from (Some x) h = cc

pub not_found : (n : ℕ) (es : List (ℕ × Instance)) → AreByNumber es → has_number n (instances_of es) ≡ false → lookup (eqb n) es ≡ None
not_found n es h none = lookup_by_number n es h ∙ none_from _ (has_instance n (instances_of es) ∙ none)

pub by_number_push : (es : List (ℕ × Instance)) (i : Instance) → AreByNumber es → AreByNumber (es ++ (i.number, i) ∷ [])
by_number_push [] i h = (refl, tt)
by_number_push (e ∷ es) i h = (h.0, by_number_push es i h.1)

pub instances_push : (es : List (ℕ × Instance)) (i : Instance) → instances_of (es ++ (i.number, i) ∷ []) ≡ instances_of es ++ i ∷ []
instances_push [] i = refl
instances_push (e ∷ es) i = ap (λ is. e.1 ∷ is) (instances_push es i)
