-- The features that are still to be drawn.
use Rattle.std.proofs.Common.{ℕ, ◌≡◌, ◌+◌, ◌-◌, ◌<◌, ◌≤◌, List, [], ◌∷◌, ◌++◌, suc, refl, sym, ap, ◌∙◌, append_assoc, append-nil, arith}
use Rattle.sn_report.specs.declared.feature.Feature.{Feature}
use Rattle.sn_report.specs.Generated.{draw_feature, draw_features}

drawn_some : (n m x : ℕ) → n ≡ suc m → draw_features n x ≡ (draw_feature x).0 ∷ draw_features m (draw_feature x).1
unfolding draw_features
drawn_some n m x e = rw e refl

drawn_none : (n x : ℕ) → n ≡ 0 → draw_features n x ≡ []
unfolding draw_features
drawn_none n x e = rw e refl

pub next_drawn : (all features more : List Feature) (feature : Feature) (count place state after : ℕ) → place < count
    → feature ≡ (draw_feature state).0 → after ≡ (draw_feature state).1 → more ≡ features ++ feature ∷ []
    → features ++ draw_features (count - place) state ≡ all → more ++ draw_features (count - (place + 1)) after ≡ all
next_drawn all features more feature count place state after within is goes grows so_far =
    ap (λ (fs : List Feature). fs ++ draw_features (count - (place + 1)) after) grows
    ∙ append_assoc features (feature ∷ []) (draw_features (count - (place + 1)) after)
    ∙ ap (λ (f : Feature). features ++ f ∷ draw_features (count - (place + 1)) after) is
    ∙ ap (λ (x : ℕ). features ++ (draw_feature state).0 ∷ draw_features (count - (place + 1)) x) goes
    ∙ ap (λ (fs : List Feature). features ++ fs) (sym (drawn_some (count - place) (count - (place + 1)) state (omega arith)))
    ∙ so_far

pub all_drawn : (all features : List Feature) (count place state : ℕ) → count ≤ place → features ++ draw_features (count - place) state ≡ all → features ≡ all
all_drawn all features count place state past so_far =
    sym (append-nil features) ∙ ap (λ (fs : List Feature). features ++ fs) (sym (drawn_none (count - place) state (omega arith))) ∙ so_far
