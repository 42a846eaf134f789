-- The generated part is a file, whatever the seed.
use Rattle.std.proofs.Common.{◌≡◌, ℕ, ◌+◌, ◌^◌, ◌<◌, ◌≤◌, eqb, Bool, true, false, zero, suc, List, length, refl, sym, ap, ◌∙◌, subst, arith}
use Rattle.std.specs.Prelude.{if◌then◌else◌}
use Rattle.sn_p21.specs.declared.file.Entity.{Entity}
use Rattle.sn_p21.specs.declared.file.Instance.{Instance}
use Rattle.sn_p21.specs.Content.{Content}
use Rattle.sn_p21.specs.OneSection.{in_one_section}
use Rattle.sn_p21.specs.Numbers.{NumbersDiffer}
use Rattle.sn_p21.specs.Grammar.{IsFile}
use Rattle.sn_report.specs.declared.feature.Feature.{Feature}
use Rattle.sn_report.specs.declared.feature.Feature.TheVariants.{Hole, Pocket, Slot}
use Rattle.sn_report.specs.Generated.{next, drawn, draw_feature, draw_features, header, common_instances, instances_from, steps_from, rows_of, part_of, generated}
use Rattle.sn_report.proofs.Climbing.{climbs_join, numbers_differ}
use Rattle.sn_report.proofs.CommonRows.{common_sound, common_climbs}
use Rattle.sn_report.proofs.FeatureRows.{IsSmall, AreSmall, features_sound, features_climb, all_steps_numbered}
use Rattle.sn_report.proofs.Sound.{join_all, IsSoundInstance}
use Rattle.sn_report.proofs.SoundFile.{sound_file}

-- What is drawn.

small_choice : (a b : Bool) (f g h : Feature × ℕ) → IsSmall f.0 → IsSmall g.0 → IsSmall h.0 → IsSmall ((if a then f else (if b then g else h))).0
small_choice true b f g h p q r = p
small_choice false true f g h p q r = q
small_choice false false f g h p q r = r

below : (x n k : ℕ) → 0 < n → n < 100 → k < 100 → k + drawn x n < 1000
below x n k some n_small k_small = omega arith

feature_small : (x : ℕ) → IsSmall (draw_feature x).0
feature_small x =
    let kind = next x in
    let first = next kind in
    let second = next first in
    let third = next second in
    small_choice (eqb (drawn kind 3) 0) (eqb (drawn kind 3) 1)
    (Hole, kind) (Pocket (12 + drawn first 9) (12 + drawn second 9) (4 + drawn third 5), third) (Slot (4 + drawn first 12) (3 + drawn second 4), second)
    tt
    (below first 9 12 (omega arith) (omega arith) (omega arith), below second 9 12 (omega arith) (omega arith) (omega arith), below third 5 4 (omega arith) (omega arith) (omega arith))
    (below first 12 4 (omega arith) (omega arith) (omega arith), below second 4 3 (omega arith) (omega arith) (omega arith))

pub drawn_small : (n x : ℕ) → AreSmall (draw_features n x)
unfolding draw_features
drawn_small zero x = tt
drawn_small (suc n) x = (feature_small x, drawn_small n (draw_feature x).1)

pub drawn_length : (n x : ℕ) → length (draw_features n x) ≡ n
unfolding draw_features
drawn_length zero x = refl
drawn_length (suc n) x = ap suc (drawn_length n (draw_feature x).1)

-- The part of small features.

few_differ : (features : List Feature) → length features ≤ 16 → NumbersDiffer (rows_of features)
few_differ features few =
    let steps = steps_from 0 features in
    numbers_differ 0 500 (rows_of features) (climbs_join 0 100 500 (common_instances steps) (instances_from 0 features) (common_climbs steps) (features_climb 0 500 features (omega arith)))

few_are_file : (features : List Feature) → length features ≤ 16 → AreSmall features → IsFile (part_of features)
few_are_file features few small =
    let steps = steps_from 0 features in
    sound_file (rows_of features)
    (join_all IsSoundInstance (common_instances steps) (instances_from 0 features) (common_sound steps (all_steps_numbered 0 features (omega arith))) (features_sound 0 features (omega arith) small))
    (few_differ features few)

-- The part of a seed.

pub few_drawn : (seed : ℕ) (features : List Feature) → features ≡ draw_features 16 seed → length features < 2 ^ 16
few_drawn seed features are = let h = ap length are in omega (arith, drawn_length 16 seed)

pub rows_differ : (seed : ℕ) (rows : List Instance) → rows ≡ rows_of (draw_features 16 seed) → NumbersDiffer rows
rows_differ seed rows are = subst NumbersDiffer (sym are) (few_differ (draw_features 16 seed) (omega (arith, drawn_length 16 seed)))

-- these are the header and the instances of the part
pub part_made : (seed : ℕ) (entities : List Entity) (rows : List Instance) → entities ≡ header → rows ≡ rows_of (draw_features 16 seed)
    → in_one_section entities rows ≡ generated seed
unfolding generated
part_made seed entities rows named are =
    ap (λ (es : List Entity). in_one_section es rows) named ∙ ap (λ (is : List Instance). in_one_section header is) are

pub part_is_file : (seed : ℕ) (part : Content) → part ≡ generated seed → IsFile part
unfolding generated
part_is_file seed part is = subst IsFile (sym is) (few_are_file (draw_features 16 seed) (omega (arith, drawn_length 16 seed)) (drawn_small 16 seed))
