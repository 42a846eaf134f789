-- The instances of features are sound, and their numbers rise.
use Rattle.std.proofs.Common.{◌≡◌, ℕ, ◌+◌, ◌*◌, ◌/◌, ◌%◌, ◌<◌, ◌≤◌, List, [], ◌∷◌, ◌++◌, length, codes, refl, lit<, arith}
use Rattle.std.specs.List.{AllByRecursion}
use Rattle.sn_lex.specs.Form.{IsInstanceNumber}
use Rattle.sn_p21.specs.declared.file.Param.{Param}
use Rattle.sn_p21.specs.declared.file.Param.TheVariants as param
use Rattle.sn_report.specs.declared.feature.Feature.{Feature}
use Rattle.sn_report.specs.declared.feature.Feature.TheVariants.{Hole, Pocket, Slot}
use Rattle.sn_report.specs.Generated.{to, none, real, whole, size, depth_of, operation_params, feature_params, roughing_params, finishing_params, slot_params, nones, workingstep, first_number, corner_of, bottom_of, places_of, head_of, rest_of, instances_of, steps_of, instances_from, steps_from}
use Rattle.sn_report.proofs.Climbing.{Climbs, climbs_join}
use Rattle.sn_report.proofs.CommonRows.{placement_sound, size_sound}
use Rattle.sn_report.proofs.Sound.{IsSound, AreSound, join_all, text_sound, none_sound, ref_sound, real_sound, whole_sound, below_zero_sound, list_sound, IsSoundInstance, AreSoundInstances, simple_sound}

-- its lengths are small
abbrev pub IsSmall : Feature → Type 0
IsSmall Hole = Unit {0}
IsSmall (Pocket width length depth) = (width < 1000) × (length < 1000) × (depth < 1000)
IsSmall (Slot length depth) = (length < 1000) × (depth < 1000)

abbrev pub AreSmall : List Feature → Type 0
AreSmall features = AllByRecursion IsSmall features

-- Numbers of instances.

small_number : (n : ℕ) → 0 < n → n < 1000 → IsInstanceNumber n
small_number n some small = (some, omega arith)

-- the first number of a feature that has room behind it
record IsFirst (n : ℕ) : Type 0 where
  pub some : 0 < n
  pub room : n < 900

from_first : (n k : ℕ) → IsFirst n → k < 20 → IsInstanceNumber (n + k)
from_first n k is small = let some = is.some in let room = is.room in small_number (n + k) (omega arith) (omega arith)

first : (n : ℕ) → IsFirst n → IsInstanceNumber n
first n is = let room = is.room in small_number n is.some (omega arith)

-- Parameters.

no : IsSound 1 none
no = none_sound 1

empty : IsSound 1 (param.List [])
empty = list_sound [] tt

at : (n k : ℕ) → IsFirst n → k < 20 → IsSound 1 (to (n + k))
at n k is small = ref_sound 1 (n + k) (from_first n k is small)

fixed : (n : ℕ) → 0 < n → n < 1000 → IsSound 1 (to n)
fixed n some small = ref_sound 1 n (small_number n some small)

three : IsSound 1 (real "3.")
three = real_sound 1 (codes "3") [] (lit< tt, refl) refl

four : IsSound 1 (real "4.")
four = real_sound 1 (codes "4") [] (lit< tt, refl) refl

five : IsSound 1 (real "5.")
five = real_sound 1 (codes "5") [] (lit< tt, refl) refl

two : IsSound 1 (real "2.")
two = real_sound 1 (codes "2") [] (lit< tt, refl) refl

half : IsSound 1 (real "0.5")
half = real_sound 1 (codes "0") (codes "5") (lit< tt, refl) refl

zero_sound : IsSound 0 (real "0.")
zero_sound = real_sound 0 (codes "0") [] (lit< tt, refl) refl

operation_sound : (tool : ℕ) (behind : List Param) → 0 < tool → tool < 1000 → AreSound 1 behind → AreSound 1 (operation_params tool behind)
operation_sound tool behind some small are = (no, (no, (text_sound 1 [], (no, (no, (fixed tool some small, (fixed 18 (lit< tt) (lit< tt), are)))))))

roughing_sound : AreSound 1 roughing_params
roughing_sound = operation_sound 12 (nones 5 ++ real "3." ∷ real "4." ∷ real "0.5" ∷ real "0.5" ∷ []) (lit< tt) (lit< tt) (no, (no, (no, (no, (no, (three, (four, (half, (half, tt)))))))))

finishing_sound : AreSound 1 finishing_params
finishing_sound = operation_sound 12 (nones 5 ++ real "5." ∷ real "4." ∷ none ∷ none ∷ []) (lit< tt) (lit< tt) (no, (no, (no, (no, (no, (five, (four, (no, (no, tt)))))))))

slot_params_sound : AreSound 1 slot_params
slot_params_sound = operation_sound 12 (nones 5 ++ real "2." ∷ none ∷ none ∷ none ∷ []) (lit< tt) (lit< tt) (no, (no, (no, (no, (no, (two, (no, (no, (no, tt)))))))))

drilling_sound : AreSound 1 (operation_params 15 (nones 7))
drilling_sound = operation_sound 15 (nones 7) (lit< tt) (lit< tt) (no, (no, (no, (no, (no, (no, (no, tt)))))))

feature_params_sound : (n : ℕ) (behind : List Param) → IsFirst n → AreSound 1 behind → AreSound 1 (feature_params n behind)
feature_params_sound n behind is are =
    (text_sound 1 [], (fixed 3 (lit< tt) (lit< tt), (empty, (at n 1 is (lit< tt), (at n 3 is (lit< tt), are)))))

-- Instances of one feature.

workingstep_sound : (n k o : ℕ) → IsFirst n → k < 20 → o < 20 → IsSoundInstance (workingstep (n + k) n (n + o))
workingstep_sound n k o is k_small o_small =
    simple_sound (n + k) (codes "MACHINING_WORKINGSTEP") _ (from_first n k is k_small) (refl, refl)
    (text_sound 1 [], (fixed 6 (lit< tt) (lit< tt), (ref_sound 1 n (first n is), (at n o is o_small, (no, tt)))))

head_sound : (n : ℕ) (feature : Feature) → IsFirst n → IsSoundInstance (head_of n feature)
head_sound n Hole is =
    simple_sound n (codes "ROUND_HOLE") _ (first n is) (refl, refl)
    (feature_params_sound n (to 22 ∷ none ∷ to 20 ∷ []) is (fixed 22 (lit< tt) (lit< tt), (no, (fixed 20 (lit< tt) (lit< tt), tt))))
head_sound n (Pocket width length depth) is =
    simple_sound n (codes "CLOSED_POCKET") _ (first n is) (refl, refl)
    (feature_params_sound n (param.List [] ∷ none ∷ to 21 ∷ none ∷ none ∷ to (n + 6) ∷ []) is (empty, (no, (fixed 21 (lit< tt) (lit< tt), (no, (no, (at n 6 is (lit< tt), tt)))))))
head_sound n (Slot length depth) is =
    simple_sound n (codes "SLOT") _ (first n is) (refl, refl)
    (feature_params_sound n (to (n + 6) ∷ to (n + 7) ∷ param.List [] ∷ []) is (at n 6 is (lit< tt), (at n 7 is (lit< tt), (empty, tt))))

depth_small : (feature : Feature) → IsSmall feature → depth_of feature < 1000
depth_small Hole small = lit< tt
depth_small (Pocket width length depth) small = small.2
depth_small (Slot length depth) small = small.1

corner_sound : (n place : ℕ) → IsInstanceNumber n → place < 16 → IsSoundInstance (corner_of n place)
corner_sound n place is low =
    simple_sound n (codes "CARTESIAN_POINT") _ is (refl, refl)
    (text_sound 1 [], (list_sound _ (whole_sound 0 (20 + 40 * (place % 4)) (omega arith), (whole_sound 0 (20 + 40 * (place / 4)) (omega arith), (real_sound 0 (codes "20") [] (lit< tt, refl) refl, tt))), tt))

bottom_sound : (n : ℕ) (feature : Feature) → IsInstanceNumber n → IsSmall feature → IsSoundInstance (bottom_of n feature)
bottom_sound n feature is small =
    let deep = depth_small feature small in
    simple_sound n (codes "CARTESIAN_POINT") _ is (refl, refl)
    (text_sound 1 [], (list_sound _ (zero_sound, (zero_sound, (below_zero_sound 0 (depth_of feature) (omega arith), tt))), tt))

places_sound : (place n : ℕ) (feature : Feature) → place < 16 → IsFirst n → IsSmall feature → AreSoundInstances (places_of place n feature)
places_sound place n feature low is small = (
  placement_sound (n + 1) (n + 2) (from_first n 1 is (lit< tt)) (from_first n 2 is (lit< tt)),
  (
    corner_sound (n + 2) place (from_first n 2 is (lit< tt)) low,
    (
      simple_sound (n + 3) (codes "PLANE") _ (from_first n 3 is (lit< tt)) (refl, refl) (text_sound 1 [], (at n 4 is (lit< tt), tt)),
      (
        placement_sound (n + 4) (n + 5) (from_first n 4 is (lit< tt)) (from_first n 5 is (lit< tt)),
        (bottom_sound (n + 5) feature (from_first n 5 is (lit< tt)) small, tt),
      ),
    ),
  ),
)

length_sound : (n k l : ℕ) → IsFirst n → k < 20 → l < 1000 → IsSoundInstance (size (n + k) (whole l))
length_sound n k l is k_small small = size_sound (n + k) (whole l) (from_first n k is k_small) (whole_sound 1 l (omega arith))

rest_sound : (n : ℕ) (feature : Feature) → IsFirst n → IsSmall feature → AreSoundInstances (rest_of n feature)
rest_sound n Hole is small = (
  simple_sound (n + 6) (codes "DRILLING") _ (from_first n 6 is (lit< tt)) (refl, refl) drilling_sound,
  (workingstep_sound n 7 6 is (lit< tt) (lit< tt), tt),
)
rest_sound n (Pocket width length depth) is small = (
  simple_sound (n + 6) (codes "RECTANGULAR_CLOSED_PROFILE") _ (from_first n 6 is (lit< tt)) (refl, refl) (no, (at n 7 is (lit< tt), (at n 8 is (lit< tt), tt))),
  (
    length_sound n 7 width is (lit< tt) small.0,
    (
      length_sound n 8 length is (lit< tt) small.1,
      (
        simple_sound (n + 9) (codes "BOTTOM_AND_SIDE_ROUGH_MILLING") _ (from_first n 9 is (lit< tt)) (refl, refl) roughing_sound,
        (
          simple_sound (n + 10) (codes "BOTTOM_AND_SIDE_FINISH_MILLING") _ (from_first n 10 is (lit< tt)) (refl, refl) finishing_sound,
          (
            workingstep_sound n 11 9 is (lit< tt) (lit< tt),
            (workingstep_sound n 12 10 is (lit< tt) (lit< tt), tt),
          ),
        ),
      ),
    ),
  ),
)
rest_sound n (Slot length depth) is small = (
  simple_sound (n + 6) (codes "LINEAR_PATH") _ (from_first n 6 is (lit< tt)) (refl, refl) (no, (at n 8 is (lit< tt), (fixed 19 (lit< tt) (lit< tt), tt))),
  (
    simple_sound (n + 7) (codes "SQUARE_U_PROFILE") _ (from_first n 7 is (lit< tt)) (refl, refl) (no, (fixed 23 (lit< tt) (lit< tt), (no, (no, (no, (no, tt)))))),
    (
      length_sound n 8 length is (lit< tt) small.0,
      (
        simple_sound (n + 9) (codes "BOTTOM_AND_SIDE_FINISH_MILLING") _ (from_first n 9 is (lit< tt)) (refl, refl) slot_params_sound,
        (workingstep_sound n 10 9 is (lit< tt) (lit< tt), tt),
      ),
    ),
  ),
)

-- Numbers rise within a feature.

places_climb : (place n : ℕ) (feature : Feature) → Climbs n (n + 6) (head_of n feature ∷ places_of place n feature)
places_climb place n Hole = (omega arith, (omega arith, (omega arith, (omega arith, (omega arith, (omega arith, omega arith))))))
places_climb place n (Pocket width length depth) = (omega arith, (omega arith, (omega arith, (omega arith, (omega arith, (omega arith, omega arith))))))
places_climb place n (Slot length depth) = (omega arith, (omega arith, (omega arith, (omega arith, (omega arith, (omega arith, omega arith))))))

rest_climbs : (n : ℕ) (feature : Feature) → Climbs (n + 6) (n + 20) (rest_of n feature)
rest_climbs n Hole = (omega arith, (omega arith, omega arith))
rest_climbs n (Pocket width length depth) = (omega arith, (omega arith, (omega arith, (omega arith, (omega arith, (omega arith, (omega arith, omega arith)))))))
rest_climbs n (Slot length depth) = (omega arith, (omega arith, (omega arith, (omega arith, (omega arith, omega arith)))))

-- Features in a row.

first_of : (place : ℕ) → place < 16 → IsFirst (first_number place)
first_of place low = record { some = omega arith; room = omega arith }

feature_sound : (place : ℕ) (feature : Feature) → place < 16 → IsSmall feature → AreSoundInstances (instances_of place feature)
feature_sound place feature low small =
    let n = first_number place in
    join_all IsSoundInstance (head_of n feature ∷ places_of place n feature) (rest_of n feature)
    (head_sound n feature (first_of place low), places_sound place n feature low (first_of place low) small)
    (rest_sound n feature (first_of place low) small)

feature_climbs : (place : ℕ) (feature : Feature) → Climbs (first_number place) (first_number place + 20) (instances_of place feature)
feature_climbs place feature =
    let n = first_number place in
    climbs_join n (n + 6) (n + 20) (head_of n feature ∷ places_of place n feature) (rest_of n feature) (places_climb place n feature) (rest_climbs n feature)

pub features_sound : (place : ℕ) (features : List Feature) → place + length features ≤ 16 → AreSmall features → AreSoundInstances (instances_from place features)
features_sound place [] room small = tt
features_sound place (feature ∷ features) room small =
    join_all IsSoundInstance (instances_of place feature) (instances_from (place + 1) features)
    (feature_sound place feature (omega arith) small.0)
    (features_sound (place + 1) features (omega arith) small.1)

pub features_climb : (place high : ℕ) (features : List Feature) → first_number (place + length features) ≤ high → Climbs (first_number place) high (instances_from place features)
features_climb place high [] room = omega arith
features_climb place high (feature ∷ features) room =
    climbs_join (first_number place) (first_number place + 20) high (instances_of place feature) (instances_from (place + 1) features)
    (feature_climbs place feature)
    (from (first_number (place + 1)) (first_number place + 20) (omega arith) (features_climb (place + 1) high features (omega arith)))
  where
    from : (m n : ℕ) → m ≡ n → Climbs m high (instances_from (place + 1) features) → Climbs n high (instances_from (place + 1) features)
    from m n e h = rw (← e) h

-- Workingsteps.

steps_numbered : (n : ℕ) (feature : Feature) → IsFirst n → AllByRecursion IsInstanceNumber (steps_of n feature)
steps_numbered n Hole is = (from_first n 7 is (lit< tt), tt)
steps_numbered n (Pocket width length depth) is = (from_first n 11 is (lit< tt), (from_first n 12 is (lit< tt), tt))
steps_numbered n (Slot length depth) is = (from_first n 10 is (lit< tt), tt)

pub all_steps_numbered : (place : ℕ) (features : List Feature) → place + length features ≤ 16 → AllByRecursion IsInstanceNumber (steps_from place features)
all_steps_numbered place [] room = tt
all_steps_numbered place (feature ∷ features) room =
    join_all IsInstanceNumber (steps_of (first_number place) feature) (steps_from (place + 1) features)
    (steps_numbered (first_number place) feature (first_of place (omega arith)))
    (all_steps_numbered (place + 1) features (omega arith))
