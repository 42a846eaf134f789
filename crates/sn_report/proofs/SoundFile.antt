-- A file of the generated header and of sound instances whose numbers differ.
use Rattle.std.proofs.Common.{◌≡◌, ◌≢◌, ℕ, ◌+◌, ◌<◌, true, false, List, [], ◌∷◌, ◌++◌, length, take, flat_map, codes, None, refl, sym, ap, subst, ◌∙◌, arith}
use Rattle.std.specs.Str.{bytes_eq}
use Rattle.std.specs.List.{AllByRecursion}
use Rattle.std.proofs.Math.Seq.{take-length}
use Rattle.std.proofs.lemmas.List.Sums.{sum_by-cons}
use Rattle.sn_p21.specs.declared.file.Entity.{Entity}
use Rattle.sn_p21.specs.declared.file.Instance.{Instance}
use Rattle.sn_p21.specs.declared.file.Section.{Section}
use Rattle.sn_p21.specs.declared.limits.TheConstants.{MAX_OPEN_LISTS}
use Rattle.sn_p21.specs.Word.{IsSpelled}
use Rattle.sn_p21.specs.Numbers.{NumbersDiffer}
use Rattle.sn_p21.specs.OneSection.{in_one_section}
use Rattle.sn_p21.specs.Grammar.{entity_words, header_words, instance_words, parts_words, rows_words, plainest_sections, data_words, opening_words, section_end_words, file_end_words, IsWhole, IsNestedWithin, IsFile}
use Rattle.sn_report.specs.Generated.{texts, description, file_name, schema, header}
use Rattle.sn_report.proofs.Sound.{AreSpelled, IsSound, join_all, semicolon_spelled, keyword_spelled, text_sound, list_sound, IsSoundEntity, entity_sound, AreSoundInstances}

-- The header.

texts_sound : (value : List ℕ) → IsSound 1 (texts value)
texts_sound value = list_sound _ (text_sound 0 value, tt)

description_sound : IsSoundEntity description
description_sound = entity_sound (codes "FILE_DESCRIPTION") _ (refl, refl) (texts_sound (codes "one hole"), (text_sound 1 (codes "1"), tt))

file_name_sound : IsSoundEntity file_name
file_name_sound =
    entity_sound (codes "FILE_NAME") _ (refl, refl)
    (text_sound 1 (codes "one.stp"), (text_sound 1 (codes "2024-01-01"), (texts_sound (codes "a"), (texts_sound (codes "b"), (text_sound 1 [], (text_sound 1 [], (text_sound 1 [], tt)))))))

schema_sound : IsSoundEntity schema
schema_sound =
    entity_sound (codes "FILE_SCHEMA") _ (refl, refl)
    (list_sound _ (text_sound 0 (codes "MACHINING_SCHEMA"), (text_sound 0 (codes "MILLING_SCHEMA"), tt)), tt)

header_sound : AllByRecursion IsSoundEntity header
header_sound = (description_sound, (file_name_sound, (schema_sound, tt)))

header_spelled : (es : List Entity) → AllByRecursion IsSoundEntity es → AreSpelled (flat_map header_words es)
header_spelled [] all = tt
header_spelled (e ∷ es) all =
    join_all IsSpelled (header_words e) _ (join_all IsSpelled (entity_words e) _ all.0.spelled (semicolon_spelled, tt)) (header_spelled es all.1)

no_end : (name : List ℕ) → bytes_eq name (codes "ENDSEC") ≡ false → name ≢ codes "ENDSEC"
no_end name differs e = let z : true ≡ false = sym (ap (λ n. bytes_eq n (codes "ENDSEC")) e) ∙ differs in cc

-- The instances.

rows_spelled : (is : List Instance) → AreSoundInstances is → AreSpelled (rows_words is)
rows_spelled [] all = tt
rows_spelled (i ∷ is) all = join_all IsSpelled (instance_words i.number (parts_words i.parts)) _ all.0.spelled (rows_spelled is all.1)

rows_have_parts : (is : List Instance) → AreSoundInstances is → AllByRecursion (λ i. 0 < length i.parts) is
rows_have_parts [] all = tt
rows_have_parts (i ∷ is) all = (all.0.some, rows_have_parts is all.1)

all_parts : (is : List Instance) → AreSoundInstances is → AllByRecursion IsSoundEntity (flat_map (λ i. i.parts) is)
all_parts [] all = tt
all_parts (i ∷ is) all = join_all IsSoundEntity i.parts _ all.0.parts (all_parts is all.1)

all_are_whole : (es : List Entity) → AllByRecursion IsSoundEntity es → AllByRecursion IsWhole es
all_are_whole [] all = tt
all_are_whole (e ∷ es) all = (all.0.whole, all_are_whole es all.1)

all_are_nested : (es : List Entity) → AllByRecursion IsSoundEntity es → AllByRecursion (IsNestedWithin MAX_OPEN_LISTS) es
all_are_nested [] all = tt
all_are_nested (e ∷ es) all = (all.0.nested, all_are_nested es all.1)

-- The words that frame the two sections.

opening_spelled : AreSpelled opening_words
opening_spelled = ((codes "ISO-10303-21", (refl, refl)), (semicolon_spelled, (keyword_spelled (codes "HEADER") (refl, refl), (semicolon_spelled, tt))))

data_spelled : AreSpelled (data_words None)
data_spelled = (keyword_spelled (codes "DATA") (refl, refl), (semicolon_spelled, tt))

section_end_spelled : AreSpelled section_end_words
section_end_spelled = (keyword_spelled (codes "ENDSEC") (refl, refl), (semicolon_spelled, tt))

file_end_spelled : AreSpelled file_end_words
file_end_spelled = ((codes "END-ISO-10303-21", (refl, refl)), (semicolon_spelled, tt))

-- the one section of these instances
section_spelled : (is : List Instance) → AreSoundInstances is → AreSpelled (plainest_sections ((record { params = None; count = length is }) ∷ []) is)
section_spelled is all =
    let rows = subst (λ js. AreSpelled (rows_words js)) (sym (take-length is)) (rows_spelled is all) in
    let begun = join_all IsSpelled (data_words None) (rows_words (take (length is) is)) data_spelled rows in
    join_all IsSpelled (data_words None ++ rows_words (take (length is) is) ++ section_end_words) [] (join_all IsSpelled (data_words None ++ rows_words (take (length is) is)) section_end_words begun section_end_spelled) tt

pub sound_file : (is : List Instance) → AreSoundInstances is → NumbersDiffer is → IsFile (in_one_section header is)
sound_file is all differ =
    let h = flat_map header_words header in
    let section : Section = record { params = None; count = length is } in
    let sections = plainest_sections (section ∷ []) is in
    let entities = join_all IsSoundEntity header (flat_map (λ (i : Instance). i.parts) is) header_sound (all_parts is all) in
    let front = join_all IsSpelled opening_words h opening_spelled (header_spelled header header_sound) in
    let before = join_all IsSpelled (opening_words ++ h) section_end_words front section_end_spelled in
    let whole = join_all IsSpelled (opening_words ++ h ++ section_end_words) sections before (section_spelled is all) in
    record {
      names = refl;
      no_end = (no_end (codes "FILE_DESCRIPTION") refl, (no_end (codes "FILE_NAME") refl, (no_end (codes "FILE_SCHEMA") refl, tt)));
      section = omega arith;
      counts = sum_by-cons (λ (s : Section). s.count) section [] ∙ (let z : length is + 0 ≡ length is = omega arith in z);
      parts = rows_have_parts is all;
      whole = all_are_whole (header ++ flat_map (λ (i : Instance). i.parts) is) entities;
      spelled = join_all IsSpelled (opening_words ++ h ++ section_end_words ++ sections) file_end_words whole file_end_spelled;
      differ = differ;
      nested = all_are_nested (header ++ flat_map (λ (i : Instance). i.parts) is) entities;
    }
