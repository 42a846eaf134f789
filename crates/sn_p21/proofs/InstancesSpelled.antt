-- The words of the instances of a file are spelled.
use Rattle.std.proofs.Common.{◌≡◌, List, [], ◌∷◌, ◌++◌, length, take, drop, sym, subst, arith}
use Rattle.std.specs.List.{AllByRecursion}
use Rattle.std.proofs.lemmas.Grind.{flat_map-append}
use Rattle.std.proofs.lemmas.List.{take-append-drop, length-drop}
use Rattle.std.proofs.lemmas.List.Sums.{sum_by-cons}
use Rattle.sn_p21.specs.declared.file.Instance.{Instance}
use Rattle.sn_p21.specs.declared.file.Section.{Section}
use Rattle.sn_p21.specs.Grammar.{header_words, data_words, section_words, rows_words, plainest_sections, opening_words, section_end_words, file_end_words, counted}
use Rattle.sn_p21.specs.PartText.{InstancesAreSpelled}
use Rattle.sn_p21.specs.Word.{IsSpelled}
use Rattle.sn_p21.proofs.FilesRead.{front_all, back_all, join_all}
use Rattle.sn_p21.proofs.Texts.{row_words}
use Rattle.std.proofs.Common.{flat_map}

joined_rows : (is js : List Instance) → rows_words (is ++ js) ≡ rows_words is ++ rows_words js
joined_rows is js = flat_map-append row_words is js

rows_spelled : (ss : List Section) (is : List Instance) → counted ss ≡ length is → AllByRecursion IsSpelled (plainest_sections ss is) → AllByRecursion IsSpelled (rows_words is)
rows_spelled [] [] counts all = tt
rows_spelled [] (i ∷ is) counts all = absurd (let e : 0 ≡ length (i ∷ is) = counts in omega arith)
rows_spelled (s ∷ ss) is counts all =
    let own = take s.count is in
    let others = drop s.count is in
    let d = data_words s.params in
    let sum = sum_by-cons (λ (t : Section). t.count) s ss in
    let left : counted ss ≡ length others = omega (arith, length-drop s.count is) in
    let one = front_all IsSpelled (section_words s (rows_words own)) (plainest_sections ss others) all in
    let rows = back_all IsSpelled d (rows_words own) (front_all IsSpelled (d ++ rows_words own) section_end_words one) in
    let rest = rows_spelled ss others left (back_all IsSpelled (section_words s (rows_words own)) (plainest_sections ss others) all) in
    subst (λ js. AllByRecursion IsSpelled (rows_words js)) (take-append-drop s.count is) (subst (AllByRecursion IsSpelled) (sym (joined_rows own others)) (join_all IsSpelled (rows_words own) (rows_words others) rows rest))

pub instances_are_spelled : InstancesAreSpelled
instances_are_spelled f file =
    let sections = plainest_sections f.sections f.instances in
    let before = opening_words ++ flat_map header_words f.header ++ section_end_words in
    rows_spelled f.sections f.instances file.counts (back_all IsSpelled before sections (front_all IsSpelled (before ++ sections) file_end_words file.spelled))
