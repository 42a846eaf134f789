use Rattle.std.proofs.Common.{◌≡◌, ◌∙◌, ◌==◌, sym, ap, Ok, true, not, ◌&&◌, ◌||◌, ℤ, w32, to_z, of_z}
use Rattle.std.proofs.lemmas.Bool.{or_parts, not-false}
use Rattle.std.proofs.lemmas.Int.{to_z-of_z}
use Rattle.sn_geom.specs.LineTable.{has_unit, is_accepted}
use Rattle.sn_geom.specs.LineText.{Said, is_fine, has_group, with_word}
use Rattle.sn_block.proofs.WordSteps.{bad_step, fine_step, range_step, twice_step, group_step, refused_step, word_step, counted_fine, counted_within, counted_row, counted_accepted, counted_word}
use Rattle.sn_block.proofs.word.take_word.Goals as goal

pub returns-in_default : goal.returns-in_default
returns-in_default c = sym (bad_step c.args.said c.args.letter c.args.text.now c.args.column c.in_default.ensures)

pub returns-then-is_too_fine : goal.returns-then-is_too_fine
returns-then-is_too_fine c =
    let n = c.in-Some.ensures in
    sym (fine_step c.args.said c.args.letter c.args.text.now c.args.column (let n = c.in-Some.ensures in n.is)
    (ap (λ b. has_unit c.args.letter && not b) (sym (n.fine ∙ ap (λ k. is_fine k c.args.text.now) c.places_of.ensures)) ∙ (sym c.is_too_fine.ensures ∙ c.if-is_too_fine.true)))

pub returns-then-not-is_within : goal.returns-then-not-is_within
returns-then-not-is_within c =
    let back : to_z w32 (of_z w32 c.value.result) ≡ c.value.result = to_z-of_z w32 c.value.result (record { sfits = c.value.type_inv }) in
    let in_limits = simp back at c.is_within.ensures in
    sym (range_step c.args.said c.args.letter c.args.text.now c.args.column (let n = c.in-Some.ensures in n.is) (counted_fine c.args.letter c.args.text.now c.places_of.result c.in-Some.number c.value.result c.places_of.ensures c.in-Some.ensures c.value.ensures ∙ (sym c.is_too_fine.ensures ∙ c.if-is_too_fine.false)) (counted_within c.args.letter c.args.text.now c.places_of.result c.in-Some.number c.value.result c.places_of.ensures c.in-Some.ensures c.value.ensures ∙ (sym in_limits ∙ c.if-not-is_within.true)))

pub returns-then-stands_already : goal.returns-then-stands_already
returns-then-stands_already c =
    let back : to_z w32 (of_z w32 c.value.result) ≡ c.value.result = to_z-of_z w32 c.value.result (record { sfits = c.value.type_inv }) in
    let in_limits = simp back at c.is_within.ensures in
    sym (twice_step c.args.said c.args.letter c.args.text.now c.args.column (let n = c.in-Some.ensures in n.is) (counted_fine c.args.letter c.args.text.now c.places_of.result c.in-Some.number c.value.result c.places_of.ensures c.in-Some.ensures c.value.ensures ∙ (sym c.is_too_fine.ensures ∙ c.if-is_too_fine.false)) (counted_within c.args.letter c.args.text.now c.places_of.result c.in-Some.number c.value.result c.places_of.ensures c.in-Some.ensures c.value.ensures ∙ (sym in_limits ∙ c.if-not-is_within.false)) (sym c.stands_already.ensures ∙ c.if-stands_already.true))

pub returns-then-shares_group : goal.returns-then-shares_group
returns-then-shares_group c =
    let back : to_z w32 (of_z w32 c.value.result) ≡ c.value.result = to_z-of_z w32 c.value.result (record { sfits = c.value.type_inv }) in
    let in_limits = simp back at c.is_within.ensures in
    let grouped = simp back at c.shares_group.ensures in
    sym (group_step c.args.said c.args.letter c.args.text.now c.args.column (let n = c.in-Some.ensures in n.is) (counted_fine c.args.letter c.args.text.now c.places_of.result c.in-Some.number c.value.result c.places_of.ensures c.in-Some.ensures c.value.ensures ∙ (sym c.is_too_fine.ensures ∙ c.if-is_too_fine.false)) (counted_within c.args.letter c.args.text.now c.places_of.result c.in-Some.number c.value.result c.places_of.ensures c.in-Some.ensures c.value.ensures ∙ (sym in_limits ∙ c.if-not-is_within.false)) (sym c.stands_already.ensures ∙ c.if-stands_already.false) (ap (λ row. has_group c.args.said.block.words row) (counted_row c.args.letter c.args.text.now c.places_of.result c.in-Some.number c.value.result c.places_of.ensures c.in-Some.ensures c.value.ensures) ∙ (sym grouped ∙ c.if-shares_group.true)))

pub returns-then-is_refused : goal.returns-then-is_refused
returns-then-is_refused c =
    let back : to_z w32 (of_z w32 c.value.result) ≡ c.value.result = to_z-of_z w32 c.value.result (record { sfits = c.value.type_inv }) in
    let in_limits = simp back at c.is_within.ensures in
    let grouped = simp back at c.shares_group.ensures in
    let refused = simp back at c.is_refused.ensures in
    sym (refused_step c.args.said c.args.letter c.args.text.now c.args.column (let n = c.in-Some.ensures in n.is) (counted_fine c.args.letter c.args.text.now c.places_of.result c.in-Some.number c.value.result c.places_of.ensures c.in-Some.ensures c.value.ensures ∙ (sym c.is_too_fine.ensures ∙ c.if-is_too_fine.false)) (counted_within c.args.letter c.args.text.now c.places_of.result c.in-Some.number c.value.result c.places_of.ensures c.in-Some.ensures c.value.ensures ∙ (sym in_limits ∙ c.if-not-is_within.false)) (sym c.stands_already.ensures ∙ c.if-stands_already.false) (ap (λ row. has_group c.args.said.block.words row) (counted_row c.args.letter c.args.text.now c.places_of.result c.in-Some.number c.value.result c.places_of.ensures c.in-Some.ensures c.value.ensures) ∙ (sym grouped ∙ c.if-shares_group.false)) (ap (λ a. not a || (c.args.letter == 78 && c.args.said.begun)) (counted_accepted c.args.letter c.args.text.now c.places_of.result c.in-Some.number c.value.result c.places_of.ensures c.in-Some.ensures c.value.ensures) ∙ (sym refused ∙ c.if-is_refused.true)))

pub returns : goal.returns
returns c =
    let back : to_z w32 (of_z w32 c.value.result) ≡ c.value.result = to_z-of_z w32 c.value.result (record { sfits = c.value.type_inv }) in
    let in_limits = simp back at c.is_within.ensures in
    let grouped = simp back at c.shares_group.ensures in
    let refused = simp back at c.is_refused.ensures in
    let said_so = simp back at c.with_word.ensures in
    let accepted : is_accepted (record { letter = c.args.letter; value = c.value.result }) ≡ true = not-false _ (or_parts _ _ (sym refused ∙ c.if-is_refused.false)).0 in
    let value = counted_word c.args.letter c.args.text.now c.places_of.result c.in-Some.number c.value.result c.places_of.ensures c.in-Some.ensures c.value.ensures (sym in_limits ∙ c.if-not-is_within.false) accepted in
    ap Ok (said_so ∙ ap (λ (v : ℤ). (let s : Said = record { block = with_word c.args.said.block (record { letter = c.args.letter; value = v }); begun = true } in s)) value)
    ∙ sym (word_step c.args.said c.args.letter c.args.text.now c.args.column (let n = c.in-Some.ensures in n.is) (counted_fine c.args.letter c.args.text.now c.places_of.result c.in-Some.number c.value.result c.places_of.ensures c.in-Some.ensures c.value.ensures ∙ (sym c.is_too_fine.ensures ∙ c.if-is_too_fine.false)) (counted_within c.args.letter c.args.text.now c.places_of.result c.in-Some.number c.value.result c.places_of.ensures c.in-Some.ensures c.value.ensures ∙ (sym in_limits ∙ c.if-not-is_within.false)) (sym c.stands_already.ensures ∙ c.if-stands_already.false) (ap (λ row. has_group c.args.said.block.words row) (counted_row c.args.letter c.args.text.now c.places_of.result c.in-Some.number c.value.result c.places_of.ensures c.in-Some.ensures c.value.ensures) ∙ (sym grouped ∙ c.if-shares_group.false)) (ap (λ a. not a || (c.args.letter == 78 && c.args.said.begun)) (counted_accepted c.args.letter c.args.text.now c.places_of.result c.in-Some.number c.value.result c.places_of.ensures c.in-Some.ensures c.value.ensures) ∙ (sym refused ∙ c.if-is_refused.false)))
