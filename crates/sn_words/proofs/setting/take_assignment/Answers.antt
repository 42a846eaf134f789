use Rattle.std.proofs.Common.{w32, arith, refl}
use Rattle.std.proofs.lemmas.Int.{to_z-of_z, fits_signed_from_abs}
use Rattle.sn_words.proofs.SettingFaults.{stops_assign, name_seen, assign_taken}
use Rattle.sn_words.proofs.setting.take_assignment.Goals as goal

pub returns-in_default-clause-err : goal.returns-in_default-clause-err
returns-in_default-clause-err c =
    λ place e. stops_assign c.args.seen.now c.args.words.now c.args.at place c.get.result.now c.get.ensures c.requires.not_cell c.requires.not_raw
    (λ a read others. c.in_default.ensures.none a read) (cc)

pub returns-then-has_name-clause-err : goal.returns-then-has_name-clause-err
returns-then-has_name-clause-err c =
    λ place e. stops_assign c.args.seen.now c.args.words.now c.args.at place c.get.result.now c.get.ensures c.requires.not_cell c.requires.not_raw
    (name_seen c.one_reading.ensures.number c.one_rounding.ensures.product c.args.seen.now.sets c.get.result.now _ c.in-Some.ensures.some
    (rw c.as_slice.ensures at c.if-has_name.ensures)) (cc)

pub returns-clause-ok : goal.returns-clause-ok
returns-clause-ok c =
    assign_taken c.args.seen.now c.args.words.now c.args.at c.get.result.now c.in-Some.name.now c.in_ok-name.name c.in-Some.value _ _ c.push.new.self c.get.ensures
    c.in-Some.ensures.some (rw c.as_slice.ensures at c.if-has_name.ensures) c.in_ok-name.ensures refl
    (to_z-of_z w32 c.in-Some.value (fits_signed_from_abs w32 c.in-Some.value (let limit = c.in-Some.ensures.some.within in omega arith))) c.in_ok-push.ensures.ok
