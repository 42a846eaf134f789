use Rattle.std.proofs.Common.{refl, sym}
use Rattle.sn_words.specs.Command.{cell}
use Rattle.sn_words.proofs.SettingFaults.{stops_twice, stops_pitch, takes_two, none_from}
use Rattle.sn_words.proofs.setting.take_cell.Goals as goal

pub returns-then-is_some-clause-err : goal.returns-then-is_some-clause-err
returns-then-is_some-clause-err c = λ place e. stops_twice c.args.seen.now c.args.words.now c.args.at place c.requires.word (sym c.if-is_some.ensures) (cc)

pub returns-in_default-clause-err : goal.returns-in_default-clause-err
returns-in_default-clause-err c = λ place e. stops_pitch c.args.seen.now c.args.words.now c.args.at place c.requires.word (sym c.if-is_some.ensures) c.in_default.ensures.none (cc)

pub returns-clause-ok : goal.returns-clause-ok
returns-clause-ok c =
    let some = c.in-Some.ensures.some in
    takes_two c.args.seen.now c.args.words.now c.args.at (cell some.0 c.in-Some.pitch) _ some.0 c.requires.word some.1 refl some.2 (none_from _ (sym c.if-is_some.ensures))
