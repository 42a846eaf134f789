use Rattle.std.proofs.Common.{arith}
use Rattle.sn_words.proofs.CommandFaults.{no_seed, third_word, seed_whole}
use Rattle.sn_words.proofs.command_line.seed_command.Goals as goal

pub returns-in_default-clause-at : goal.returns-in_default-clause-at
returns-in_default-clause-at c = λ place e. no_seed c.args.command c.args.w.now place c.requires.word c.requires.takes c.in_default.ensures.none (cc)

pub returns-then-len-gt2-clause-at : goal.returns-then-len-gt2-clause-at
returns-then-len-gt2-clause-at c =
    λ place e.
    let some = c.in-Some.ensures.some in
    third_word c.args.command c.args.w.now some.0 c.in-Some.seed place c.requires.word c.requires.takes some.1 some.2 (omega arith) (cc)

pub returns-clause-ok : goal.returns-clause-ok
returns-clause-ok c =
    let some = c.in-Some.ensures.some in
    rw (c.new.ensures, c.new-2.ensures) (seed_whole c.args.command c.args.w.now some.0 c.in-Some.seed c.requires.word c.requires.takes some.1 some.2 (omega arith))
