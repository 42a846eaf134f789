use Rattle.std.proofs.Common.{Err, sym, ap}
use Rattle.sn_words.proofs.CommandFaults.{lacks_file, says_files, stops_behind}
use Rattle.sn_words.proofs.command_line.file_command.Goals as goal

pub returns-in_err-files-clause-at : goal.returns-in_err-files-clause-at
returns-in_err-files-clause-at c =
    λ place e.
    let told = rw e at c.from_residual.ensures in
    lacks_file c.args.command c.args.w.now c.args.count place c.requires.word c.requires.takes (c.in_err-files.ensures.at place (ap Err (sym told.1)))

pub returns-in_err-seen-clause-at : goal.returns-in_err-seen-clause-at
returns-in_err-seen-clause-at c =
    λ place e.
    let told = rw e at c.from_residual-in_err-seen.ensures in
    stops_behind c.args.command c.args.w.now c.args.count place c.in_ok-files.files c.requires.word c.requires.takes c.in_ok-files.ensures.ok
    (c.in_err-seen.ensures.err place (ap Err (sym told.1)))

pub invariant_of-result : goal.invariant_of-result
invariant_of-result c =
    rw c.unwrap_or.ensures (c.within_limits.ensures c.args.w.now _
    (says_files c.args.command c.args.w.now c.args.count c.in_ok-files.files c.in_ok-seen.seen c.requires.word c.requires.takes c.in_ok-files.ensures.ok c.in_ok-seen.ensures.ok))

pub returns-clause-ok : goal.returns-clause-ok
returns-clause-ok c =
    rw c.unwrap_or.ensures
    (says_files c.args.command c.args.w.now c.args.count c.in_ok-files.files c.in_ok-seen.seen c.requires.word c.requires.takes c.in_ok-files.ensures.ok c.in_ok-seen.ensures.ok)
