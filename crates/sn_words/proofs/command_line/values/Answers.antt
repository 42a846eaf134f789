use Rattle.std.proofs.Common.{◌≡◌, inl, ap, subst}
use Rattle.sn_words.specs.Command.{DepartsAt}
use Rattle.sn_words.specs.declared.fault.WordFault.TheVariants.{At}
use Rattle.sn_words.proofs.CommandFaults.{no_command, accepted_read, departed_refused}
use Rattle.sn_words.proofs.command_line.values.Goals as goal

pub returns-in_default-clause-at : goal.returns-in_default-clause-at
returns-in_default-clause-at c =
    λ place e. let same : 1 ≡ place = cc in subst (DepartsAt c.args.w.now) same (no_command c.args.w.now c.in_default.ensures.none)

pub returns-in_default-clause-accepted : goal.returns-in_default-clause-accepted
returns-in_default-clause-accepted c = λ o says. absurd (c.departs_once.ensures.either c.args.w.now 1 (o, says) (no_command c.args.w.now c.in_default.ensures.none))

pub returns-in_default-clause-departs : goal.returns-in_default-clause-departs
returns-in_default-clause-departs c =
    λ place departs. let same = c.departs_once.ensures.once c.args.w.now 1 place (no_command c.args.w.now c.in_default.ensures.none) departs in inl (ap (λ k. At k) same)

pub returns-in-Some-file_count-clause-accepted : goal.returns-in-Some-file_count-clause-accepted
returns-in-Some-file_count-clause-accepted c =
    accepted_read c.one_meaning.ensures c.departs_once.ensures.either c.args.w.now c.file_command.result c.file_command.ensures.ok c.file_command.ensures.at

pub returns-in-Some-file_count-clause-departs : goal.returns-in-Some-file_count-clause-departs
returns-in-Some-file_count-clause-departs c =
    departed_refused c.departs_once.ensures.once c.departs_once.ensures.either c.args.w.now c.file_command.result c.file_command.ensures.ok c.file_command.ensures.at

pub returns-in-None-clause-accepted : goal.returns-in-None-clause-accepted
returns-in-None-clause-accepted c =
    accepted_read c.one_meaning.ensures c.departs_once.ensures.either c.args.w.now c.seed_command.result c.seed_command.ensures.ok c.seed_command.ensures.at

pub returns-in-None-clause-departs : goal.returns-in-None-clause-departs
returns-in-None-clause-departs c =
    departed_refused c.departs_once.ensures.once c.departs_once.ensures.either c.args.w.now c.seed_command.result c.seed_command.ensures.ok c.seed_command.ensures.at
