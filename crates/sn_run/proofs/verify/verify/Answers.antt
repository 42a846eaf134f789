use Rattle.std.proofs.Common.{[]}
use Rattle.sn_sweep.specs.Checking.{HasTaken}
use Rattle.sn_run.proofs.VerifyLemmas.{if_program_refused, if_ready, if_verdict}
use Rattle.sn_run.proofs.verify.verify.Goals as goal

pub returns-clause-verdict : goal.returns-clause-verdict
returns-clause-verdict g c =
    let state = g.F.Files.state in
    let loaded = c.in_ok-job.ensures in
    if_verdict (state c.args.files.now) (state c.load.new.files) c.args.part.now c.args.program.now c.args.opts.now c.in_ok-job.job c.check_program.result
    c.rule.ensures loaded.reads.tells loaded.past loaded.sound
    (if_ready (state c.load.new.files) c.args.program.now c.in_ok-job.job (λ job. HasTaken job [] c.in_ok-checker.checker) c.check_program.result
    c.in_ok-checker.ensures.nothing c.check_program.ensures.verdict)

pub returns-clause-refused : goal.returns-clause-refused
returns-clause-refused g c =
    let state = g.F.Files.state in
    let loaded = c.in_ok-job.ensures in
    if_program_refused (state c.args.files.now) (state c.load.new.files) (state c.check_program.new.files) c.args.part.now c.args.program.now c.args.opts.now
    c.in_ok-job.job c.check_program.result loaded.reads.tells loaded.reads.faults_stay loaded.reads.bytes.stays loaded.past loaded.sound c.check_program.ensures.unread
