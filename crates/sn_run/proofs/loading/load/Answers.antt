use Rattle.std.proofs.Common.{◌∙◌, length, sym, ap}
use Rattle.sn_outline.specs.Job.{Job}
use Rattle.sn_run.specs.Part.{IsSoundPart}
use Rattle.sn_run.proofs.LoadLemmas.{if_read, refused_if_read, long_if_read}
use Rattle.sn_run.proofs.loading.load.Goals as goal

pub returns-clause-refused : goal.returns-clause-refused
returns-clause-refused g c =
    let state = g.F.Files.state in
    refused_if_read (state c.args.files.now) (state c.read_part.new.files) c.args.name.now c.as_slice.result.now c.args.opts.now c.judge.result
    (λ told. c.as_slice.ensures.value ∙ c.in_ok-bytes.ensures.content told) c.judge.ensures.refused

pub returns-clause-sound : goal.returns-clause-sound
returns-clause-sound g c =
    let state = g.F.Files.state in
    if_read (state c.args.files.now) c.args.name.now c.as_slice.result.now (λ (job : Job) bytes. IsSoundPart bytes c.args.opts.now job) c.judge.result
    (λ told. c.as_slice.ensures.value ∙ c.in_ok-bytes.ensures.content told) (λ job have. have.1.model.model.file_is.short) c.judge.ensures.sound

pub returns-clause-long : goal.returns-clause-long
returns-clause-long g c =
    let state = g.F.Files.state in
    long_if_read _ _ _ c.as_slice.result.now c.args.opts.now c.judge.result (sym (ap length c.as_slice.ensures.value)) c.in_ok-bytes.ensures.counted c.judge.ensures.refused
