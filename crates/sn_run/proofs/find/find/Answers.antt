use Rattle.std.proofs.Common.{inl, inr, sym, ap, ◌∙◌}
use Rattle.std.proofs.lemmas.Result.{err_from_is_err_and}
use Rattle.sn_words.specs.Options.{Options}
use Rattle.sn_run.proofs.FindLemmas as lemmas
use Rattle.sn_run.proofs.find.find.Goals as goal

pub returns-in_err-planned-in-Compile-clause-explains : goal.returns-in_err-planned-in-Compile-clause-explains
returns-in_err-planned-in-Compile-clause-explains g c =
    let state = g.F.Files.state in
    let p = err_from_is_err_and c.from_residual-in_err-planned-in-Compile.result c.from_residual-in_err-planned-in-Compile.ensures.1 in
    rw (p.1, p.2)
    (lemmas.explains_file c.one_meaning.ensures c.args.words.now (state c.args.files.now) (state c.compile.new.files) c.get-part.result.now c.in_ok-opts.opts c.in_err-planned-in-Compile.field-0.0
    (lemmas.file_named c.one_meaning.ensures c.args.words.now c.opts.inside.files c.get-part.result.now c.in_ok-opts.opts c.in_ok-opts.ensures.ok (inl (sym (ap (λ (o : Options). o.command) c.opts.view_is) ∙ c.in-Compile.is)) (ap (λ (o : Options). o.files) c.opts.view_is) c.get-part.ensures)
    c.compile.ensures.reads.opens c.in_err-planned-in-Compile.ensures.refused)

pub returns-in_err-planned-in-Compile-clause-reads_once : goal.returns-in_err-planned-in-Compile-clause-reads_once
returns-in_err-planned-in-Compile-clause-reads_once g c =
    let state = g.F.Files.state in
    lemmas.reads_once_file c.one_meaning.ensures c.args.words.now (state c.args.files.now) (state c.compile.new.files) c.get-part.result.now c.in_ok-opts.opts
    (lemmas.file_named c.one_meaning.ensures c.args.words.now c.opts.inside.files c.get-part.result.now c.in_ok-opts.opts c.in_ok-opts.ensures.ok (inl (sym (ap (λ (o : Options). o.command) c.opts.view_is) ∙ c.in-Compile.is)) (ap (λ (o : Options). o.files) c.opts.view_is) c.get-part.ensures)
    c.compile.ensures.reads

pub returns-in-Compile-clause-reads_once : goal.returns-in-Compile-clause-reads_once
returns-in-Compile-clause-reads_once g c =
    let state = g.F.Files.state in
    lemmas.reads_once_file c.one_meaning.ensures c.args.words.now (state c.args.files.now) (state c.compile.new.files) c.get-part.result.now c.in_ok-opts.opts
    (lemmas.file_named c.one_meaning.ensures c.args.words.now c.opts.inside.files c.get-part.result.now c.in_ok-opts.opts c.in_ok-opts.ensures.ok (inl (sym (ap (λ (o : Options). o.command) c.opts.view_is) ∙ c.in-Compile.is)) (ap (λ (o : Options). o.files) c.opts.view_is) c.get-part.ensures)
    c.compile.ensures.reads

pub returns-in-Compile-clause-found : goal.returns-in-Compile-clause-found
returns-in-Compile-clause-found g c =
    let state = g.F.Files.state in
    let good = c.in_ok-planned-in-Compile.ensures.good in (
      (lemmas.prepared c.args.words.now (state c.args.files.now) c.get-part.result.now c.in_ok-opts.opts c.in_ok-planned-in-Compile.planned
          (lemmas.file_named c.one_meaning.ensures c.args.words.now c.opts.inside.files c.get-part.result.now c.in_ok-opts.opts c.in_ok-opts.ensures.ok (inl (sym (ap (λ (o : Options). o.command) c.opts.view_is) ∙ c.in-Compile.is)) (ap (λ (o : Options). o.files) c.opts.view_is) c.get-part.ensures)
          (sym (ap (λ (o : Options). o.command) c.opts.view_is) ∙ c.in-Compile.is) c.in_ok-planned-in-Compile.ensures.compiled good),
      good,
    )

pub returns-in_err-counts-in-Report-clause-explains : goal.returns-in_err-counts-in-Report-clause-explains
returns-in_err-counts-in-Report-clause-explains g c =
    let state = g.F.Files.state in
    let p = err_from_is_err_and c.from_residual-in_err-counts-in-Report.result c.from_residual-in_err-counts-in-Report.ensures.1 in
    rw (p.1, p.2)
    (lemmas.explains_file c.one_meaning.ensures c.args.words.now (state c.args.files.now) (state c.report.new.files) c.get-part-in-Report.result.now c.in_ok-opts.opts c.in_err-counts-in-Report.field-0.0
    (lemmas.file_named c.one_meaning.ensures c.args.words.now c.opts.inside.files c.get-part-in-Report.result.now c.in_ok-opts.opts c.in_ok-opts.ensures.ok (inr (sym (ap (λ (o : Options). o.command) c.opts.view_is) ∙ c.in-Report.is)) (ap (λ (o : Options). o.files) c.opts.view_is) c.get-part-in-Report.ensures)
    c.report.ensures.reads.opens c.in_err-counts-in-Report.ensures.refused)

pub returns-in_err-counts-in-Report-clause-reads_once : goal.returns-in_err-counts-in-Report-clause-reads_once
returns-in_err-counts-in-Report-clause-reads_once g c =
    let state = g.F.Files.state in
    lemmas.reads_once_file c.one_meaning.ensures c.args.words.now (state c.args.files.now) (state c.report.new.files) c.get-part-in-Report.result.now c.in_ok-opts.opts
    (lemmas.file_named c.one_meaning.ensures c.args.words.now c.opts.inside.files c.get-part-in-Report.result.now c.in_ok-opts.opts c.in_ok-opts.ensures.ok (inr (sym (ap (λ (o : Options). o.command) c.opts.view_is) ∙ c.in-Report.is)) (ap (λ (o : Options). o.files) c.opts.view_is) c.get-part-in-Report.ensures)
    c.report.ensures.reads

pub returns-in-Report-clause-reads_once : goal.returns-in-Report-clause-reads_once
returns-in-Report-clause-reads_once g c =
    let state = g.F.Files.state in
    lemmas.reads_once_file c.one_meaning.ensures c.args.words.now (state c.args.files.now) (state c.report.new.files) c.get-part-in-Report.result.now c.in_ok-opts.opts
    (lemmas.file_named c.one_meaning.ensures c.args.words.now c.opts.inside.files c.get-part-in-Report.result.now c.in_ok-opts.opts c.in_ok-opts.ensures.ok (inr (sym (ap (λ (o : Options). o.command) c.opts.view_is) ∙ c.in-Report.is)) (ap (λ (o : Options). o.files) c.opts.view_is) c.get-part-in-Report.ensures)
    c.report.ensures.reads

pub returns-in-Report-clause-found : goal.returns-in-Report-clause-found
returns-in-Report-clause-found g c =
    let state = g.F.Files.state in
    let is = c.in_ok-counts-in-Report.ensures.counts in (
      is.0,
      (lemmas.reported c.args.words.now (state c.args.files.now) c.get-part-in-Report.result.now c.in_ok-opts.opts c.in_ok-counts-in-Report.counts
          (lemmas.file_named c.one_meaning.ensures c.args.words.now c.opts.inside.files c.get-part-in-Report.result.now c.in_ok-opts.opts c.in_ok-opts.ensures.ok (inr (sym (ap (λ (o : Options). o.command) c.opts.view_is) ∙ c.in-Report.is)) (ap (λ (o : Options). o.files) c.opts.view_is) c.get-part-in-Report.ensures)
          (sym (ap (λ (o : Options). o.command) c.opts.view_is) ∙ c.in-Report.is) is),
    )

pub returns-in_err-verdict-in-Verify-clause-explains : goal.returns-in_err-verdict-in-Verify-clause-explains
returns-in_err-verdict-in-Verify-clause-explains g c =
    let state = g.F.Files.state in
    let p = err_from_is_err_and c.from_residual-in_err-verdict-in-Verify.result c.from_residual-in_err-verdict-in-Verify.ensures.1 in
    rw (p.1, p.2)
    (lemmas.explains_verify c.one_meaning.ensures c.args.words.now (state c.args.files.now) (state c.verify.new.files) c.get-part-in-Verify.result.now c.get-program.result.now c.in_ok-opts.opts c.in_err-verdict-in-Verify.field-0.0
    (lemmas.verify_named c.one_meaning.ensures c.args.words.now c.opts.inside.files c.get-part-in-Verify.result.now c.get-program.result.now c.in_ok-opts.opts c.in_ok-opts.ensures.ok (sym (ap (λ (o : Options). o.command) c.opts.view_is) ∙ c.in-Verify.is) (ap (λ (o : Options). o.files) c.opts.view_is) c.get-part-in-Verify.ensures c.get-program.ensures)
    c.in_err-verdict-in-Verify.ensures.refused)

pub returns-in_err-verdict-in-Verify-clause-reads_once : goal.returns-in_err-verdict-in-Verify-clause-reads_once
returns-in_err-verdict-in-Verify-clause-reads_once g c =
    let state = g.F.Files.state in
    lemmas.reads_once_verify c.one_meaning.ensures c.args.words.now (state c.args.files.now) (state c.verify.new.files) c.get-part-in-Verify.result.now c.get-program.result.now c.in_ok-opts.opts
    (lemmas.verify_named c.one_meaning.ensures c.args.words.now c.opts.inside.files c.get-part-in-Verify.result.now c.get-program.result.now c.in_ok-opts.opts c.in_ok-opts.ensures.ok (sym (ap (λ (o : Options). o.command) c.opts.view_is) ∙ c.in-Verify.is) (ap (λ (o : Options). o.files) c.opts.view_is) c.get-part-in-Verify.ensures c.get-program.ensures)
    c.verify.ensures.reads

pub returns-in-Verify-clause-reads_once : goal.returns-in-Verify-clause-reads_once
returns-in-Verify-clause-reads_once g c =
    let state = g.F.Files.state in
    lemmas.reads_once_verify c.one_meaning.ensures c.args.words.now (state c.args.files.now) (state c.verify.new.files) c.get-part-in-Verify.result.now c.get-program.result.now c.in_ok-opts.opts
    (lemmas.verify_named c.one_meaning.ensures c.args.words.now c.opts.inside.files c.get-part-in-Verify.result.now c.get-program.result.now c.in_ok-opts.opts c.in_ok-opts.ensures.ok (sym (ap (λ (o : Options). o.command) c.opts.view_is) ∙ c.in-Verify.is) (ap (λ (o : Options). o.files) c.opts.view_is) c.get-part-in-Verify.ensures c.get-program.ensures)
    c.verify.ensures.reads

pub returns-in-Verify-clause-found : goal.returns-in-Verify-clause-found
returns-in-Verify-clause-found g c =
    let state = g.F.Files.state in
    let is = c.in_ok-verdict-in-Verify.ensures.verdict in (
      is.job,
      is.program,
      (lemmas.judged c.args.words.now (state c.args.files.now) c.get-part-in-Verify.result.now c.get-program.result.now c.in_ok-opts.opts c.in_ok-verdict-in-Verify.verdict
          (lemmas.verify_named c.one_meaning.ensures c.args.words.now c.opts.inside.files c.get-part-in-Verify.result.now c.get-program.result.now c.in_ok-opts.opts c.in_ok-opts.ensures.ok (sym (ap (λ (o : Options). o.command) c.opts.view_is) ∙ c.in-Verify.is) (ap (λ (o : Options). o.files) c.opts.view_is) c.get-part-in-Verify.ensures c.get-program.ensures)
          is),
    )

pub returns-in_err-counts-in-Trial-clause-explains : goal.returns-in_err-counts-in-Trial-clause-explains
returns-in_err-counts-in-Trial-clause-explains g c =
    let state = g.F.Files.state in
    let p = err_from_is_err_and c.from_residual-in_err-counts-in-Trial.result c.from_residual-in_err-counts-in-Trial.ensures.1 in
    rw (p.1, p.2)
    (lemmas.explains_trial c.one_meaning.ensures c.args.words.now (state c.args.files.now) c.in_ok-opts.opts c.in_err-counts-in-Trial.field-0.0
    (record { accepted = c.in_ok-opts.ensures.ok; tries = sym (ap (λ (o : Options). o.command) c.opts.view_is) ∙ c.in-Trial.is })
    c.in_err-counts-in-Trial.ensures.refused)

pub returns-clause-found : goal.returns-clause-found
returns-clause-found g c =
    let state = g.F.Files.state in
    let is = c.in_ok-counts-in-Trial.ensures.counts in (
      is.0,
      (lemmas.tried c.args.words.now (state c.args.files.now) c.in_ok-opts.opts c.in_ok-counts-in-Trial.counts
          (record { accepted = c.in_ok-opts.ensures.ok; tries = sym (ap (λ (o : Options). o.command) c.opts.view_is) ∙ c.in-Trial.is }) is),
    )
