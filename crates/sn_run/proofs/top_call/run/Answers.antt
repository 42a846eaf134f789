use Rattle.std.proofs.Common.{refl, ◌∙◌, inl, inr}
use Rattle.sn_run.specs.Outcome.Stops.{at_message}
use Rattle.sn_run.proofs.AnswerLemmas as lemmas
use Rattle.sn_run.proofs.top_call.run.Goals as goal

-- An answer was found.

pub write-requires : goal.write-requires
write-requires g c = lemmas.can_be_written c.args.words.now (g.F.Files.state c.args.files.now) c.in-Ok.found c.in-Ok.ensures.found

pub returns-in-Ok-clause-outcome : goal.returns-in-Ok-clause-outcome
returns-in-Ok-clause-outcome g c = λ tells devices.
    let files = g.F.Files.state c.args.files.now in
    let (answer, known, text, status) = lemmas.answer_of c.args.words.now files c.in-Ok.found c.in-Ok.ensures.found in
    let was = lemmas.wrote _ _ _ c.in-Ok.found answer text status (c.write.ensures.done (λ e. devices (inr (inl e)))) in
    lemmas.ends_answered c.one_meaning.ensures c.args.words.now files answer _ _ _ _ tells known was

pub returns-in-Ok-clause-compiles : goal.returns-in-Ok-clause-compiles
returns-in-Ok-clause-compiles g c = λ done asked.
    let files = g.F.Files.state c.args.files.now in
    let (answer, known, text, status) = lemmas.answer_of c.args.words.now files c.in-Ok.found c.in-Ok.ensures.found in
    let was = lemmas.wrote _ _ _ c.in-Ok.found answer text status (c.write.ensures.done (λ stopped. cc (done, stopped))) in
    lemmas.compiles c.one_meaning.ensures c.args.words.now files answer _ _ _ asked known was

pub returns-in-Ok-clause-approves : goal.returns-in-Ok-clause-approves
returns-in-Ok-clause-approves g c = λ done asked.
    let files = g.F.Files.state c.args.files.now in
    let (answer, known, text, status) = lemmas.answer_of c.args.words.now files c.in-Ok.found c.in-Ok.ensures.found in
    let was = lemmas.wrote _ _ _ c.in-Ok.found answer text status (c.write.ensures.done (λ stopped. cc (done, stopped))) in
    lemmas.approves c.one_meaning.ensures c.args.words.now files answer _ _ _ asked done known was

pub returns-in-Ok-clause-reports : goal.returns-in-Ok-clause-reports
returns-in-Ok-clause-reports g c = λ done asked.
    let files = g.F.Files.state c.args.files.now in
    let (answer, known, text, status) = lemmas.answer_of c.args.words.now files c.in-Ok.found c.in-Ok.ensures.found in
    let was = lemmas.wrote _ _ _ c.in-Ok.found answer text status (c.write.ensures.done (λ stopped. cc (done, stopped))) in
    lemmas.reports c.one_meaning.ensures c.args.words.now files answer _ _ _ asked known was

pub returns-in-Ok-clause-makes : goal.returns-in-Ok-clause-makes
returns-in-Ok-clause-makes g c = λ done seed asked.
    let files = g.F.Files.state c.args.files.now in
    let (answer, known, text, status) = lemmas.answer_of c.args.words.now files c.in-Ok.found c.in-Ok.ensures.found in
    let was = lemmas.wrote _ _ _ c.in-Ok.found answer text status (c.write.ensures.done (λ stopped. cc (done, stopped))) in
    lemmas.makes c.one_meaning.ensures c.args.words.now files answer _ _ _ seed asked known was

pub returns-in-Ok-clause-generates : goal.returns-in-Ok-clause-generates
returns-in-Ok-clause-generates g c = λ asked.
    let files = g.F.Files.state c.args.files.now in
    let (answer, known, text, status) = lemmas.answer_of c.args.words.now files c.in-Ok.found c.in-Ok.ensures.found in
    lemmas.done_or_fault _ _ (status ∙ lemmas.generates c.one_meaning.ensures c.args.words.now files answer asked known) c.write.ensures.either

pub returns-in-Ok-clause-rejects : goal.returns-in-Ok-clause-rejects
returns-in-Ok-clause-rejects g c = λ refuses.
    let files = g.F.Files.state c.args.files.now in
    let (answer, known, text, status) = lemmas.answer_of c.args.words.now files c.in-Ok.found c.in-Ok.ensures.found in
    let was = lemmas.wrote _ _ _ c.in-Ok.found answer text status (c.write.ensures.done (λ stopped. cc (refuses, stopped))) in
    lemmas.rejects c.verdicts.ensures.one c.args.words.now files answer _ _ _ refuses known was

pub returns-in-Ok-clause-answers : goal.returns-in-Ok-clause-answers
returns-in-Ok-clause-answers g c = λ either.
    let files = g.F.Files.state c.args.files.now in
    let (answer, known, text, status) = lemmas.answer_of c.args.words.now files c.in-Ok.found c.in-Ok.ensures.found in
    let was = lemmas.wrote _ _ _ c.in-Ok.found answer text status (c.write.ensures.done (lemmas.no_fault _ either)) in
    lemmas.answers c.args.words.now files answer _ _ _ _ known was

pub returns-in-Ok-clause-completes : goal.returns-in-Ok-clause-completes
returns-in-Ok-clause-completes g c = λ tells job asked.
    let files = g.F.Files.state c.args.files.now in
    let (answer, known, text, status) = lemmas.answer_of c.args.words.now files c.in-Ok.found c.in-Ok.ensures.found in
    lemmas.done_or_fault _ _ (status ∙ lemmas.completes c.one_meaning.ensures c.args.words.now files answer files.given job asked known) c.write.ensures.either

pub returns-in-Ok-clause-judges : goal.returns-in-Ok-clause-judges
returns-in-Ok-clause-judges g c = λ tells job program asked.
    let files = g.F.Files.state c.args.files.now in
    let (answer, known, text, status) = lemmas.answer_of c.args.words.now files c.in-Ok.found c.in-Ok.ensures.found in
    lemmas.either_or_fault _ _ answer status c.write.ensures.either

pub returns-in-Ok-clause-exactly : goal.returns-in-Ok-clause-exactly
returns-in-Ok-clause-exactly g c = λ tells job program asked devices.
    let files = g.F.Files.state c.args.files.now in
    let (answer, known, text, status) = lemmas.answer_of c.args.words.now files c.in-Ok.found c.in-Ok.ensures.found in
    let was = lemmas.wrote _ _ _ c.in-Ok.found answer text status (c.write.ensures.done (λ e. devices (inr (inl e)))) in
    lemmas.exactly_so _ _ was.status_is
    (lemmas.exactly c.one_meaning.ensures c.verdicts.ensures.one c.one_case.ensures c.args.words.now files answer job program tells asked known)

pub returns-in-Ok-clause-refused : goal.returns-in-Ok-clause-refused
returns-in-Ok-clause-refused g c = λ not_done not_no no_fault.
    let files = g.F.Files.state c.args.files.now in
    let (answer, known, text, status) = lemmas.answer_of c.args.words.now files c.in-Ok.found c.in-Ok.ensures.found in
    absurd (lemmas.answered_status _ answer ((c.write.ensures.done no_fault).0 ∙ status) not_done not_no)

pub returns-in-Ok-clause-stopped : goal.returns-in-Ok-clause-stopped
returns-in-Ok-clause-stopped g c = λ stopped.
    let state = g.F.Files.state in
    lemmas.stopped_at c.args.words.now (state c.args.files.now) (state c.find.new.files) _ _ _ c.in-Ok.found c.in-Ok.ensures.found (c.write.ensures.stopped stopped)

pub returns-in-Ok-clause-complete : goal.returns-in-Ok-clause-complete
returns-in-Ok-clause-complete g c = λ faultless.
    let files = g.F.Files.state c.args.files.now in
    let (answer, known, text, status) = lemmas.answer_of c.args.words.now files c.in-Ok.found c.in-Ok.ensures.found in
    lemmas.complete c.args.words.now files _ _ _ _ _ (lemmas.answer_no_read _ _ answer status c.write.ensures.either)
    (λ stopped. faultless.of_out (c.write.ensures.stopped stopped).rises) (returns-in-Ok-clause-completes g c) (returns-in-Ok-clause-judges g c)
    (returns-in-Ok-clause-generates g c) (returns-in-Ok-clause-outcome g c)

pub returns-in-Ok-clause-opened : goal.returns-in-Ok-clause-opened
returns-in-Ok-clause-opened g c = λ two.
    let files = g.F.Files.state c.args.files.now in
    let (answer, known, text, status) = lemmas.answer_of c.args.words.now files c.in-Ok.found c.in-Ok.ensures.found in
    lemmas.answer_of_program _ _ answer status c.write.ensures.either

pub returns-in-Ok-clause-judged : goal.returns-in-Ok-clause-judged
returns-in-Ok-clause-judged g c = λ two tells job program asked.
    lemmas.without_memory _ (returns-in-Ok-clause-opened g c two) (returns-in-Ok-clause-judges g c tells job program asked)

-- The command was refused.

pub returns-in-Err-clause-outcome : goal.returns-in-Err-clause-outcome
returns-in-Err-clause-outcome g c = λ tells devices.
    let state = g.F.Files.state in
    let told = c.refuse.ensures.told (λ e. devices (inr (inl e))) in
    lemmas.ends_refused c.args.words.now (state c.args.files.now) (state c.find.new.files) c.in-Err.refusal _ _ _ _ tells c.in-Err.ensures.explains told.0 told.1 devices

pub returns-in-Err-clause-compiles : goal.returns-in-Err-clause-compiles
returns-in-Err-clause-compiles g c = λ done. absurd (lemmas.never_done _ c.in-Err.refusal c.refuse.ensures.either done)

pub returns-in-Err-clause-approves : goal.returns-in-Err-clause-approves
returns-in-Err-clause-approves g c = λ done. absurd (lemmas.never_done _ c.in-Err.refusal c.refuse.ensures.either done)

pub returns-in-Err-clause-reports : goal.returns-in-Err-clause-reports
returns-in-Err-clause-reports g c = λ done. absurd (lemmas.never_done _ c.in-Err.refusal c.refuse.ensures.either done)

pub returns-in-Err-clause-makes : goal.returns-in-Err-clause-makes
returns-in-Err-clause-makes g c = λ done. absurd (lemmas.never_done _ c.in-Err.refusal c.refuse.ensures.either done)

pub returns-in-Err-clause-generates : goal.returns-in-Err-clause-generates
returns-in-Err-clause-generates g c = λ asked.
    let state = g.F.Files.state in
    inr (lemmas.make_by_devices c.one_meaning.ensures c.args.words.now (state c.args.files.now) (state c.find.new.files) c.in-Err.refusal _ c.in-Err.ensures.explains asked
    c.refuse.ensures.either)

pub returns-in-Err-clause-rejects : goal.returns-in-Err-clause-rejects
returns-in-Err-clause-rejects g c = λ refuses. absurd (lemmas.never_no _ c.in-Err.refusal c.refuse.ensures.either refuses)

pub returns-in-Err-clause-answers : goal.returns-in-Err-clause-answers
returns-in-Err-clause-answers g c = λ either. elim either [
  | inl done ↦ absurd (lemmas.never_done _ c.in-Err.refusal c.refuse.ensures.either done)
  | inr refuses ↦ absurd (lemmas.never_no _ c.in-Err.refusal c.refuse.ensures.either refuses)
]

pub returns-in-Err-clause-completes : goal.returns-in-Err-clause-completes
returns-in-Err-clause-completes g c = λ tells job asked.
    let state = g.F.Files.state in
    inr (lemmas.job_by_devices c.one_meaning.ensures c.sound_or_refused.ensures c.args.words.now (state c.args.files.now) (state c.find.new.files) c.in-Err.refusal _ job tells
    c.in-Err.ensures.explains asked c.refuse.ensures.either)

pub returns-in-Err-clause-judges : goal.returns-in-Err-clause-judges
returns-in-Err-clause-judges g c = λ tells job program asked.
    let state = g.F.Files.state in
    inr (lemmas.case_by_devices c.one_meaning.ensures c.sound_or_refused.ensures c.args.words.now (state c.args.files.now) (state c.find.new.files) c.in-Err.refusal _ job program
    tells c.in-Err.ensures.explains asked c.refuse.ensures.either)

pub returns-in-Err-clause-exactly : goal.returns-in-Err-clause-exactly
returns-in-Err-clause-exactly g c = λ tells job program asked devices.
    let state = g.F.Files.state in
    absurd (devices (lemmas.case_by_devices c.one_meaning.ensures c.sound_or_refused.ensures c.args.words.now (state c.args.files.now) (state c.find.new.files) c.in-Err.refusal _ job
    program tells c.in-Err.ensures.explains asked c.refuse.ensures.either))

pub returns-in-Err-clause-stopped : goal.returns-in-Err-clause-stopped
returns-in-Err-clause-stopped g c = λ stopped. at_message c.in-Err.refusal c.in-Err.ensures.explains refl (c.refuse.ensures.stopped stopped)

pub returns-in-Err-clause-complete : goal.returns-in-Err-clause-complete
returns-in-Err-clause-complete g c = λ faultless.
    let state = g.F.Files.state in
    lemmas.complete c.args.words.now (state c.args.files.now) _ _ _ _ _
    (lemmas.refusal_no_read c.args.words.now (state c.args.files.now) (state c.find.new.files) c.in-Err.refusal _ c.in-Err.ensures.explains c.refuse.ensures.either faultless.of_files)
    (λ stopped. faultless.of_err (c.refuse.ensures.stopped stopped).rises) (returns-in-Err-clause-completes g c) (returns-in-Err-clause-judges g c)
    (returns-in-Err-clause-generates g c) (returns-in-Err-clause-outcome g c)

pub returns-in-Err-clause-opened : goal.returns-in-Err-clause-opened
returns-in-Err-clause-opened g c = λ two.
    let state = g.F.Files.state in
    lemmas.refusal_of_program c.args.words.now (state c.args.files.now) (state c.find.new.files) c.in-Err.refusal _ c.in-Err.ensures.explains two c.refuse.ensures.either

pub returns-in-Err-clause-judged : goal.returns-in-Err-clause-judged
returns-in-Err-clause-judged g c = λ two tells job program asked.
    lemmas.without_memory _ (returns-in-Err-clause-opened g c two) (returns-in-Err-clause-judges g c tells job program asked)
