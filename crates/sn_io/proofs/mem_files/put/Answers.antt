use Rattle.std.proofs.Common.{◌≡◌, ◌∙◌, ap, sym}
use Rattle.sn_io.proofs.MemFilesLemmas.{contents_of-set, contents_of-push}
use Rattle.sn_io.proofs.mem_files.put.Goals as goal

pub returns-in-Some-clause-ok : goal.returns-in-Some-clause-ok
returns-in-Some-clause-ok c =
    let name : c.deref-2.result.now ≡ c.args.file.0 = c.deref-2.ensures.value ∙ ap (λ file. file.0) c.file.view_is in
    contents_of-set _ _ _ _ (sym (rw (name, c.deref.ensures.value) at c.in-Some.ensures))

pub returns-in_ok-push-in-None-clause-ok : goal.returns-in_ok-push-in-None-clause-ok
returns-in_ok-push-in-None-clause-ok c =
    let name : c.deref-2.result.now ≡ c.args.file.0 = c.deref-2.ensures.value ∙ ap (λ file. file.0) c.file.view_is in
    rw c.in_ok-push-in-None.ensures.items (contents_of-push _ _ _ (sym (rw (name, c.deref.ensures.value) at c.in-None.ensures)))
