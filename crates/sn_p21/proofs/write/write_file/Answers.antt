use Rattle.std.proofs.Common.{◌≡◌, ◌++◌, List, ℕ, sym, ap, subst, ◌∙◌, flat_map}
use Rattle.sn_p21.specs.Canonical.{words_text, canonical_text}
use Rattle.sn_p21.specs.Grammar.{header_words, opening_words, section_end_words, file_end_words, plainest_sections, IsFile}
use Rattle.sn_p21.specs.PartText.{IsPartText}
use Rattle.sn_p21.proofs.Texts.{file_text}
use Rattle.sn_p21.proofs.write.write_file.Goals as goal

pub returns : goal.returns
returns c =
    let h = c.f.inside.header in
    let sections = plainest_sections c.f.inside.sections c.f.inside.instances in
    let o = words_text opening_words in
    let m = words_text section_end_words in
    let e = words_text file_end_words in
    let r = words_text sections in
    let same : c.from_vec.result ≡ canonical_text c.args.f.now =
    c.from_vec.ensures
    ∙ c.in_ok-put-3.ensures
    ∙ ap (λ (xs : List ℕ). xs ++ e) (c.in_ok-put_sections.ensures ∙ ap (λ us. c.put-2.new.out.items ++ words_text (plainest_sections us c.f.inside.instances)) c.as_slice-2.ensures ∙ ap (λ (xs : List ℕ). xs ++ r) (c.in_ok-put-2.ensures ∙ ap (λ (xs : List ℕ). xs ++ m) (c.in_ok-put_header.ensures ∙ ap (λ es. c.put.new.out.items ++ words_text (flat_map header_words es)) c.as_slice.ensures ∙ ap (λ (xs : List ℕ). xs ++ words_text (flat_map header_words h)) (c.in_ok-put.ensures ∙ ap (λ (xs : List ℕ). xs ++ o) c.new-out.ensures.items))))
    ∙ sym (file_text (flat_map header_words h) sections)
    ∙ ap canonical_text c.f.view_is
    in
    let back = c.reads_canonical.ensures c.args.f.now (subst IsFile c.f.view_is c.f.invariant) in
    record { text = same; read_back = subst (λ bytes. IsPartText bytes c.args.f.now) (sym same) back }
