use Rattle.std.proofs.Common.{◌++◌, ◌+◌, ◌-◌, List, ℕ, length, take, drop, arith, sym, ap, ◌∙◌, append_assoc}
use Rattle.sn_p21.specs.Canonical.{words_text}
use Rattle.sn_p21.specs.Grammar.{section_words, plainest_sections, rows_words}
use Rattle.sn_p21.proofs.Texts.{section_at, texts_append}
use Rattle.sn_p21.proofs.write.put_sections.Goals as goal

pub loop-section-preserved : goal.loop-section-preserved
loop-section-preserved c =
    let is = c.args.instances.now in
    let ss = c.args.sections.now in
    let s = c.section-item.result in
    let n = c.loop-section.section-index in
    let left = c.loop-section.left in
    let end = length is - (left - s.count) in
    let first = length is - left in
    let rest = words_text (plainest_sections (drop (n + 1) ss) (drop end is)) in
    let one = section_words s (rows_words (take (end - first) (drop first is))) in
    let at = section_at ss n s is left c.section-item.is c.loop-section-test.true c.loop-section.invariant.0 c.loop-section.invariant.1 in
    let counted = ap (λ k. words_text (section_words s (rows_words (take (k - (left - s.count) - (k - left)) (drop (k - left) is))))) c.len-count.ensures in (
      omega arith,
      at.0,
      ap (λ (xs : List ℕ). xs ++ rest) (c.in_ok-put_section.ensures ∙ ap (λ (xs : List ℕ). c.loop-section.out.items ++ xs) counted)
          ∙ append_assoc c.loop-section.out.items (words_text one) rest
          ∙ ap (λ (xs : List ℕ). c.loop-section.out.items ++ xs) (sym (texts_append one (plainest_sections (drop (n + 1) ss) (drop end is))) ∙ ap words_text (sym at.1))
          ∙ c.loop-section.invariant.2,
    )
