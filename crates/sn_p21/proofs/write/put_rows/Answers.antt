use Rattle.std.proofs.Common.{◌≡◌, ◌++◌, ◌+◌, ◌-◌, suc, List, ℕ, take, drop, Option, Some, None, arith, sym, ap, ◌∙◌, append_assoc, IsSome}
use Rattle.std.specs.Option.{option_copied}
use Rattle.sn_p21.specs.Canonical.{words_text}
use Rattle.sn_p21.specs.Grammar.{rows_words}
use Rattle.sn_p21.proofs.Texts.{rows_at, row_words, texts_append}
use Rattle.sn_p21.proofs.write.put_rows.Goals as goal
use Rattle.sn_p21.proofs.write.put_rows.Goals.{in-Some+in_ok-put_instance, in_default}

not_none : {A : Type 0} → (o : Option A) → o ≡ None → IsSome o → ⊥
not_none None e h = cc
not_none (Some x) e h = cc

pub loop-place-preserved : goal.loop-place-preserved
loop-place-preserved c =
    let is = c.args.instances.now in
    let at = c.loop-place.place in
    let left = c.args.end - (at + 1) in
    let rest = rows_words (take left (drop (at + 1) is)) in
    let out = c.loop-place.out.items in
    let more : c.args.end - at ≡ suc left = omega arith in
    elim c.match-at.branch [
      | in-Some+in_ok-put_instance w ↦
          (let i = w.in-Some.instance.now in
          let e = ap (λ k. rows_words (take k (drop at is))) more ∙ rows_at is at left i (sym c.at.ensures.value ∙ ap option_copied w.in-Some.is) in
          ap (λ o. o.items ++ words_text rest) w.out-is
          ∙ ap (λ (xs : List ℕ). xs ++ words_text rest) w.in_ok-put_instance.ensures
          ∙ append_assoc out (words_text (row_words i)) (words_text rest)
          ∙ ap (λ (xs : List ℕ). out ++ xs) (sym (texts_append (row_words i) rest) ∙ ap words_text (sym e))
          ∙ c.loop-place.invariant)
      | in_default w ↦ absurd (not_none c.at.result w.in_default.is (c.at.ensures.within.1 (omega arith)))
    ]
