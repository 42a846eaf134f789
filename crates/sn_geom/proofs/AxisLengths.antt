-- The values of axis words are lengths.
use Rattle.std.proofs.Common.{◌≡◌, ℕ, ℤ, true, ◌==◌, Some, None, List, [], ◌∷◌, refl, sym, ◌∙◌, subst, ⊎_elim}
use Rattle.std.specs.Prelude.{unsigned_abs, All}
use Rattle.std.specs.Option.{ForSome}
use Rattle.std.proofs.lemmas.Bool.{cases_Bool, eqb-true, leb-true, cond-true}
use Rattle.std.proofs.lemmas.List.Elements.{All-head, All-tail}
use Rattle.sn_geom.specs.declared.limits.TheConstants.{REACH}
use Rattle.sn_geom.specs.declared.machine.Word.{Word}
use Rattle.sn_geom.specs.Length.{IsLength}
use Rattle.sn_geom.specs.Block.{Block, value_of}
use Rattle.sn_geom.specs.BlockRule.{IsBlock, IsLineWord}
use Rattle.sn_geom.specs.LineTable.{is_axis, is_within}
use Rattle.sn_geom.specs.AxisWords.{AxesAreLengths}

within_reach : (letter : ℕ) (value : ℤ) → is_axis letter ≡ true → is_within letter value ≡ true → IsLength value
unfolding is_within
within_reach letter value axis within = leb-true (unsigned_abs value) REACH (sym (cond-true (is_axis letter) _ _ axis) ∙ within)

in_range : (letter : ℕ) (w : Word) → is_axis letter ≡ true → (w.letter == letter) ≡ true → IsLineWord w → IsLength w.value
in_range letter w axis same rule =
    within_reach w.letter w.value (subst (λ (l : ℕ). is_axis l ≡ true) (sym (eqb-true w.letter letter same)) axis) rule.within

-- the first word of an axis letter
first_in_range : (letter : ℕ) (words : List Word) → is_axis letter ≡ true → All IsLineWord words → ForSome (value_of words letter) IsLength
first_in_range letter [] axis rule value found = absurd (let h : None ≡ Some value = found in cc)
first_in_range letter (w ∷ ws) axis rule value found =
    ⊎_elim
    (λ same. let e : w.value ≡ value = cc in subst IsLength e (in_range letter w axis same (All-head IsLineWord w ws rule)))
    (λ other. first_in_range letter ws axis (All-tail IsLineWord w ws rule) value (let e : value_of ws letter ≡ Some value = cc in e))
    (cases_Bool (w.letter == letter))

pub axes_are_lengths : (b : Block) → IsBlock b → AxesAreLengths b.words
axes_are_lengths b rule = record {
  x = first_in_range 88 b.words refl rule.words;
  y = first_in_range 89 b.words refl rule.words;
  z = first_in_range 90 b.words refl rule.words;
}
