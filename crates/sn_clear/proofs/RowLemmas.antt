-- The sweep over the selected rows.
use Rattle.std.proofs.Common.{◌≡◌, ℕ, ◌+◌, true, false, cond, List, [], ◌++◌, refl, sym, ap, ◌∙◌, add-one}
use Rattle.std.proofs.lemmas.Bool.{cond-true, cond-false}
use Rattle.std.proofs.lemmas.List.{append-nil}
use Rattle.sn_clear.specs.declared.spot.Run.{Run}
use Rattle.sn_clear.specs.declared.spot.Line.{Line}
use Rattle.sn_clear.specs.Field.{Field}
use Rattle.sn_clear.specs.Runs.{runs_on}
use Rattle.sn_clear.specs.Rows.{sweep_before, is_selected, row_place, line_at}

pub sweep-none : (f : Field) (every : ℕ) → sweep_before f every 0 ≡ []
unfolding sweep_before
sweep-none f every = refl

pub sweep-next : (f : Field) (every row : ℕ)
    → sweep_before f every (row + 1) ≡ sweep_before f every row ++ cond (is_selected f every row) (runs_on f (line_at row (row_place f every row))) []
unfolding sweep_before
sweep-next f every row = ap (sweep_before f every) (add-one row)

pub row_swept : (f : Field) (every row place : ℕ) (old new : List Run) (line : Line) → is_selected f every row ≡ true
    → line ≡ line_at row place → place ≡ row_place f every row
    → old ≡ sweep_before f every row → new ≡ old ++ runs_on f line → new ≡ sweep_before f every (row + 1)
row_swept f every row place old new line on is at so_far more =
    more ∙ ap (λ xs. xs ++ runs_on f line) so_far
    ∙ ap (λ l. sweep_before f every row ++ runs_on f l) (is ∙ ap (λ k. line_at row k) at)
    ∙ ap (λ xs. sweep_before f every row ++ xs) (sym (cond-true (is_selected f every row) _ _ on))
    ∙ sym (sweep-next f every row)

pub row_passed : (f : Field) (every row : ℕ) (old : List Run) → is_selected f every row ≡ false
    → old ≡ sweep_before f every row → old ≡ sweep_before f every (row + 1)
row_passed f every row old off so_far =
    so_far ∙ sym (append-nil (sweep_before f every row))
    ∙ ap (λ xs. sweep_before f every row ++ xs) (sym (cond-false (is_selected f every row) _ _ off))
    ∙ sym (sweep-next f every row)
