-- Runs of useful centres on a line.
use Rattle.std.proofs.Common.{◌≡◌, ℕ, ◌+◌, true, false, cond, List, [], ◌∷◌, ◌++◌, refl, sym, ap, ◌∙◌, add-one}
use Rattle.std.proofs.lemmas.Bool.{cond-true, cond-false}
use Rattle.std.proofs.lemmas.List.{append_assoc, append-nil}
use Rattle.sn_clear.specs.declared.spot.Run.{Run}
use Rattle.sn_clear.specs.declared.spot.Line.{Line}
use Rattle.sn_clear.specs.Field.{Field}
use Rattle.sn_clear.specs.Places.{begins}
use Rattle.sn_clear.specs.Runs.{runs_before, is_useful_on, run_between, end_on}

pub runs-none : (f : Field) (line : Line) → runs_before f line 0 ≡ []
unfolding runs_before
runs-none f line = refl

pub runs-next : (f : Field) (line : Line) (n : ℕ)
    → runs_before f line (n + 1) ≡ runs_before f line n ++ cond (begins (is_useful_on f line) n) (run_between f line n (end_on f line n) ∷ []) []
unfolding runs_before
runs-next f line n = ap (runs_before f line) (add-one n)

-- a list that has grown by a last part
pub grown : {X : Type 0} (first made part old new : List X) → old ≡ first ++ made → new ≡ old ++ part → new ≡ first ++ (made ++ part)
grown first made part old new is more = more ∙ ap (λ xs. xs ++ part) is ∙ append_assoc first made part

pub run_added : (f : Field) (line : Line) (n : ℕ) (first old new : List Run) (run : Run) → begins (is_useful_on f line) n ≡ true
    → run ≡ run_between f line n (end_on f line n) → old ≡ first ++ runs_before f line n → new ≡ old ++ run ∷ []
    → new ≡ first ++ runs_before f line (n + 1)
run_added f line n first old new run on is so_far more =
    let part : run ∷ [] ≡ cond (begins (is_useful_on f line) n) (run_between f line n (end_on f line n) ∷ []) [] =
    ap (λ r. r ∷ []) is ∙ sym (cond-true (begins (is_useful_on f line) n) _ _ on) in
    grown first (runs_before f line n) _ old new so_far (more ∙ ap (λ xs. old ++ xs) part) ∙ sym (ap (λ xs. first ++ xs) (runs-next f line n))

pub run_passed : (f : Field) (line : Line) (n : ℕ) (first old : List Run) → begins (is_useful_on f line) n ≡ false
    → old ≡ first ++ runs_before f line n → old ≡ first ++ runs_before f line (n + 1)
run_passed f line n first old off so_far =
    let part : [] ≡ cond (begins (is_useful_on f line) n) (run_between f line n (end_on f line n) ∷ []) [] =
    sym (cond-false (begins (is_useful_on f line) n) _ _ off) in
    grown first (runs_before f line n) _ old old so_far (sym (append-nil old) ∙ ap (λ xs. old ++ xs) part) ∙ sym (ap (λ xs. first ++ xs) (runs-next f line n))
