-- The reader over several words.
use Rattle.std.proofs.Common.{◌≡◌, ℕ, List, [], ◌∷◌, ◌++◌, Ok, Err, refl, sym, ap, ◌∙◌}
use Rattle.sn_p21.specs.Word.{Word}
use Rattle.sn_p21.specs.declared.grammar.reader.Reader.{Reader}
use Rattle.sn_p21.specs.Reader.{Step, step}

abbrev pub and_then : Step → (Reader → Step) → Step
and_then (Ok s) f = f s
and_then (Err why) f = Err why

module _ (limit : ℕ) where
  abbrev pub run : Reader → List Word → Step
  run s [] = Ok s
  run s (w ∷ ws) = and_then (step limit s w.token w.value) (λ next. run next ws)

  and_then_twice : (r : Step) (f : Reader → Step) (xs ys : List Word) → ((s : Reader) → run s (xs ++ ys) ≡ and_then (run s xs) (λ next. run next ys)) → and_then r (λ s. run s (xs ++ ys)) ≡ and_then (and_then r (λ s. run s xs)) (λ next. run next ys)
  and_then_twice (Ok s) f xs ys h = h s
  and_then_twice (Err why) f xs ys h = refl

  pub run-append : (xs ys : List Word) (s : Reader) → run s (xs ++ ys) ≡ and_then (run s xs) (λ next. run next ys)
  run-append [] ys s = refl
  run-append (w ∷ xs) ys s = and_then_twice (step limit s w.token w.value) Ok xs ys (run-append xs ys)

  -- the first of words that are read, and the others
  pub first_gave : (r : Step) (ws : List Word) (t : Reader) → and_then r (λ s. run s ws) ≡ Ok t → (s : Reader) × (r ≡ Ok s) × (run s ws ≡ Ok t)
  first_gave (Ok s) ws t h = (s, refl, h)
  first_gave (Err why) ws t h = absurd (cc)

  -- words in front of others are read
  pub front_ran : (xs ys : List Word) (s t : Reader) → run s (xs ++ ys) ≡ Ok t → (r : Reader) × (run s xs ≡ Ok r) × (run r ys ≡ Ok t)
  front_ran xs ys s t h = first_gave (run s xs) ys t (sym (run-append xs ys s) ∙ h)

  -- and with these behind them
  pub joined_ran : (xs ys : List Word) (s r t : Reader) → run s xs ≡ Ok r → run r ys ≡ Ok t → run s (xs ++ ys) ≡ Ok t
  joined_ran xs ys s r t h k = run-append xs ys s ∙ ap (λ x. and_then x (λ next. run next ys)) h ∙ k
