use Rattle.std.proofs.Common.{ℕ, ◌≡◌, false, sym, ◌∙◌, subst, arith}
use Rattle.sn_clear.specs.Runs.{is_useful_on}
use Rattle.sn_clear.proofs.PlaceLemmas.{start_is}
use Rattle.sn_clear.proofs.runs.start_on.Goals as goal

pub returns-else-is_useful_on-clause-value : goal.returns-else-is_useful_on-clause-value
returns-else-is_useful_on-clause-value c =
    start_is (is_useful_on c.args.f.now c.args.line) c.args.k c.loop-start.start (record {
      before = c.loop-start.invariant.before;
      pass = c.loop-start.invariant.pass;
      stops = λ m next.
          let P : ℕ → Type 0 = λ i. is_useful_on c.args.f.now c.args.line i ≡ false in
          subst P (omega (arith, next)) (sym c.is_useful_on.ensures ∙ c.if-is_useful_on.false);
    })

pub returns-after-loop-start-clause-value : goal.returns-after-loop-start-clause-value
returns-after-loop-start-clause-value c =
    start_is (is_useful_on c.args.f.now c.args.line) c.args.k c.loop-start.start (record {
      before = c.loop-start.invariant.before;
      pass = c.loop-start.invariant.pass;
      stops = λ m next. absurd (omega (arith, next, c.loop-start-test.false));
    })
