use Rattle.std.proofs.Common.{sym, ◌∙◌, arith}
use Rattle.sn_clear.specs.Runs.{is_useful_on, places_on}
use Rattle.sn_clear.proofs.PlaceLemmas.{end_is}
use Rattle.sn_clear.proofs.runs.end_on.Goals as goal

pub returns-else-is_useful_on-clause-value : goal.returns-else-is_useful_on-clause-value
returns-else-is_useful_on-clause-value c =
    end_is (is_useful_on c.args.f.now c.args.line) (places_on c.args.f.now c.args.line) c.args.k c.loop-end.end (record {
      after = c.loop-end.invariant.after;
      within = omega (arith, c.loop-end.invariant.within, c.places_on-count.ensures);
      pass = c.loop-end.invariant.pass;
      stops = λ more. sym c.is_useful_on.ensures ∙ c.if-is_useful_on.false;
    })

pub returns-after-loop-end-clause-value : goal.returns-after-loop-end-clause-value
returns-after-loop-end-clause-value c =
    end_is (is_useful_on c.args.f.now c.args.line) (places_on c.args.f.now c.args.line) c.args.k c.loop-end.end (record {
      after = c.loop-end.invariant.after;
      within = omega (arith, c.loop-end.invariant.within, c.places_on-count.ensures);
      pass = c.loop-end.invariant.pass;
      stops = λ more. absurd (omega (arith, c.loop-end-test.false, c.places_on-count.ensures));
    })
