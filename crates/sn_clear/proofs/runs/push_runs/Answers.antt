use Rattle.std.proofs.Common.{◌≡◌, ◌++◌, sym, ap, ◌∙◌, arith}
use Rattle.std.proofs.lemmas.List.{append-nil}
use Rattle.sn_clear.specs.Runs.{run_between, runs_before, places_on}
use Rattle.sn_clear.proofs.RunLemmas.{runs-none, run_added, run_passed}
use Rattle.sn_clear.proofs.runs.push_runs.Goals as goal
use Rattle.sn_clear.proofs.runs.push_runs.Goals.{then-begins+in_ok-push, else-begins}

pub loop-k-init : goal.loop-k-init
loop-k-init c = sym (ap (λ xs. c.args.strokes.now.items ++ xs) (runs-none c.args.f.now c.args.line) ∙ append-nil c.args.strokes.now.items)

pub loop-k-preserved : goal.loop-k-preserved
loop-k-preserved c =
    let f = c.args.f.now in
    let line = c.args.line in
    let k = c.loop-k.k in
    elim c.if-begins.branch [
      | then-begins+in_ok-push w ↦
          rw w.strokes-is
          (run_added f line k c.args.strokes.now.items c.loop-k.strokes.items w.push.new.self.items w.run_between.result
          (sym c.begins.ensures ∙ w.if-begins.true)
          (w.run_between.ensures ∙ ap (λ e. run_between f line k e) w.end_on-end.ensures.value)
          c.loop-k.invariant w.in_ok-push.ensures.items)
      | else-begins w ↦
          rw w.strokes-is
          (run_passed f line k c.args.strokes.now.items c.loop-k.strokes.items (sym c.begins.ensures ∙ w.if-begins.false) c.loop-k.invariant)
    ]

pub returns : goal.returns
returns c =
    let all : c.loop-k.k ≡ places_on c.args.f.now c.args.line = omega (arith, c.loop-k-test.false, c.places_on-k-end.ensures) in
    c.loop-k.invariant ∙ ap (λ n. c.args.strokes.now.items ++ runs_before c.args.f.now c.args.line n) all
