use Rattle.std.proofs.Common.{◌≡◌, ◌++◌, ◌-◌, take, drop}
use Rattle.sn_p21.specs.Canonical.{words_text}
use Rattle.sn_p21.specs.Grammar.{rows_words}
use Rattle.sn_p21.proofs.write.put_rows.Given as goal

abbrev pub invariant-loop-place : goal.invariant-loop-place
invariant-loop-place l = l.out.items ++ words_text (rows_words (take (l.fn.end - l.place) (drop l.place l.instances))) ≡ l.fn.out.items ++ words_text (rows_words (take (l.fn.end - l.fn.first) (drop l.fn.first l.instances)))
