use Rattle.std.proofs.Common.{◌≡◌, ◌++◌, drop, map}
use Rattle.sn_p21.specs.Canonical.{words_text}
use Rattle.sn_p21.specs.Grammar.{list_words, param_words}
use Rattle.sn_p21.proofs.Texts.{pending}
use Rattle.sn_p21.proofs.write.+params.Given as goal

abbrev pub invariant-put_list-loop-i : goal.invariant-put_list-loop-i
invariant-put_list-loop-i l = l.out.items ++ words_text (pending l.i (drop l.i l.params)) ≡ l.fn.out.items ++ words_text (list_words (map param_words l.params))
