use Rattle.std.proofs.Common.{◌≡◌, ◌++◌, drop, flat_map}
use Rattle.sn_p21.specs.Canonical.{words_text}
use Rattle.sn_p21.specs.Grammar.{header_words}
use Rattle.sn_p21.proofs.write.put_header.Given as goal

abbrev pub invariant-loop-entity : goal.invariant-loop-entity
invariant-loop-entity l = l.out.items ++ words_text (flat_map header_words (drop l.entity-index l.header)) ≡ l.fn.out.items ++ words_text (flat_map header_words l.header)
