use Rattle.sn_geom.proofs.RuleLemmas.{words_are_bounded, words_are_distinct}
use Rattle.sn_geom.proofs.laws.rules.lines.Goals as goal

pub returns-clause-words : goal.returns-clause-words
returns-clause-words c = words_are_bounded

pub returns-clause-distinct : goal.returns-clause-distinct
returns-clause-distinct c = words_are_distinct
