use Rattle.sn_words.proofs.NumberLemmas.{value_found, value_missing}
use Rattle.sn_words.proofs.number.read_value.Goals as goal

pub returns-in-Ok-clause-some : goal.returns-in-Ok-clause-some
returns-in-Ok-clause-some c =
    rw c.ok.ensures.value (value_found _ c.in-Ok.number c.scaled.result c.in-Ok.ensures.number c.scaled.ensures.value c.scaled.ensures.within)

pub returns-in-Ok-clause-none : goal.returns-in-Ok-clause-none
returns-in-Ok-clause-none c =
    rw c.ok.ensures.value (value_missing _ c.in-Ok.number c.scaled.result (λ e h. let same = c.read_dec.ensures.every e h in cc) c.scaled.ensures.every)

pub returns-in-Err-clause-none : goal.returns-in-Err-clause-none
returns-in-Err-clause-none c = λ v h within. let found = c.read_dec.ensures.every h.number h.reads in cc
