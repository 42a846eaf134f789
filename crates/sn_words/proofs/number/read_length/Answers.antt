use Rattle.sn_words.proofs.NumberLemmas.{length_found, length_missing}
use Rattle.sn_words.proofs.number.read_length.Goals as goal

pub returns-in-Ok-clause-some : goal.returns-in-Ok-clause-some
returns-in-Ok-clause-some c =
    rw c.ok.ensures.value (length_found _ c.in-Ok.number c.to_um.result c.in-Ok.ensures.number c.to_um.ensures.value c.to_um.ensures.within)

pub returns-in-Ok-clause-none : goal.returns-in-Ok-clause-none
returns-in-Ok-clause-none c =
    rw c.ok.ensures.value (length_missing _ c.in-Ok.number c.to_um.result (λ e h. let same = c.read_dec.ensures.every e h in cc) c.to_um.ensures.every)

pub returns-in-Err-clause-none : goal.returns-in-Err-clause-none
returns-in-Err-clause-none c = λ um h. let found = c.read_dec.ensures.every h.number h.reads in cc
