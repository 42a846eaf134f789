use Rattle.sn_geom.proofs.LineCounts.{fine_is_whole_count}
use Rattle.sn_geom.proofs.LineNumbers.{sign_and_digits}
use Rattle.sn_geom.proofs.line_laws.word_numbers.Goals as goal

pub returns-clause-text : goal.returns-clause-text
returns-clause-text c = sign_and_digits

pub returns-clause-value : goal.returns-clause-value
returns-clause-value c = fine_is_whole_count
