use Rattle.sn_report.proofs.GeneratedPart.{drawn_length}
use Rattle.sn_report.proofs.laws.seeds_give_sixteen.Goals as goal

pub returns : goal.returns
returns c = λ seed. drawn_length 16 seed
