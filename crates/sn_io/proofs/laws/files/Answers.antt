use Rattle.std.proofs.Common.{◌∙◌}
use Rattle.sn_io.proofs.laws.files.Goals as goal

pub returns : goal.returns
returns c = record {
  openings = λ first opened read second name other told opens opening reads again.
      let still = opens.tells ∙ told in
      again.left (reads.tells ∙ still) ∙ reads.given still other 0 ∙ opening.given told other 0;
}
