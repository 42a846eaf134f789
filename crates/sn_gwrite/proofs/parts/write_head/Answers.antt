use Rattle.std.proofs.Common.{refl}
use Rattle.sn_gwrite.specs.Program.{head_text}
use Rattle.sn_io.proofs.SinkLemmas.{writes-first, writes-later}
use Rattle.sn_gwrite.proofs.parts.write_head.Goals as goal

-- src/parts.rt:16:5
pub returns-in_err-write_all : goal.returns-in_err-write_all
unfolding head_text
returns-in_err-write_all g c =
    writes-first c.from_residual.result _ _ _ _ _ c.from_residual.ensures.0 refl c.in_err-write_all.ensures

-- src/parts.rt:12:1
pub returns : goal.returns
unfolding head_text
returns g c =
    writes-later c.write_tools.result _ _ _ _ _ _ refl c.in_ok-write_all.ensures c.write_tools.ensures
