use Rattle.std.proofs.Common.{sym, ◌∙◌, subst}
use Rattle.sn_raster.specs.Grid.{IsGridOf}
use Rattle.sn_open.proofs.RegionLemmas.{free_centres}
use Rattle.sn_open.proofs.WindowLemmas.{in_own_window}
use Rattle.sn_open.proofs.centres.Centres.refill.Goals as goal

pub returns-clause-centres : goal.returns-clause-centres
returns-clause-centres c = λ job of.
    let g = c.args.g.now in
    let same = c.erode.ensures.grid ∙ c.refill.ensures.grid in
    record {
      grid = subst (λ h. IsGridOf h job) (sym same) of;
      nodes = λ n window.
          free_centres c.outside.ensures.allowed g job c.args.s.now c.refill.new.self c.erode.new.to c.requires.executed of c.refill.ensures.grid (c.refill.ensures.allowed job of)
          c.erode.ensures.nodes n (in_own_window g _ n (sym same) window);
    }
