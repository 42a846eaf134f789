use Rattle.std.proofs.Common.{ℤ, w32, sym, subst}
use Rattle.std.proofs.lemmas.Int.{to_z-of_z}
use Rattle.sn_raster.specs.Heights.{IsTouchedCell}
use Rattle.sn_raster.proofs.heights.Heights.first_touched.Goals as goal

pub returns-clause-none : goal.returns-clause-none
returns-clause-none c =
    λ none cell touched.
    let F : ℤ → Type 0 = λ f. IsTouchedCell c.args.self.now c.args.d c.args.a.now c.args.b.now f cell in
    c.first_in_rows.ensures.none none cell (subst F (sym (to_z-of_z w32 c.args.from c.ranges.from)) touched)
