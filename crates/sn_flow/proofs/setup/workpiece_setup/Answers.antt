use Rattle.std.proofs.Common.{ℕ, Bool, List, ◌∙◌, ap, nat_eq, Option}
use Rattle.std.specs.List.{find}
use Rattle.sn_entity.specs.declared.row.RowId.TheVariants.{Setup}
use Rattle.sn_feature.specs.Entities.{named}
use Rattle.sn_flow.specs.Setup.{listed_of}
use Rattle.sn_flow.proofs.SetupLemmas.{listed_targets}
use Rattle.sn_flow.proofs.setup.workpiece_setup.Goals as goal

pub first_naming-requires : goal.first_naming-requires
first_naming-requires c = listed_targets c.args.c.now Setup c.in_ok-setup.setup 1 c.in_ok-setup.ensures.target c.many.result.now c.many.ensures.targets

pub returns-clause-value : goal.returns-clause-value
returns-clause-value c =
    let test : ℕ → Bool = λ n. nat_eq (named c.args.c.now n 0) c.args.workpiece in
    c.first_naming.ensures.value
    ∙ ap (λ (ns : List ℕ). find test ns) (c.many.ensures.named ∙ ap (λ (s : Option ℕ). listed_of c.args.c.now s 1) c.in_ok-setup.ensures.value)
