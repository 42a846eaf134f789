use Rattle.std.proofs.Common.{◌≡◌, ap, ◌∙◌, sym, subst, arith, false, rules, w32, to_z, of_z, FitsSigned}
use Rattle.std.proofs.lemmas.Bool.{ne_eqb}
use Rattle.std.proofs.lemmas.Int.{to_z-of_z}
use Rattle.std.specs.Prelude.{unsigned_abs}
use Rattle.sn_geom.specs.Block.{Block}
use Rattle.sn_block.specs.Steps.{CanStand}
use Rattle.sn_block.proofs.Blocks.{numbered, with_more}
use Rattle.sn_block.proofs.Room.{few_words}
use Rattle.sn_block.proofs.said.block_with_word.Goals as goal

pub invariant_of-result : goal.invariant_of-result
invariant_of-result c =
    let fits : FitsSigned w32 c.args.word.value = search rules in
    let back : to_z w32 (of_z w32 c.args.word.value) ≡ c.args.word.value = to_z-of_z w32 c.args.word.value fits in
    numbered (record { percent = c.block.inside.percent; number = c.block.inside.number; mark = c.block.inside.mark; words = c.block.inside.words }) c.args.word c.unsigned_abs.result c.block.invariant
    (subst (λ (b : Block). b.percent ≡ false) (sym c.block.view_is) c.requires.no_percent)
    (subst (λ (b : Block). CanStand b c.args.word) (sym c.block.view_is) c.requires.stands) c.if-word-eq78.true (c.unsigned_abs.ensures.value ∙ ap unsigned_abs back)

pub push-requires : goal.push-requires
push-requires c = let few = few_words c.block.inside.words c.block.invariant.words c.block.invariant.distinct in omega (arith, few)

pub invariant_of-result-2 : goal.invariant_of-result-2
invariant_of-result-2 c =
    rw c.push.ensures
    (with_more (record { percent = c.block.inside.percent; number = c.block.inside.number; mark = c.block.inside.mark; words = c.block.inside.words }) c.args.word c.block.invariant
    (subst (λ (b : Block). b.percent ≡ false) (sym c.block.view_is) c.requires.no_percent)
    (subst (λ (b : Block). CanStand b c.args.word) (sym c.block.view_is) c.requires.stands) (ne_eqb c.args.word.letter 78 c.if-word-eq78.false))
