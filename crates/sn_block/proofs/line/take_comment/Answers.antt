use Rattle.std.proofs.Common.{◌∙◌, sym, ap, Ok}
use Rattle.std.specs.Prelude.{Option, ℕ, true}
use Rattle.sn_geom.specs.LineText.{Said, with_mark, mark_of}
use Rattle.sn_block.proofs.Comments.{open_step, comment_step}
use Rattle.sn_block.proofs.line.take_comment.Goals as goal

pub returns-then-not-has_end : goal.returns-then-not-has_end
returns-then-not-has_end c = sym (open_step c.args.said c.args.rest.now c.args.column (sym c.has_end.ensures ∙ c.if-not-has_end.true))

pub returns : goal.returns
returns c =
    let mark = c.mark_of-mark.ensures.value ∙ ap mark_of c.body_of.ensures in
    ap Ok (c.with_comment.ensures ∙ ap (λ (m : Option ℕ). (let s : Said = record { block = with_mark c.args.said.block m; begun = true } in s)) mark)
    ∙ sym (comment_step c.args.said c.args.rest.now c.args.column (sym c.has_end.ensures ∙ c.if-not-has_end.false))
