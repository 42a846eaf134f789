use Rattle.std.proofs.Common.{sym, ◌∙◌}
use Rattle.sn_lex.proofs.Comments.{leaves_blank, leaves_comment, no_comment_end, comment_cases}
use Rattle.sn_lex.proofs.separators.after_separator.Goals as goal

pub returns-then-is_ascii_whitespace : goal.returns-then-is_ascii_whitespace
returns-then-is_ascii_whitespace c = leaves_blank _ c.in-Some.first.now _ (sym c.is_ascii_whitespace.ensures.value ∙ c.if-is_ascii_whitespace.true) c.in-Some.ensures.cases.0

pub returns-in_ok-after_byte-in-Some-2 : goal.returns-in_ok-after_byte-in-Some-2
returns-in_ok-after_byte-in-Some-2 c =
    let dark = sym c.is_ascii_whitespace.ensures.value ∙ c.if-is_ascii_whitespace.false in
    comment_cases _ _ _
    (no_comment_end _ c.in-Some.first.now _ _ _ dark c.in-Some.ensures.cases.0 c.in_ok-after_byte-in-Some.ensures c.in_ok-after_byte-in-Some-2.ensures)
    (λ after. leaves_comment _ _ _ after c.in_ok-after_byte-in-Some.ensures c.in_ok-after_byte-in-Some-2.ensures)
    c.after_comment.ensures
