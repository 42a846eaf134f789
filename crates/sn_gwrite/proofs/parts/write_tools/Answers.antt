use Rattle.std.proofs.Common.{ℕ, List, ◌≡◌, ◌+◌, ◌<◌, ◌≤◌, ◌++◌, [], length, drop, get_or, refl, sym, ap, ◌∙◌, add-one, append_assoc, append-nil, drop-cons, drop_of_length-le}
use Rattle.sn_io.proofs.SinkLemmas.{takes-more}
use Rattle.sn_gwrite.specs.Program.{tools_text, tool_text}
use Rattle.sn_io.proofs.SinkLemmas.{writes-later, writes-first}
use Rattle.sn_gwrite.proofs.parts.write_tools.Goals as goal

next_tool : (tools : List ℕ) (i : ℕ) → i < length tools
    → tools_text (i + 1) (drop i tools) ≡ tool_text (i + 1) (get_or tools i 0) ++ tools_text (i + 1 + 1) (drop (i + 1) tools)
unfolding tools_text
next_tool tools i within = rw (drop-cons tools i 0, add-one) refl

no_tool : (tools : List ℕ) (i : ℕ) → length tools ≤ i → tools_text (i + 1) (drop i tools) ≡ []
unfolding tools_text
no_tool tools i past = rw (drop_of_length-le tools past) refl

-- src/parts.rt:24:9
pub returns-in_err-write_tool : goal.returns-in_err-write_tool
returns-in_err-write_tool g c =
    let so_far = c.loop-i.invariant in
    let next = next_tool c.args.tools.now c.loop-i.i c.loop-i-test.true in
    writes-later c.from_residual.result _ _ _ _ so_far.0 _ so_far.1 so_far.2
    (writes-first c.from_residual.result _ _ _ _ _ c.from_residual.ensures.0 next c.in_err-write_tool.ensures)

-- src/parts.rt:23:5
pub loop-i-preserved : goal.loop-i-preserved
loop-i-preserved g c =
    let so_far = c.loop-i.invariant in
    let next = next_tool c.args.tools.now c.loop-i.i c.loop-i-test.true in (
      so_far.0 ++ tool_text (c.loop-i.i + 1) (get_or c.args.tools.now c.loop-i.i 0),
      so_far.1 ∙ ap (λ rest. so_far.0 ++ rest) next ∙ sym (append_assoc so_far.0 _ _),
      takes-more _ _ _ so_far.0 _ so_far.2 c.in_ok-write_tool.ensures,
    )

-- src/parts.rt:20:1
pub returns : goal.returns
returns g c =
    let so_far = c.loop-i.invariant in
    let done = no_tool c.args.tools.now c.loop-i.i c.loop-i-test.false in
    rw (so_far.1, done, append-nil) so_far.2
