use Rattle.std.proofs.Common.{◌≡◌, ◌++◌, ◌-◌, ◌≤◌, drop, length}
use Rattle.sn_p21.specs.Canonical.{words_text}
use Rattle.sn_p21.specs.Grammar.{plainest_sections, counted}
use Rattle.sn_p21.proofs.write.put_sections.Given as goal

abbrev pub invariant-loop-section : goal.invariant-loop-section
invariant-loop-section l =
    (l.left ≤ length l.instances)
    × (counted (drop l.section-index l.sections) ≡ l.left)
    × (l.out.items ++ words_text (plainest_sections (drop l.section-index l.sections) (drop (length l.instances - l.left) l.instances)) ≡ l.fn.out.items ++ words_text (plainest_sections l.sections l.instances))
