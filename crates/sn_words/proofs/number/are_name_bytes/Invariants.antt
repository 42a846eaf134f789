use Rattle.std.proofs.Common.{ℕ, ◌<◌, get_or}
use Rattle.sn_words.specs.WordForms.{IsNameByte}
use Rattle.sn_words.proofs.number.are_name_bytes.Given as goal

abbrev pub invariant-loop-byte : goal.invariant-loop-byte
invariant-loop-byte l = (k : ℕ) (d : ℕ) → k < l.byte-index → IsNameByte (get_or l.text k d)
