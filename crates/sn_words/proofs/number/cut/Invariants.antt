use Rattle.std.proofs.Common.{◌≡◌, take, drop}
use Rattle.sn_words.specs.Reading.{behind_text, cut_at}
use Rattle.sn_words.proofs.number.cut.Given as goal

abbrev pub invariant-loop-place : goal.invariant-loop-place
invariant-loop-place l = cut_at l.separator l.text ≡ behind_text (take l.place l.text) (cut_at l.separator (drop l.place l.text))
