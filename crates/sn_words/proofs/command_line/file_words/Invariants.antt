use Rattle.sn_words.specs.Reading.{HasFiles}
use Rattle.sn_words.proofs.command_line.file_words.Given as goal

abbrev pub invariant-loop-k : goal.invariant-loop-k
invariant-loop-k l = HasFiles l.w l.k l.files
