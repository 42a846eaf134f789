-- The laws of the text of a program.
use Rattle.std.proofs.Common.{refl}
use Rattle.std.specs.Fmt.{digits}
use Rattle.sn_gwrite.specs.Length.{length_text}
use Rattle.sn_gwrite.specs.Program.{tool_text, tools_text, head_text, mark_text, change_text, rates_text, motion_text, end_text}
use Rattle.sn_program.specs.TextLaws.{StepsAreWritten}

pub steps_are_written : StepsAreWritten
unfolding digits length_text tool_text tools_text head_text mark_text change_text rates_text motion_text end_text
steps_are_written = refl
