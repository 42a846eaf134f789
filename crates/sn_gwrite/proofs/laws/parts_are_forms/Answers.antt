use Rattle.sn_gwrite.proofs.PartLines.{head-forms, mark-forms, change-forms, rates-forms, motion-forms, end-forms}
use Rattle.sn_gwrite.proofs.laws.parts_are_forms.Goals as goal

pub returns : goal.returns
returns c = record {
  head = head-forms;
  mark = mark-forms;
  change = change-forms;
  rates = rates-forms;
  motion = motion-forms;
  end = end-forms;
}
