use Rattle.sn_words.proofs.SettingFaults.{no_box}
use Rattle.sn_words.proofs.setting.box_at.Goals as goal

pub returns-clause-none : goal.returns-clause-none
returns-clause-none c = no_box c.args.words.now c.args.k c.get.result.now c.read_box.result c.get.ensures c.read_box.ensures.none
