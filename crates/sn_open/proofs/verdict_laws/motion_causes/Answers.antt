use Rattle.sn_open.proofs.MotionCauseLemmas.{feeds_are_their_steps, feeds_gouge, feeds_are_deep, rapids_have_a_jobs_tool, rapids_crash}
use Rattle.sn_open.proofs.verdict_laws.motion_causes.Goals as goal

pub returns-clause-feeds : goal.returns-clause-feeds
returns-clause-feeds c = feeds_are_their_steps

pub returns-clause-gouge : goal.returns-clause-gouge
returns-clause-gouge c = feeds_gouge

pub returns-clause-deep : goal.returns-clause-deep
returns-clause-deep c = feeds_are_deep

pub returns-clause-rapid_tools : goal.returns-clause-rapid_tools
returns-clause-rapid_tools c = rapids_have_a_jobs_tool

pub returns-clause-crash : goal.returns-clause-crash
returns-clause-crash c = rapids_crash
