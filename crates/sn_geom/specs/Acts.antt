-- MEANING: the acts that the lines of a program give when the machine runs them, in one list and in their order (this project's
-- own).
use Rattle.std.specs.Prelude.{◌≡◌, ℕ, Bool, true, false, ℤ, List, [], ◌∷◌, ◌++◌, Option, Some, None}
use Rattle.sn_geom.specs.declared.units.Pt3.{Pt3}
use Rattle.sn_geom.specs.declared.machine.Acts.{Acts}
use Rattle.sn_geom.specs.declared.machine.Motion.{Motion}
use Rattle.sn_geom.specs.declared.machine.Motion.TheVariants as motion
use Rattle.sn_geom.specs.Block.{Block}
use Rattle.sn_geom.specs.Machine.{State, fault_of, acts_of, state_after}

-- An act: a mark names its step, a tool is put into the spindle, Enter brings the tip to a height while its place is
-- unknown, Locate brings it to a place at that height, Rapid and Feed move it from a place to a place, and the program
-- ends.
pub data Act : Type 0 where
  Mark : ℕ → Act
  PutTool : ℕ → Act
  Enter : ℤ → Act
  Locate : Pt3 → Act
  Rapid : (from to : Pt3) (tool : ℕ) → Act
  Feed : (from to : Pt3) (feed speed tool : ℕ) → Act
  End : Act

abbrev pub mark_acts : Option ℕ → List Act
mark_acts None = []
mark_acts (Some n) = Mark n ∷ []

abbrev pub tool_acts : Option ℕ → List Act
tool_acts None = []
tool_acts (Some k) = PutTool k ∷ []

abbrev pub motion_act : Motion → Act
motion_act (motion.Enter z) = Enter z
motion_act (motion.Locate p) = Locate p
motion_act (motion.Rapid from to tool) = Rapid from to tool
motion_act (motion.Feed from to feed speed tool) = Feed from to feed speed tool

abbrev pub motion_acts : Option Motion → List Act
motion_acts None = []
motion_acts (Some m) = motion_act m ∷ []

abbrev pub end_acts : Bool → List Act
end_acts false = []
end_acts true = End ∷ []

-- the acts of a line, in order
abbrev pub act_list : Acts → List Act
act_list acts = mark_acts acts.mark ++ (tool_acts acts.tool ++ (motion_acts acts.motion ++ end_acts acts.end))

-- From a state on, the lines are not faulty and give these acts.
abbrev pub RunsTo : State → List Block → List Act → Type 0
RunsTo s [] acts = acts ≡ []
RunsTo s (b ∷ bs) acts = (fault_of s b ≡ None) × ((later : List Act) × (acts ≡ act_list (acts_of s b) ++ later) × RunsTo (state_after s b) bs later)
