-- Laws of files.
use Rattle.std.specs.Prelude.{ℕ, ◌≡◌, List, IsTrue}
use Rattle.sn_io.specs.Files.{FilesState, Opens, IsOpened, Reads}

-- Openings give in turn: where one opening succeeds, and some readings later the next one, this gives what the files told
-- as the second opening of its name.
abbrev pub OpeningsGiveInTurn : Type 0
OpeningsGiveInTurn =
    (first opened read second : FilesState) (name other : List ℕ) → IsTrue first.tells
    → Opens first opened name → IsOpened first opened name → Reads opened read → IsOpened read second other
    → second.left ≡ first.given other 1
