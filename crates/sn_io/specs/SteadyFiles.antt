-- MEANING: files that never fail, as one value (this project's own).
use Rattle.std.specs.Prelude.{ℕ, ◌+◌, ◌==◌, Bool, true, if◌then◌else◌, List, []}
use Rattle.sn_io.specs.Files.{FilesState}

-- first, second: the bytes of the file that is opened first, and of the one that is opened second; is_open: whether a file is
-- open; left: what the open file has left; the counts: those of `FilesState`
pub record SteadyFilesState : Type 0 where
  pub first : List ℕ
  pub second : List ℕ
  pub is_open : Bool
  pub left : List ℕ
  pub opens : ℕ
  pub reads : ℕ
  pub bytes : ℕ

-- the bytes that an opening gives after so many others, whatever the name: nothing after the second
abbrev pub bytes_in_turn : SteadyFilesState → ℕ → List ℕ
bytes_in_turn s opened = if opened == 0 then s.first else if opened == 1 then s.second else []

-- every name has a file, and no call fails
abbrev pub steady_files_state : SteadyFilesState → FilesState
steady_files_state s = record {
  tells = true;
  is_open = s.is_open;
  left = s.left;
  faults = 0;
  opens = s.opens;
  reads = s.reads;
  bytes = s.bytes;
  strange_opens = 0;
  has_file = λ _. true;
  given = λ _ k. bytes_in_turn s (s.opens + k);
}
