-- MEANING: the files of the machine as one value, that tells no content (this project's own).
use Rattle.std.specs.Prelude.{ℕ, Bool, false, List, [], Option}
use Rattle.sn_io.specs.Files.{FilesState}

-- is_open: whether a file is open; remaining: the bytes that the machine's open file has yet to give, where they are known,
-- and none where no file is open; the counts: those of `FilesState`
pub record DiskFilesState : Type 0 where
  pub is_open : Bool
  pub remaining : Option (List ℕ)
  pub faults : ℕ
  pub opens : ℕ
  pub reads : ℕ
  pub bytes : ℕ

abbrev pub disk_state : DiskFilesState → FilesState
disk_state d = record {
  tells = false;
  is_open = d.is_open;
  left = [];
  faults = d.faults;
  opens = d.opens;
  reads = d.reads;
  bytes = d.bytes;
  strange_opens = 0;
  has_file = λ _. false;
  given = λ _ _. [];
}
