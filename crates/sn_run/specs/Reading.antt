-- PRIVATE: reading a file to its end, or to a limit, and feeding a program to its checker.
use Rattle.std.specs.Prelude.{◌≡◌, ℕ, ◌+◌, ◌≤◌, ◌<◌, List, [], ◌++◌, length, IsTrue}
use Rattle.sn_io.specs.Count.{count_after, Rises}
use Rattle.sn_io.specs.Files.{FilesState}
use Rattle.sn_outline.specs.Job.{Job}
use Rattle.sn_sweep.specs.Checking.{Checking, HasTaken}
use Rattle.sn_run.specs.declared.reading.TheConstants.{LONGEST_PROGRAM}
use Rattle.sn_message.specs.declared.refusal.Refusal.{Refusal}
use Rattle.sn_message.specs.declared.refusal.Refusal.TheVariants.{NotRead, NoMemory, TooLong}
use Rattle.sn_run.specs.Outcome.{HasRisenBy}

-- One reading.

-- the next bytes of the open file came: none only at its end
pub record GivesNext (before after : FilesState) (chunk : List ℕ) : Type 0 where
  pub left : IsTrue before.tells → before.left ≡ chunk ++ after.left
  pub at_end : IsTrue before.tells → length chunk ≡ 0 → before.left ≡ []
  pub is_open : 1 ≤ length chunk → IsTrue after.is_open
  pub bytes : after.bytes ≡ count_after before.bytes (length chunk)

-- the next bytes of the open file came behind those read before
pub record AppendsNext (before after : FilesState) (old new : List ℕ) (count : ℕ) : Type 0 where
  pub chunk : List ℕ
  pub counted : length chunk ≡ count
  pub gives : GivesNext before after chunk
  pub appended : new ≡ old ++ chunk

-- the next bytes of the open file were fed to the checker
pub record FeedsNext (before after : FilesState) (old new : Checking) (count : ℕ) : Type 0 where
  pub chunk : List ℕ
  pub counted : length chunk ≡ count
  pub gives : GivesNext before after chunk
  pub fed : (job : Job) (bytes : List ℕ) → HasTaken job bytes old → HasTaken job (bytes ++ chunk) new
  pub lines : new.lines ≤ old.lines + count

-- at most so many bytes were read
pub record TakesAtMost (before after : FilesState) (most : ℕ) : Type 0 where
  pub stays : before.bytes ≤ after.bytes
  pub within : after.bytes ≤ count_after before.bytes most

-- A file.

-- each name gives what the opening after that one gives
abbrev pub IsPastOne : FilesState → FilesState → Type 0
IsPastOne before after = IsTrue before.tells → (name : List ℕ) (k : ℕ) → after.given name k ≡ before.given name (k + 1)

-- the name was opened, and these bytes were read of it, each reading giving one or more
pub record IsReading (before now : FilesState) (name bytes : List ℕ) : Type 0 where
  pub is_open : IsTrue now.is_open
  pub tells : now.tells ≡ before.tells
  pub faults_stay : before.faults ≤ now.faults
  pub opens : now.opens ≡ count_after before.opens 1
  pub reads : now.reads ≤ before.reads + length bytes
  pub bytes_are : now.bytes ≡ count_after before.bytes (length bytes)
  pub content : IsTrue before.tells → before.given name 0 ≡ bytes ++ now.left
  pub has_file : IsTrue before.tells → (other : List ℕ) → now.has_file other ≡ before.has_file other
  pub given : IsPastOne before now
  pub no_strange : IsTrue before.tells → IsTrue (before.has_file name) → now.strange_opens ≡ before.strange_opens

-- What is done to the files where a name is opened and read to its end, or until so many bytes were taken: each reading but the
-- last takes a byte.
pub record ReadsFile (before after : FilesState) (name : List ℕ) (most : ℕ) : Type 0 where
  pub tells : after.tells ≡ before.tells
  pub faults_stay : before.faults ≤ after.faults
  pub opens : after.opens ≡ count_after before.opens 1
  pub reads : after.reads ≤ before.reads + (most + 1)
  pub bytes : TakesAtMost before after most
  pub has_file : IsTrue before.tells → (other : List ℕ) → after.has_file other ≡ before.has_file other
  pub no_strange : IsTrue before.tells → IsTrue (before.has_file name) → after.strange_opens ≡ before.strange_opens

-- why a file was not read: a call failed, or memory was wanting
abbrev pub IsUnread : FilesState → FilesState → Refusal → Type 0
IsUnread before after NotRead = Rises before.faults after.faults
IsUnread before after NoMemory = Unit {0}
IsUnread before after _ = ⊥

-- A program.

-- these bytes of the program were read and fed to the checker
pub record IsFeeding (before now : FilesState) (name : List ℕ) (begun kept : Checking) (taken : ℕ) : Type 0 where
  pub bytes : List ℕ
  pub counted : length bytes ≡ taken
  pub reading : IsReading before now name bytes
  pub fed : (job : Job) → HasTaken job [] begun → HasTaken job bytes kept
  pub lines : kept.lines ≤ begun.lines + taken

-- why a program was not read to its end: a call failed, or it is too long
abbrev pub IsUnreadProgram : FilesState → FilesState → List ℕ → Refusal → Type 0
IsUnreadProgram before after name NotRead = Rises before.faults after.faults
IsUnreadProgram before after name TooLong =
    HasRisenBy before.bytes after.bytes (LONGEST_PROGRAM + 1) × (IsTrue before.tells → LONGEST_PROGRAM < length (before.given name 0))
IsUnreadProgram before after name _ = ⊥
