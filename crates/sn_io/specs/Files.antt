-- MEANING: what files show of themselves, and what opening and reading do to them (this project's own).
use Rattle.std.specs.Prelude.{ℕ, ◌≡◌, ◌+◌, ◌≤◌, Bool, true, false, IsTrue, List, [], ◌++◌, take, if◌then◌else◌}
use Rattle.sn_io.specs.Count.{count_after, Rises}

-- tells: whether content is told; is_open: whether a file is open; left: where content is told, the bytes that the
-- open file has left; faults, opens, reads, bytes: how many calls failed, how often a file was opened and read, and
-- how many bytes were given; strange_opens: where content is told, how often a name that has no file was opened;
-- has_file: where content is told, which names have a file; given: where content is told, the bytes that the k-th
-- opening from now, counted from 0, gives for a name
pub record FilesState : Type 0 where
  pub tells : Bool
  pub is_open : Bool
  pub left : List ℕ
  pub faults : ℕ
  pub opens : ℕ
  pub reads : ℕ
  pub bytes : ℕ
  pub strange_opens : ℕ
  pub has_file : List ℕ → Bool
  pub given : List ℕ → ℕ → List ℕ

-- what each opening of a name does, whether it succeeds or fails
pub record Opens (before after : FilesState) (name : List ℕ) : Type 0 where
  pub tells : after.tells ≡ before.tells
  pub faults_stay : before.faults ≤ after.faults
  pub opens : after.opens ≡ count_after before.opens 1
  pub reads : after.reads ≡ before.reads
  pub bytes : after.bytes ≡ before.bytes
  pub strange_opens : IsTrue before.tells → after.strange_opens ≡ count_after before.strange_opens (if before.has_file name then 0 else 1)
  pub has_file : IsTrue before.tells → (other : List ℕ) → after.has_file other ≡ before.has_file other

-- an opening that succeeds: the name has a file, and its bytes are left to be read
pub record IsOpened (before after : FilesState) (name : List ℕ) : Type 0 where
  pub is_open : after.is_open ≡ true
  pub has_file : IsTrue before.tells → before.has_file name ≡ true
  pub left : IsTrue before.tells → after.left ≡ before.given name 0
  pub given : IsTrue before.tells → (other : List ℕ) (k : ℕ) → after.given other k ≡ before.given other (k + 1)

-- a call that fails: the count of faults rose, and a file is open after it or none
pub record IsFault (before after : FilesState) (stays_open : Bool) : Type 0 where
  pub rises : Rises before.faults after.faults
  pub is_open : after.is_open ≡ stays_open

-- what each reading does, whether it succeeds or fails
pub record Reads (before after : FilesState) : Type 0 where
  pub tells : after.tells ≡ before.tells
  pub faults_stay : before.faults ≤ after.faults
  pub opens : after.opens ≡ before.opens
  pub reads_stay : before.reads ≤ after.reads
  pub reads : after.reads ≤ before.reads + 1
  pub strange_opens : IsTrue before.tells → after.strange_opens ≡ before.strange_opens
  pub has_file : IsTrue before.tells → (other : List ℕ) → after.has_file other ≡ before.has_file other
  pub given : IsTrue before.tells → (other : List ℕ) (k : ℕ) → after.given other k ≡ before.given other k

-- a reading that gives the first count bytes of the buffer: none only at the end of the file, which it closes
pub record Gives (before after : FilesState) (buffer : List ℕ) (count : ℕ) : Type 0 where
  pub bytes : after.bytes ≡ count_after before.bytes count
  pub left : IsTrue before.tells → before.left ≡ take count buffer ++ after.left
  pub at_end : IsTrue before.tells → count ≡ 0 → before.left ≡ []
  pub closed : count ≡ 0 → after.is_open ≡ false
  pub is_open : 1 ≤ count → after.is_open ≡ true

-- a reading that fails: the file stays open, and has left what it had
pub record GivesNothing (before after : FilesState) : Type 0 where
  pub fault : IsFault before after true
  pub bytes : after.bytes ≡ before.bytes
  pub left : IsTrue before.tells → after.left ≡ before.left
