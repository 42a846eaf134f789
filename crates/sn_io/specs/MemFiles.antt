-- MEANING: files in memory as one value, and what each call leaves of it (this project's own).
use Rattle.std.specs.Prelude.{◌≡◌, ◌≢◌, ℕ, ◌+◌, ◌==◌, true, if◌then◌else◌, List, [], drop, Contains, Option, None, Some, is_some, unwrap_or, refl}
use Rattle.std.specs.Ordering.{nat_cmp}
use Rattle.std.specs.Cmp.Lexicographic.{slice_cmp}
use Rattle.std.specs.Coded.{Coded, code_by, coded×, coded_ℕ, coded_list, coded_option}
use Rattle.std.specs.FinMap.{FinMap, get, contains_key, from_entries, code}
use Rattle.sn_io.specs.Files.{FilesState}

-- from the name of each file to its bytes
abbrev pub Contents : Type 0
Contents = FinMap (slice_cmp nat_cmp) (List ℕ)

-- the files of a list, each a name with its bytes
abbrev pub contents_of : List (List ℕ × List ℕ) → Contents
contents_of files = from_entries files

-- files: the files that were added; failing: the numbers of the calls that fail; left: what the open file has left,
-- where one is open; the counts: those of `FilesState`
pub record MemFilesState : Type 0 where
  pub files : Contents
  pub failing : List ℕ
  pub left : Option (List ℕ)
  pub faults : ℕ
  pub opens : ℕ
  pub reads : ℕ
  pub bytes : ℕ
  pub strange_opens : ℕ

-- every opening of a name gives the bytes that were added for it
abbrev pub files_state : MemFilesState → FilesState
files_state m = record {
  tells = true;
  is_open = is_some m.left;
  left = unwrap_or m.left [];
  faults = m.faults;
  opens = m.opens;
  reads = m.reads;
  bytes = m.bytes;
  strange_opens = m.strange_opens;
  has_file = λ name. contains_key m.files name;
  given = λ name _. unwrap_or (get m.files name) [];
}

-- the number of the next call is listed; openings and readings are counted together, from 1
abbrev pub IsNextListed : MemFilesState → Type 0
IsNextListed m = Contains m.failing (m.opens + m.reads + 1)

-- what is left after a reading: nothing given closes the file
abbrev pub left_after : List ℕ → ℕ → Option (List ℕ)
left_after left count = if count == 0 then None else Some (drop count left)

-- a file was added: each opening of its name gives its bytes, and all other names keep what they had
pub record Adds (before after : FilesState) (name bytes : List ℕ) : Type 0 where
  pub has_file : after.has_file name ≡ true
  pub given : (k : ℕ) → after.given name k ≡ bytes
  pub other_has_file : (other : List ℕ) → other ≢ name → after.has_file other ≡ before.has_file other
  pub other_given : (other : List ℕ) (k : ℕ) → other ≢ name → after.given other k ≡ before.given other k

-- a state is stored as its fields in pairs
abbrev pub mem_files_code : Coded MemFilesState
mem_files_code =
    code_by (Contents × (List ℕ × (Option (List ℕ) × (ℕ × (ℕ × (ℕ × (ℕ × ℕ)))))))
    (coded× (code (coded_list coded_ℕ) (coded_list coded_ℕ))
    (coded× (coded_list coded_ℕ)
    (coded× (coded_option (coded_list coded_ℕ))
    (coded× coded_ℕ (coded× coded_ℕ (coded× coded_ℕ (coded× coded_ℕ coded_ℕ)))))))
    (λ m. (m.files, (m.failing, (m.left, (m.faults, (m.opens, (m.reads, (m.bytes, m.strange_opens))))))))
    (λ p. record {
      files = p.0;
      failing = p.1.0;
      left = p.1.1.0;
      faults = p.1.1.1.0;
      opens = p.1.1.1.1.0;
      reads = p.1.1.1.1.1.0;
      bytes = p.1.1.1.1.1.1.0;
      strange_opens = p.1.1.1.1.1.1.1;
    })
    (λ _. refl)
