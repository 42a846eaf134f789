-- What was read of a file, at its end and at the limit, and what reading does to the files.
use Rattle.std.proofs.Common.{ℕ, ◌≡◌, ◌+◌, ◌-◌, ◌≤◌, List, [], ◌∷◌, ◌++◌, length, take, IsTrue, refl, sym, ap, ◌∙◌, arith, length-append, append_assoc}
use Rattle.std.proofs.lemmas.List.{take_all, length-take}
use Rattle.std.proofs.Math.Seq.{take-append_seam}
use Rattle.sn_io.specs.Count.{count_after, Rises}
use Rattle.sn_io.specs.Files.{FilesState, Reads}
use Rattle.sn_io.proofs.SinkLemmas.{count_after-more}
use Rattle.sn_sweep.specs.Checking.{Checking}
use Rattle.sn_run.specs.Reading.{GivesNext, FeedsNext, IsReading, IsFeeding}

empty : (bytes : List ℕ) → length bytes ≡ 0 → bytes ≡ []
empty [] h = refl
empty (b ∷ bytes) h = absurd (omega arith)

-- nothing was left, and nothing came
pub whole : (n : ℕ) (given old new left chunk : List ℕ)
    → given ≡ old ++ left → left ≡ [] → new ≡ old ++ chunk → length chunk ≡ 0 → length old ≤ n → new ≡ take n given
whole n given old new left chunk all none more short fits =
    let same : new ≡ given = more ∙ ap (λ c. old ++ c) (empty chunk short ∙ sym none) ∙ sym all in
    let within : length given ≤ n = omega (arith, ap length all, length-append old left, ap length none) in
    same ∙ sym (take_all n given within)

-- as much as may be taken
pub full : (n : ℕ) (given bytes left : List ℕ) → given ≡ bytes ++ left → n ≡ length bytes → bytes ≡ take n given
full n given bytes left all exact = rw (exact, all) (sym (take-append_seam bytes left))

-- what was read is all that was given
pub all_of : (given old new left chunk : List ℕ) → given ≡ old ++ left → left ≡ [] → new ≡ old ++ chunk → length chunk ≡ 0 → new ≡ given
all_of given old new left chunk all none more short = more ∙ ap (λ c. old ++ c) (empty chunk short ∙ sym none) ∙ sym all

-- Readings of one file.

pub goes_on : (before now after : FilesState) (name bytes chunk : List ℕ) → IsReading before now name bytes → Reads now after → GivesNext now after chunk
    → 1 ≤ length chunk → IsReading before after name (bytes ++ chunk)
goes_on before now after name bytes chunk reading reads gives some = record {
  is_open = gives.is_open some;
  tells = reads.tells ∙ reading.tells;
  faults_stay = omega (arith, reading.faults_stay, reads.faults_stay);
  opens = reads.opens ∙ reading.opens;
  reads = omega (arith, reading.reads, reads.reads, length-append bytes chunk);
  bytes_are = gives.bytes ∙ ap (λ n. count_after n (length chunk)) reading.bytes_are ∙ count_after-more before.bytes (length bytes) (length chunk)
      ∙ ap (count_after before.bytes) (sym (length-append bytes chunk));
  content = λ told. reading.content told ∙ ap (λ left. bytes ++ left) (gives.left (reading.tells ∙ told)) ∙ sym (append_assoc bytes chunk after.left);
  has_file = λ told other. reads.has_file (reading.tells ∙ told) other ∙ reading.has_file told other;
  given = λ told other k. reads.given (reading.tells ∙ told) other k ∙ reading.given told other k;
  no_strange = λ told has. reads.strange_opens (reading.tells ∙ told) ∙ reading.no_strange told has;
}

-- A program that is fed to its checker.

-- all of it was fed
pub fed_all : (before now after : FilesState) (name : List ℕ) (begun kept last : Checking) (taken count : ℕ) (f : IsFeeding before now name begun kept taken)
    (n : FeedsNext now after kept last count) → count ≡ 0
    → (IsTrue before.tells → (f.bytes ++ n.chunk) ≡ before.given name 0) × (length (f.bytes ++ n.chunk) ≡ taken)
fed_all before now after name begun kept last taken count f n none = (
  (λ told.
      all_of (before.given name 0) f.bytes (f.bytes ++ n.chunk) now.left n.chunk (f.reading.content told)
      (n.gives.at_end (f.reading.tells ∙ told) (n.counted ∙ none)) refl (n.counted ∙ none)),
  omega (arith, length-append f.bytes n.chunk, f.counted, n.counted, none),
)

pub feeds_on : (before now after : FilesState) (name : List ℕ) (begun kept last : Checking) (taken count : ℕ) → IsFeeding before now name begun kept taken
    → Reads now after → FeedsNext now after kept last count → 1 ≤ count → IsFeeding before after name begun last (taken + count)
feeds_on before now after name begun kept last taken count f reads n some = record {
  bytes = f.bytes ++ n.chunk;
  counted = omega (arith, length-append f.bytes n.chunk, f.counted, n.counted);
  reading = goes_on before now after name f.bytes n.chunk f.reading reads n.gives (omega (arith, n.counted, some));
  fed = λ job begun. n.fed job f.bytes (f.fed job begun);
  lines = omega (arith, f.lines, n.lines);
}

pub fits_still : (most taken room count : ℕ) (buffer : List ℕ) → taken ≤ most → room ≤ most - taken → count ≤ length (take room buffer) → taken + count ≤ most
fits_still most taken room count buffer within fits read = omega (arith, length-take room buffer)

-- a fault of a later call
pub rises_later : (a b c : ℕ) → a ≤ b → Rises b c → Rises a c
rises_later a b c stays rises = omega arith
