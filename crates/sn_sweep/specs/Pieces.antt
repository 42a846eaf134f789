-- PRIVATE: how a checker takes a piece of a program.
use Rattle.std.specs.Prelude.{◌≡◌, ◌≢◌, ℕ, ◌+◌, ◌≤◌, ◌<◌, None, List, [], ◌∷◌, ◌++◌, length, take, drop}
use Rattle.sn_outline.specs.Job.{Job}
use Rattle.sn_sweep.specs.Checking.{Checking, HasRead, HasTaken, HasNoLineFeed}

-- the first line of the bytes ends at the place
pub record IsFirstLine (bytes : List ℕ) (end : ℕ) : Type 0 where
  pub inside : end < length bytes
  pub unended : HasNoLineFeed (take end bytes)
  pub split : bytes ≡ take end bytes ++ 10 ∷ drop (end + 1) bytes

-- the line is read behind what was read before
abbrev pub ReadsNext : List ℕ → Checking → Checking → Type 0
ReadsNext line old new = (job : Job) (text : List ℕ) → HasRead job text old → HasNoLineFeed line → HasRead job (text ++ (line ++ 10 ∷ [])) new

-- a fault stays
abbrev pub KeepsFault : Checking → Checking → Type 0
KeepsFault old new = old.fault ≢ None → new.fault ≡ old.fault

-- of the piece, the checker has taken all but what is left
pub record HasTakenAllBut (piece left : List ℕ) (old new : Checking) : Type 0 where
  pub done : List ℕ
  pub split : piece ≡ done ++ left
  pub taken : (job : Job) (bytes : List ℕ) → HasTaken job bytes old → HasTaken job (bytes ++ done) new
  pub kept : KeepsFault old new
  pub counted : new.lines ≤ old.lines + length done
