-- Texts that are put together piece by piece.
use Rattle.std.proofs.Common.{ℕ, ◌≡◌, List, ◌++◌, append_assoc}

-- four pieces, one after another at the end of a text
pub four_pieces : (text a b c d : List ℕ) → (((text ++ a) ++ b) ++ c) ++ d ≡ text ++ (((a ++ b) ++ c) ++ d)
four_pieces text a b c d = simp append_assoc
