-- Programs that are read and run by computing.
use Rattle.std.proofs.Common.{◌≡◌, ℕ, true, false, not, ◌&&◌, ◌==◌, Bool, List, [], ◌∷◌, length, map, refl, sym, ◌∙◌, ap, subst, inl, if◌then◌else◌, ◌≤◌}
use Rattle.std.proofs.lemmas.Bool.{and_parts, eqb-true, leb-true}
use Rattle.std.specs.Prelude.{nat_le, filter}
use Rattle.std.specs.List.{list_all}
use Rattle.sn_geom.specs.declared.block.TheConstants.{MOST_LINE}
use Rattle.sn_geom.specs.Acts.{Act, RunsTo}
use Rattle.sn_geom.specs.Block.{Block, lines_of}
use Rattle.sn_geom.specs.LineText.{LineText, is_blank, items_of, said_by, nothing, empty_block}
use Rattle.sn_geom.specs.Machine.{start}
use Rattle.sn_geom.specs.Meaning.{AreBlocks, Means}
use Rattle.sn_gwrite.proofs.ItemReadings.{all_clean, reads, says_known}
use Rattle.sn_gwrite.proofs.LineRuns.{are_accepted, acts_of_all, blocks_are_run}

-- ---- lines

-- a percent sign alone
abbrev is_percent : List ℕ → Bool
is_percent [] = false
is_percent (b ∷ []) = b == 37
is_percent (b ∷ c ∷ bs) = false

abbrev pub shown : List ℕ → List ℕ
shown line = filter (λ b. not (is_blank b)) line

abbrev pub can_be_read : List ℕ → Bool
can_be_read line = nat_le (length line) MOST_LINE && (if is_percent (shown line) then true else all_clean nothing (items_of line))

abbrev pub block_of : List ℕ → Block
block_of line = if is_percent (shown line) then empty_block true else (said_by (items_of line)).block

is_percent_alone : (bytes : List ℕ) → is_percent bytes ≡ true → bytes ≡ 37 ∷ []
is_percent_alone [] h = cc
is_percent_alone (b ∷ []) h = ap (λ byte. byte ∷ []) (eqb-true b 37 h)
is_percent_alone (b ∷ c ∷ bs) h = cc

is_other : (bytes : List ℕ) → is_percent bytes ≡ false → bytes ≡ 37 ∷ [] → ⊥
is_other bytes h e = let both : false ≡ true = sym h ∙ ap is_percent e in cc

pub by_test : (b : Bool) (R : Type 0) → (b ≡ true → R) → (b ≡ false → R) → R
by_test true R met other = met refl
by_test false R met other = other refl

fits : (n most : ℕ) → nat_le n most ≡ true → n ≤ most
fits n most h = leb-true n most h

pub line_is_read : (line : List ℕ) → can_be_read line ≡ true → LineText line (block_of line)
line_is_read line h =
    let (short, clean) = and_parts (nat_le (length line) MOST_LINE) _ h in
    by_test (is_percent (shown line)) (LineText line (block_of line))
    (λ percent. record { short = fits (length line) MOST_LINE short; text = inl (is_percent_alone (shown line) percent, rw percent refl) })
    (λ other.
    let says = says_known (items_of line) nothing (said_by (items_of line)) (rw other at clean) refl in
    rw other (reads line (said_by (items_of line)) (fits (length line) MOST_LINE short) (is_other (shown line) other) says))

pub lines_are_read : (lines : List (List ℕ)) → list_all can_be_read lines ≡ true → AreBlocks lines (map block_of lines)
lines_are_read [] h = tt
lines_are_read (line ∷ lines) h =
    let (first, later) = and_parts (can_be_read line) (list_all can_be_read lines) h in
    (line_is_read line first, lines_are_read lines later)

-- ---- programs

-- a program of which each line can be read, and is accepted
pub program_means : (program : List ℕ) (acts : List Act) → list_all can_be_read (lines_of program) ≡ true
    → are_accepted start (map block_of (lines_of program)) ≡ true → acts_of_all start (map block_of (lines_of program)) ≡ acts → Means program acts
program_means program acts read accepted same = record {
  blocks = map block_of (lines_of program);
  says = lines_are_read (lines_of program) read;
  runs = subst (λ (all : List Act). RunsTo start (map block_of (lines_of program)) all) same
      (blocks_are_run start (map block_of (lines_of program)) accepted);
}
