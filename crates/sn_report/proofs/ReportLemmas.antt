-- How a report is written piece by piece.
use Rattle.std.proofs.Common.{ℕ, ◌≡◌, ◌+◌, ◌<◌, ◌≤◌, List, [], ◌++◌, length, drop, get_or, flat_map, Result, IsErr, refl, sym, ap, ◌∙◌, append_assoc, add-one, drop-cons, drop_of_length-le}
use Rattle.std.specs.Prelude.{codes}
use Rattle.sn_io.specs.Sink.{SinkState, Takes, TakesFront, Writes}
use Rattle.sn_io.proofs.SinkLemmas.{takes-more, writes-first, writes-later}
use Rattle.sn_report.specs.declared.counts.CountRow.{CountRow}
use Rattle.sn_report.specs.Report.{numbered, row_text}

-- a write that stopped within its first piece
pub first_stopped : {T E : Type 0} (r : Result T E) (a b : SinkState) (piece after : List ℕ) → IsErr r → TakesFront a b piece → Writes r a b (piece ++ after)
first_stopped r a b piece after stops front = writes-first r a b _ piece after stops refl front

-- a write that goes on behind it
pub goes_on : {T E : Type 0} (r : Result T E) (a b c : SinkState) (piece after : List ℕ) → Takes a b piece → Writes r b c after → Writes r a c (piece ++ after)
goes_on r a b c piece after taken later = writes-later r a b c _ piece after refl taken later

-- What is left of the line of a step, from each of its numbers on.

abbrev pub from_cells : CountRow → List ℕ
from_cells row = numbered (codes " cells ") row.cells ++ codes "\n"

abbrev pub from_lifts : CountRow → List ℕ
from_lifts row = numbered (codes " lifts ") row.lifts ++ from_cells row

abbrev pub from_layers : CountRow → List ℕ
from_layers row = numbered (codes " layers ") row.layers ++ from_lifts row

abbrev pub from_strokes : CountRow → List ℕ
from_strokes row = numbered (codes " strokes ") row.strokes ++ from_layers row

abbrev pub from_tool : CountRow → List ℕ
from_tool row = numbered (codes " tool ") row.tool ++ from_strokes row

-- Lines.

pub next_row : (rows : List CountRow) (i : ℕ) (d : CountRow) → i < length rows
    → flat_map row_text (drop i rows) ≡ row_text (get_or rows i d) ++ flat_map row_text (drop (i + 1) rows)
next_row rows i d within = rw (drop-cons rows i d, add-one) refl

pub no_row : (rows : List CountRow) (i : ℕ) → length rows ≤ i → flat_map row_text (drop i rows) ≡ []
no_row rows i past = rw (drop_of_length-le rows past) refl

-- The lines so far were taken, and the others are left.
abbrev pub RowsSoFar : SinkState → SinkState → List CountRow → ℕ → Type 0
RowsSoFar a b rows i = (front : List ℕ) × (flat_map row_text rows ≡ front ++ flat_map row_text (drop i rows)) × Takes a b front

pub row_taken : (a b c : SinkState) (rows : List CountRow) (i : ℕ) (d : CountRow) → i < length rows
    → RowsSoFar a b rows i → Takes b c (row_text (get_or rows i d)) → RowsSoFar a c rows (i + 1)
row_taken a b c rows i d within so_far taken = (
  so_far.0 ++ row_text (get_or rows i d),
  so_far.1 ∙ ap (λ (rest : List ℕ). so_far.0 ++ rest) (next_row rows i d within) ∙ sym (append_assoc so_far.0 _ _),
  takes-more a b c so_far.0 _ so_far.2 taken,
)

pub row_stopped : {T E : Type 0} (r : Result T E) (a b c : SinkState) (rows : List CountRow) (i : ℕ) (d : CountRow) → i < length rows → IsErr r
    → RowsSoFar a b rows i → TakesFront b c (row_text (get_or rows i d)) → Writes r a c (flat_map row_text rows)
row_stopped r a b c rows i d within stops so_far front =
    writes-later r a b c _ so_far.0 _ so_far.1 so_far.2 (writes-first r b c _ _ _ stops (next_row rows i d within) front)
