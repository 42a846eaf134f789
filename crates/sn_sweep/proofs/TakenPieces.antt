-- What a checker has taken, piece by piece.
use Rattle.std.proofs.Common.{◌≡◌, ℕ, zero, suc, ◌+◌, ◌<◌, ◌==◌, min, true, false, List, [], ◌∷◌, ◌++◌, length, take, drop, length-append, refl, sym, ◌∙◌, ap, subst, arith, append_assoc, append-nil}
use Rattle.std.proofs.lemmas.Bool.{eqb-true, false_from_ne_true}
use Rattle.std.proofs.lemmas.List.{take_min}
use Rattle.std.proofs.lemmas.List.Elements.{All-nil, All-head, All-tail, All-append, All-take}
use Rattle.std.specs.Prelude.{Option, None, Some, ◌≢◌}
use Rattle.sn_geom.specs.Block.{lines_of, with_byte}
use Rattle.sn_outline.specs.Job.{Job}
use Rattle.sn_open.specs.declared.verdict.Verdict.{Verdict}
use Rattle.sn_open.specs.declared.verdict.Verdict.TheVariants.{Yes, Line, NoEnd, Missing, Uncovered}
use Rattle.sn_sweep.specs.Checking.{Checking, most_held, HasFault, HasRead, HasTaken, HasNoLineFeed}
use Rattle.sn_sweep.specs.Pieces.{ReadsNext, IsFirstLine, HasTakenAllBut}
use Rattle.sn_sweep.proofs.LongLines.{read_in_full}
use Rattle.sn_sweep.proofs.LineLemmas.{lines_behind, one_more_line}

-- ---- bytes that are held

take_again : (n : ℕ) (xs ys : List ℕ) → take n (take n xs ++ ys) ≡ take n (xs ++ ys)
take_again zero xs ys = refl
take_again (suc n) [] ys = refl
take_again (suc n) (x ∷ xs) ys = ap (λ rest. x ∷ rest) (take_again n xs ys)

-- behind some elements there is room for the first of others
take_behind : (room most : ℕ) (xs ys : List ℕ) → room + length xs ≡ most → xs ++ take room ys ≡ take most (xs ++ ys)
take_behind room most [] ys fits = let same : room ≡ most = omega arith in ap (λ n. take n ys) same
take_behind room zero (x ∷ xs) ys fits = absurd (omega arith)
take_behind room (suc most) (x ∷ xs) ys fits = ap (λ rest. x ∷ rest) (take_behind room most xs ys (omega arith))

-- as many bytes are held as there is room for
pub first_held : (room most : ℕ) (rest held bytes : List ℕ) → rest ≡ held → room + length rest ≡ most
    → rest ++ take (min room (length bytes)) bytes ≡ take most (held ++ bytes)
first_held room most rest held bytes same fits =
    ap (λ first. rest ++ first) (take_min room bytes) ∙ take_behind room most rest bytes fits ∙ ap (λ front. take most (front ++ bytes)) same

-- where nothing is held a line is shown by its first bytes
pub first_shown : (most count : ℕ) (held line : List ℕ) → held ≡ [] → count ≡ min most (length line) → take count line ≡ take most (held ++ line)
first_shown most count held line none first =
    ap (λ n. take n line) first ∙ take_min most line ∙ ap (λ (front : List ℕ). take most (front ++ line)) (sym none)

none_taken : (n : ℕ) (xs : List ℕ) → 0 < n → take n xs ≡ [] → xs ≡ []
none_taken n [] some e = refl
none_taken zero (x ∷ xs) some e = absurd (omega arith)
none_taken (suc n) (x ∷ xs) some e = cc

pub some_held : (rest held : List ℕ) → rest ≡ held → (length rest == 0) ≡ false → held ≡ [] → ⊥
some_held rest held same some none =
    let empty : (length rest == 0) ≡ true = ap (λ (xs : List ℕ). length xs == 0) (same ∙ none) in cc

pub none_held : (rest held : List ℕ) → rest ≡ held → (length rest == 0) ≡ true → held ≡ []
none_held [] held same none = sym same
none_held (x ∷ xs) held same none = let count : length (x ∷ xs) ≡ 0 = eqb-true (length (x ∷ xs)) 0 none in absurd (omega (arith, count))

-- ---- the bytes that are held do not count for what was read

other_fault : (job : Job) (text rest : List ℕ) (kept : Checking) (fault : Option Verdict)
    → HasFault job text kept fault → HasFault job text (record kept { rest = rest }) fault
other_fault job text rest kept None h = record {
  acts = h.acts;
  means = h.means;
  right = h.right;
  material = h.material;
  marked = h.marked;
  ended = h.ended;
  allowed = h.allowed;
}
other_fault job text rest kept (Some Yes) h = h
other_fault job text rest kept (Some (Line n cause)) h = h
other_fault job text rest kept (Some NoEnd) h = h
other_fault job text rest kept (Some (Missing ws)) h = h
other_fault job text rest kept (Some (Uncovered feature cell)) h = h

pub read_with_rest : (job : Job) (text rest : List ℕ) (kept after : Checking) → after ≡ record kept { rest = rest } → HasRead job text kept → HasRead job text after
read_with_rest job text rest kept after same h =
    subst (λ (k : Checking). HasRead job text k) (sym same)
    (record {
      job_is = h.job_is;
      grid = h.grid;
      planes = h.planes;
      whole = h.whole;
      counted = h.counted;
      fault = other_fault job text rest kept kept.fault h.fault;
    })

pub with_rest : (kept same : Checking) (rest other : List ℕ) → kept ≡ same → rest ≡ other → record kept { rest = rest } ≡ record same { rest = other }
with_rest kept same rest other p q = ap (λ (k : Checking). record k { rest = rest }) p ∙ ap (λ (bytes : List ℕ). record same { rest = bytes }) q

pub reads_shown : (kept after : Checking) (line shown : List ℕ) → shown ≡ line → ReadsNext shown kept after → ReadsNext line kept after
reads_shown kept after line shown same reads = subst (λ (bytes : List ℕ). ReadsNext bytes kept after) same reads

-- a line is read next, whatever is held
pub reads_with_rest : (kept emptied after : Checking) (rest line shown : List ℕ) → emptied ≡ record kept { rest = rest } → shown ≡ line
    → ReadsNext shown emptied after → ReadsNext line kept after
reads_with_rest kept emptied after rest line shown same whole reads =
    λ job text h. reads_shown emptied after line shown whole reads job text (read_with_rest job text rest kept emptied same h)

-- ---- pieces

-- a piece without a line feed is held behind what is held
pub piece_held : (job : Job) (bytes piece : List ℕ) (kept after : Checking) → HasNoLineFeed piece
    → after ≡ record kept { rest = take most_held (kept.rest ++ piece) } → HasTaken job bytes kept → HasTaken job (bytes ++ piece) after
piece_held job bytes piece kept after unended same h = record {
  text = h.text;
  behind = h.behind ++ piece;
  split = ap (λ front. front ++ piece) h.split ∙ append_assoc h.text h.behind piece;
  unended = All-append (λ byte. byte ≢ 10) h.behind piece h.unended unended;
  read = read_with_rest job h.text (take most_held (kept.rest ++ piece)) kept after same h.read;
  held = ap (λ k. k.rest) same ∙ ap (λ rest. take most_held (rest ++ piece)) h.held ∙ take_again most_held h.behind piece;
}

-- what ends with a line feed is taken, where the line is read by what is held of it
pub line_taken : (job : Job) (bytes last : List ℕ) (kept after : Checking) → HasNoLineFeed last
    → ReadsNext (take most_held (kept.rest ++ last)) kept after → after.rest ≡ [] → HasTaken job bytes kept → HasTaken job (bytes ++ (last ++ 10 ∷ [])) after
line_taken job bytes last kept after unended reads none h =
    let line = h.behind ++ last in
    let whole_line : HasNoLineFeed line = All-append (λ byte. byte ≢ 10) h.behind last h.unended unended in
    let shown : take most_held (kept.rest ++ last) ≡ take most_held line =
    ap (λ rest. take most_held (rest ++ last)) h.held ∙ take_again most_held h.behind last in
    let reads_line = subst (λ (cut : List ℕ). ReadsNext cut kept after) shown reads in
    let cut = reads_line job h.text h.read (All-take (λ byte. byte ≢ 10) most_held line whole_line) in
    record {
      text = h.text ++ (line ++ 10 ∷ []);
      behind = [];
      split = ap (λ front. front ++ (last ++ 10 ∷ [])) h.split ∙ append_assoc h.text h.behind (last ++ 10 ∷ [])
          ∙ ap (λ back. h.text ++ back) (sym (append_assoc h.behind last (10 ∷ []))) ∙ sym (append-nil (h.text ++ (line ++ 10 ∷ [])));
      unended = All-nil (λ byte. byte ≢ 10);
      read = read_in_full job h.text line most_held after (omega arith) h.read.whole whole_line cut;
      held = none;
    }

-- ---- a piece line by line

pub none_taken_yet : (piece : List ℕ) (kept : Checking) → HasTakenAllBut piece piece kept kept
none_taken_yet piece kept = record {
  done = [];
  split = refl;
  taken = λ job bytes h. subst (λ (all : List ℕ). HasTaken job all kept) (sym (append-nil bytes)) h;
  kept = λ some. refl;
  counted = omega arith;
}

-- one line more
pub line_more : (piece left rest : List ℕ) (end : ℕ) (old kept after : Checking) → HasTakenAllBut piece left old kept → IsFirstLine left end → rest ≡ drop (end + 1) left
    → ReadsNext (take most_held (kept.rest ++ take end left)) kept after → (kept.fault ≢ None → after.fault ≡ kept.fault) → after.rest ≡ []
    → after.lines ≡ kept.lines + 1 → HasTakenAllBut piece rest old after
line_more piece left rest end old kept after h line rest_is reads keeps none counted =
    let last = take end left in
    let long = length-append h.done (last ++ 10 ∷ []) in
    record {
      done = h.done ++ (last ++ 10 ∷ []);
      split = h.split ∙ ap (λ back. h.done ++ back) (line.split ∙ ap (λ behind. last ++ 10 ∷ behind) (sym rest_is) ∙ sym (append_assoc last (10 ∷ []) rest)) ∙ sym (append_assoc h.done (last ++ 10 ∷ []) rest);
      taken = λ job bytes was.
          let now = line_taken job (bytes ++ h.done) last kept after line.unended reads none (h.taken job bytes was) in
          subst (λ (all : List ℕ). HasTaken job all after) (append_assoc bytes h.done (last ++ 10 ∷ [])) now;
      kept = λ some. let same = h.kept some in keeps (λ lost. some (sym same ∙ lost)) ∙ same;
      counted = (let before = h.counted in let own = length-append last (10 ∷ []) in omega arith);
    }

-- all of a piece is taken, once what is left is held
pub all_taken : (piece left : List ℕ) (old kept after : Checking) → HasTakenAllBut piece left old kept → HasNoLineFeed left
    → after ≡ record kept { rest = take most_held (kept.rest ++ left) } → (job : Job) (bytes : List ℕ) → HasTaken job bytes old → HasTaken job (bytes ++ piece) after
all_taken piece left old kept after h unended same job bytes was =
    let now = piece_held job (bytes ++ h.done) left kept after unended same (h.taken job bytes was) in
    subst (λ (all : List ℕ). HasTaken job all after) (append_assoc bytes h.done left ∙ ap (λ back. bytes ++ back) (sym h.split)) now

-- ---- the last line

no_feed : (byte : ℕ) → byte ≢ 10 → (byte == 10) ≡ false
no_feed byte other = false_from_ne_true (byte == 10) (λ same. other (eqb-true byte 10 same))

own_line : (byte : ℕ) (bytes : List ℕ) → HasNoLineFeed (byte ∷ bytes) → lines_of (byte ∷ bytes) ≡ (byte ∷ bytes) ∷ []
own_line byte [] none = rw (no_feed byte (All-head (λ b. b ≢ 10) byte [] none)) refl
own_line byte (b ∷ bs) none =
    rw (no_feed byte (All-head (λ b. b ≢ 10) byte (b ∷ bs) none))
    (ap (with_byte byte) (own_line b bs (All-tail (λ b. b ≢ 10) byte (b ∷ bs) none)))

-- bytes without a line feed are one line, where there are some
bytes_are_a_line : (bytes : List ℕ) → HasNoLineFeed bytes → (bytes ≡ [] → ⊥) → lines_of bytes ≡ bytes ∷ []
bytes_are_a_line [] none some = absurd (some refl)
bytes_are_a_line (byte ∷ bytes) none some = own_line byte bytes none

-- nothing is held: all bytes are read
pub all_read : (job : Job) (bytes : List ℕ) (kept : Checking) → kept.rest ≡ [] → HasTaken job bytes kept
    → (text : List ℕ) × HasRead job text kept × (lines_of text ≡ lines_of bytes)
all_read job bytes kept none h =
    let empty = none_taken most_held h.behind (omega arith) (sym h.held ∙ none) in
    (h.text, h.read, ap lines_of (sym (append-nil h.text) ∙ ap (λ back. h.text ++ back) (sym empty) ∙ sym h.split))

-- what is held is read as the last line
pub rest_read : (job : Job) (bytes : List ℕ) (kept after : Checking) → (kept.rest ≡ [] → ⊥) → ReadsNext kept.rest kept after → HasTaken job bytes kept
    → (text : List ℕ) × HasRead job text after × (lines_of text ≡ lines_of bytes)
rest_read job bytes kept after some reads h =
    let reads_line = subst (λ (cut : List ℕ). ReadsNext cut kept after) h.held reads in
    let cut = reads_line job h.text h.read (All-take (λ byte. byte ≢ 10) most_held h.behind h.unended) in
    let whole = h.read.whole in
    let more : h.behind ≡ [] → ⊥ = λ none. some (h.held ∙ ap (take most_held) none) in (
      h.text ++ (h.behind ++ 10 ∷ []),
      read_in_full job h.text h.behind most_held after (omega arith) whole h.unended cut,
      one_more_line h.text h.behind whole h.unended ∙ ap (λ lines. lines_of h.text ++ lines) (sym (bytes_are_a_line h.behind h.unended more))
          ∙ sym (lines_behind h.text h.behind whole) ∙ ap lines_of (sym h.split),
    )
