-- Bytes have one first fault at most, a part text has none, and the reader tells it.
use Rattle.std.proofs.Common.{◌≡◌, ◌≢◌, ℕ, ◌+◌, ◌≤◌, ◌⊎◌, inl, inr, ⊎_elim, List, [], ◌∷◌, ◌++◌, length, drop, slice_range, Result, Ok, Err, IfOk, IfErr, MatchResult, refl, sym, ap, subst, ◌∙◌, append_assoc, arith}
use Rattle.std.specs.List.{AllByRecursion}
use Rattle.sn_lex.specs.Form.{AreSeparators}
use Rattle.sn_lex.specs.Law.{OneNext}
use Rattle.sn_lex.specs.Reading.{IsNextToken, IsNextFault}
use Rattle.sn_lex.specs.declared.token.LexFault.{LexFault}
use Rattle.sn_lex.specs.declared.token.Span.{Span}
use Rattle.sn_lex.specs.declared.token.Token.{Token}
use Rattle.sn_lex.specs.declared.token.Token.TheVariants.{Number, LeftParen, End}
use Rattle.sn_p21.specs.declared.fault.P21Fault.{P21Fault}
use Rattle.sn_p21.specs.declared.fault.P21Fault.TheVariants as fault
use Rattle.sn_p21.specs.declared.grammar.place.Place.TheVariants.{Done}
use Rattle.sn_p21.specs.declared.grammar.reader.Reader.{Reader}
use Rattle.sn_p21.specs.declared.limits.TheConstants.{MAX_OPEN_LISTS}
use Rattle.sn_p21.specs.Content.{Content}
use Rattle.sn_p21.specs.FirstFault.{Begin, IsWordFault, Stops, lex, word, end, IsFirstFault, OneFault}
use Rattle.sn_p21.specs.Grammar.{AreFileWords, IsFile}
use Rattle.sn_p21.specs.Reader.{Step, Refusal, Refuses, Steps, value_of, step, start}
use Rattle.sn_p21.specs.PartText.{IsPartText, OneFile}
use Rattle.sn_p21.specs.Word.{Word, IsSpelled, IsNextWord, AreWordsBetween, mark}
use Rattle.sn_p21.proofs.Begins.{Ran, begin_ran, ran_begins}
use Rattle.sn_p21.proofs.FileKept.{content}
use Rattle.sn_p21.proofs.FilesRead.{file_is_read, front_all}
use Rattle.sn_p21.proofs.KeptLemmas.{same_reader, no_reader}
use Rattle.sn_p21.proofs.KeptLemmas as kept
use Rattle.sn_p21.proofs.Runs.{run, first_gave, front_ran}
use Rattle.sn_p21.proofs.ValueWords.{carries}
use Rattle.sn_p21.proofs.WordFaults.{refused_fault}
use Rattle.sn_p21.proofs.WordsRead.{EndIsNext, ReadTo, no_end, same_next, next_word, between_spelled, between_within}

-- Words of the same bytes.

-- words to one place and to another: they are the same, or the one go on where the others end
pub data Compared (bytes : List ℕ) (to end : ℕ) (ws us : List Word) : Type 0 where
  same : ws ≡ us → to ≡ end → Compared bytes to end ws us
  longer : (w : Word) (more : List Word) (span : Span) → us ≡ ws ++ w ∷ more → IsNextWord bytes to w span → Compared bytes to end ws us
  shorter : (w : Word) (more : List Word) (span : Span) → ws ≡ us ++ w ∷ more → IsNextWord bytes end w span → Compared bytes to end ws us

with_first : (bytes : List ℕ) (to stop : ℕ) (ws us : List Word) (w u : Word) → w ≡ u → Compared bytes to stop ws us → Compared bytes to stop (w ∷ ws) (u ∷ us)
with_first bytes to stop ws us w u e (same f g) = same (ap (λ x. x ∷ ws) e ∙ ap (λ xs. u ∷ xs) f) g
with_first bytes to stop ws us w u e (longer v more span f n) = longer v more span (ap (λ x. x ∷ us) (sym e) ∙ ap (λ xs. w ∷ xs) f) n
with_first bytes to stop ws us w u e (shorter v more span f n) = shorter v more span (ap (λ x. x ∷ ws) e ∙ ap (λ xs. u ∷ xs) f) n

-- the word that comes next is one
one_word : OneNext → (bytes : List ℕ) (at : ℕ) (w u : Word) (span other : Span) → IsNextWord bytes at w span → IsNextWord bytes at u other → (w ≡ u) × (span ≡ other)
one_word law bytes at w u span other n k =
    let first = same_next law bytes at w u.token other span n k.token in
    let self = same_next law bytes at u u.token other other k k.token in
    (first.0 ∙ sym self.0, first.1)

compare : OneNext → (ws us : List Word) (bytes : List ℕ) (at to stop : ℕ) → AreWordsBetween bytes at to ws → AreWordsBetween bytes at stop us → Compared bytes to stop ws us
compare law [] [] bytes at to stop a d = same refl (sym a ∙ d)
compare law [] (u ∷ us) bytes at to stop a d = longer u us d.0 refl (subst (λ x. IsNextWord bytes x u d.0) a d.1)
compare law (w ∷ ws) [] bytes at to stop a d = shorter w ws a.0 refl (subst (λ x. IsNextWord bytes x w a.0) d a.1)
compare law (w ∷ ws) (u ∷ us) bytes at to stop a d =
    let one = one_word law bytes at w u a.0 d.0 a.1 d.1 in
    let rest = subst (λ x. AreWordsBetween bytes x to ws) (ap (λ (x : Span). x.at + x.len) one.1) a.2 in
    with_first bytes to stop ws us w u one.0 (compare law ws us bytes (d.0.at + d.0.len) to stop rest d.2)

-- where separators alone are left no token but the end comes next
end_only : OneNext → EndIsNext → (bytes : List ℕ) (at : ℕ) (t : Token) (span : Span) → at ≤ length bytes → AreSeparators (drop at bytes) → IsNextToken bytes at t span → t ≡ End
end_only law ends bytes at t span within separators n =
    let e = ends bytes at within separators in
    (law.0 bytes at t End span e.0 n e.1).0

end_no_fault : {A : Type 0} → OneNext → EndIsNext → (bytes : List ℕ) (at : ℕ) (f : LexFault) → at ≤ length bytes → AreSeparators (drop at bytes) → IsNextFault bytes at f → A
end_no_fault law ends bytes at f within separators n =
    let e = ends bytes at within separators in
    absurd (law.2 bytes at End e.0 f e.1 n)

-- the end of the bytes is no word that the reader takes
ran_no_end : (ws more : List Word) (w : Word) → Ran MAX_OPEN_LISTS (ws ++ w ∷ more) → w.token ≡ End → ⊥
ran_no_end ws more w r e =
    let parts = front_ran MAX_OPEN_LISTS ws (w ∷ more) start r.0 r.1 in
    let first = first_gave MAX_OPEN_LISTS (step MAX_OPEN_LISTS parts.0 w.token w.value) more r.0 parts.2 in
    no_end MAX_OPEN_LISTS parts.0 first.0 w.value (ap (λ t. step MAX_OPEN_LISTS parts.0 t w.value) (sym e) ∙ first.1)

none_after : OneNext → EndIsNext → (bytes : List ℕ) (at : ℕ) (ws more us : List Word) (w : Word) (span : Span) → at ≤ length bytes → AreSeparators (drop at bytes) → IsNextWord bytes at w span → us ≡ ws ++ w ∷ more → Ran MAX_OPEN_LISTS us → ⊥
none_after law ends bytes at ws more us w span within separators n e r =
    ran_no_end ws more w (subst (Ran MAX_OPEN_LISTS) e r) (end_only law ends bytes at w.token span within separators n.token)

-- words that go on begin with one word more
front_begins : (ws more us : List Word) (w : Word) → AllByRecursion IsSpelled us → us ≡ ws ++ w ∷ more → Ran MAX_OPEN_LISTS us → Begin (ws ++ w ∷ [])
front_begins ws more us w spelled e r =
    let split : us ≡ (ws ++ w ∷ []) ++ more = e ∙ sym (append_assoc ws (w ∷ []) more) in
    let parts = front_ran MAX_OPEN_LISTS (ws ++ w ∷ []) more start r.0 (ap (run MAX_OPEN_LISTS start) (sym split) ∙ r.1) in
    ran_begins (ws ++ w ∷ []) parts.0 (front_all IsSpelled (ws ++ w ∷ []) more (subst (AllByRecursion IsSpelled) split spelled)) parts.1

-- Faults.

-- no words go on behind a first fault
stops_last : OneNext → EndIsNext → (bytes : List ℕ) (to : ℕ) (ws more us : List Word) (w : Word) (span : Span) (why : P21Fault) → to ≤ length bytes → Stops bytes to ws why → IsNextWord bytes to w span → AllByRecursion IsSpelled us → us ≡ ws ++ w ∷ more → Ran MAX_OPEN_LISTS us → ⊥
stops_last law ends bytes to ws more us w span why within (lex f n e) k spelled g r = law.2 bytes to w.token span f k.token n
stops_last law ends bytes to ws more us w span why within (word v other n some dead kind) k spelled g r =
    let one = one_word law bytes to w v span other k n in
    dead (subst (λ x. Begin (ws ++ x ∷ [])) one.0 (front_begins ws more us w spelled g r))
stops_last law ends bytes to ws more us w span why within (end separators none e) k spelled g r = none_after law ends bytes to ws more us w span within separators k g r

same_mark : (w : Word) (t u : Token) → w ≡ mark t → w ≡ mark u → t ≡ u
same_mark w t u e f = ap (λ (x : Word). x.token) (sym e ∙ f)

one_word_fault : (ws : List Word) (w : Word) (at : ℕ) (f g : P21Fault) → IsWordFault ws w at f → IsWordFault ws w at g → f ≡ g
one_word_fault ws w at (fault.Lex f) g a b = absurd a
one_word_fault ws w at fault.Memory g a b = absurd a
one_word_fault ws w at f (fault.Lex g) a b = absurd b
one_word_fault ws w at f fault.Memory a b = absurd b
one_word_fault ws w at (fault.Unexpected o) (fault.Unexpected p) a b = ap fault.Unexpected (a.0 ∙ sym b.0)
one_word_fault ws w at (fault.Unexpected o) (fault.Twice n p) a b = absurd (a.1 n b.1 b.2)
one_word_fault ws w at (fault.Unexpected o) (fault.TooDeep p) a b = absurd (a.2 b.1)
one_word_fault ws w at (fault.Twice n o) (fault.Unexpected p) a b = absurd (b.1 n a.1 a.2)
one_word_fault ws w at (fault.Twice n o) (fault.Twice m p) a b =
    let same : n ≡ m = (let z = same_mark w (Number n) (Number m) a.1 b.1 in cc) in
    ap (λ k. fault.Twice k o) same ∙ ap (fault.Twice m) (a.0 ∙ sym b.0)
one_word_fault ws w at (fault.Twice n o) (fault.TooDeep p) a b = absurd (let z = same_mark w (Number n) LeftParen a.1 b.1.0 in cc)
one_word_fault ws w at (fault.TooDeep o) (fault.Unexpected p) a b = absurd (b.2 a.1)
one_word_fault ws w at (fault.TooDeep o) (fault.Twice n p) a b = absurd (let z = same_mark w (Number n) LeftParen b.1 a.1.0 in cc)
one_word_fault ws w at (fault.TooDeep o) (fault.TooDeep p) a b = ap fault.TooDeep (a.0 ∙ sym b.0)

one_stop : OneNext → EndIsNext → (bytes : List ℕ) (to : ℕ) (ws : List Word) (why other : P21Fault) → to ≤ length bytes → Stops bytes to ws why → Stops bytes to ws other → why ≡ other
one_stop law ends bytes to ws why other within (lex f n e) (lex g m d) = e ∙ ap fault.Lex (law.1 bytes to f g n m) ∙ sym d
one_stop law ends bytes to ws why other within (lex f n e) (word v span m some dead kind) = absurd (law.2 bytes to v.token span f m.token n)
one_stop law ends bytes to ws why other within (lex f n e) (end separators none d) = end_no_fault law ends bytes to f within separators n
one_stop law ends bytes to ws why other within (word w span n some dead kind) (lex g m d) = absurd (law.2 bytes to w.token span g n.token m)
one_stop law ends bytes to ws why other within (word w span n some dead kind) (word v place m also gone sort) =
    let one = one_word law bytes to w v span place n m in
    let moved = subst (λ (x : Span). IsWordFault ws v x.at why) one.1 (subst (λ x. IsWordFault ws x span.at why) one.0 kind) in
    one_word_fault ws v place.at why other moved sort
one_stop law ends bytes to ws why other within (word w span n some dead kind) (end separators none d) = absurd (some (end_only law ends bytes to w.token span within separators n.token))
one_stop law ends bytes to ws why other within (end separators none e) (lex g m d) = end_no_fault law ends bytes to g within separators m
one_stop law ends bytes to ws why other within (end separators none e) (word v span m some dead kind) = absurd (some (end_only law ends bytes to v.token span within separators m.token))
one_stop law ends bytes to ws why other within (end separators none e) (end again never d) = e ∙ sym d

-- the words of a file end with no fault
whole_no_stop : OneNext → EndIsNext → (bytes : List ℕ) (to : ℕ) (ws : List Word) (f : Content) (why : P21Fault) → to ≤ length bytes → AreSeparators (drop to bytes) → IsFile f → AreFileWords f ws → Stops bytes to ws why → ⊥
whole_no_stop law ends bytes to ws f why within separators rule derived (lex g n e) = end_no_fault law ends bytes to g within separators n
whole_no_stop law ends bytes to ws f why within separators rule derived (word w span n some dead kind) = some (end_only law ends bytes to w.token span within separators n.token)
whole_no_stop law ends bytes to ws f why within separators rule derived (end again none e) = none f rule derived

to_within : (bytes : List ℕ) (to : ℕ) (ws : List Word) → AreWordsBetween bytes 0 to ws → to ≤ length bytes
to_within bytes to ws a = between_within ws bytes 0 to (omega arith) a

pub one_first : OneNext → EndIsNext → (bytes : List ℕ) (why other : P21Fault) → IsFirstFault bytes why → IsFirstFault bytes other → why ≡ other
one_first law ends bytes why other p q = by (compare law p.ws q.ws bytes 0 p.to q.to p.words q.words)
  where
    by : Compared bytes p.to q.to p.ws q.ws → why ≡ other
    by (same e f) = one_stop law ends bytes p.to p.ws why other (to_within bytes p.to p.ws p.words) p.stops (subst (λ x. Stops bytes x p.ws other) (sym f) (subst (λ xs. Stops bytes q.to xs other) (sym e) q.stops))
    by (longer w more span e n) = absurd (stops_last law ends bytes p.to p.ws more q.ws w span why (to_within bytes p.to p.ws p.words) p.stops n (between_spelled q.ws bytes 0 q.to q.words) e (begin_ran q.ws q.begin))
    by (shorter w more span e n) = absurd (stops_last law ends bytes q.to q.ws more p.ws w span other (to_within bytes q.to q.ws q.words) q.stops n (between_spelled p.ws bytes 0 p.to p.words) e (begin_ran p.ws p.begin))

part_ran : (bytes : List ℕ) (f : Content) → (p : IsPartText bytes f) → Ran MAX_OPEN_LISTS p.ws
part_ran bytes f p = let r = file_is_read MAX_OPEN_LISTS f p.ws p.derived p.rule in (_, r.2)

pub part_no_fault : OneNext → EndIsNext → (bytes : List ℕ) (f : Content) (why : P21Fault) → IsPartText bytes f → IsFirstFault bytes why → ⊥
part_no_fault law ends bytes f why p q = by (compare law p.ws q.ws bytes 0 p.words.0 q.to p.words.1 q.words)
  where
    by : Compared bytes p.words.0 q.to p.ws q.ws → ⊥
    by (same e g) = whole_no_stop law ends bytes p.words.0 p.ws f why (to_within bytes p.words.0 p.ws p.words.1) p.words.2 p.rule p.derived (subst (λ x. Stops bytes x p.ws why) (sym g) (subst (λ xs. Stops bytes q.to xs why) (sym e) q.stops))
    by (longer w more span e n) = none_after law ends bytes p.words.0 p.ws more q.ws w span (to_within bytes p.words.0 p.ws p.words.1) p.words.2 n e (begin_ran q.ws q.begin)
    by (shorter w more span e n) = stops_last law ends bytes q.to q.ws more p.ws w span why (to_within bytes q.to q.ws q.words) q.stops n (between_spelled p.ws bytes 0 p.words.0 p.words.1) e (part_ran bytes f p)

pub one_file_from : OneNext → EndIsNext → OneFile
one_file_from law ends bytes f g p q = by (compare law p.ws q.ws bytes 0 p.words.0 q.words.0 p.words.1 q.words.1)
  where
    by : Compared bytes p.words.0 q.words.0 p.ws q.ws → f ≡ g
    by (same e h) =
        let r = file_is_read MAX_OPEN_LISTS f p.ws p.derived p.rule in
        let t = file_is_read MAX_OPEN_LISTS g q.ws q.derived q.rule in
        ap content (same_reader _ _ (sym r.2 ∙ ap (run MAX_OPEN_LISTS start) e ∙ t.2))
    by (longer w more span e n) = absurd (none_after law ends bytes p.words.0 p.ws more q.ws w span (to_within bytes p.words.0 p.ws p.words.1) p.words.2 n e (part_ran bytes g q))
    by (shorter w more span e n) = absurd (none_after law ends bytes q.words.0 q.ws more p.ws w span (to_within bytes q.words.0 q.ws q.words.1) q.words.2 n e (part_ran bytes f p))

-- The reader tells the first fault.

first_from : (bytes : List ℕ) (at : ℕ) (s : Reader) (why : P21Fault) → (k : ReadTo bytes at s) → Stops bytes at k.ws why → IsFirstFault bytes why
first_from bytes at s why k stops = record { ws = k.ws; to = at; words = k.words; begin = ran_begins k.ws s (between_spelled k.ws bytes 0 at k.words) k.ran; stops = stops }

pub lex_first : (bytes : List ℕ) (at : ℕ) (s : Reader) (f : LexFault) → ReadTo bytes at s → IsNextFault bytes at f → IsFirstFault bytes (fault.Lex f)
lex_first bytes at s f k n = first_from bytes at s (fault.Lex f) k (lex f n refl)

refused_ends : (ws : List Word) (s : Reader) (w : Word) (why : Refusal) → run MAX_OPEN_LISTS start ws ≡ Ok s → step MAX_OPEN_LISTS s w.token w.value ≡ Err why → Begin (ws ++ w ∷ []) → ⊥
refused_ends ws s w why h k b =
    let r = begin_ran (ws ++ w ∷ []) b in
    let parts = front_ran MAX_OPEN_LISTS ws (w ∷ []) start r.0 r.1 in
    let at : parts.0 ≡ s = same_reader parts.0 s (sym parts.1 ∙ h) in
    let first = first_gave MAX_OPEN_LISTS (step MAX_OPEN_LISTS parts.0 w.token w.value) [] r.0 parts.2 in
    no_reader why first.0 (sym k ∙ ap (λ x. step MAX_OPEN_LISTS x w.token w.value) (sym at) ∙ first.1)

pub word_first : (bytes : List ℕ) (at : ℕ) (s : Reader) (t : Token) (span : Span) (why : Refusal) (f : P21Fault) → ReadTo bytes at s → IsNextToken bytes at t span → t ≢ End → step MAX_OPEN_LISTS s t (value_of t (slice_range bytes span.at (span.at + span.len))) ≡ Err why → Refuses why span.at f → f ≢ fault.Memory → IsFirstFault bytes f
word_first bytes at s t span why f k n some h r other =
    let text = slice_range bytes span.at (span.at + span.len) in
    let w = kept.word t (value_of t text) in
    let spelled = between_spelled k.ws bytes 0 at k.words in
    let kind = refused_fault k.ws s t (value_of t text) text why span.at f (n.text, carries t text n.text) spelled k.ran h r other in
    first_from bytes at s f k (word w span (next_word bytes at t span n) some (refused_ends k.ws s w why k.ran h) kind)

not_whole : (ws : List Word) (s : Reader) → run MAX_OPEN_LISTS start ws ≡ Ok s → (s.place ≡ Done → ⊥) → (f : Content) → IsFile f → AreFileWords f ws → ⊥
not_whole ws s h unfinished f rule derived =
    let r = file_is_read MAX_OPEN_LISTS f ws derived rule in
    unfinished (ap (λ (x : Reader). x.place) (same_reader s _ (sym h ∙ r.2)))

pub end_first : (bytes : List ℕ) (at : ℕ) (s : Reader) → ReadTo bytes at s → AreSeparators (drop at bytes) → (s.place ≡ Done → ⊥) → IsFirstFault bytes (fault.Unexpected (length bytes))
end_first bytes at s k separators unfinished = first_from bytes at s (fault.Unexpected (length bytes)) k (end separators (not_whole k.ws s k.ran unfinished) refl)

-- Answers.

pub at_within : (bytes : List ℕ) (at : ℕ) (s : Reader) → ReadTo bytes at s → at ≤ length bytes
at_within bytes at s k = to_within bytes at k.ws k.words

memory_or_not : (e : P21Fault) → (e ≡ fault.Memory) ⊎ (e ≢ fault.Memory)
memory_or_not fault.Memory = inl refl
memory_or_not (fault.Lex f) = inr (λ e. cc)
memory_or_not (fault.Unexpected o) = inr (λ e. cc)
memory_or_not (fault.Twice n o) = inr (λ e. cc)
memory_or_not (fault.TooDeep o) = inr (λ e. cc)

abbrev pub Found : List ℕ → Result Content P21Fault → Type 0
Found bytes r = IfOk r (λ f. IsPartText bytes f)

abbrev pub Refused : List ℕ → Result Content P21Fault → Type 0
Refused bytes r = IfErr r (λ e. e ≢ fault.Memory → IsFirstFault bytes e)

pub read_only : OneFile → OneFault → (bytes : List ℕ) (r : Result Content P21Fault) → Found bytes r → Refused bytes r → (f : Content) → IsPartText bytes f → MatchResult r (λ g. g ≡ f) (λ e. e ≡ fault.Memory)
read_only file law bytes (Ok g) found refused f p = file bytes g f found p
read_only file law bytes (Err e) found refused f p = ⊎_elim (λ m. m) (λ n. absurd (law.1 bytes f e p (refused n))) (memory_or_not e)

pub fault_only : OneFault → (bytes : List ℕ) (r : Result Content P21Fault) → Found bytes r → Refused bytes r → (why : P21Fault) → IsFirstFault bytes why → MatchResult r (λ g. ⊥) (λ e. (e ≡ why) ⊎ (e ≡ fault.Memory))
fault_only law bytes (Ok g) found refused why p = law.1 bytes g why found p
fault_only law bytes (Err e) found refused why p = ⊎_elim (λ m. inr m) (λ n. inl (law.0 bytes e why (refused n) p)) (memory_or_not e)

-- the answer at the end of the bytes
pub end_found : (bytes : List ℕ) (s : Reader) (r : Result Content P21Fault) → IfOk r (λ f. (s.place ≡ Done) × (f ≡ content s)) → (s.place ≡ Done → IsPartText bytes (content s)) → Found bytes r
end_found bytes s (Ok f) h k = subst (IsPartText bytes) (sym h.1) (k h.0)
end_found bytes s (Err e) h k = tt

pub end_refused : (bytes : List ℕ) (s : Reader) (at : ℕ) (r : Result Content P21Fault) → IfErr r (λ e. (s.place ≡ Done → ⊥) × (e ≡ fault.Unexpected at)) → at ≡ length bytes → ((s.place ≡ Done → ⊥) → IsFirstFault bytes (fault.Unexpected (length bytes))) → Refused bytes r
end_refused bytes s at (Ok f) h e k = tt
end_refused bytes s at (Err x) h e k = λ some. subst (IsFirstFault bytes) (sym (h.1 ∙ ap fault.Unexpected e)) (k h.0)

-- the answer where a step fails
pub step_refused : (T : Type 0) (bytes : List ℕ) (step : Step) (at : ℕ) (e : P21Fault) (new : Reader) → Steps {T = T} step at (Err e) new → ((why : Refusal) → step ≡ Err why → Refuses why at e → e ≢ fault.Memory → IsFirstFault bytes e) → e ≢ fault.Memory → IsFirstFault bytes e
step_refused T bytes step at fault.Memory new h k other = absurd (other refl)
step_refused T bytes step at (fault.Lex f) new h k other = k h.0 h.1 h.2 other
step_refused T bytes step at (fault.Unexpected o) new h k other = k h.0 h.1 h.2 other
step_refused T bytes step at (fault.Twice n o) new h k other = k h.0 h.1 h.2 other
step_refused T bytes step at (fault.TooDeep o) new h k other = k h.0 h.1 h.2 other
