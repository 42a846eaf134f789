-- The first read at fault.
use Rattle.std.proofs.Common.{◌≡◌, ◌≢◌, ◌⊎◌, ℕ, zero, suc, ◌-◌, ◌<◌, ◌≤◌, List, [], ◌∷◌, ◌++◌, length, refl, sym, ap, subst, ◌∙◌, inl, inr, Some, arith}
use Rattle.std.specs.Prelude.{slice_get, slice_index_or}
use Rattle.std.specs.List.{Contains}
use Rattle.sn_p21.specs.declared.file.Param.{Param}
use Rattle.sn_p21.specs.declared.file.Entity.{Entity}
use Rattle.sn_entity.specs.declared.fault.EntFault.{EntFault}
use Rattle.sn_entity.specs.declared.fault.EntFault.TheVariants as fault
use Rattle.sn_entity.specs.declared.refusal.Refusal.TheVariants.{Kind, Range, Memory}
use Rattle.sn_entity.specs.declared.row.Read.{Read}
use Rattle.sn_entity.specs.declared.row.RowId.{RowId}
use Rattle.sn_entity.specs.declared.value.Value.{Value}
use Rattle.sn_entity.specs.Form.{ReadGives, ReadHasForm}
use Rattle.sn_entity.specs.Reads.{IsRising, StopsAt, fault_at}
use Rattle.sn_entity.specs.Refusal.{IsRefused}
use Rattle.sn_entity.specs.Shows.{AreGiven, IsRead, IsFirstFaulty, IsFault}
use Rattle.sn_entity.specs.Table.{reads_of, wanted}
use Rattle.sn_entity.proofs.RowsRise.{row_rises}
use Rattle.sn_entity.proofs.GivenForms.{ReadHasForm-from_given}

-- the read is among these
abbrev Has : List Read → Read → Type 0
Has [] q = ⊥
Has (r ∷ rs) q = (r ≡ q) ⊎ Has rs q

has_at : (rs : List Read) (k : ℕ) (q : Read) → k < length rs → slice_index_or rs k q ≡ q → Has rs q
has_at [] k q lt e = absurd (omega arith)
has_at (r ∷ rs) zero q lt e = inl e
has_at (r ∷ rs) (suc k) q lt e = inr (has_at rs k q (omega arith) e)

has : (rs : List Read) (q : Read) → Contains rs q → Has rs q
has rs q c = has_at rs c.0 q c.1 c.2

contains_split : (before : List Read) (r : Read) (behind : List Read) → Contains (before ++ r ∷ behind) r
contains_split [] r behind = (0, omega arith, refl)
contains_split (q ∷ qs) r behind = let rest = contains_split qs r behind in (suc rest.0, omega (arith, rest.1), rest.2)

-- each place of rising reads is above
above_all : (above most : ℕ) (rs : List Read) (q : Read) → IsRising above most rs → Has rs q → above < q.place
above_all above most (r ∷ rs) q h (inl e) = subst (λ x. above < x.place) e h.0
above_all above most (r ∷ rs) q h (inr e) = let rest = above_all r.place most rs q h.2 e in omega (arith, rest, h.0)
above_all above most [] q h e = absurd e

-- a read of a lesser place stands before
stands_before : (above most : ℕ) (before : List Read) (r : Read) (behind : List Read) (q : Read) → IsRising above most (before ++ r ∷ behind) → Has (before ++ r ∷ behind) q → q.place < r.place → Has before q
stands_before above most [] r behind q h (inl e) lt = let p : r.place ≡ q.place = ap (λ x. x.place) e in absurd (omega arith)
stands_before above most [] r behind q h (inr e) lt = let p = above_all r.place most behind q h.2 e in absurd (omega arith)
stands_before above most (x ∷ xs) r behind q h (inl e) lt = inl e
stands_before above most (x ∷ xs) r behind q h (inr e) lt = inr (stands_before x.place most xs r behind q h.2 e lt)

-- reads of one place are one read
pub one_of_place : (above most : ℕ) (rs : List Read) (q r : Read) → IsRising above most rs → Has rs q → Has rs r → q.place ≡ r.place → q ≡ r
one_of_place above most [] q r h a b e = absurd a
one_of_place above most (x ∷ xs) q r h (inl a) (inl b) e = sym a ∙ b
one_of_place above most (x ∷ xs) q r h (inl a) (inr b) e = let p = above_all x.place most xs r h.2 b in let s : x.place ≡ q.place = ap (λ y. y.place) a in absurd (omega arith)
one_of_place above most (x ∷ xs) q r h (inr a) (inl b) e = let p = above_all x.place most xs q h.2 a in let s : x.place ≡ r.place = ap (λ y. y.place) b in absurd (omega arith)
one_of_place above most (x ∷ xs) q r h (inr a) (inr b) e = one_of_place x.place most xs q r h.2 a b e

abbrev Given : Entity → Read → Type 0
Given e q = (o : Param) × (v : Value) × IsRead e q o × ReadGives q o v

given_has : (e : Entity) (rs : List Read) (vs : List Value) (q : Read) → AreGiven e rs vs → Has rs q → Given e q
given_has e [] vs q all h = absurd h
given_has e (r ∷ rs) vs q all (inl h) = subst (Given e) h (all.0, all.1, all.3, all.4)
given_has e (r ∷ rs) vs q all (inr h) = given_has e rs all.2 q all.5 h

pub given_contains : (e : Entity) (rs : List Read) (vs : List Value) (q : Read) → AreGiven e rs vs → Contains rs q → Given e q
given_contains e rs vs q all c = given_has e rs vs q all (has rs q c)

pub first_faulty : (e : Entity) (most : ℕ) (reads before : List Read) (r : Read) (behind : List Read) (p : Param) (vs : List Value) → reads ≡ before ++ r ∷ behind → IsRising 0 most reads → AreGiven e before vs → IsRead e r p → ((v : Value) → ¬ ReadGives r p v) → IsFirstFaulty e reads r p
first_faulty e most reads before r behind p vs parts rise given read none = record {
  among = subst (λ x. Contains x r) (sym parts) (contains_split before r behind);
  read = read;
  none = none;
  first = λ q c lt. given_has e before vs q given (stands_before 0 most before r behind q (subst (IsRising 0 most) parts rise) (has (before ++ r ∷ behind) q (subst (λ x. Contains x q) parts c)) lt);
}

-- where a read stops, the entity is at fault
pub fault_from_stop : (number : ℕ) (e : Entity) (id : RowId) (why : EntFault) → wanted id ≤ length e.params → StopsAt number e (reads_of id) why → why ≢ fault.Memory → IsFault number e id why
fault_from_stop number e id why enough s other =
    subst (IsFault number e id) (sym s.fault)
    (elim s.cause as (λ cause. IsRefused cause (ReadHasForm s.read s.param) (ReadGives s.read s.param) → fault_at number s.read.place cause ≢ fault.Memory → IsFault number e id (fault_at number s.read.place cause)) [
      | Kind ↦ λ no_form _. (
        refl,
        enough,
        (
          s.read,
          s.param,
          first_faulty e (length e.params) (reads_of id) s.before s.read s.behind s.param s.values s.parts (row_rises id (length e.params) enough) s.given s.read_is (λ v g. no_form (ReadHasForm-from_given s.read s.param v g)),
          refl,
          no_form,
        ),
      )
      | Range ↦ λ limits _. (
        refl,
        enough,
        (
          s.read,
          s.param,
          first_faulty e (length e.params) (reads_of id) s.before s.read s.behind s.param s.values s.parts (row_rises id (length e.params) enough) s.given s.read_is limits.1,
          refl,
          limits.0,
        ),
      )
      | Memory ↦ λ _ memory. absurd (memory refl)
    ] s.refused (λ h. other (s.fault ∙ h)))

equal : (a b : ℕ) → ¬ (a < b) → ¬ (b < a) → a ≡ b
equal a b low high = omega arith

not_before : (e : Entity) (rs : List Read) (q r : Read) (o p : Param) → IsFirstFaulty e rs q o → IsFirstFaulty e rs r p → ¬ (q.place < r.place)
not_before e rs q r o p a b lt =
    let given = b.first q a.among lt in
    let same : given.0 ≡ o = let s = sym given.2 ∙ a.read in cc in
    a.none given.1 (subst (λ x. ReadGives q x given.1) same given.3)

-- the first read at fault is one
pub first_one : (e : Entity) (most : ℕ) (rs : List Read) (q r : Read) (o p : Param) → IsRising 0 most rs → IsFirstFaulty e rs q o → IsFirstFaulty e rs r p → (q ≡ r) × (o ≡ p)
first_one e most rs q r o p rise a b =
    let low = not_before e rs q r o p a b in
    let high = not_before e rs r q p o b a in
    let same : q ≡ r = one_of_place 0 most rs q r rise (has rs q a.among) (has rs r b.among) (equal q.place r.place low high) in
    let read : slice_get e.params (r.place - 1) ≡ Some o = subst (λ x. slice_get e.params (x.place - 1) ≡ Some o) same a.read in
    (same, let s = sym read ∙ b.read in cc)
