use Rattle.std.proofs.Common.{◌≡◌, ℕ, List, ◌+◌, ◌-◌, ◌<◌, ◌≤◌, [], ◌∷◌, ◌++◌, length, get_or, take, drop, sym, ap, arith}
use Rattle.std.proofs.lemmas.List.{take_more}
use Rattle.sn_p21.specs.declared.file.Param.{Param}
use Rattle.sn_entity.specs.declared.row.Read.{Read}
use Rattle.sn_entity.specs.declared.row.Kind.TheVariants as kind
use Rattle.sn_entity.proofs.ReadLemmas.{given_push, place_at, split_at, read_at}
use Rattle.sn_entity.proofs.reads.values_of.Goals as goal
use Rattle.std.proofs.Common.{false}

abbrev none : Read
none = record { place = 0; kind = kind.L; may_lack = false }

pub overflow_sub-read : goal.overflow_sub-read
overflow_sub-read c =
    let h = place_at 0 (length c.args.entity.now.params) c.args.reads.now c.loop-read.read-index none c.requires (omega arith) in
    omega (arith, h.0)

pub bounds-params-read : goal.bounds-params-read
bounds-params-read c =
    let h = place_at 0 (length c.args.entity.now.params) c.args.reads.now c.loop-read.read-index none c.requires (omega arith) in
    let e = ap length c.as_slice-params.ensures in
    omega (arith, h.0, h.1)

at_place : (number of : ℕ) (qs : List Param) (n : ℕ) → n < number → number ≤ of → of ≡ length qs → number - 1 < length qs
at_place number of qs n low high e = omega arith

pub returns-in-Err-clause-refused : goal.returns-in-Err-clause-refused
returns-in-Err-clause-refused c = λ _. record {
  before = take c.loop-read.read-index c.args.reads.now;
  values = c.loop-read.values;
  read = get_or c.args.reads.now c.loop-read.read-index none;
  behind = drop (c.loop-read.read-index + 1) c.args.reads.now;
  param = c.index-params-read.result;
  cause = c.in-Err.why;
  parts = split_at c.args.reads.now c.loop-read.read-index none (omega arith);
  given = c.loop-read.invariant;
  read_is = read_at c.args.entity.now.params c.as_slice-params.result.now _ c.index-params-read.result c.as_slice-params.ensures (let h = place_at 0 (length c.args.entity.now.params) c.args.reads.now c.loop-read.read-index none c.requires (omega arith) in
      at_place (get_or c.args.reads.now c.loop-read.read-index none).place _ _ 0 h.0 h.1 (sym (ap length c.as_slice-params.ensures))) c.index-params-read.is;
  refused = c.in-Err.ensures.refused;
  fault = c.fault_at.ensures;
}

pub loop-read-preserved : goal.loop-read-preserved
loop-read-preserved c =
    let i = c.loop-read.read-index in
    let rs = c.args.reads.now in
    let more : take (i + 1) rs ≡ take i rs ++ get_or rs i none ∷ [] = take_more rs i none (omega arith) in
    rw (more, c.in_ok-push-in-Ok.ensures.ok)
    (given_push c.args.entity.now (take i rs) c.loop-read.values (get_or rs i none) c.index-params-read.result c.in-Ok.value c.loop-read.invariant
    (let h = place_at 0 (length c.args.entity.now.params) rs i none c.requires (omega arith) in
    read_at c.args.entity.now.params c.as_slice-params.result.now _ c.index-params-read.result c.as_slice-params.ensures
    (at_place (get_or rs i none).place _ _ 0 h.0 h.1 (sym (ap length c.as_slice-params.ensures))) c.index-params-read.is) c.in-Ok.ensures.found)
