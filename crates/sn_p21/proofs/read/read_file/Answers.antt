use Rattle.std.proofs.Common.{◌≡◌, ◌≢◌, Bool, true, false, sym, ap, subst, ◌∙◌, Err}
use Rattle.std.proofs.lemmas.Result.{err_from_is_err_and}
use Rattle.sn_lex.specs.declared.token.Token.TheVariants.{End}
use Rattle.sn_p21.specs.declared.fault.P21Fault.TheVariants as fault
use Rattle.sn_p21.proofs.FileKept.{rule_read, part_read}
use Rattle.sn_p21.proofs.FirstFaults.{Found, Refused, at_within, lex_first, word_first, end_first, read_only, fault_only, end_found, end_refused, step_refused}
use Rattle.sn_p21.proofs.WordsRead.{ReadTo, read_none, read_more}
use Rattle.sn_p21.proofs.read.read_file.Goals as goal

pub loop-found-init : goal.loop-found-init
loop-found-init c = subst (ReadTo c.args.bytes.now 0) (sym c.new-reader.ensures) (read_none c.args.bytes.now)

pub next_token-requires : goal.next_token-requires
next_token-requires c = at_within c.args.bytes.now c.loop-found.at c.loop-found.reader c.loop-found.invariant

pub returns-in-Err-clause-refused : goal.returns-in-Err-clause-refused
returns-in-Err-clause-refused c = λ some. lex_first c.args.bytes.now c.loop-found.at c.loop-found.reader c.in-Err.fault c.loop-found.invariant c.in-Err.ensures.fault

pub returns-in-Err-clause-only : goal.returns-in-Err-clause-only
returns-in-Err-clause-only c = read_only c.one_file.ensures c.one_fault.ensures c.args.bytes.now (Err (fault.Lex c.in-Err.fault)) tt (returns-in-Err-clause-refused c)

pub returns-in-Err-clause-fault : goal.returns-in-Err-clause-fault
returns-in-Err-clause-fault c = fault_only c.one_fault.ensures c.args.bytes.now (Err (fault.Lex c.in-Err.fault)) tt (returns-in-Err-clause-refused c)

pub finish-requires : goal.finish-requires
finish-requires c = rule_read c.args.bytes.now c.loop-found.at c.loop-found.reader c.loop-found.invariant

pub returns-then-is_end-clause-found : goal.returns-then-is_end-clause-found
returns-then-is_end-clause-found c =
    let separators = c.in-Ok.ensures.end.0 (c.is_end.ensures.0 c.if-is_end.true) in
    end_found c.args.bytes.now c.loop-found.reader c.finish.result c.finish.ensures.done (part_read c.args.bytes.now c.loop-found.at c.loop-found.reader c.loop-found.invariant separators)

pub returns-then-is_end-clause-refused : goal.returns-then-is_end-clause-refused
returns-then-is_end-clause-refused c =
    let separators = c.in-Ok.ensures.end.0 (c.is_end.ensures.0 c.if-is_end.true) in
    end_refused c.args.bytes.now c.loop-found.reader c.in-Ok.found.1.at c.finish.result c.finish.ensures.refused (c.in-Ok.ensures.end_span (c.is_end.ensures.0 c.if-is_end.true)).0 (end_first c.args.bytes.now c.loop-found.at c.loop-found.reader c.loop-found.invariant separators)

pub returns-then-is_end-clause-only : goal.returns-then-is_end-clause-only
returns-then-is_end-clause-only c = read_only c.one_file.ensures c.one_fault.ensures c.args.bytes.now c.finish.result (returns-then-is_end-clause-found c) (returns-then-is_end-clause-refused c)

pub returns-then-is_end-clause-fault : goal.returns-then-is_end-clause-fault
returns-then-is_end-clause-fault c = fault_only c.one_fault.ensures c.args.bytes.now c.finish.result (returns-then-is_end-clause-found c) (returns-then-is_end-clause-refused c)

differ : (b : Bool) → b ≡ false → b ≡ true → ⊥
differ b e f = let z : true ≡ false = sym f ∙ e in cc

pub returns-in_err-take-clause-found : goal.returns-in_err-take-clause-found
returns-in_err-take-clause-found c =
    let p = err_from_is_err_and c.from_residual.result c.from_residual.ensures.1 in
    subst (Found c.args.bytes.now) (sym p.1) tt

pub returns-in_err-take-clause-refused : goal.returns-in_err-take-clause-refused
returns-in_err-take-clause-refused c =
    let p = err_from_is_err_and c.from_residual.result c.from_residual.ensures.1 in
    let same : c.from_residual.result ≡ Err c.in_err-take.field-0.0 = p.1 ∙ ap Err p.2 in
    let some : c.in-Ok.found.0 ≢ End = λ e. differ c.is_end.result c.if-is_end.false (c.is_end.ensures.1 e) in
    subst (Refused c.args.bytes.now) (sym same) (step_refused (Unit {0}) c.args.bytes.now _ c.in-Ok.found.1.at c.in_err-take.field-0.0 c.take.new.self c.in_err-take.ensures (λ why h r other. word_first c.args.bytes.now c.loop-found.at c.loop-found.reader c.in-Ok.found.0 c.in-Ok.found.1 why c.in_err-take.field-0.0 c.loop-found.invariant c.in-Ok.ensures.token some h r other))

pub returns-in_err-take-clause-only : goal.returns-in_err-take-clause-only
returns-in_err-take-clause-only c = read_only c.one_file.ensures c.one_fault.ensures c.args.bytes.now c.from_residual.result (returns-in_err-take-clause-found c) (returns-in_err-take-clause-refused c)

pub returns-in_err-take-clause-fault : goal.returns-in_err-take-clause-fault
returns-in_err-take-clause-fault c = fault_only c.one_fault.ensures c.args.bytes.now c.from_residual.result (returns-in_err-take-clause-found c) (returns-in_err-take-clause-refused c)

pub loop-found-preserved : goal.loop-found-preserved
loop-found-preserved c = read_more c.args.bytes.now c.loop-found.at c.loop-found.reader c.take.new.self c.in-Ok.found.0 c.in-Ok.found.1 c.loop-found.invariant c.in-Ok.ensures.token c.in_ok-take.ensures
