use Rattle.std.proofs.lemmas.Result.{err_from_is_err_and}
use Rattle.sn_lex.proofs.Places.{next_token_from, next_fault_from}
use Rattle.sn_lex.proofs.Unique.{next_token_once, end_leaves_nothing, separators_lead_to_end}
use Rattle.sn_lex.proofs.next_token.Goals as goal

pub returns-in_err-token-clause-fault : goal.returns-in_err-token-clause-fault
returns-in_err-token-clause-fault c =
    let p = err_from_is_err_and c.from_residual.result c.from_residual.ensures.1 in
    rw (p.1, p.2) (next_fault_from _ _ _ _ c.requires c.skip_separators-rest.ensures.skipped c.in_err-token.ensures.0 c.in_err-token.ensures.1)

pub returns-clause-token : goal.returns-clause-token
returns-clause-token c = next_token_from _ _ _ _ _ c.requires c.skip_separators-rest.ensures.skipped c.in_ok-token.ensures

pub returns-clause-end : goal.returns-clause-end
returns-clause-end c =
    let next = next_token_from _ _ _ _ _ c.requires c.skip_separators-rest.ensures.skipped c.in_ok-token.ensures in
    (λ is. (end_leaves_nothing _ _ _ _ next is).0, λ are. (next_token_once _ _ _ _ _ _ next (separators_lead_to_end _ _ c.requires are)).0)

pub returns-clause-end_span : goal.returns-clause-end_span
returns-clause-end_span c =
    let next = next_token_from _ _ _ _ _ c.requires c.skip_separators-rest.ensures.skipped c.in_ok-token.ensures in
    λ is. ((end_leaves_nothing _ _ _ _ next is).1, (end_leaves_nothing _ _ _ _ next is).2)
