-- Whether a row is in a group.
use Rattle.std.proofs.Common.{◌≡◌, ◌⊎◌, List, [], ◌∷◌, inl, inr, ⊎_elim}
use Rattle.std.proofs.lemmas.Bool.{cases_Bool}
use denote.Enum.Bare.{sameb, same_true, same_false}
use Rattle.sn_entity.specs.contracts.row.RowId.{the_type}
use Rattle.sn_entity.specs.declared.row.RowId.{RowId}
use Rattle.sn_entity.specs.Table.{IsAmong, rows_of}
use Rattle.sn_entity.specs.TableLaws.{InGroupOrNot}

same_or_not : (a b : RowId) → (a ≡ b) ⊎ (¬ (a ≡ b))
same_or_not a b = ⊎_elim (λ yes. inl (same_true the_type tt a b yes)) (λ no. inr (same_false the_type a b no)) (cases_Bool (sameb the_type a b))

among_or_not : (row : RowId) (ids : List RowId) → IsAmong row ids ⊎ (¬ IsAmong row ids)
among_or_not row [] = inr (λ h. h)
among_or_not row (id ∷ ids) =
    ⊎_elim
    (λ same. inl (inl same))
    (λ other. ⊎_elim (λ later. inl (inr later)) (λ none. inr (λ h. ⊎_elim other none h)) (among_or_not row ids))
    (same_or_not row id)

pub in_group_or_not : InGroupOrNot
in_group_or_not group row = among_or_not row (rows_of group)
