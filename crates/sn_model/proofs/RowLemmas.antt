-- The row of an instance.
use Rattle.std.proofs.Common.{◌≡◌, ℕ, ◌≤◌, ◌<◌, List, [], ◌∷◌, length, get_or, Option, Some, None, IfSome, MatchOption, sym, ap, ◌∙◌, arith}
use Rattle.sn_p21.specs.declared.file.Entity.{Entity}
use Rattle.sn_p21.specs.declared.file.Instance.{Instance}
use Rattle.sn_entity.specs.declared.row.RowId.{RowId}
use Rattle.sn_entity.specs.Table.{name_of}
use Rattle.sn_entity.specs.Shows.{IsKnown}
use Rattle.sn_model.specs.Built.{IsOfRow}

same_part : (ps : List Entity) (d e : Entity) → ps ≡ d ∷ [] → ps ≡ e ∷ [] → d ≡ e
same_part ps d e h k = let z : d ∷ [] ≡ e ∷ [] = sym h ∙ k in cc

pub one_part : (ps : List Entity) (e : Entity) → 1 ≤ length ps → length ps < 2 → e ≡ get_or ps 0 e → ps ≡ e ∷ []
one_part [] e some few h = absurd (omega arith)
one_part (d ∷ []) e some few h = ap (λ x. x ∷ []) (sym h)
one_part (c ∷ d ∷ ps) e some few h = absurd (omega arith)

-- the row that the table has of the keyword of a simple instance, if it has one
pub row_from : (i : Instance) (e : Entity) (k : List ℕ) (r : Option RowId) → i.parts ≡ e ∷ [] → k ≡ e.keyword → IfSome r (λ id. name_of id ≡ k) → ((id : RowId) → name_of id ≡ k → r ≡ Some id) → MatchOption r (¬ IsKnown i) (λ id. IsOfRow i id)
row_from i e k (Some id) one word found only = (e, record { simple = one; named = found ∙ word })
row_from i e k None one word found only =
    λ known.
    let part : known.0 ≡ e = same_part i.parts known.0 e known.2.simple one in
    let z : None ≡ Some known.1 = only known.1 (known.2.named ∙ ap (λ d. d.keyword) part ∙ sym word) in
    cc
