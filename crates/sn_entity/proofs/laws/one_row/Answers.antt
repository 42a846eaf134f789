use Rattle.std.proofs.Common.{◌≡◌, List, [], ◌∷◌, sym, ap, ◌∙◌}
use Rattle.sn_p21.specs.declared.file.Entity.{Entity}
use Rattle.sn_entity.proofs.RowNames.{id-from_name}
use Rattle.sn_entity.proofs.laws.one_row.Goals as goal

one_part : (ps : List Entity) (d e : Entity) → ps ≡ d ∷ [] → ps ≡ e ∷ [] → d ≡ e
one_part ps d e h k = let z : d ∷ [] ≡ e ∷ [] = sym h ∙ k in cc

pub returns : goal.returns
returns c =
    λ i d e id other h k.
    let keyword = ap (λ (x : Entity). x.keyword) (one_part i.parts d e h.simple k.simple) in
    id-from_name id other (h.named ∙ keyword ∙ sym k.named)
