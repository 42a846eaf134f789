-- What a parameter gives by its kind.
use Rattle.std.proofs.Common.{◌≡◌, Result, subst, sym, inr, ⊎_elim}
use Rattle.std.specs.Prelude.{IfOk, IfErr}
use Rattle.sn_p21.specs.declared.file.Param.{Param}
use Rattle.sn_entity.specs.declared.refusal.Refusal.{Refusal}
use Rattle.sn_entity.specs.declared.row.Kind.{Kind}
use Rattle.sn_entity.specs.declared.row.Read.{Read}
use Rattle.sn_entity.specs.declared.value.Value.{Value}
use Rattle.sn_entity.specs.Form.{Gives, HasForm, MayLack, ReadGives, ReadHasForm}
use Rattle.sn_entity.specs.Refusal.{IsRefused}
use Rattle.sn_entity.proofs.RefusalLemmas.{refused_as}

pub as_kind : (k l : Kind) (p : Param) (r : Result Value Refusal) → k ≡ l → IfErr r (λ why. IsRefused why (HasForm l p) (Gives l p)) → IfErr r (λ why. IsRefused why (HasForm k p) (Gives k p))
as_kind k l p r e h = subst (λ x. IfErr r (λ why. IsRefused why (HasForm x p) (Gives x p))) (sym e) h

pub given_as : (k l : Kind) (p : Param) (r : Result Value Refusal) → k ≡ l → IfOk r (Gives l p) → IfOk r (Gives k p)
given_as k l p r e h = subst (λ x. IfOk r (Gives x p)) (sym e) h

-- a read where nothing is left out
pub refused_read : (r : Read) (p : Param) → ¬ MayLack r p → (why : Refusal) → IsRefused why (HasForm r.kind p) (Gives r.kind p) → IsRefused why (ReadHasForm r p) (ReadGives r p)
refused_read r p given why h =
    refused_as (HasForm r.kind p) _ (Gives r.kind p) _
    (λ f. inr f)
    (λ f. ⊎_elim (λ lack. absurd (given lack)) (λ x. x) f)
    (λ v g. ⊎_elim (λ lack. absurd (given lack.0)) (λ x. (v, x)) g) why h
