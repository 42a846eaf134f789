-- What gives a value has the form that is wanted.
use Rattle.std.proofs.Common.{inl, inr, ⊎_elim}
use Rattle.sn_p21.specs.declared.file.Param.{Param}
use Rattle.sn_entity.specs.declared.row.Kind.{Kind}
use Rattle.sn_entity.specs.declared.row.Kind.TheVariants.{L, L0, L1, Dia, Edge, Feed, Speed, N, P, V, T, Z, Z0, R, RL, B}
use Rattle.sn_entity.specs.declared.row.Read.{Read}
use Rattle.sn_entity.specs.declared.value.Value.{Value}
use Rattle.sn_entity.specs.Measure.{Measure}
use Rattle.sn_entity.specs.Form.{Gives, HasForm, ReadGives, ReadHasForm, IsNumeric, GivesNumber, GivesPair, GivesTriple, AreTwoNumeric, AreThreeNumeric, IsZero}
use Rattle.sn_entity.proofs.ParamLemmas.{IsNumeric-from_value}

form_number : (m : Measure) (p : Param) (v : Value) → GivesNumber m p v → IsNumeric p
form_number m p v g = IsNumeric-from_value m p g.0 g.1

form_pair : (m : Measure) (p : Param) (v : Value) → GivesPair m p v → AreTwoNumeric p
form_pair m p v g = (g.0, g.1, g.2, IsNumeric-from_value m g.0 g.3.0 g.3.2, IsNumeric-from_value m g.1 g.3.1 g.3.3)

form_triple : (m : Measure) (p : Param) (v : Value) → GivesTriple m p v → AreThreeNumeric p
form_triple m p v g = (g.0, g.1, g.2, g.3, IsNumeric-from_value m g.0 g.4.0 g.4.3, IsNumeric-from_value m g.1 g.4.1 g.4.4, IsNumeric-from_value m g.2 g.4.2 g.4.5)

form_zero : (p : Param) → IsZero p → IsNumeric p
form_zero p z = (z.0, z.2, (z.3.0, z.3.1))

form : (k : Kind) (p : Param) (v : Value) → Gives k p v → HasForm k p
form L p v g = form_number _ p v g
form L0 p v g = form_number _ p v g
form L1 p v g = form_number _ p v g
form Dia p v g = form_number _ p v g
form Edge p v g = form_number _ p v g
form Feed p v g = form_number _ p v g
form Speed p v g = form_number _ p v g
form N p v g = form_number _ p v g
form P p v g = ⊎_elim (λ x. inl (form_pair _ p v x)) (λ x. inr (form_triple _ p v x)) g
form V p v g = form_triple _ p v g
form T p v g = (v, g)
form Z p v g = (v, g)
form Z0 p v g = ⊎_elim (λ lack. inl lack) (λ z. inr (form_zero p z)) g.0
form (R group) p v g = (v, g)
form (RL group) p v g = (v, g)
form B p v g = (v, g)

pub ReadHasForm-from_given : (r : Read) (p : Param) (v : Value) → ReadGives r p v → ReadHasForm r p
ReadHasForm-from_given r p v g = ⊎_elim (λ lack. inl lack.0) (λ x. inr (form r.kind p v x)) g
