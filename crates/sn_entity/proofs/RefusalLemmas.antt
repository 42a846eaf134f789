-- Refusals.
use Rattle.sn_entity.specs.declared.refusal.Refusal.{Refusal}
use Rattle.sn_entity.specs.declared.refusal.Refusal.TheVariants.{Kind, Range, Memory}
use Rattle.sn_entity.specs.Refusal.{IsRefused}

-- a refusal under other words
pub refused_as : {V W : Type 0} (F F' : Type 0) (G : V → Type 0) (G' : W → Type 0) → (F → F') → (F' → F) → ((w : W) → G' w → (v : V) × G v) → (why : Refusal) → IsRefused why F G → IsRefused why F' G'
refused_as F F' G G' forth back gives Kind h = λ f. h (back f)
refused_as F F' G G' forth back gives Range h = (forth h.0, λ w g. let x = gives w g in h.1 x.0 x.1)
refused_as F F' G G' forth back gives Memory h = tt
