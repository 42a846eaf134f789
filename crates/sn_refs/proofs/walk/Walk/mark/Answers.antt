use Rattle.std.proofs.Common.{◌≡◌, ℕ, ◌<◌, List, length, get_or, subst, ◌∙◌, refl}
use Rattle.std.proofs.lemmas.Grind.{get_or_default_zero}
use Rattle.sn_refs.proofs.walk.Walk.mark.Goals as goal

pub returns-then-stands_at : goal.returns-then-stands_at
returns-then-stands_at c =
    let here : (c.in-Some.place.now < length c.args.self.now.members.items) × (get_or c.args.self.now.members.items c.in-Some.place.now 0 ≡ c.args.n)
    = subst (λ (xs : List ℕ). (c.in-Some.place.now < length xs) × (get_or xs c.in-Some.place.now 0 ≡ c.args.n)) c.as_slice.ensures.value (c.stands_at.ensures.0 c.if-stands_at.true) in
    ((c.in-Some.place.now, here.0, get_or_default_zero c.args.self.now.members.items c.in-Some.place.now c.args.n here.0 ∙ here.1), refl)
