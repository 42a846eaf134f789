use Rattle.std.proofs.Common.{◌≡◌, ◌⊎◌, List, [], ◌∷◌, ◌++◌, refl, sym, ap, ◌∙◌, ⊎_elim}
use Rattle.std.proofs.lemmas.List.{append-nil}
use Rattle.std.proofs.lemmas.Slice.Zip.{either_empty_from_Zip}
use Rattle.std.specs.Iterator.Adapters.{zip_first, zip_second}
use Rattle.std.specs.Slice.Iter.{iter_rest}
use Rattle.sn_entity.specs.declared.row.Read.{Read}
use Rattle.sn_entity.specs.declared.value.Value.{Value}
use Rattle.sn_model.specs.ModelContent.{ModelContent}
use Rattle.sn_refs.specs.declared.reference.Reference.{Reference}
use Rattle.sn_refs.specs.Reference.{references_of_values}
use Rattle.sn_refs.proofs.reference.add_values.Goals as goal

-- one of the lists has come to its end
at_end : (m : ModelContent) (rs : List Read) (vs : List Value) → (rs ≡ []) ⊎ (vs ≡ []) → references_of_values m rs vs ≡ []
at_end m [] vs h = refl
at_end m (r ∷ rs) [] h = refl
at_end m (r ∷ rs) (v ∷ vs) h = ⊎_elim (λ e. absurd (cc)) (λ e. absurd (cc)) h

pub returns : goal.returns
returns c =
    let rest : List Reference = references_of_values c.args.model.now (iter_rest (zip_first c.loop-read.read-iterator)) (iter_rest (zip_second c.loop-read.read-iterator)) in
    let none : rest ≡ [] = at_end c.args.model.now _ _ (either_empty_from_Zip c.loop-read.read-iterator c.next.new.self c.next.result c.in-None.is c.next.ensures.steps) in
    sym (append-nil c.loop-read.found.items) ∙ (ap (λ (xs : List Reference). c.loop-read.found.items ++ xs) (sym none) ∙ c.loop-read.invariant)
