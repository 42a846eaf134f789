-- Private (only the functions of this crate cite these words): why what is read gives no value.
use Rattle.sn_entity.specs.declared.refusal.Refusal.{Refusal}
use Rattle.sn_entity.specs.declared.refusal.Refusal.TheVariants.{Kind, Range, Memory}

-- what is read has another form than is wanted, or it has the form and gives no value
abbrev pub IsRefused : {V : Type 0} → Refusal → Type 0 → (V → Type 0) → Type 0
IsRefused {V} Kind Form Gives = ¬ Form
IsRefused {V} Range Form Gives = Form × ((v : V) → ¬ Gives v)
IsRefused {V} Memory Form Gives = Unit {0}
