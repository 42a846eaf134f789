-- MEANING (this project's own): what a parameter is by its kind, and what it gives.
use Rattle.std.specs.Prelude.{◌≡◌, ◌⊎◌, ℕ, ℤ, pos, List, [], ◌∷◌, IsTrue}
use Rattle.sn_geom.specs.Decimal.{Decimal, IsNumber, IsNumberText}
use Rattle.sn_p21.specs.declared.file.Param.{Param}
use Rattle.sn_p21.specs.declared.file.Param.TheVariants as param
use Rattle.sn_entity.specs.Measure.{Measure, Measures, length_from, coordinate, diameter, edge_radius, feed, speed, thousandths, ratio}
use Rattle.sn_entity.specs.declared.row.Kind.{Kind}
use Rattle.sn_entity.specs.declared.row.Kind.TheVariants.{L, L0, L1, Dia, Edge, Feed, Speed, N, P, V, T, Z, Z0, R, RL, B}
use Rattle.sn_entity.specs.declared.row.Read.{Read}
use Rattle.sn_entity.specs.declared.value.Value.{Value}
use Rattle.sn_entity.specs.declared.value.Value.TheVariants as value

-- The parameter, or the one within a typed parameter. A typed parameter is read through once.
abbrev pub IsThrough : Param → Param → Type 0
IsThrough p q = ((name : List ℕ) × (p ≡ param.Typed name (q ∷ []))) ⊎ (((name : List ℕ) (r : Param) → ¬ (p ≡ param.Typed name (r ∷ []))) × (q ≡ p))

-- an integer or a real of this spelling, or a typed parameter around it
abbrev pub IsSpelled : Param → List ℕ → Type 0
IsSpelled p text = IsThrough p (param.Int text) ⊎ IsThrough p (param.Real text)

-- no value: $ or *
abbrev pub IsLack : Param → Type 0
IsLack p = (p ≡ param.Absent) ⊎ (p ≡ param.Derived)

abbrev pub IsNumeric : Param → Type 0
IsNumeric p = (text : List ℕ) × IsSpelled p text × IsNumberText text

abbrev pub IsZero : Param → Type 0
IsZero p = (text : List ℕ) × (d : Decimal) × IsSpelled p text × IsNumber text d × (d.digits ≡ 0)

-- the parameter is a number of this value
abbrev pub HasValue : Measure → Param → ℤ → Type 0
HasValue m p z = (text : List ℕ) × IsSpelled p text × Measures m text z

abbrev pub GivesNumber : Measure → Param → Value → Type 0
GivesNumber m p v = (z : ℤ) × HasValue m p z × (v ≡ value.Num z)

-- three coordinates of one measure
abbrev pub GivesThree : Measure → Param → Param → Param → Value → Type 0
GivesThree m a b c v = (x y z : ℤ) × HasValue m a x × HasValue m b y × HasValue m c z × (v ≡ value.Triple x y z)

-- a third coordinate that is missing is 0
abbrev pub GivesTwo : Measure → Param → Param → Value → Type 0
GivesTwo m a b v = (x y : ℤ) × HasValue m a x × HasValue m b y × (v ≡ value.Triple x y (pos 0))

abbrev pub GivesTriple : Measure → Param → Value → Type 0
GivesTriple m p v = (a b c : Param) × (p ≡ param.List (a ∷ b ∷ c ∷ [])) × GivesThree m a b c v

abbrev pub GivesPair : Measure → Param → Value → Type 0
GivesPair m p v = (a b : Param) × (p ≡ param.List (a ∷ b ∷ [])) × GivesTwo m a b v

-- each of the parameters is the reference to the number at its place
abbrev pub AreRefs : List Param → List ℕ → Type 0
AreRefs [] ns = ns ≡ []
AreRefs (p ∷ ps) ns = (n : ℕ) × (rest : List ℕ) × (ns ≡ n ∷ rest) × IsThrough p (param.Ref n) × AreRefs ps rest

abbrev pub GivesText : Param → Value → Type 0
GivesText p v = (text : List ℕ) × IsThrough p (param.Text text) × (v ≡ value.Text text)

abbrev pub GivesOne : Param → Value → Type 0
GivesOne p v = (n : ℕ) × IsThrough p (param.Ref n) × (v ≡ value.One n)

abbrev pub GivesMany : Param → Value → Type 0
GivesMany p v = (ps : List Param) × (ns : List ℕ) × (p ≡ param.List ps) × AreRefs ps ns × (v ≡ value.Many ns)

abbrev pub GivesLack : Param → Value → Type 0
GivesLack p v = IsLack p × (v ≡ value.Nothing)

abbrev pub GivesZero : Param → Value → Type 0
GivesZero p v = (IsLack p ⊎ IsZero p) × (v ≡ value.Nothing)

-- the number of a reference that stands there itself
abbrev pub GivesOwn : Param → Value → Type 0
GivesOwn p v = ((n : ℕ) × (p ≡ param.Ref n) × (v ≡ value.One n)) ⊎ (((n : ℕ) → ¬ (p ≡ param.Ref n)) × (v ≡ value.Nothing))

-- what a parameter of this kind gives
abbrev pub Gives : Kind → Param → Value → Type 0
Gives L p v = GivesNumber coordinate p v
Gives L0 p v = GivesNumber (length_from (pos 0)) p v
Gives L1 p v = GivesNumber (length_from (pos 1)) p v
Gives Dia p v = GivesNumber diameter p v
Gives Edge p v = GivesNumber edge_radius p v
Gives Feed p v = GivesNumber feed p v
Gives Speed p v = GivesNumber speed p v
Gives N p v = GivesNumber thousandths p v
Gives P p v = GivesPair coordinate p v ⊎ GivesTriple coordinate p v
Gives V p v = GivesTriple ratio p v
Gives T p v = GivesText p v
Gives Z p v = GivesLack p v
Gives Z0 p v = GivesZero p v
Gives (R g) p v = GivesOne p v
Gives (RL g) p v = GivesMany p v
Gives B p v = GivesOwn p v

-- a list of two numbers, or of three
abbrev pub AreTwoNumeric : Param → Type 0
AreTwoNumeric p = (a b : Param) × (p ≡ param.List (a ∷ b ∷ [])) × IsNumeric a × IsNumeric b

abbrev pub AreThreeNumeric : Param → Type 0
AreThreeNumeric p = (a b c : Param) × (p ≡ param.List (a ∷ b ∷ c ∷ [])) × IsNumeric a × IsNumeric b × IsNumeric c

-- The form that the kind wants, whatever the limits of its numbers.
abbrev pub HasForm : Kind → Param → Type 0
HasForm L p = IsNumeric p
HasForm L0 p = IsNumeric p
HasForm L1 p = IsNumeric p
HasForm Dia p = IsNumeric p
HasForm Edge p = IsNumeric p
HasForm Feed p = IsNumeric p
HasForm Speed p = IsNumeric p
HasForm N p = IsNumeric p
HasForm P p = AreTwoNumeric p ⊎ AreThreeNumeric p
HasForm V p = AreThreeNumeric p
HasForm Z0 p = IsLack p ⊎ IsNumeric p
HasForm k p = (v : Value) × Gives k p v

-- $ or * may stand where the read allows it
abbrev pub MayLack : Read → Param → Type 0
MayLack r p = IsTrue r.may_lack × IsLack p

abbrev pub ReadGives : Read → Param → Value → Type 0
ReadGives r p v = (MayLack r p × (v ≡ value.Nothing)) ⊎ Gives r.kind p v

abbrev pub ReadHasForm : Read → Param → Type 0
ReadHasForm r p = MayLack r p ⊎ HasForm r.kind p
