-- What the tests of the order of whole numbers say.
use Rattle.std.proofs.Common.{◌≡◌, true, false, not, ℤ, ◌≤ℤ◌, ◌<ℤ◌, int_le, int_lt, arith}
use Rattle.std.proofs.lemmas.Int.{ints}

pub le_true : (a b : ℤ) → int_le a b ≡ true → a ≤ℤ b
le_true a b h = grind (arith, ints)

pub le_false : (a b : ℤ) → int_le a b ≡ false → b <ℤ a
le_false a b h = grind (arith, ints)

pub lt_true : (a b : ℤ) → int_lt a b ≡ true → a <ℤ b
lt_true a b h = grind (arith, ints)

pub lt_false : (a b : ℤ) → int_lt a b ≡ false → b ≤ℤ a
lt_false a b h = grind (arith, ints)

pub true_le : (a b : ℤ) → a ≤ℤ b → int_le a b ≡ true
true_le a b h = grind (arith, ints)

pub false_le : (a b : ℤ) → b <ℤ a → int_le a b ≡ false
false_le a b h = grind (arith, ints)

pub true_lt : (a b : ℤ) → a <ℤ b → int_lt a b ≡ true
true_lt a b h = grind (arith, ints)

pub false_lt : (a b : ℤ) → b ≤ℤ a → int_lt a b ≡ false
false_lt a b h = grind (arith, ints)

pub lt-le : (a b : ℤ) → int_lt a b ≡ not (int_le b a)
lt-le a b = grind (arith, ints)
