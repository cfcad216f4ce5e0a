-- What a test of two whole numbers says.
-- For most public calls of the crate, `are_closed`, `doubled_area`, `in_polygon` among them.
use Rattle.std.proofs.Common.{◌≡◌, ℤ, true, false, ◌≤ℤ◌, ◌<ℤ◌, sym}
use Rattle.std.specs.Prelude.{int_le, int_lt}
use borrow.Author.Differences.{at_most_in, le-true, true_is_le, true_is_lt, false_is_le, false_is_lt, le_out, lt_out}

pub le_true : (a b : ℤ) → a ≤ℤ b → int_le a b ≡ true
le_true a b h = sym (true_is_le a b (le_out a b h))

pub lt_true : (a b : ℤ) → a <ℤ b → int_lt a b ≡ true
lt_true a b h = sym (true_is_lt a b (lt_out a b h))

pub le_false : (a b : ℤ) → b <ℤ a → int_le a b ≡ false
le_false a b h = sym (false_is_le a b (lt_out b a h))

pub lt_false : (a b : ℤ) → b ≤ℤ a → int_lt a b ≡ false
lt_false a b h = sym (false_is_lt a b (le_out b a h))

pub le_from : (a b : ℤ) → int_le a b ≡ true → a ≤ℤ b
le_from a b h = at_most_in a b (le-true a b h)
