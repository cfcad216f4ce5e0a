-- The places within a JSON number, and what each byte does there: those of the reader of numbers, in JSON's notation.
use Rattle.std.specs.Prelude.{ℕ, Option}
use Rattle.at_fixed.specs.States as states
use Rattle.at_fixed.specs.declared.notation.Notation.TheVariants.{Json}
pub use Rattle.at_fixed.specs.States.{State, start, signed, zero_digit, whole, point, fraction, letter, power_sign}
pub use Rattle.at_fixed.specs.States.{power, accepts, is_letter, is_sign, is_first_digit}

abbrev pub step : State → ℕ → Option State
step s b = states.step Json s b
