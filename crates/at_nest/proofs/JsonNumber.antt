-- The machine of JSON numbers: that of all numbers, in JSON's notation.
-- For `finish`, `finish_span`, `merge` and `run_block`.
use Rattle.std.proofs.Common.{ℕ, List, ◌↔◌}
use Rattle.at_text.proofs.Machine.{IsMachine}
use Rattle.at_fixed.specs.Numerals.{JsonNumber}
use Rattle.at_fixed.specs.declared.notation.Notation.TheVariants.{Json}
use Rattle.at_fixed.proofs.NumberMachine as numbers
pub use Rattle.at_nest.specs.NumberStates.{State, start, signed, zero_digit, whole, point, fraction, letter, power_sign, power, accepts, is_letter, is_sign, is_first_digit, step}

abbrev pub Rest : State → List ℕ → Type 0
Rest s w = numbers.Rest Json s w

pub machine : IsMachine Rest step accepts
machine = numbers.machine Json

pub start-JsonNumber : (w : List ℕ) → Rest start w ↔ JsonNumber w
start-JsonNumber w = numbers.start-number Json w
