-- What is said of the place at which reading stops.
use Rattle.std.specs.Prelude.{ℕ}
use Rattle.at_text.specs.declared.halts.Halt.{Halt}
use Rattle.at_text.specs.declared.halts.Halt.TheVariants.{At, Memory}

-- a fact of the place at which reading stops; want of memory has no place
abbrev pub IfStopped : Halt → (ℕ → Type 0) → Type 0
IfStopped (At n) P = P n
IfStopped Memory P = Unit {0}
