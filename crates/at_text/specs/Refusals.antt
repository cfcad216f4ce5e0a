-- What is said of a refusal.
use Rattle.at_text.specs.declared.faults.Fault.{Fault}
use Rattle.at_text.specs.declared.refusals.Refusal.{Refusal}
use Rattle.at_text.specs.declared.refusals.Refusal.TheVariants.{Found, Memory}

-- a fact of the fault that was found; want of memory has no cause in what is read
abbrev pub IfFound : Refusal → (Fault → Type 0) → Type 0
IfFound (Found fault) P = P fault
IfFound Memory P = Unit {0}
