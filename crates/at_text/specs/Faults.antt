-- The order of faults: tiers first, then the lesser offset, then the lesser number.
use Rattle.std.specs.Prelude.{ℕ, Bool, ◌&&◌, ◌||◌, nat_lt, nat_le, ◌==◌, if◌then◌else◌, Option, Some, None, List, []}
use Rattle.std.specs.Prelude.{◌∷◌}
use Rattle.at_text.specs.declared.faults.Fault.{Fault}
use Rattle.at_text.specs.declared.faults.FaultKind.{FaultKind}
use Rattle.at_text.specs.declared.faults.FaultKind.TheVariants.{NotUtf8, Syntax, Ended, Twin, Form, Short, Ring, Scale}
use Rattle.at_text.specs.declared.faults.FaultKind.TheVariants.{Range}

-- the number of a kind, in the order in which the kinds are declared
abbrev pub number_of : FaultKind → ℕ
number_of NotUtf8 = 1
number_of Syntax = 2
number_of Ended = 3
number_of Twin = 4
number_of Form = 5
number_of Short = 6
number_of Ring = 7
number_of Scale = 8
number_of Range = 9

-- text that is no UTF-8 comes first, then syntax, then equal names, then what a value means
abbrev pub tier_of : FaultKind → ℕ
tier_of NotUtf8 = 1
tier_of Syntax = 2
tier_of Ended = 2
tier_of Twin = 3
tier_of Form = 4
tier_of Short = 4
tier_of Ring = 4
tier_of Scale = 4
tier_of Range = 4

-- whether a is to be told rather than b: by tiers, then offsets, then numbers
abbrev pub comes_first : Fault → Fault → Bool
comes_first a b = nat_lt (tier_of a.kind) (tier_of b.kind)
    || ((tier_of a.kind == tier_of b.kind) && (nat_lt a.at b.at
    || ((a.at == b.at) && nat_le (number_of a.kind) (number_of b.kind))))

-- the first of two faults; none yields to any fault
abbrev pub first_fault : Option Fault → Option Fault → Option Fault
first_fault None b = b
first_fault (Some a) None = Some a
first_fault (Some a) (Some b) = if comes_first a b then Some a else Some b

-- the first fault of a list, where there is one
abbrev pub first_of : List Fault → Option Fault
first_of [] = None
first_of (f ∷ fs) = first_fault (Some f) (first_of fs)

abbrev pub fault_at : FaultKind → ℕ → Fault
fault_at kind at = record { kind = kind; at = at }
