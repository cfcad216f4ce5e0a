-- The syntax fault of bytes that are no word of a language.
use Rattle.std.specs.Prelude.{◌≡◌, ℕ, ◌+◌, nat_lt, if◌then◌else◌, List, length, Option, Some, None}
use Rattle.at_text.specs.Prefix.{LongestViable}
use Rattle.at_text.specs.Faults.{fault_at}
use Rattle.at_text.specs.declared.faults.Fault.{Fault}
use Rattle.at_text.specs.declared.faults.FaultKind.TheVariants.{Syntax, Ended}

-- the fault at the first n of the bytes w, which begin at the offset `at`: Syntax before a byte, Ended at their end
abbrev pub stop_fault : ℕ → List ℕ → ℕ → Fault
stop_fault at w n = if nat_lt n (length w) then fault_at Syntax (at + n) else fault_at Ended (at + n)

-- the fault stands at the end of the longest viable prefix of bytes that are no word
pub record IsSyntaxFault (L : List ℕ → Type 0) (at : ℕ) (w : List ℕ) (fault : Fault) : Type 0 where
  pub no_word : ¬ L w
  pub taken : ℕ
  pub longest : LongestViable L w taken
  pub place : fault ≡ stop_fault at w taken

-- the syntax fault of the bytes, or none where they are a word
abbrev pub HasSyntaxFault : (List ℕ → Type 0) → ℕ → List ℕ → Option Fault → Type 0
HasSyntaxFault L at w None = L w
HasSyntaxFault L at w (Some fault) = IsSyntaxFault L at w fault
