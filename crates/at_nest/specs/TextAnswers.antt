-- What is answered of a span that is read as a whole JSON text (RFC 8259 section 2).
use Rattle.std.specs.Prelude.{◌≡◌, ℕ, ◌+◌, List, length, Result, Ok, Err}
use Rattle.std.specs.Bool.{⊤}
use Rattle.at_text.specs.Faults.{fault_at}
use Rattle.at_text.specs.Syntax.{IsSyntaxFault}
use Rattle.at_text.specs.declared.faults.FaultKind.TheVariants as kinds
use Rattle.at_nest.specs.declared.finishing.NestEnd.{NestEnd}
use Rattle.at_nest.specs.declared.finishing.NestEnd.TheVariants.{Syntax, Ended, Memory}
use Rattle.at_nest.specs.Tree.{Tree, IsTextOf}
use Rattle.at_nest.specs.Syntax.{JsonText}
use Rattle.at_nest.specs.KeptItems.{Content, one}

-- the bytes w, which stand at `at`, are no JSON text, and this is where their longest prefix that can become one ends:
-- before a byte, or at their end. Want of memory says nothing of them
abbrev pub IsEnd : ℕ → List ℕ → NestEnd → Type 0
IsEnd at w (Syntax place) = IsSyntaxFault (JsonText at) at w (fault_at kinds.Syntax place)
IsEnd at w Ended = IsSyntaxFault (JsonText at) at w (fault_at kinds.Ended (at + length w))
IsEnd at w Memory = ⊤

-- the bytes, which begin at the offset, spell the tree, and no other
abbrev pub IsTheTree : ℕ → List ℕ → Tree → Type 0
IsTheTree at w t = IsTextOf at w t × ((u : Tree) → IsTextOf at w u → u ≡ t)

-- the value is what the algebra makes of the tree that the bytes spell, or this is the first fault
abbrev pub Answers : {X : Type 0} → (X → Content → Type 0) → ℕ → List ℕ → Result X NestEnd → Type 0
Answers IsKept at w (Ok x) = (t : Tree) × IsTheTree at w t × IsKept x (one t)
Answers IsKept at w (Err end) = IsEnd at w end
