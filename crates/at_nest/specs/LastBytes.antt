-- How the last bytes of a text read, and what is answered of a text that ends in them.
use Rattle.std.specs.Prelude.{◌≡◌, ℕ, ◌+◌, ◌==◌, Bool, true, false, List, [], ◌∷◌, ◌++◌, length, Result}
use Rattle.at_text.specs.Prefix.{Viable}
use Rattle.at_lex.specs.Strings.{JsonString}
use Rattle.at_lex.specs.Runs.{JsonRun}
use Rattle.at_lex.specs.Spans.{begins_run}
use Rattle.at_nest.specs.declared.finishing.NestEnd.{NestEnd}
use Rattle.at_nest.specs.declared.finishing.Tail.{Tail}
use Rattle.at_nest.specs.declared.finishing.Tail.TheVariants.{Nothing, Value, Stops, Open}
use Rattle.at_nest.specs.declared.pieces.Within.{Within}
use Rattle.at_nest.specs.declared.pieces.Within.TheVariants.{First, Run, Text}
use Rattle.at_nest.specs.Tree.{Tree}
use Rattle.at_nest.specs.Borders.{are_apart}
use Rattle.at_nest.specs.Levels.{Form}
use Rattle.at_nest.specs.Stops.{IsForm, IsStop}
use Rattle.at_nest.specs.Unions.{empty_form}
use Rattle.at_nest.specs.Shown.{Shown}
use Rattle.at_nest.specs.KeptItems.{Content, free, halt_of, IsShown}
use Rattle.at_nest.specs.TextAnswers.{Answers}

-- the first byte is a quote
abbrev pub begins_text : List ℕ → Bool
begins_text [] = false
begins_text (b ∷ w) = b == 0x22

-- bytes that are no item of the kind yet, but can become one
abbrev pub IsOpen : Within → List ℕ → Type 0
IsOpen First w = ⊥
IsOpen Run w = (begins_run w ≡ true) × Viable JsonRun w × (¬ JsonRun w)
IsOpen Text w = (begins_text w ≡ true) × Viable JsonString w × (¬ JsonString w)

-- the bytes w, which stand at `at` and end the text, read so
abbrev pub IsTail : ℕ → List ℕ → Tail → Type 0
IsTail at w Nothing = w ≡ []
IsTail at w Value = JsonRun w
IsTail at w (Stops h) = IsStop free at w empty_form (halt_of h)
IsTail at w (Open within) = IsOpen within w

-- behind the items that are kept, the text ends in the bytes v, which stand at `from`
abbrev pub EndsSo : {X : Type 0} → (X → Content → Type 0) → Shown X → ℕ → List ℕ → Result X NestEnd → Type 0
EndsSo IsKept s from v result = (at : ℕ) (x : List ℕ) (f : Form Tree) → IsShown IsKept at (x ++ v) s f
    → IsForm free at x f → are_apart x v ≡ true → from ≡ at + length x
    → Answers IsKept at (x ++ v) result
