-- JSON literals and numbers, which the crate reads as runs of bytes (RFC 8259 sections 3 and 6).
use Rattle.std.specs.Prelude.{◌≡◌, ℕ, ◌⊎◌, List, codes}
use Rattle.at_text.specs.Prefix.{LongestViable}
use Rattle.at_fixed.specs.Numerals.{JsonNumber}
use Rattle.at_lex.specs.declared.runs.RunEnd.{RunEnd}
use Rattle.at_lex.specs.declared.runs.RunEnd.TheVariants.{Null, True, False, Number, BadAt}

pub data Literal : Type 0 where
  the_null the_true the_false : Literal

abbrev pub literal_text : Literal → List ℕ
literal_text the_null = codes "null"
literal_text the_true = codes "true"
literal_text the_false = codes "false"

abbrev pub JsonLiteral : List ℕ → Type 0
JsonLiteral text = (literal : Literal) × (text ≡ literal_text literal)

-- a literal or a number
abbrev pub JsonRun : List ℕ → Type 0
JsonRun text = JsonLiteral text ⊎ JsonNumber text

-- what the run is, or the length of its longest viable prefix where it is nothing
abbrev pub IsRunEnd : List ℕ → RunEnd → Type 0
IsRunEnd text Null = text ≡ literal_text the_null
IsRunEnd text True = text ≡ literal_text the_true
IsRunEnd text False = text ≡ literal_text the_false
IsRunEnd text Number = JsonNumber text
IsRunEnd text (BadAt n) = (¬ JsonRun text) × LongestViable JsonRun text n
