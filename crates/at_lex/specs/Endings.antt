-- Where a string that is begun ends.
use Rattle.std.specs.Prelude.{◌≡◌, ◌≤◌, List, ℕ, length, take}
use Rattle.at_lex.specs.declared.tokens.Start.{Start}
use Rattle.at_lex.specs.declared.strings.TextEnd.{TextEnd}
use Rattle.at_lex.specs.declared.strings.TextEnd.TheVariants.{Closed, Open}
use Rattle.at_lex.specs.Spans.{ClosesText, StaysInText, end_of}

-- the string that is begun ends with the first n of the bytes, or none of them closes it
abbrev pub IsTextEnd : Start → List ℕ → TextEnd → Type 0
IsTextEnd s w (Closed n) = (n ≤ length w) × ClosesText s (take n w)
IsTextEnd s w (Open end) = StaysInText s w × (end ≡ end_of s w)
