-- The words say what is said of what is gathered from them, and nothing else.
-- For `read_words` and `top`.
use Rattle.std.proofs.Common.{◌≡◌, ℕ, List, Option, Some, None, MatchOption, sym}
use Rattle.at_cli.specs.declared.words.line.Line.{Line}
use Rattle.at_cli.specs.declared.words.said.Said.{Said}
use Rattle.at_cli.specs.LineOf.{HasValues, SaysLine}
use Rattle.at_cli.specs.Said.{line_said}
use Rattle.at_cli.specs.Steps.{State, gathered, given_in}
use Rattle.at_cli.proofs.OneLine.{said, says_gathered}

pub said_by_words : (words : List (List ℕ)) (st : State) (r : Option Said) → Some st ≡ gathered words
    → MatchOption r ((line : Line) → HasValues (given_in st) st.places line → ⊥) (λ said. HasValues (given_in st) st.places (line_said said))
    → MatchOption r ((line : Line) → SaysLine words line → ⊥) (λ said. SaysLine words (line_said said))
said_by_words words st None e none = λ line h. none line (says_gathered words st line (sym e) h)
said_by_words words st (Some found) e has = said words st (line_said found) (sym e) has
