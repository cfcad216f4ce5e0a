-- The states of a reader of JSON strings, and what each byte does to them (RFC 8259 section 7). That such a reader
-- finds the longest viable prefix is proved; no public clause cites it.
use Rattle.std.specs.Prelude.{◌≡◌, ◌≢◌, ℕ, ◌<◌, ◌≤◌, Option, Some, None, Bool, true, false, cond, ◌==◌, List, length}
use Rattle.std.specs.Prelude.{take, slice_index}
use Rattle.std.specs.List.{list_any}
use Rattle.std.specs.Char.{is_ascii_hexdigit}
use Rattle.at_text.proofs.Machine.{run}
use Rattle.at_lex.specs.Strings.{escapes, is_plain}
use Rattle.at_lex.specs.declared.tokens.Start.{Start}
use Rattle.at_lex.specs.declared.tokens.Start.TheVariants.{Out, InString, InEscape}
use Rattle.at_lex.specs.declared.strings.TextState.{TextState}
use Rattle.at_lex.specs.declared.strings.TextState.TheVariants as states

-- what has been read of a string; the digits are those still wanted behind `\u`
pub data State : Type 0 where
  opening inside escaped hex4 hex3 hex2 hex1 closed : State

abbrev pub is_escape : ℕ → Bool
is_escape b = list_any (λ (e : ℕ × ℕ). e.0 == b) escapes

abbrev pub step : State → ℕ → Option State
step opening b = cond (b == 0x22) (Some inside) None
step inside b = cond (b == 0x22) (Some closed) (cond (b == 0x5C) (Some escaped) (cond (is_plain b) (Some inside) None))
step escaped b = cond (b == 0x75) (Some hex4) (cond (is_escape b) (Some inside) None)
step hex4 b = cond (is_ascii_hexdigit b) (Some hex3) None
step hex3 b = cond (is_ascii_hexdigit b) (Some hex2) None
step hex2 b = cond (is_ascii_hexdigit b) (Some hex1) None
step hex1 b = cond (is_ascii_hexdigit b) (Some inside) None
step closed b = None

abbrev pub accepts : State → Bool
accepts closed = true
accepts _ = false

-- the states of the code
abbrev pub state_of : TextState → State
state_of states.Opening = opening
state_of states.Inside = inside
state_of states.Escaped = escaped
state_of states.FourDigits = hex4
state_of states.ThreeDigits = hex3
state_of states.TwoDigits = hex2
state_of states.OneDigit = hex1
state_of states.Closed = closed

-- the lexical state in which the reader of a string is
abbrev pub lexical_of : State → Start
lexical_of opening = Out
lexical_of escaped = InEscape
lexical_of closed = Out
lexical_of _ = InString

-- the reader goes through the first n bytes, and on with no more
pub record StopsAt (w : List ℕ) (n : ℕ) (s : State) : Type 0 where
  pub fits : n ≤ length w
  pub goes : run step opening (take n w) ≡ Some s
  pub stops : n < length w → step s (slice_index w n) ≡ None

-- the reader goes on from a place, and stops only inside a string or where it can't go on
pub record GoesTo (w : List ℕ) (from n : ℕ) (s : State) : Type 0 where
  pub order : from ≤ n
  pub fits : n ≤ length w
  pub goes : run step opening (take n w) ≡ Some s
  pub stops : s ≢ inside → n < length w → step s (slice_index w n) ≡ None
