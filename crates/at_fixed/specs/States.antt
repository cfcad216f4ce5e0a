-- The places within a number, and what each byte does there. Only contracts of private functions cite them: that this
-- machine reads just the numbers of a notation is proved of the grammar in Numerals.
use Rattle.std.specs.Prelude.{◌≡◌, ℕ, ◌≤◌, List, [], ◌∷◌, length, take, Bool, true, false, ◌&&◌, nat_le, ◌==◌}
use Rattle.std.specs.Prelude.{if◌then◌else◌, Option, Some, None}
use Rattle.at_text.specs.Texts.{is_digit, is_one_of}
use Rattle.at_text.proofs.Machine.{run}
use Rattle.at_fixed.specs.declared.notation.Notation.{Notation}
use Rattle.at_fixed.specs.declared.notation.Notation.TheVariants.{Json, Wkt}

-- what has been read last
pub data State : Type 0 where
  start signed zero_digit whole point fraction letter power_sign power : State

abbrev pub is_letter : ℕ → Bool
is_letter b = is_one_of (0x65 ∷ 0x45 ∷ []) b

abbrev pub is_sign : ℕ → Bool
is_sign b = is_one_of (0x2B ∷ 0x2D ∷ []) b

abbrev pub is_first_digit : ℕ → Bool
is_first_digit b = nat_le 0x31 b && nat_le b 0x39

-- the signs before a number
abbrev pub is_lead_sign : Notation → ℕ → Bool
is_lead_sign Json b = b == 0x2D
is_lead_sign Wkt b = is_sign b

-- a point behind digits: in JSON a digit must follow it
abbrev pub behind_digits : Notation → State
behind_digits Json = point
behind_digits Wkt = fraction

abbrev pub after_fraction : ℕ → Option State
after_fraction b = if is_letter b then Some letter else None

abbrev pub after_whole : Notation → ℕ → Option State
after_whole notation b = if b == 0x2E then Some (behind_digits notation) else after_fraction b

-- a point with no digit before it
abbrev pub lone_point : Notation → ℕ → Option State
lone_point Json b = None
lone_point Wkt b = if b == 0x2E then Some point else None

abbrev pub lead : Notation → ℕ → Option State
lead Json b = if b == 0x30 then Some zero_digit else (if is_first_digit b then Some whole else None)
lead Wkt b = if is_digit b then Some whole else lone_point Wkt b

abbrev pub step : Notation → State → ℕ → Option State
step notation start b = if is_lead_sign notation b then Some signed else lead notation b
step notation signed b = lead notation b
step notation zero_digit b = after_whole notation b
step notation whole b = if is_digit b then Some whole else after_whole notation b
step notation point b = if is_digit b then Some fraction else None
step notation fraction b = if is_digit b then Some fraction else after_fraction b
step notation letter b = if is_digit b then Some power else (if is_sign b then Some power_sign else None)
step notation power_sign b = if is_digit b then Some power else None
step notation power b = if is_digit b then Some power else None

-- whether a number may end here
abbrev pub accepts : State → Bool
accepts zero_digit = true
accepts whole = true
accepts fraction = true
accepts power = true
accepts _ = false

-- the first bytes lead to a place within a number
pub record Reads (notation : Notation) (w : List ℕ) (end : ℕ) (state : State) : Type 0 where
  pub fits : end ≤ length w
  pub run : run (step notation) start (take end w) ≡ Some state
