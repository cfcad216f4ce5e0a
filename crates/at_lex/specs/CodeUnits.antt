-- The units that are kept in place or in memory.
use Rattle.std.specs.Prelude.{◌≡◌, ℕ, ◌≤◌, ◌<◌, List, take}
use Rattle.std.specs.Bool.{⊤}
use Rattle.at_lex.specs.declared.code_units.Text.{Text}
use Rattle.at_lex.specs.declared.code_units.Text.TheVariants.{Short, Long}

abbrev pub units_in : Text → List ℕ
units_in (Short len items) = take len items
units_in (Long items) = items.value.items

-- no more units than there is room for
abbrev pub HasRoom : Text → Type 0
HasRoom (Short len items) = len ≤ 11
HasRoom (Long items) = ⊤

-- so many units are in place, and there is room for one more
abbrev pub IsShort : Text → ℕ → Type 0
IsShort (Short n items) len = (n ≡ len) × (len < 11)
IsShort (Long items) len = ⊥
