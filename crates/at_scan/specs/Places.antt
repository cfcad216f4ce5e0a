-- What stands at the places of a text.
use Rattle.std.specs.Prelude.{◌≡◌, ℕ, ◌+◌, ◌-◌, ◌<◌, ◌≤◌, ◌==◌, ◌&&◌, Bool, true, not, nat_lt, List, length}
use Rattle.std.specs.Prelude.{take, drop, slice_index}
use Rattle.std.specs.List.{list_all}
use Rattle.at_fixed.specs.NumberSoFar.{between}
use Rattle.at_lex.specs.Strings.{JsonString, is_plain}
use Rattle.at_lex.specs.Spans.{AreSpaces}
use Rattle.at_scan.specs.declared.places.NamePlace.{NamePlace}
use Rattle.at_scan.specs.declared.short_texts.SimpleItem.{SimpleItem}

-- a byte that is a blank
abbrev pub is_blank : ℕ → Bool
is_blank b = b == 0x20

-- a string from the place to its end
abbrev pub IsTextAt : List ℕ → ℕ → ℕ → Type 0
IsTextAt w at end = (at < end) × (end ≤ length w) × JsonString (between w at end)

-- a byte that stands for the unit of its own number
abbrev pub is_simple : ℕ → Bool
is_simple b = nat_lt b 128 && not (b == 0x5C)

-- a byte of ASCII that stands for itself in a string
abbrev pub is_common : ℕ → Bool
is_common b = is_plain b && is_simple b

-- a string of ASCII without escapes
abbrev pub IsSimpleTextAt : List ℕ → ℕ → ℕ → Type 0
IsSimpleTextAt w at end = IsTextAt w at end × (list_all is_simple (take (end - at) (drop at w)) ≡ true)

-- such a string with white space round it
pub record IsSimpleItem (w : List ℕ) (at : ℕ) (p : SimpleItem) : Type 0 where
  pub before : at ≤ p.first
  pub spaces : AreSpaces (between w at p.first)
  pub text : IsSimpleTextAt w p.first p.last
  pub order : p.first + 1 ≤ p.last - 1
  pub behind : p.last ≤ p.end
  pub within : p.end ≤ length w
  pub more_spaces : AreSpaces (between w p.last p.end)

-- white space, a name, white space, and a colon
pub record IsNameAt (w : List ℕ) (at : ℕ) (p : NamePlace) : Type 0 where
  pub before : at ≤ p.first
  pub spaces : AreSpaces (between w at p.first)
  pub text : IsTextAt w p.first p.end
  pub behind : p.end ≤ p.colon
  pub more_spaces : AreSpaces (between w p.end p.colon)
  pub inside : p.colon < length w
  pub byte : slice_index w p.colon ≡ 0x3A
