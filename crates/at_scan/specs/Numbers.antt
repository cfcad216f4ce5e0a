-- What stands behind the first two numbers of a position.
use Rattle.std.specs.Prelude.{◌≡◌, ℕ, ◌+◌, ◌<◌, ◌≤◌, List, [], ◌∷◌, length, slice_index}
use Rattle.at_fixed.specs.NumberSoFar.{between}
use Rattle.at_fixed.specs.Numerals.{JsonNumber}
use Rattle.at_lex.specs.Spans.{AreSpaces}

-- a comma, white space, a number and white space
pub record IsFurther (w : List ℕ) (at end : ℕ) : Type 0 where
  pub inside : at < length w
  pub comma : slice_index w at ≡ 0x2C
  pub first : ℕ
  pub last : ℕ
  pub before : at + 1 ≤ first
  pub spaces : AreSpaces (between w (at + 1) first)
  pub order : first < last
  pub behind : last ≤ end
  pub more_spaces : AreSpaces (between w last end)
  pub within : end ≤ length w
  pub number : JsonNumber (between w first last)

-- such numbers one behind another, which end before these places
abbrev pub AreFurther : List ℕ → ℕ → List ℕ → ℕ → Type 0
AreFurther w at [] end = at ≡ end
AreFurther w at (e ∷ es) end = IsFurther w at e × AreFurther w e es end

-- what stands behind the first two numbers of a position: white space, further numbers, if there are any, and its bracket
pub record EndsPosition (w : List ℕ) (at end : ℕ) : Type 0 where
  pub first : ℕ
  pub before : at ≤ first
  pub spaces : AreSpaces (between w at first)
  pub places : List ℕ
  pub place : ℕ
  pub further : AreFurther w first places place
  pub order : first ≤ place
  pub inside : place < length w
  pub closes : slice_index w place ≡ 0x5D
  pub behind : end ≡ place + 1
