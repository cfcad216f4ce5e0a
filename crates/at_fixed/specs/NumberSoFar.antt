-- What is kept of a number while its text is read once. Only contracts of private functions cite this.
use Rattle.std.specs.Prelude.{◌≡◌, ℕ, ◌+◌, ◌-◌, ◌*◌, ◌^◌, ◌<◌, ◌≤◌, ◌⊎◌, Bool, nat_lt, List, length, take, drop, fold}
use Rattle.at_fixed.specs.Numerals.{AreDigits}

-- the bytes from one place to another
abbrev pub between : List ℕ → ℕ → ℕ → List ℕ
between w from to = drop from (take to w)

-- the number that digits spell behind a number
abbrev pub digits_behind : ℕ → List ℕ → ℕ
digits_behind m digits = fold (λ n d. 10 * n + (d - 0x30)) m digits

-- what is kept of the digits from a place on up to another, behind a number
pub record KeepsDigits (w : List ℕ) (from to before kept : ℕ) : Type 0 where
  pub order : from ≤ to
  pub within : to ≤ length w
  pub digits : AreDigits (between w from to)
  pub value : kept ≡ digits_behind before (between w from to)
  pub fits : kept < 10 ^ 19
  pub full : 10 ^ 18 ≤ before → to ≡ from

-- the number m begins with the digits of `kept`; so many further digits were dropped, and `is_cut` says that one of
-- them isn't 0
pub record Keeps (kept dropped : ℕ) (is_cut : Bool) (m : ℕ) : Type 0 where
  pub rest : ℕ
  pub split : m ≡ kept * 10 ^ dropped + rest
  pub small : rest < 10 ^ dropped
  pub cut : is_cut ≡ nat_lt 0 rest
  pub full : 0 < dropped → 10 ^ 18 ≤ kept
  pub fits : kept < 10 ^ 19

-- an exponent from which on all larger ones decide alike, since a text has at most 2 ^ 28 bytes
abbrev pub huge : ℕ
huge = 10 ^ 10

-- what is kept of an exponent is the exponent, or both are huge
abbrev pub SameOrHuge : ℕ → ℕ → Type 0
SameOrHuge kept size = (kept ≡ size) ⊎ ((huge ≤ kept) × (huge ≤ size))
