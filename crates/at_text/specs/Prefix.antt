-- Which prefixes of a text can still become a word of a language, and the longest such prefix.
use Rattle.std.specs.Prelude.{ℕ, ◌+◌, ◌<◌, ◌≤◌, List, ◌++◌, length, take, IsTrue, ◌↔◌}
use Rattle.at_text.specs.declared.prefixes.Taken.{Taken}

-- some continuation makes the bytes a word of the language
abbrev pub Viable : (List ℕ → Type 0) → List ℕ → Type 0
Viable L w = (more : List ℕ) × L (w ++ more)

-- the first n bytes are viable, and no more of the bytes are
pub record LongestViable (L : List ℕ → Type 0) (w : List ℕ) (n : ℕ) : Type 0 where
  pub fits : n ≤ length w
  pub front : Viable L (take n w)
  pub longest : n < length w → ¬ Viable L (take (n + 1) w)

-- the length of the longest viable prefix, and whether that prefix is itself a word
pub record TakesLongest (L : List ℕ → Type 0) (w : List ℕ) (taken : Taken) : Type 0 where
  pub longest : LongestViable L w taken.len
  pub whole : IsTrue taken.whole ↔ L (take taken.len w)
