-- How words begin.
use Rattle.std.specs.Prelude.{ℕ, Bool, nat_eq, List}
use Rattle.std.specs.List.{starts_with}

abbrev pub begins_with : List ℕ → List ℕ → Bool
begins_with prefix word = starts_with nat_eq word prefix
