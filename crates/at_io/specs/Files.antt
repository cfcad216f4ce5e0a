-- The files of a shelf, and what it has under a name.
use Rattle.std.specs.Prelude.{ℕ, bytes_eq, if◌then◌else◌, List, [], ◌∷◌, Option, Some, None, option_map}

-- names with the bytes under them; of a name that stands twice the first entry counts
abbrev pub Files : Type 0
Files = List (List ℕ × List ℕ)

-- the bytes under a name, where the files have it
abbrev pub bytes_named : Files → List ℕ → Option (List ℕ)
bytes_named [] name = None
bytes_named (f ∷ fs) name = if bytes_eq f.0 name then Some f.1 else bytes_named fs name

-- the name, where the files have it
abbrev pub name_among : Files → List ℕ → Option (List ℕ)
name_among files name = option_map (λ _. name) (bytes_named files name)
