-- That no two elements of a list are equal, as a test.
use Rattle.std.specs.Prelude.{Bool, true, not, ◌&&◌, List, [], ◌∷◌}
use Rattle.std.specs.List.{list_any}

abbrev pub all_differ : {X : Type 0} → (X → X → Bool) → List X → Bool
all_differ eq [] = true
all_differ eq (x ∷ xs) = not (list_any (eq x) xs) && all_differ eq xs
