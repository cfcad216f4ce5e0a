-- Arrays with nothing in them, each right in the next, as the last of what is open.
use Rattle.std.specs.Prelude.{◌≡◌, ◌++◌, Option, Some, None, List}
use Rattle.at_nest.specs.declared.levels.Nest.{Nest}
use Rattle.at_nest.specs.declared.levels.Open.{Open}
use Rattle.at_nest.specs.declared.levels.Open.TheVariants.{Nested}
use Rattle.at_nest.specs.Shown.{Held, helds_of, open_levels}
use Rattle.at_nest.specs.Refusals.{last_of}

abbrev pub nest_in : {X : Type 0} → Option (Open X) → Option Nest
nest_in (Some (Nested n)) = Some n
nest_in _ = None

-- what is innermost was put in the place of what was it before
abbrev pub PutsLast : {X : Type 0} → List (Open X) → List (Open X) → Open X → Type 0
PutsLast {X = X} old new o = (x : Open X) → last_of old ≡ Some x → (hs : List (Held X))
    × (open_levels old ≡ helds_of x ++ hs) × (open_levels new ≡ helds_of o ++ hs)
