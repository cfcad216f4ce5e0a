-- The same bytes at two places: what is said of them by offsets is the same, moved.
use Rattle.std.specs.Prelude.{◌≡◌, ℕ, ◌+◌, List, map}
use Rattle.at_text.specs.declared.faults.Fault.{Fault}
use Rattle.at_query.specs.declared.features.Feature.{Feature}

abbrev pub feature_moved : ℕ → Feature → Feature
feature_moved by f = record { at = by + f.at; shape = f.shape; texts = f.texts }

abbrev pub fault_moved : ℕ → Fault → Fault
fault_moved by f = record { kind = f.kind; at = by + f.at }

-- the same features, once told by a text in which their bytes stand behind so many others, and once by a text in which
-- they stand behind so many
abbrev pub AreMoved : ℕ → ℕ → List Feature → List Feature → Type 0
AreMoved from to fs gs = (alone : List Feature) × (fs ≡ map (feature_moved from) alone)
    × (gs ≡ map (feature_moved to) alone)

abbrev pub IsMoved : ℕ → ℕ → Fault → Fault → Type 0
IsMoved from to f g = (alone : Fault) × (f ≡ fault_moved from alone) × (g ≡ fault_moved to alone)
