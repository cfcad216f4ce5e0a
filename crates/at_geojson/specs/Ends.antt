-- What is answered of the atom of a whole text, by its role.
use Rattle.std.specs.Prelude.{◌≡◌, ℕ, [], ◌∷◌, Option, Some, None, Result, Ok, Err}
use Rattle.std.specs.Bool.{⊤}
use Rattle.at_text.specs.Faults.{fault_at}
use Rattle.at_text.specs.declared.faults.Fault.{Fault}
use Rattle.at_text.specs.declared.faults.FaultKind.TheVariants.{Form}
use Rattle.at_geom.specs.declared.shapes.Shape.{Shape}
use Rattle.at_query.specs.declared.features.Feature.{Feature}
use Rattle.at_query.specs.declared.answer.parts.Part.{Part}
use Rattle.at_query.specs.declared.query.queries.Query.{Query}
use Rattle.at_query.specs.Parts.{IsPart}
use Rattle.at_geojson.specs.declared.atoms.atom.GeoAtom.{GeoAtom}
use Rattle.at_geojson.specs.declared.atoms.atom.Role.{Role}
use Rattle.at_geojson.specs.declared.atoms.atom.Role.TheVariants as roles
use Rattle.at_text.specs.declared.refusals.Refusal.{Refusal}
use Rattle.at_text.specs.declared.refusals.Refusal.TheVariants.{Found, Memory}
use Rattle.at_geojson.specs.Atoms.{twin_of, at_of, role_of}
use Rattle.at_geojson.specs.Wholes.{found_end}

-- the part of the one feature, or want of memory
abbrev pub EndsLone : Query → Feature → Result Part Refusal → Type 0
EndsLone query feature (Ok part) = IsPart query (feature ∷ []) part
EndsLone query feature (Err Memory) = ⊤
EndsLone query feature (Err (Found fault)) = ⊥

abbrev pub EndsGeometry : Query → ℕ → Result Shape Fault → Result Part Refusal → Type 0
EndsGeometry query at (Ok shape) end = EndsLone query (record { at = at; shape = shape; texts = [] }) end
EndsGeometry query at (Err fault) end = end ≡ Err (Found fault)

abbrev pub EndsRole : Query → ℕ → Role → Result Part Refusal → Type 0
EndsRole query at roles.Nothing end = end ≡ Err (Found (fault_at Form at))
EndsRole query at (roles.Geometry g) end = EndsGeometry query at g end
EndsRole query at (roles.Feature p) end = end ≡ found_end p
EndsRole query at (roles.Collection p) end = end ≡ found_end p

-- the first fault of equal names, and else what the role ends in
abbrev pub EndsBy : Query → Option Fault → ℕ → Role → Result Part Refusal → Type 0
EndsBy query (Some fault) at role end = end ≡ Err (Found fault)
EndsBy query None at role end = EndsRole query at role end

abbrev pub EndsAtom : Query → GeoAtom → Result Part Refusal → Type 0
EndsAtom query a end = EndsBy query (twin_of a) (at_of a) (role_of a) end
