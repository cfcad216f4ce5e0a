-- Positions that were read one behind another. Only contracts of private functions cite this.
use Rattle.std.specs.Prelude.{◌≡◌, ℕ, ◌+◌, ◌<◌, ◌≤◌, Bool, List, [], ◌∷◌, ◌++◌, All, map, length}
use Rattle.std.specs.Bool.{⊤}
use Rattle.at_nest.specs.Tree.{Tree, Spells}
use Rattle.at_nest.specs.Folds.{AreFolds}
use Rattle.at_nest.specs.Passing.{IsPadded, ItemsBefore, items_of}
use Rattle.at_query.specs.Keeping.{Asked, kept, needs_shapes}
use Rattle.at_geojson.specs.declared.atoms.atom.GeoAtom.{GeoAtom}
use Rattle.at_geojson.specs.declared.atoms.atom.GeoAtom.TheVariants as atoms
use Rattle.at_geojson.specs.declared.atoms.atom.Points.{Points}
use Rattle.at_geojson.specs.declared.atoms.atom.PointsAtom.{PointsAtom}
use Rattle.at_geojson.specs.declared.atoms.atom.PositionAtom.{PositionAtom}
use Rattle.at_geojson.specs.declared.coordinates.pairs.Row.{Row}
use Rattle.at_geojson.specs.Atoms.{to_four, IsOwn, IsFold}
use Rattle.at_geojson.specs.Gathering.{last_atom, position_value, MakesPoints}
use Rattle.at_geojson.specs.Values.{IsWhole}

-- positions that have values, at the offset or behind it
abbrev pub AreNext : ℕ → List GeoAtom → Type 0
AreNext from [] = ⊤
AreNext from (a ∷ rest) = (p : PositionAtom) × (a ≡ atoms.Position p) × (from ≤ p.at) × AreNext from rest

-- the row is of its first position and the rest
pub record IsRow (needs : Bool) (row : Row) (rest : List GeoAtom) : Type 0 where
  pub next : AreNext row.first.at rest
  pub path : row.path.items ≡ kept needs (map position_value (atoms.Position row.first ∷ rest))
  pub count : row.count ≡ to_four (length (atoms.Position row.first ∷ rest))
  pub last : row.last ≡ position_value (last_atom (atoms.Position row.first) rest)

-- one more position, which stands behind the first
pub record LengthensRow (needs : Bool) (row : Row) (last : PositionAtom) (longer : Row) : Type 0 where
  pub first : longer.first ≡ row.first
  pub more : (rest : List GeoAtom) → IsRow needs row rest → row.first.at ≤ last.at
      → IsRow needs longer (rest ++ atoms.Position last ∷ [])

-- what is kept of the list of the row's positions
abbrev pub EndsRow : Bool → ℕ → Row → Points → Type 0
EndsRow needs at row points = (rest : List GeoAtom) → IsRow needs row rest → (m : PointsAtom) → m.at ≡ at
    → m.least ≡ row.first.at → m.points.value ≡ points
    → MakesPoints needs at row.first.at (atoms.Position row.first ∷ rest) (atoms.Points m)

-- a list of positions that was read: its offset, the least offset of its items, the place behind it, and what is kept of it
pub record PointsRead : Type 0 where
  pub at : ℕ
  pub least : ℕ
  pub end : ℕ
  pub points : Points

-- the list of the row's positions, and the place behind the bracket
pub record EndsPoints (needs : Bool) (at end : ℕ) (row : Row) (p : PointsRead) : Type 0 where
  pub at_is : p.at ≡ at
  pub least_is : p.least ≡ row.first.at
  pub behind : p.end ≡ end
  pub made : EndsRow needs at row p.points

-- the atom keeps what is kept of the list of positions
pub record KeepsPoints (m : PointsAtom) (p : PointsRead) : Type 0 where
  pub at_is : m.at ≡ p.at
  pub least_is : m.least ≡ p.least
  pub points_is : m.points.value ≡ p.points

-- a list of positions from the place on, told by the atom that keeps it
pub record ArePointsWhole (asked : Asked) (base : ℕ) (w : List ℕ) (at : ℕ) (p : PointsRead) : Type 0 where
  pub order : at < p.end
  pub within : p.end ≤ length w
  pub at_is : p.at ≡ base + at
  pub whole : (m : PointsAtom) → KeepsPoints m p
      → IsWhole asked base w at (record { end = p.end; atom = atoms.Points m })

-- the positions from the bracket up to the place, behind the last of them, are the row's
pub record ArePointsRead (asked : Asked) (base : ℕ) (w : List ℕ) (at end : ℕ) (row : Row) : Type 0 where
  pub rest : List GeoAtom
  pub is_row : IsRow (needs_shapes asked.query) row rest
  pub own : All (IsOwn asked) (atoms.Position row.first ∷ rest)
  pub begins : row.first.at < base + end
  pub place : ℕ
  pub order : at < place
  pub behind : place ≤ end
  pub done : List Tree
  pub last : Tree
  pub before : ItemsBefore base w at place done
  pub spells : IsPadded (λ j v. Spells j v last) base w place end
  pub folds : AreFolds (IsFold asked) (atoms.Position row.first ∷ rest) (items_of (done ++ last ∷ []))
