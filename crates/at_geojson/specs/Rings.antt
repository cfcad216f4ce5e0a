-- Lists of positions, and lists of these, that were read one behind another. Only contracts of private functions cite
-- this.
use Rattle.std.specs.Prelude.{◌≡◌, ℕ, ◌+◌, ◌<◌, ◌≤◌, Bool, true, List, [], ◌∷◌, ◌++◌, map, length, None}
use Rattle.at_text.specs.Faults.{first_fault}
use Rattle.at_query.specs.Keeping.{Asked, kept, needs_shapes}
use Rattle.at_geojson.specs.declared.atoms.atom.GeoAtom.{GeoAtom}
use Rattle.at_geojson.specs.declared.atoms.atom.GeoAtom.TheVariants as atoms
use Rattle.at_geojson.specs.declared.atoms.atom.Areas.{Areas}
use Rattle.at_geojson.specs.declared.atoms.atom.AreasAtom.{AreasAtom}
use Rattle.at_geojson.specs.declared.atoms.atom.Lists.{Lists}
use Rattle.at_geojson.specs.declared.atoms.atom.ListsAtom.{ListsAtom}
use Rattle.at_geojson.specs.declared.atoms.atom.Points.{Points}
use Rattle.at_geojson.specs.declared.atoms.atom.PointsAtom.{PointsAtom}
use Rattle.at_geojson.specs.Atoms.{twin_of}
use Rattle.at_geojson.specs.Gathering.{firsts, are_all, least_of, fault_as_line, fault_as_ring, path_in, area_fault}
use Rattle.at_geojson.specs.Gathering.{polygon_in}
use Rattle.at_geojson.specs.Rows.{PointsRead, KeepsPoints}
use Rattle.at_geojson.specs.Values.{IsWhole, IsItem, AreItemsRead}

-- white space, a list of positions, white space, told by the atom that keeps the list
pub record ArePointsItem (asked : Asked) (base : ℕ) (w : List ℕ) (at : ℕ) (p : PointsRead) : Type 0 where
  pub within : p.end ≤ length w
  pub begins : base + at ≤ p.at
  pub ends : p.at < base + p.end
  pub item : (m : PointsAtom) → KeepsPoints m p → IsItem asked base w at (record { end = p.end; atom = atoms.Points m })

-- the items from the bracket up to the place, behind the last of them
pub record AreItemsTo (asked : Asked) (base : ℕ) (w : List ℕ) (at end : ℕ) (items : List GeoAtom) : Type 0 where
  pub place : ℕ
  pub before : List GeoAtom
  pub last : GeoAtom
  pub split : items ≡ before ++ last ∷ []
  pub order : at < place
  pub read : AreItemsRead asked base w at place before
  pub item : IsItem asked base w place (record { end = end; atom = last })

-- items of one sort, of which the first begins at the offset, and no object has equal names
pub record AreSorted (rank from : ℕ) (items : List GeoAtom) : Type 0 where
  pub all : are_all rank items ≡ true
  pub twins : firsts twin_of items ≡ None
  pub least : least_of items ≡ from

-- ---- lists of positions

-- the lists with one more of them
pub record LengthensLists (needs : Bool) (lists : Lists) (points : Points) (longer : Lists) : Type 0 where
  pub paths : longer.paths.items ≡ lists.paths.items ++ kept needs (points.path.items ∷ [])
  pub as_lines : longer.as_lines ≡ first_fault lists.as_lines points.as_line
  pub as_rings : longer.as_rings ≡ first_fault lists.as_rings points.as_ring

-- what is kept of lists of positions
pub record AreLists (needs : Bool) (items : List GeoAtom) (lists : Lists) : Type 0 where
  pub paths : lists.paths.items ≡ kept needs (map path_in items)
  pub as_lines : lists.as_lines ≡ firsts fault_as_line items
  pub as_rings : lists.as_rings ≡ firsts fault_as_ring items

-- the lists from the bracket up to the place, behind the last of them
pub record AreListsRead (asked : Asked) (base : ℕ) (w : List ℕ) (at end from : ℕ) (lists : Lists) : Type 0 where
  pub first : GeoAtom
  pub rest : List GeoAtom
  pub to : AreItemsTo asked base w at end (first ∷ rest)
  pub sorted : AreSorted 3 from (first ∷ rest)
  pub begins : from < base + end
  pub known : AreLists (needs_shapes asked.query) (first ∷ rest) lists

-- an array of lists of positions that was read: its offset, that of the first list, the place behind it, and what is kept
pub record ListsRead : Type 0 where
  pub at : ℕ
  pub least : ℕ
  pub end : ℕ
  pub lists : Lists

-- the atom keeps what is kept of the lists
pub record KeepsLists (m : ListsAtom) (p : ListsRead) : Type 0 where
  pub at_is : m.at ≡ p.at
  pub least_is : m.least ≡ p.least
  pub lists_is : m.lists.value ≡ p.lists

-- an array of lists of positions from the place on, told by the atom that keeps it
pub record AreListsWhole (asked : Asked) (base : ℕ) (w : List ℕ) (at : ℕ) (p : ListsRead) : Type 0 where
  pub order : at < p.end
  pub within : p.end ≤ length w
  pub at_is : p.at ≡ base + at
  pub whole : (m : ListsAtom) → KeepsLists m p → IsWhole asked base w at (record { end = p.end; atom = atoms.Lists m })

-- ---- areas

-- white space, an area, white space, told by the atom that keeps the area
pub record AreListsItem (asked : Asked) (base : ℕ) (w : List ℕ) (at : ℕ) (p : ListsRead) : Type 0 where
  pub within : p.end ≤ length w
  pub begins : base + at ≤ p.at
  pub ends : p.at < base + p.end
  pub item : (m : ListsAtom) → KeepsLists m p → IsItem asked base w at (record { end = p.end; atom = atoms.Lists m })

-- the areas with one more of them
pub record LengthensAreas (needs : Bool) (areas : Areas) (lists : Lists) (longer : Areas) : Type 0 where
  pub polygons : longer.polygons.items ≡ areas.polygons.items ++ kept needs (record { rings = lists.paths.items } ∷ [])
  pub fault : longer.fault ≡ first_fault areas.fault lists.as_rings

-- what is kept of areas
pub record AreAreas (needs : Bool) (items : List GeoAtom) (areas : Areas) : Type 0 where
  pub polygons : areas.polygons.items ≡ kept needs (map polygon_in items)
  pub fault : areas.fault ≡ firsts area_fault items

-- the areas from the bracket up to the place, behind the last of them
pub record AreAreasRead (asked : Asked) (base : ℕ) (w : List ℕ) (at end from : ℕ) (areas : Areas) : Type 0 where
  pub first : GeoAtom
  pub rest : List GeoAtom
  pub to : AreItemsTo asked base w at end (first ∷ rest)
  pub sorted : AreSorted 4 from (first ∷ rest)
  pub begins : from < base + end
  pub known : AreAreas (needs_shapes asked.query) (first ∷ rest) areas

-- an array of areas that was read: its offset, that of the first area, the place behind it, and what is kept of it
pub record AreasRead : Type 0 where
  pub at : ℕ
  pub least : ℕ
  pub end : ℕ
  pub areas : Areas

-- the atom keeps what is kept of the areas
pub record KeepsAreas (m : AreasAtom) (p : AreasRead) : Type 0 where
  pub at_is : m.at ≡ p.at
  pub least_is : m.least ≡ p.least
  pub areas_is : m.areas.value ≡ p.areas

-- an array of areas from the place on, told by the atom that keeps it
pub record AreAreasWhole (asked : Asked) (base : ℕ) (w : List ℕ) (at : ℕ) (p : AreasRead) : Type 0 where
  pub order : at < p.end
  pub within : p.end ≤ length w
  pub at_is : p.at ≡ base + at
  pub whole : (m : AreasAtom) → KeepsAreas m p → IsWhole asked base w at (record { end = p.end; atom = atoms.Areas m })
