-- What a list of features adds to the answer to a query, how the parts of neighbouring lists are joined, and the
-- answer that the part of the whole list gives.
use Rattle.std.specs.Prelude.{◌≡◌, ℕ, ◌%◌, ◌<◌, ◌^◌, ℤ, pos, List, [], ◌∷◌, ◌++◌, All, map, length}
use Rattle.std.specs.Int.{w128, int_wrap}
use Rattle.std.specs.List.{AllByRecursion}
use Rattle.at_geom.specs.declared.positions.Pos.{Pos}
use Rattle.at_geom.specs.declared.shapes.Polygon.{Polygon}
use Rattle.at_geom.specs.declared.shapes.Shape.{Shape}
use Rattle.at_geom.specs.Closed.{IsClosed}
use Rattle.at_geom.specs.Segments.{IsInRange}
use Rattle.at_geom.specs.Regions.{sum_of, wrapped_area}
use Rattle.at_geom.specs.Shapes.{positions, extent_of, IsShapeInRange}
use Rattle.at_hull.specs.Hulls.{IsHull}
use Rattle.at_query.specs.declared.query.queries.Verb.{Verb}
use Rattle.at_query.specs.declared.query.queries.Verb.TheVariants as verbs
use Rattle.at_query.specs.declared.query.queries.Query.{Query}
use Rattle.at_query.specs.declared.features.Feature.{Feature}
use Rattle.at_query.specs.declared.answer.answers.Answer.{Answer}
use Rattle.at_query.specs.declared.answer.answers.Answer.TheVariants as answers
use Rattle.at_query.specs.declared.answer.parts.Entry.{Entry}
use Rattle.at_query.specs.declared.answer.parts.Part.{Part}
use Rattle.at_query.specs.declared.answer.parts.Part.TheVariants.{Offsets, Count, Area, Spread, Entries, Hull}
use Rattle.at_query.specs.Holding.{Holds}
use Rattle.at_query.specs.Results.{Keeps, all_positions, all_polygons}

-- a feature with the extent of its shape, without its texts
abbrev pub entry_of : Feature → Entry
entry_of f = record { at = f.at; shape = f.shape; extent = extent_of (positions f.shape) }

-- the sum of the wrapped areas, wrapped into 128 bits
abbrev pub wrapped_sum : List Polygon → ℤ
wrapped_sum polygons = int_wrap w128 (sum_of (map wrapped_area polygons))

-- the hull of the positions, with coordinates in range
abbrev pub IsHullInRange : List Pos → List Pos → Type 0
IsHullInRange ps h = IsHull ps h × All IsInRange h

-- what a verb keeps of the features that are left
abbrev pub IsKeptOf : Verb → List Feature → Part → Type 0
IsKeptOf verbs.Select fs part = part ≡ Offsets (map (λ (f : Feature). f.at) fs)
IsKeptOf verbs.Count fs part = part ≡ Count (length fs % 2 ^ 64)
IsKeptOf verbs.Area fs part = part ≡ Area (wrapped_sum (all_polygons fs))
IsKeptOf verbs.Extent fs part = part ≡ Spread (extent_of (all_positions fs))
IsKeptOf verbs.Hull fs part = (h : List Pos) × (part ≡ Hull h) × IsHullInRange (all_positions fs) h
IsKeptOf verbs.Join fs part = part ≡ Entries (map entry_of fs)

-- the part of the features, for the query
abbrev pub IsPart : Query → List Feature → Part → Type 0
IsPart query fs part = (kept : List Feature) × Keeps (Holds query) fs kept × IsKeptOf query.verb kept part

-- where the part is a path, it is its own hull, with coordinates in range
abbrev pub IsProper : Part → Type 0
IsProper (Offsets a) = Unit {0}
IsProper (Count n) = Unit {0}
IsProper (Area z) = Unit {0}
IsProper (Spread e) = Unit {0}
IsProper (Entries es) = Unit {0}
IsProper (Hull h) = IsHullInRange h h

-- both parts are of one verb, and proper
abbrev pub AreAlike : Part → Part → Type 0
AreAlike (Offsets a) (Offsets b) = Unit {0}
AreAlike (Count a) (Count b) = Unit {0}
AreAlike (Area a) (Area b) = Unit {0}
AreAlike (Spread a) (Spread b) = Unit {0}
AreAlike (Entries a) (Entries b) = Unit {0}
AreAlike (Hull a) (Hull b) = IsProper (Hull a) × IsProper (Hull b)
AreAlike _ _ = ⊥

-- the part is a number or an extent, and no list: it has one size whatever the features are
abbrev pub IsOfOneSize : Part → Type 0
IsOfOneSize (Offsets a) = ⊥
IsOfOneSize (Count n) = Unit {0}
IsOfOneSize (Area z) = Unit {0}
IsOfOneSize (Spread e) = Unit {0}
IsOfOneSize (Entries es) = ⊥
IsOfOneSize (Hull h) = ⊥

-- whatever the lists and the query are of which these are the parts, it is the part of the joined lists
abbrev pub JoinsParts : Part → Part → Part → Type 0
JoinsParts left right part = (query : Query) (fs gs : List Feature) → IsPart query fs left → IsPart query gs right
    → IsPart query (fs ++ gs) part

-- the part is no list of entries, which has no answer of its own
abbrev pub IsAnswerable : Part → Type 0
IsAnswerable (Offsets a) = Unit {0}
IsAnswerable (Count n) = Unit {0}
IsAnswerable (Area z) = Unit {0}
IsAnswerable (Spread e) = Unit {0}
IsAnswerable (Entries es) = ⊥
IsAnswerable (Hull h) = Unit {0}

-- the answer says what the part holds
abbrev pub IsSaid : Part → Answer → Type 0
IsSaid (Offsets a) answer = answer ≡ answers.Offsets a
IsSaid (Count n) answer = answer ≡ answers.Number (pos n)
IsSaid (Area z) answer = answer ≡ answers.Number z
IsSaid (Spread e) answer = answer ≡ answers.Spread e
IsSaid (Entries es) answer = ⊥
IsSaid (Hull h) answer = answer ≡ answers.Hull h

-- so few features and positions that no count and no area wraps
pub record AreFew (fs : List Feature) : Type 0 where
  pub features : length fs < 2 ^ 64
  pub positions : length (all_positions fs) < 2 ^ 26

-- ---- entries of a join

-- each ring of a shape ends where it begins
abbrev pub AreRingsClosed : Shape → Type 0
AreRingsClosed s = AllByRecursion (λ (polygon : Polygon). AllByRecursion IsClosed polygon.rings) s.polygons

-- every offset is greater than the one before it
abbrev pub AreRising : List ℕ → Type 0
AreRising [] = Unit {0}
AreRising (n ∷ []) = Unit {0}
AreRising (n ∷ m ∷ rest) = (n < m) × AreRising (m ∷ rest)

-- the extent is that of the shape, its rings are closed, and its coordinates are in range
pub record IsProperEntry (e : Entry) : Type 0 where
  pub extent : e.extent ≡ extent_of (positions e.shape)
  pub closed : AreRingsClosed e.shape
  pub in_range : IsShapeInRange e.shape

-- the entries have rising offsets, and each is proper
pub record AreProper (es : List Entry) : Type 0 where
  pub rising : AreRising (map (λ (e : Entry). e.at) es)
  pub entries : AllByRecursion IsProperEntry es

-- a feature that gives a proper entry
pub record IsProperFeature (f : Feature) : Type 0 where
  pub closed : AreRingsClosed f.shape
  pub in_range : IsShapeInRange f.shape

-- features with rising offsets that give proper entries
pub record AreProperFeatures (fs : List Feature) : Type 0 where
  pub rising : AreRising (map (λ (f : Feature). f.at) fs)
  pub features : AllByRecursion IsProperFeature fs
