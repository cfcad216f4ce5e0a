-- The answer to a query over a list of features, and to a join over two.
use Rattle.std.specs.Prelude.{◌≡◌, ◌⊎◌, pos, List, [], ◌∷◌, map, flat_map, length}
use Rattle.at_geom.specs.declared.positions.Pos.{Pos}
use Rattle.at_geom.specs.declared.shapes.Polygon.{Polygon}
use Rattle.at_geom.specs.Regions.{doubled_area, sum_of}
use Rattle.at_geom.specs.Shapes.{positions, extent_of, Meet}
use Rattle.at_hull.specs.Hulls.{IsHull}
use Rattle.at_query.specs.declared.query.queries.Verb.{Verb}
use Rattle.at_query.specs.declared.query.queries.Verb.TheVariants as verbs
use Rattle.at_query.specs.declared.query.queries.Query.{Query}
use Rattle.at_query.specs.declared.features.Feature.{Feature}
use Rattle.at_query.specs.declared.answer.answers.Pair.{Pair}
use Rattle.at_query.specs.declared.answer.answers.Answer.{Answer}
use Rattle.at_query.specs.declared.answer.answers.Answer.TheVariants.{Offsets, Number, Spread, Pairs, Hull}
use Rattle.at_query.specs.Holding.{Holds}

-- ys are the elements of xs that have the property, in order
abbrev pub Keeps : {X : Type 0} → (X → Type 0) → List X → List X → Type 0
Keeps P [] ys = ys ≡ []
Keeps {X} P (x ∷ xs) ys = (P x × ((zs : List X) × (ys ≡ x ∷ zs) × Keeps P xs zs)) ⊎ ((¬ P x) × Keeps P xs ys)

abbrev pub all_positions : List Feature → List Pos
all_positions fs = flat_map (λ (f : Feature). positions f.shape) fs

abbrev pub all_polygons : List Feature → List Polygon
all_polygons fs = flat_map (λ (f : Feature). f.shape.polygons) fs

-- what a verb asks of the features that are left; a join asks for pairs of two lists, which IsJoined tells, and has no
-- answer over one
abbrev pub IsAskedOf : Verb → List Feature → Answer → Type 0
IsAskedOf verbs.Select fs answer = answer ≡ Offsets (map (λ (f : Feature). f.at) fs)
IsAskedOf verbs.Count fs answer = answer ≡ Number (pos (length fs))
IsAskedOf verbs.Area fs answer = answer ≡ Number (sum_of (map doubled_area (all_polygons fs)))
IsAskedOf verbs.Extent fs answer = answer ≡ Spread (extent_of (all_positions fs))
IsAskedOf verbs.Hull fs answer = (h : List Pos) × (answer ≡ Hull h) × IsHull (all_positions fs) h
IsAskedOf verbs.Join fs answer = ⊥

-- the answer to the query over the features
abbrev pub IsResult : Query → List Feature → Answer → Type 0
IsResult query fs answer = (kept : List Feature) × Keeps (Holds query) fs kept × IsAskedOf query.verb kept answer

-- all pairs of an element of the one list and an element of the other, in order of the first, then the second
abbrev pub pairs_of : {X : Type 0} → List X → List X → List (X × X)
pairs_of {X} xs ys = flat_map (λ (x : X). map (λ (y : X). (x, y)) ys) xs

-- the query holds of the first, and the shapes meet
abbrev pub Joins : Query → Feature × Feature → Type 0
Joins query (f, g) = Holds query f × Meet f.shape g.shape

abbrev pub at_pair : Feature × Feature → Pair
at_pair (f, g) = record { first = f.at; second = g.at }

-- the answer to a join
abbrev pub IsJoined : Query → List Feature → List Feature → Answer → Type 0
IsJoined query fs gs answer = (kept : List (Feature × Feature)) × Keeps (Joins query) (pairs_of fs gs) kept
    × (answer ≡ Pairs (map at_pair kept))
