-- How many positions a shape has, as its geometry says; and few features and positions are spelled in few bytes.
-- For the answers of at_run.
use Rattle.std.proofs.Common.{◌≡◌, ℕ, ◌+◌, ◌*◌, ◌^◌, ◌≤◌, Bool, true, false, cond, List, [], ◌∷◌, length, map, flat_map, Option, Some, None, refl, ap, arith, length-append}
use Rattle.std.specs.List.{slice_split, onto_first}
use Rattle.std.proofs.lemmas.List.{length-map}
use Rattle.std.proofs.lemmas.Grind.{flat_map-append}
use Rattle.at_fixed.specs.declared.rounding.Coords.{Coords}
use Rattle.at_geom.specs.declared.positions.Pos.{Pos}
use Rattle.at_geom.specs.declared.shapes.Polygon.{Polygon}
use Rattle.at_geom.specs.declared.shapes.Shape.{Shape}
use Rattle.at_geom.specs.Shapes.{positions, joined, positions_of_polygons}
use Rattle.at_wkt.specs.Positions.{Position, Positions, pos_of, path_of}
use Rattle.at_wkt.specs.Geometry.{Geometry, point, line_string, polygon, multi_point, multi_line_string, multi_polygon, collection, Geometries, no_geometries, geometry_and}
use Rattle.at_geom.specs.Shapes.{both}
use Rattle.at_wkt.specs.Meaning.{present, polygons_of, shape_of, shape_of_all}
use Rattle.at_query.specs.declared.features.Feature.{Feature}
use Rattle.at_query.specs.Results.{all_positions}
use Rattle.at_query.specs.Parts.{AreFew}
use Rattle.at_query.proofs.LineBytes.{total, one_of, items_of, listed_of, rings_of, weight_of, weight_of_all}

-- ---- how many positions a shape has

abbrev pub size : Shape → ℕ
size s = length s.points + length (joined s.lines) + length (positions_of_polygons s.polygons)

pub positions_size : (s : Shape) → length (positions s) ≡ size s
positions_size s = omega (arith, length-append {A = Pos})

pub both_size : (s u : Shape) → size (both s u) ≡ size s + size u
both_size s u = omega (
  arith,
  length-append {A = Pos},
  ap length (flat_map-append (λ (path : List Pos). path) s.lines u.lines),
  ap length (flat_map-append (λ (polygon : Polygon). joined polygon.rings) s.polygons u.polygons),
)

module _ (digits : ℕ) (how : Coords) where
  points_size : (ps : List (Option Position)) → length (map (pos_of digits how) (present ps)) ≡ total one_of ps
  points_size [] = refl
  points_size (None ∷ ps) = omega (arith, points_size ps)
  points_size (Some p ∷ ps) = omega (arith, points_size ps)

  path_size : (ps : Positions) → length (path_of digits how ps) ≡ items_of ps
  path_size ps = length-map ps.items (pos_of digits how)

  rings_size : (rings : List Positions) → length (joined (map (path_of digits how) rings)) ≡ rings_of rings
  rings_size [] = refl
  rings_size (ps ∷ rings) = let e = rings_size rings in let p = path_size ps in let s = length-append (path_of digits how ps) (joined (map (path_of digits how) rings)) in omega (arith, e, p, s)

  lists_size : (ls : List (Option Positions)) → length (joined (map (path_of digits how) (present ls))) ≡ total listed_of ls
  lists_size [] = refl
  lists_size (None ∷ ls) = let e = lists_size ls in omega (arith, e)
  lists_size (Some ps ∷ ls) = let e = lists_size ls in let p = path_size ps in let s = length-append (path_of digits how ps) (joined (map (path_of digits how) (present ls))) in omega (arith, e, p, s)

  area_size : (rings : List Positions) → length (positions_of_polygons (polygons_of digits how rings)) ≡ rings_of rings
  area_size [] = refl
  area_size (exterior ∷ holes) = omega (arith, length-append (joined (map (path_of digits how) (exterior ∷ holes))) [], rings_size (exterior ∷ holes))

  areas_size : (areas : List (List Positions)) → length (positions_of_polygons (flat_map (polygons_of digits how) areas)) ≡ total rings_of areas
  areas_size [] = refl
  areas_size (rings ∷ areas) = omega (
    arith,
    ap length (flat_map-append (λ (polygon : Polygon). joined polygon.rings) (polygons_of digits how rings) (flat_map (polygons_of digits how) areas)),
    length-append {A = Pos},
    areas_size areas,
    area_size rings,
  )

  mutual
    pub shape_size : (g : Geometry) → size (shape_of digits how g) ≡ weight_of g
    shape_size (point None) = omega arith
    shape_size (point (Some p)) = omega arith
    shape_size (line_string None) = omega arith
    shape_size (line_string (Some ps)) = omega (arith, path_size ps, length-append (path_of digits how ps) [])
    shape_size (polygon rings) = omega (arith, area_size rings)
    shape_size (multi_point ps) = omega (arith, points_size ps)
    shape_size (multi_line_string ls) = omega (arith, lists_size ls)
    shape_size (multi_polygon areas) = omega (arith, areas_size areas)
    shape_size (collection gs) = shapes_size gs

    shapes_size : (gs : Geometries) → size (shape_of_all digits how gs) ≡ weight_of_all gs
    shapes_size no_geometries = refl
    shapes_size (geometry_and g gs) = let b = both_size (shape_of digits how g) (shape_of_all digits how gs) in let e = shape_size g in let f = shapes_size gs in omega (arith, b, e, f)

-- ---- how many bytes stand between separators

abbrev pub parts_size : List (List ℕ) → ℕ
parts_size [] = 0
parts_size (p ∷ ps) = length p + parts_size ps

onto_size : (x : ℕ) (ps : List (List ℕ)) → parts_size (onto_first x ps) ≡ parts_size ps + 1
onto_size x [] = refl
onto_size x (p ∷ ps) = omega arith

pub split_size : (p : ℕ → Bool) (xs : List ℕ) → parts_size (slice_split p xs) ≤ length xs
split_size p [] = omega arith
split_size p (x ∷ xs) = go (p x) (split_size p xs) where
  go : (b : Bool) → parts_size (slice_split p xs) ≤ length xs → parts_size (cond b ([] ∷ slice_split p xs) (onto_first x (slice_split p xs))) ≤ length (x ∷ xs)
  go true s = omega (arith, s)
  go false s = let o = onto_size x (slice_split p xs) in omega (arith, s, o)

-- ---- few features

-- no feature without a byte, so the bound is strict where there are positions
pub few_of_size : (fs : List Feature) (n : ℕ) → 4 * length (all_positions fs) + length fs ≤ n → n ≤ 2 ^ 28 → AreFew fs
few_of_size [] n h le = record { features = omega arith; positions = omega arith }
few_of_size (f ∷ fs) n h le = record { features = omega (arith, h, le); positions = omega (arith, h, le) }
