-- The coordinates of a number, a position and a geometry are in range: a number without a value counts as 0.
-- For `read_query`, and for `add`, `array`, `scalar` and `value` of at_geojson.
use Rattle.std.proofs.Common.{◌≡◌, ℕ, ℤ, pos, neg_ℤ, nat_abs, zero, suc, ◌+◌, ◌*◌, ◌^◌, ◌<◌, ◌≤◌, Bool, true, false, if◌then◌else◌, List, [], ◌∷◌, map, flat_map, get_or, length, option_to_list, Result, Ok, Err, refl, sym, subst, arith, lit≤}
use Rattle.std.specs.List.{All}
use Rattle.std.proofs.lemmas.List.Elements.{All-nil, All-cons, All-append, All-map}
use Rattle.at_fixed.specs.declared.rounding.Coords.{Coords}
use Rattle.at_fixed.specs.declared.rounding.Coords.TheVariants.{Exact, Round}
use Rattle.at_fixed.specs.declared.rounding.FixedFault.{FixedFault}
use Rattle.at_fixed.specs.Numerals.{Numeral}
use Rattle.at_fixed.specs.Fixed.{largest, signed, has_minus, mantissa, fraction_digits, exponent_above, exponent_below}
use Rattle.at_fixed.specs.Products.{IsSize, IsQuotient}
use Rattle.at_fixed.proofs.FixedLaws.{value_means}
use Rattle.at_fixed.proofs.Sizes.{pow_positive}
use Rattle.at_geom.specs.declared.positions.Pos.{Pos}
use Rattle.at_geom.specs.declared.shapes.Polygon.{Polygon}
use Rattle.at_geom.specs.declared.shapes.Shape.{Shape}
use Rattle.at_geom.specs.Segments.{IsInRange}
use Rattle.at_geom.specs.Shapes.{ArePathsInRange, ArePolygonsInRange, IsShapeInRange}
use Rattle.at_wkt.specs.Positions.{Position, Positions, value_in, value_of, pos_of, path_of}
use Rattle.at_wkt.specs.Geometry.{Geometry, Geometries, point, line_string, polygon, multi_point, multi_line_string, multi_polygon, collection, no_geometries, geometry_and}
use Rattle.at_geom.specs.Shapes.{empty_shape, of_points, of_lines, of_polygons, both}
use Rattle.at_wkt.specs.Meaning.{present, polygons_of, shape_of, shape_of_all}

-- ---- values

abbrev IsSmall : Result ℕ FixedFault → Type 0
IsSmall (Ok n) = n ≤ 300000000000000
IsSmall (Err e) = Unit {0}

exact_small : (p q : ℕ) → 0 < q → (r : ℕ) → r * q ≡ p → p ≤ largest * q → r ≤ 300000000000000
exact_small p q positive r e h = grind (arith, e, h, positive)

small_quotient : (how : Coords) (p q : ℕ) (size : Result ℕ FixedFault) → 0 < q → IsQuotient how p q size → IsSmall size
small_quotient Exact p q (Ok n) positive h = let (e, k) = h.value n refl in exact_small p q positive n e k
small_quotient Exact p q (Err e) positive h = tt
small_quotient Round p q (Ok n) positive h = (h.value n refl).1
small_quotient Round p q (Err e) positive h = tt

small_size : (how : Coords) (m a b : ℕ) (size : Result ℕ FixedFault) → IsSize how m a b size → IsSmall size
small_size how zero a b size h = subst IsSmall (sym h) (lit≤ tt)
small_size how (suc m) a b size h = small_quotient how (suc m * 10 ^ a) (10 ^ b) size (pow_positive b) h

abs_minus : (n : ℕ) → nat_abs (neg_ℤ (pos n)) ≡ n
abs_minus zero = refl
abs_minus (suc n) = refl

small_sign : (b : Bool) (n : ℕ) → n ≤ 300000000000000 → nat_abs (if b then neg_ℤ (pos n) else pos n) ≤ 300000000000000
small_sign true n h = omega (arith, h, abs_minus n)
small_sign false n h = h

small_signed : (b : Bool) (size : Result ℕ FixedFault) → IsSmall size → nat_abs (value_in (signed b size)) ≤ 300000000000000
small_signed b (Ok n) h = small_sign b n h
small_signed b (Err e) h = lit≤ tt

-- ---- lists and shapes

pub all_each : {X Y : Type 0} (P : Y → Type 0) (f : X → Y) → ((x : X) → P (f x)) → (xs : List X) → All P (map f xs)
all_each P f h xs = All-map P f xs (λ k d lt. h (get_or xs k d))

all_flat : {X Y : Type 0} (P : Y → Type 0) (f : X → List Y) → ((x : X) → All P (f x)) → (xs : List X) → All P (flat_map f xs)
all_flat P f h [] = All-nil P
all_flat P f h (x ∷ xs) = All-append P (f x) (flat_map f xs) (h x) (all_flat P f h xs)

abbrev InPolygon : Polygon → Type 0
InPolygon p = ArePathsInRange p.rings

pub points_in : (ps : List Pos) → All IsInRange ps → IsShapeInRange (of_points ps)
points_in ps h = record { points = h; lines = All-nil (All IsInRange); polygons = All-nil InPolygon }

pub lines_in : (ls : List (List Pos)) → ArePathsInRange ls → IsShapeInRange (of_lines ls)
lines_in ls h = record { points = All-nil IsInRange; lines = h; polygons = All-nil InPolygon }

pub polygons_in : (ps : List Polygon) → ArePolygonsInRange ps → IsShapeInRange (of_polygons ps)
polygons_in ps h = record { points = All-nil IsInRange; lines = All-nil (All IsInRange); polygons = h }

pub nothing_in : IsShapeInRange empty_shape
nothing_in = points_in [] (All-nil IsInRange)

pub both_in : (s u : Shape) → IsShapeInRange s → IsShapeInRange u → IsShapeInRange (both s u)
both_in s u h k = record {
  points = All-append IsInRange s.points u.points h.points k.points;
  lines = All-append (All IsInRange) s.lines u.lines h.lines k.lines;
  polygons = All-append InPolygon s.polygons u.polygons h.polygons k.polygons;
}

-- ---- what numbers spell

module _ (digits : ℕ) (how : Coords) where
  pub value_small : (n : Numeral) → nat_abs (value_of digits how n) ≤ 300000000000000
  value_small n =
      let v = value_means n digits how in
      let P : Result ℤ _ → Type 0 = λ z. nat_abs (value_in z) ≤ 300000000000000 in
      subst P (sym v.sign) (small_signed (has_minus n.sign) v.size (small_size how (mantissa n) (digits + exponent_above n.exponent) (length (fraction_digits n) + exponent_below n.exponent) v.size v.is_size))

  pos_in : (p : Position) → IsInRange (pos_of digits how p)
  pos_in p = (value_small p.x, value_small p.y)

  path_in : (ps : Positions) → All IsInRange (path_of digits how ps)
  path_in ps = all_each IsInRange (pos_of digits how) pos_in ps.items

  paths_in : (ps : List Positions) → ArePathsInRange (map (path_of digits how) ps)
  paths_in ps = all_each (All IsInRange) (path_of digits how) path_in ps

  area_in : (rings : List Positions) → ArePolygonsInRange (polygons_of digits how rings)
  area_in [] = All-nil InPolygon
  area_in (r ∷ rings) = All-cons InPolygon (record { rings = map (path_of digits how) (r ∷ rings) }) [] (paths_in (r ∷ rings)) (All-nil InPolygon)

  mutual
    pub shape_in : (g : Geometry) → IsShapeInRange (shape_of digits how g)
    shape_in (point p) = points_in (map (pos_of digits how) (option_to_list p)) (all_each IsInRange (pos_of digits how) pos_in (option_to_list p))
    shape_in (line_string ps) = lines_in (map (path_of digits how) (option_to_list ps)) (paths_in (option_to_list ps))
    shape_in (polygon rings) = polygons_in (polygons_of digits how rings) (area_in rings)
    shape_in (multi_point ps) = points_in (map (pos_of digits how) (present ps)) (all_each IsInRange (pos_of digits how) pos_in (present ps))
    shape_in (multi_line_string ls) = lines_in (map (path_of digits how) (present ls)) (paths_in (present ls))
    shape_in (multi_polygon areas) = polygons_in (flat_map (polygons_of digits how) areas) (all_flat InPolygon (polygons_of digits how) area_in areas)
    shape_in (collection gs) = shape_in_all gs

    shape_in_all : (gs : Geometries) → IsShapeInRange (shape_of_all digits how gs)
    shape_in_all no_geometries = nothing_in
    shape_in_all (geometry_and g gs) = both_in (shape_of digits how g) (shape_of_all digits how gs) (shape_in g) (shape_in_all gs)
