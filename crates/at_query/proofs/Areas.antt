-- Sums of areas, wrapped and unwrapped, and how large they get.
-- For most public calls of the crate, `add`, `add_lent`, `answer_of` among them.
use Rattle.std.proofs.Common.{◌≡◌, ℕ, suc, ℤ, ◌+◌, ◌*◌, ◌≤◌, ◌<◌, ◌+ℤ◌, nat_abs, List, [], ◌∷◌, ◌++◌, length, length-append, get_or, drop, map, arith, refl, sym, ap, ◌∙◌}
use Rattle.std.specs.Prelude.{All, FitsSigned, ◌^◌}
use Rattle.std.specs.Int.{w128, int_wrap}
use Rattle.std.proofs.Math.IntN.{+ℤ_assoc}
use Rattle.std.proofs.lemmas.Int.{ints, int_wrap-add_left, int_wrap-add_right, int_wrap_fits, fits_signed_from_abs}
use Rattle.std.proofs.lemmas.List.{map-append, drop_more}
use Rattle.at_geom.specs.declared.positions.Pos.{Pos}
use Rattle.at_geom.specs.declared.shapes.Polygon.{Polygon}
use Rattle.at_geom.specs.Segments.{IsInRange}
use Rattle.at_geom.specs.Regions.{sum_of, ring_size, doubled_area, doubled_area_of_rings, wrapped_area}
use Rattle.at_geom.specs.Shapes.{joined, positions_of_polygons, ArePolygonsInRange}
use Rattle.at_geom.proofs.Shoelace.{sum_of-cons, most, wrapped-area_of_rings, ring_bound}
use Rattle.at_query.specs.Parts.{wrapped_sum}

pub sum_of-append : (xs ys : List ℤ) → sum_of (xs ++ ys) ≡ sum_of xs +ℤ sum_of ys
sum_of-append [] ys = omega (arith, ints)
sum_of-append (x ∷ xs) ys = omega (arith, ints, sum_of-cons x (xs ++ ys), sum_of-cons x xs, sum_of-append xs ys)

-- wrapped sums add up, however they are grouped
pub wrapped_sum-append : (ps qs : List Polygon) → int_wrap w128 (wrapped_sum ps +ℤ wrapped_sum qs) ≡ wrapped_sum (ps ++ qs)
wrapped_sum-append ps qs =
    let a = sum_of (map wrapped_area ps) in
    let b = sum_of (map wrapped_area qs) in
    int_wrap-add_left w128 a (int_wrap w128 b) ∙ int_wrap-add_right w128 a b ∙ ap (int_wrap w128) (sym (sum_of-append (map wrapped_area ps) (map wrapped_area qs))) ∙ ap (λ l. int_wrap w128 (sum_of l)) (sym (map-append wrapped_area ps qs))

-- a step of a sum that is wrapped at each step
pub area_step : (s s' : ℤ) (ps : List Polygon) (i : ℕ) (d : Polygon) → i < length ps → s' ≡ int_wrap w128 (s +ℤ wrapped_area (get_or ps i d))
    → int_wrap w128 (s' +ℤ sum_of (map wrapped_area (drop (i + 1) ps))) ≡ int_wrap w128 (s +ℤ sum_of (map wrapped_area (drop i ps)))
area_step s s' ps i d lt e =
    let t = wrapped_area (get_or ps i d) in
    let rest = sum_of (map wrapped_area (drop (i + 1) ps)) in
    rw (e, drop_more ps i d lt, sum_of-cons (wrapped_area (get_or ps i d)) (map wrapped_area (drop (i + 1) ps)))
    (int_wrap-add_left w128 (s +ℤ t) rest ∙ ap (int_wrap w128) (+ℤ_assoc s t rest))

-- ---- how large they get

holes_bound : (rings : List (List Pos)) → All (All IsInRange) rings → nat_abs (sum_of (map ring_size rings)) ≤ length (joined rings) * most
holes_bound [] h = omega arith
holes_bound (ring ∷ rings) h =
    omega (arith, ints, length-append ring (joined rings), sum_of-cons (ring_size ring) (map ring_size rings), ring_bound ring (h 0 ring (omega arith)), holes_bound rings (λ k d lt. h (suc k) d (omega arith)))

rings_bound : (rings : List (List Pos)) → All (All IsInRange) rings → nat_abs (doubled_area_of_rings rings) ≤ length (joined rings) * most
rings_bound [] h = omega arith
rings_bound (exterior ∷ holes) h =
    omega (arith, ints, length-append exterior (joined holes), ring_bound exterior (h 0 exterior (omega arith)), holes_bound holes (λ k d lt. h (suc k) d (omega arith)))

-- the wrapped areas are the areas, and their sum is small
pub record AreExactAreas (ps : List Polygon) : Type 0 where
  pub same : sum_of (map wrapped_area ps) ≡ sum_of (map doubled_area ps)
  pub bounded : nat_abs (sum_of (map doubled_area ps)) ≤ length (positions_of_polygons ps) * most

exact_areas : (ps : List Polygon) → ArePolygonsInRange ps → length (positions_of_polygons ps) < 2 ^ 26 → AreExactAreas ps
exact_areas [] h few = record { same = refl; bounded = omega arith }
exact_areas (p ∷ ps) h few =
    let split = length-append (joined p.rings) (positions_of_polygons ps) in
    let r = exact_areas ps (λ k d lt. h (suc k) d (omega arith)) (omega (arith, split)) in
    let e = wrapped-area_of_rings p.rings (h 0 p (omega arith)) (omega (arith, split)) in
    let b = rings_bound p.rings (h 0 p (omega arith)) in
    record {
      same = sum_of-cons (wrapped_area p) (map wrapped_area ps) ∙ rw (e, r.same) (sym (sum_of-cons (doubled_area p) (map doubled_area ps)));
      bounded = omega (arith, ints, split, sum_of-cons (doubled_area p) (map doubled_area ps), b, r.bounded);
    }

-- with few positions no sum wraps
pub wrapped_sum_is : (ps : List Polygon) → ArePolygonsInRange ps → length (positions_of_polygons ps) < 2 ^ 26 → wrapped_sum ps ≡ sum_of (map doubled_area ps)
wrapped_sum_is ps h few =
    let r = exact_areas ps h few in
    let f : FitsSigned w128 (sum_of (map doubled_area ps)) = fits_signed_from_abs w128 (sum_of (map doubled_area ps)) (omega (arith, r.bounded)) in
    ap (int_wrap w128) r.same ∙ int_wrap_fits w128 (sum_of (map doubled_area ps)) f
