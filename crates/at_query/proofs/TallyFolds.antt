-- What is told of positions one by one, of rings and of polygons is what the definitions say of their lists.
-- For `of_first`, `with`, `of_ring`, `flat`, `with_hole` and `with_polygon`.
use Rattle.std.proofs.Common.{◌≡◌, ℤ, pos, nat_abs, ◌+ℤ◌, ◌-ℤ◌, neg_ℤ, Bool, true, false, ◌||◌, if◌then◌else◌, List, [], ◌∷◌, ◌++◌, Option, Some, None, map, refl, sym, ◌∙◌, ap, subst, arith, append-nil}
use Rattle.std.specs.Prelude.{FitsSigned}
use Rattle.std.specs.Int.{w128, int_wrap}
use Rattle.std.specs.List.{list_any}
use Rattle.std.proofs.Math.Bool.{or-false}
use Rattle.std.proofs.lemmas.Option.{same_Some}
use Rattle.std.proofs.lemmas.Grind.{flat_map-append}
use Rattle.std.proofs.lemmas.Int.{ints, int_wrap-add_left, int_wrap_fits, SFits-int_wrap, fits_signed_from_abs}
use Rattle.std.proofs.lemmas.List.{map-append}
use Rattle.std.proofs.lemmas.List.Sums.{fold-append}
use Rattle.at_geom.specs.declared.positions.Pos.{Pos}
use Rattle.at_geom.specs.declared.rectangles.Extent.{Extent}
use Rattle.at_geom.specs.declared.shapes.Polygon.{Polygon}
use Rattle.at_geom.specs.Regions.{sum_of, shoelace, wrapped_ring_size, wrapped_area, wrapped_area_of_rings}
use Rattle.at_geom.specs.Shapes.{widened, joined, positions_of_polygons}
use Rattle.at_geom.proofs.Shoelace.{term, shoelace-cons}
use Rattle.at_geom.proofs.Covering.{extent_of_parts}
use Rattle.at_geom.specs.Shapes.{of_points, of_lines, of_polygons}
use Rattle.at_query.specs.declared.query.queries.Query.{Query}
use Rattle.at_query.specs.declared.query.queries.Verb.{Verb}
use Rattle.at_query.specs.declared.query.queries.Verb.TheVariants as verbs
use Rattle.at_query.specs.Parts.{wrapped_sum}
use Rattle.at_query.specs.declared.query.looks.Measure.{Measure}
use Rattle.at_query.specs.declared.query.looks.Measure.TheVariants as measures
use Rattle.at_query.specs.declared.answer.tallies.Tally.{Tally}
use Rattle.at_query.specs.Keeping.{kept, needs_shapes, tells_shapes, looks_at_shapes, measured_by, measure_of}
use Rattle.at_query.specs.Tallies.{tally_of, widened_by, SumsUp, TalliesPath, TalliesLists, TalliesAreas, TalliesShape}

-- ---- sums

sum_of-last : (xs : List ℤ) (x : ℤ) → sum_of (xs ++ x ∷ []) ≡ sum_of xs +ℤ x
sum_of-last xs x = fold-append ◌+ℤ◌ (pos 0) xs (x ∷ [])

wrapped_again : (z : ℤ) → int_wrap w128 (int_wrap w128 z) ≡ int_wrap w128 z
wrapped_again z = int_wrap_fits w128 (int_wrap w128 z) (SFits-int_wrap w128 z)

no_area : wrapped_sum [] ≡ pos 0
no_area = let f : FitsSigned w128 (pos 0) = fits_signed_from_abs w128 (pos 0) (omega arith) in int_wrap_fits w128 (pos 0) f

-- ---- tallies

same_tally : (measure : Measure) (e k : Option Extent) (a b : ℤ) → e ≡ k → a ≡ b → tally_of measure e a ≡ tally_of measure k b
same_tally measure e k a b f g = ap (λ z. tally_of measure z a) f ∙ ap (tally_of measure k) g

by_parts : (t : Tally) (e : Option Extent) (a : ℤ) → t.extent ≡ e → t.area ≡ a → t ≡ record { extent = e; area = a }
by_parts t e a f g = ap (λ z. record { extent = z; area = t.area }) f ∙ ap (λ z. record { extent = e; area = z }) g

-- the extent of the second, and of both areas what is told of none where there are none
both_told : (op : ℤ → ℤ → ℤ) → op (pos 0) (pos 0) ≡ pos 0 → (measure : Measure) (widen : Option Extent → Option Extent) (e k : Option Extent) (a b c : ℤ) (t more u : Tally) → u.extent ≡ more.extent → u.area ≡ op t.area more.area
    → t ≡ tally_of measure e a → more ≡ tally_of measure (widen t.extent) b → widen e ≡ k → op a b ≡ c → u ≡ tally_of measure k c
both_told op none measure widen e k a b c t more u f g et em ee ea =
    by_parts u _ _ (f ∙ ap (λ (z : Tally). z.extent) em) (g ∙ ap (λ (z : Tally). op t.area z.area) em)
    ∙ (ap (λ (z : Tally). record { extent = (tally_of measure (widen z.extent) b).extent; area = op z.area (tally_of measure (widen z.extent) b).area }) et ∙ go measure) where
      go : (m : Measure) → record { extent = (tally_of m (widen (tally_of m e a).extent) b).extent; area = op (tally_of m e a).area (tally_of m (widen (tally_of m e a).extent) b).area } ≡ tally_of m k c
      go measures.Count = ap (λ z. record { extent = None; area = z }) none
      go measures.Extent = ap (λ z. record { extent = widen e; area = z }) none ∙ ap (λ z. record { extent = z; area = pos 0 }) ee
      go measures.Area = ap (λ z. record { extent = None; area = z }) ea

-- ---- the positions of a list

-- the edge to one more position
shoelace_last : (front : List Pos) (a b : Pos) → shoelace ((front ++ a ∷ []) ++ b ∷ []) ≡ shoelace (front ++ a ∷ []) +ℤ term a b
shoelace_last [] a b = shoelace-cons a b [] ∙ omega (arith, ints)
shoelace_last (c ∷ []) a b = let e = shoelace-cons c a (b ∷ []) in let f = shoelace_last [] a b in let g = shoelace-cons c a [] in omega (arith, ints, e, f, g)
shoelace_last (c ∷ d ∷ front) a b =
    let e = shoelace-cons c d ((front ++ a ∷ []) ++ b ∷ []) in
    let f = shoelace_last (d ∷ front) a b in
    let g = shoelace-cons c d (front ++ a ∷ []) in
    omega (arith, ints, e, f, g)

-- one more position
pub extent_more : (before : Option Extent) (path : List Pos) (p : Pos) (t u : Tally) → u.extent ≡ Some (widened p t.extent) → u.area ≡ pos 0 → SumsUp measures.Extent before path t → SumsUp measures.Extent before (path ++ p ∷ []) u
extent_more before path p t u e f h =
    by_parts u _ _ (e ∙ (ap (λ (z : Tally). Some (widened p z.extent)) h ∙ sym (fold-append (λ e p. Some (widened p e)) before path (p ∷ [])))) f

pub area_more : (before : Option Extent) (front : List Pos) (last p : Pos) (t u : Tally) → u.extent ≡ None → u.area ≡ int_wrap w128 (t.area +ℤ term last p) → SumsUp measures.Area before (front ++ last ∷ []) t → SumsUp measures.Area before ((front ++ last ∷ []) ++ p ∷ []) u
area_more before front last p t u e f h =
    by_parts u _ _ e
    (f ∙ (ap (λ (z : Tally). int_wrap w128 (z.area +ℤ term last p)) h ∙ (int_wrap-add_left w128 (shoelace (front ++ last ∷ [])) (term last p) ∙ ap (int_wrap w128) (sym (shoelace_last front last p)))))

-- a whole list
pub ring_told : (measure : Measure) (before : Option Extent) (path : List Pos) (t u : Tally) → u.extent ≡ t.extent → u.area ≡ int_wrap w128 (pos (nat_abs t.area)) → SumsUp measure before path t → TalliesPath measure before path u
ring_told measures.Area before path t u e f h = by_parts u _ _ (e ∙ ap (λ (z : Tally). z.extent) h) (f ∙ ap (λ (z : Tally). int_wrap w128 (pos (nat_abs z.area))) h)
ring_told _ before path t u e f h = by_parts u _ _ (e ∙ ap (λ (z : Tally). z.extent) h) (f ∙ (ap (λ (z : Tally). int_wrap w128 (pos (nat_abs z.area))) h ∙ no_area))

-- ---- lists of positions

joined_last : (paths : List (List Pos)) (path : List Pos) → joined (paths ++ path ∷ []) ≡ joined paths ++ path
joined_last paths path = flat_map-append (λ (p : List Pos). p) paths (path ∷ []) ∙ ap (λ z. joined paths ++ z) (append-nil path)

-- round the positions of two lists
both_widened : (before : Option Extent) (front back whole : List Pos) → whole ≡ front ++ back → widened_by (widened_by before front) back ≡ widened_by before whole
both_widened before front back whole e = sym (fold-append (λ e p. Some (widened p e)) before front back) ∙ ap (widened_by before) (sym e)

pub hole_told : (measure : Measure) (before : Option Extent) (paths : List (List Pos)) (path : List Pos) (t hole u : Tally) → u.extent ≡ hole.extent → u.area ≡ int_wrap w128 (t.area -ℤ hole.area) → TalliesLists measure before paths t → TalliesPath measure t.extent path hole
    → TalliesLists measure before (paths ++ path ∷ []) u
hole_told measure before [] path t hole u e f h k = absurd h
hole_told measure before (a ∷ rest) path t hole u e f h k =
    let x = wrapped_ring_size a -ℤ sum_of (map wrapped_ring_size rest) in
    let s = ap sum_of (map-append wrapped_ring_size rest (path ∷ [])) ∙ sum_of-last (map wrapped_ring_size rest) (wrapped_ring_size path) in
    both_told (λ p q. int_wrap w128 (p -ℤ q)) no_area measure (λ z. widened_by z path) (widened_by before (joined (a ∷ rest))) _ (int_wrap w128 x) (wrapped_ring_size path) _ t hole u e f h k
    (both_widened before (joined (a ∷ rest)) path _ (joined_last (a ∷ rest) path))
    (int_wrap-add_left w128 x (neg_ℤ (wrapped_ring_size path)) ∙ ap (int_wrap w128) (omega (arith, ints, s)))

pub list_told : (measure : Measure) (before : Option Extent) (path : List Pos) (t : Tally) → TalliesPath measure before path t → TalliesLists measure before (path ∷ []) t
list_told measure before path t h =
    let x = pos (nat_abs (int_wrap w128 (shoelace path))) in
    h ∙ same_tally measure _ _ _ _ (ap (widened_by before) (sym (append-nil path))) (sym (wrapped_again x) ∙ ap (int_wrap w128) (omega (arith, ints)))

-- ---- polygons

wrapped_area_again : (rings : List (List Pos)) → int_wrap w128 (wrapped_area_of_rings rings) ≡ wrapped_area_of_rings rings
wrapped_area_again [] = no_area
wrapped_area_again (a ∷ rest) = wrapped_again (wrapped_ring_size a -ℤ sum_of (map wrapped_ring_size rest))

polygons_last : (polygons : List Polygon) (more : Polygon) → positions_of_polygons (polygons ++ more ∷ []) ≡ positions_of_polygons polygons ++ joined more.rings
polygons_last polygons more = flat_map-append (λ (p : Polygon). joined p.rings) polygons (more ∷ []) ∙ ap (λ z. positions_of_polygons polygons ++ z) (append-nil (joined more.rings))

lists_told : (measure : Measure) (before : Option Extent) (rings : List (List Pos)) (t : Tally) → TalliesLists measure before rings t → t ≡ tally_of measure (widened_by before (joined rings)) (wrapped_area_of_rings rings)
lists_told measure before [] t h = absurd h
lists_told measure before (a ∷ rest) t h = h

pub polygon_told : (measure : Measure) (before : Option Extent) (polygons : List Polygon) (more : Polygon) (t polygon u : Tally) → u.extent ≡ polygon.extent → u.area ≡ int_wrap w128 (t.area +ℤ polygon.area) → TalliesAreas measure before polygons t
    → TalliesLists measure t.extent more.rings polygon → TalliesAreas measure before (polygons ++ more ∷ []) u
polygon_told measure before polygons more t polygon u e f h k =
    let s = ap sum_of (map-append wrapped_area polygons (more ∷ [])) ∙ sum_of-last (map wrapped_area polygons) (wrapped_area more) in
    both_told (λ p q. int_wrap w128 (p +ℤ q)) no_area measure (λ z. widened_by z (joined more.rings)) (widened_by before (positions_of_polygons polygons)) _ (wrapped_sum polygons) (wrapped_area more) _ t polygon u e f h
    (lists_told measure t.extent more.rings polygon k)
    (both_widened before (positions_of_polygons polygons) (joined more.rings) _ (polygons_last polygons more))
    (int_wrap-add_left w128 (sum_of (map wrapped_area polygons)) (wrapped_area more) ∙ ap (int_wrap w128) (sym s))

pub area_told : (measure : Measure) (before : Option Extent) (rings : List (List Pos)) (t : Tally) → TalliesLists measure before rings t → TalliesAreas measure before (record { rings = rings } ∷ []) t
area_told measure before rings t h = lists_told measure before rings t h
    ∙ same_tally measure _ _ _ _ (ap (widened_by before) (sym (append-nil (joined rings)))) (sym (wrapped_area_again rings) ∙ ap (int_wrap w128) (omega (arith, ints)))

-- ---- what is asked

-- whether values of positions are asked for
abbrev pub asks_values : Measure → Bool
asks_values measures.Count = false
asks_values _ = true

verb_needs : (verb : Verb) (measure : Measure) → measured_by verb ≡ Some measure → tells_shapes verb ≡ asks_values measure
verb_needs verbs.Area measure e = ap asks_values (same_Some measures.Area measure e)
verb_needs verbs.Extent measure e = ap asks_values (same_Some measures.Extent measure e)
verb_needs verbs.Hull measure e = absurd (cc)
verb_needs verbs.Join measure e = absurd (cc)
verb_needs _ measure e = ap asks_values (same_Some measures.Count measure e)

-- a query that measures shapes has no test that looks at them
pub none_looks : (query : Query) (measure : Measure) → measure_of query ≡ Some measure → (list_any looks_at_shapes query.tests ≡ false) × (measured_by query.verb ≡ Some measure)
none_looks query measure e = go (list_any looks_at_shapes query.tests) refl e where
  go : (b : Bool) → list_any looks_at_shapes query.tests ≡ b → (if b then None else measured_by query.verb) ≡ Some measure → (list_any looks_at_shapes query.tests ≡ false) × (measured_by query.verb ≡ Some measure)
  go true f h = absurd (cc)
  go false f h = (f, h)

-- shapes are kept where values are asked for
pub needs_are : (query : Query) (measure : Measure) → measure_of query ≡ Some measure → needs_shapes query ≡ asks_values measure
needs_are query measure e =
    let k = none_looks query measure e in
    ap (λ z. tells_shapes query.verb || z) k.0 ∙ (or-false (tells_shapes query.verb) ∙ verb_needs query.verb measure k.1)

-- ---- shapes

abbrev flat : Tally → Tally
flat t = record { extent = t.extent; area = pos 0 }

-- without polygons
no_size : (measure : Measure) (e : Option Extent) → tally_of measure e (pos 0) ≡ tally_of measure e (wrapped_sum [])
no_size measure e = ap (tally_of measure e) (sym no_area)

points_told : (measure : Measure) (path : List Pos) (t : Tally) → SumsUp measure None path t → TalliesShape measure (of_points (kept (asks_values measure) path)) (flat t)
points_told measures.Count path t h = ap flat h
points_told measures.Extent path t h = ap flat h ∙ ap (λ z. record { extent = z; area = pos 0 }) (extent_of_parts path [] [])
points_told measures.Area path t h = ap flat h ∙ no_size measures.Area None

lines_told : (measure : Measure) (paths : List (List Pos)) (t : Tally) → TalliesLists measure None paths t → TalliesShape measure (of_lines (kept (asks_values measure) paths)) (flat t)
lines_told measures.Count paths t h = ap flat (lists_told measures.Count None paths t h)
lines_told measures.Extent paths t h = ap flat (lists_told measures.Extent None paths t h) ∙ ap (λ z. record { extent = z; area = pos 0 }) (extent_of_parts [] (joined paths) [])
lines_told measures.Area paths t h = ap flat (lists_told measures.Area None paths t h) ∙ no_size measures.Area None

areas_told : (measure : Measure) (polygons : List Polygon) (t : Tally) → TalliesAreas measure None polygons t → TalliesShape measure (of_polygons (kept (asks_values measure) polygons)) t
areas_told measures.Extent polygons t h = h ∙ ap (λ z. record { extent = z; area = pos 0 }) (extent_of_parts [] [] (positions_of_polygons polygons))
areas_told _ polygons t h = h

module _ (query : Query) (measure : Measure) (e : measure_of query ≡ Some measure) where
  pub points_shape_told : (path : List Pos) (t u : Tally) → u ≡ flat t → SumsUp measure None path t → TalliesShape measure (of_points (kept (needs_shapes query) path)) u
  points_shape_told path t u eu h = eu ∙ subst (λ b. TalliesShape measure (of_points (kept b path)) (flat t)) (sym (needs_are query measure e)) (points_told measure path t h)

  pub lines_shape_told : (paths : List (List Pos)) (t u : Tally) → u ≡ flat t → TalliesLists measure None paths t → TalliesShape measure (of_lines (kept (needs_shapes query) paths)) u
  lines_shape_told paths t u eu h = eu ∙ subst (λ b. TalliesShape measure (of_lines (kept b paths)) (flat t)) (sym (needs_are query measure e)) (lines_told measure paths t h)

  pub areas_shape_told : (polygons : List Polygon) (t : Tally) → TalliesAreas measure None polygons t → TalliesShape measure (of_polygons (kept (needs_shapes query) polygons)) t
  areas_shape_told polygons t h = subst (λ b. TalliesShape measure (of_polygons (kept b polygons)) t) (sym (needs_are query measure e)) (areas_told measure polygons t h)
