-- Positions that lie on a shape, by its parts, and by what is kept of it for a band.
-- For `meets`.
use Rattle.std.proofs.Common.{◌≡◌, ◌⊎◌, inl, inr, not, Some, List, [], ◌∷◌, ◌++◌, sym, subst, ◌∙◌}
use Rattle.std.specs.Prelude.{IsTrue, flat_map}
use Rattle.std.specs.List.{filter, AllByRecursion}
use Rattle.std.proofs.lemmas.Bool.{false≢true, not-true}
use Rattle.std.proofs.lemmas.List.{append-nil}
use Rattle.at_text.specs.Lists.{SomeOf}
use Rattle.at_geom.specs.declared.positions.Pos.{Pos}
use Rattle.at_geom.specs.declared.shapes.Polygon.{Polygon}
use Rattle.at_geom.specs.declared.shapes.Shape.{Shape}
use Rattle.at_geom.specs.Segments.{HaveCommonPoint, edges}
use Rattle.at_geom.specs.declared.rectangles.Extent.{Extent}
use Rattle.at_geom.specs.Regions.{IsOnRing, is_odd_for, IsNotInHole, IsInRings}
use Rattle.at_geom.proofs.Found.{TouchesBox, touches}
use Rattle.at_geom.specs.Shapes.{extent_of, MeetsSome, SomeMeet, IsInSome, SomeIsIn, Meet, segments, segments_of_points, segments_of_polygons, positions, joined, positions_of_polygons}
use Rattle.at_geom.proofs.Elements.{some_one, some_left, some_right, some_of_parts, first_of_three, second_of_three, third_of_three, only_third}
use Rattle.at_band.specs.declared.zones.Band.{Band}
use Rattle.at_band.specs.Thinned.{spans}
use Rattle.at_band.specs.Banded.{IsAt, IsBandOf, IsOfPoints}
use Rattle.at_band.specs.Touched.{IsOnRings, IsOnPolygon, IsOnShape, SomeIsOn}
use Rattle.at_band.proofs.Filtered.{same_some}
use Rattle.at_band.proofs.ThinnedRegions.{on_spans}
use Rattle.at_band.proofs.BandsOf.{some_map, some_by}

abbrev Touching : Pos → Pos × Pos → Type 0
Touching p f = HaveCommonPoint p p f.0 f.1

-- ---- the edges of paths

some_flat : (P : Pos × Pos → Type 0) (paths : List (List Pos)) → SomeOf (λ path. SomeOf P (edges path)) paths → SomeOf P (flat_map edges paths)
some_flat P [] h = absurd h
some_flat P (path ∷ paths) (inl h) = some_left P (edges path) (flat_map edges paths) h
some_flat P (path ∷ paths) (inr h) = some_right P (edges path) (flat_map edges paths) (some_flat P paths h)

flat_some : (P : Pos × Pos → Type 0) (paths : List (List Pos)) → SomeOf P (flat_map edges paths) → SomeOf (λ path. SomeOf P (edges path)) paths
flat_some P [] h = absurd h
flat_some P (path ∷ paths) h = elim (some_of_parts P (edges path) (flat_map edges paths) h) [ inl k ↦ inl k | inr k ↦ inr (flat_some P paths k) ]

-- ---- polygons

on_polygons : (p : Pos) (polygons : List Polygon) → SomeOf (IsOnPolygon p) polygons → MeetsSome p p (segments_of_polygons polygons) ⊎ IsInSome p polygons
on_polygons p [] h = absurd h
on_polygons p (polygon ∷ polygons) (inl (inl h)) = inl (some_left (Touching p) (flat_map edges polygon.rings) (segments_of_polygons polygons) h)
on_polygons p (polygon ∷ polygons) (inl (inr h)) = inr (inl h)
on_polygons p (polygon ∷ polygons) (inr h) =
    elim (on_polygons p polygons h) [
      | inl k ↦ inl (some_right (Touching p) (flat_map edges polygon.rings) (segments_of_polygons polygons) k)
      | inr k ↦ inr (inr k)
    ]

met_polygon : (p : Pos) (polygons : List Polygon) → MeetsSome p p (segments_of_polygons polygons) → SomeOf (IsOnPolygon p) polygons
met_polygon p [] h = absurd h
met_polygon p (polygon ∷ polygons) h =
    elim (some_of_parts (Touching p) (flat_map edges polygon.rings) (segments_of_polygons polygons) h) [
      | inl k ↦ inl (inl k)
      | inr k ↦ inr (met_polygon p polygons k)
    ]

-- ---- a shape

pub on_by_points : (p : Pos) (s : Shape) → MeetsSome p p (segments_of_points s.points) → IsOnShape p s
on_by_points p s h = inl (first_of_three (Touching p) (segments_of_points s.points) (flat_map edges s.lines) (segments_of_polygons s.polygons) h)

pub on_by_lines : (p : Pos) (s : Shape) → SomeOf (IsOnRing p) s.lines → IsOnShape p s
on_by_lines p s h = inl (second_of_three (Touching p) (segments_of_points s.points) (flat_map edges s.lines) (segments_of_polygons s.polygons) (some_flat (Touching p) s.lines h))

pub on_by_polygons : (p : Pos) (s : Shape) → SomeOf (IsOnPolygon p) s.polygons → IsOnShape p s
on_by_polygons p s h =
    elim (on_polygons p s.polygons h) [
      | inl k ↦ inl (third_of_three (Touching p) (segments_of_points s.points) (flat_map edges s.lines) (segments_of_polygons s.polygons) k)
      | inr k ↦ inr k
    ]

pub by_parts : (p : Pos) (s : Shape) → ¬ MeetsSome p p (segments_of_points s.points) → ¬ SomeOf (IsOnRing p) s.lines → IsOnShape p s → SomeOf (IsOnPolygon p) s.polygons
by_parts p s f g (inr h) = some_map (λ (polygon : Polygon). IsInRings p polygon.rings) (IsOnPolygon p) (λ polygon k. inr k) s.polygons h
by_parts p s f g (inl h) = met_polygon p s.polygons (only_third (Touching p) (segments_of_points s.points) (flat_map edges s.lines) (segments_of_polygons s.polygons) f (λ k. g (flat_some (Touching p) s.lines k)) h)

-- ---- a band

-- a shape with the same segments that reach into the band
on_same : (band : Band) (p : Pos) → IsAt p.y band.heights → (s u : Shape) → filter (spans band.heights.low band.heights.high) (segments s) ≡ filter (spans band.heights.low band.heights.high) (segments u)
    → MeetsSome p p (segments s) → MeetsSome p p (segments u)
on_same band p k s u e m =
    same_some (Touching p) (spans band.heights.low band.heights.high) (on_spans band.heights.low band.heights.high p (record { above = k.0; below = k.1 })) (segments s) (segments u) e m

pub on_band_part : (s : Shape) (band : Band) (p : Pos) → IsBandOf s band → IsAt p.y band.heights → IsOnShape p s → IsOnShape p band.part
on_band_part s band p h k (inr m) = inr (h.in_part p k m)
on_band_part s band p h k (inl m) = inl (on_same band p k s band.part (sym h.same_edges) m)

pub on_band_whole : (s : Shape) (band : Band) (p : Pos) → IsBandOf s band → IsAt p.y band.heights → IsOnShape p band.part → IsOnShape p s
on_band_whole s band p h k (inr m) = inr (h.in_whole p k m)
on_band_whole s band p h k (inl m) = inl (on_same band p k band.part s h.same_edges m)

-- ---- a shape of points

some_on_met : (ps : List Pos) (s : Shape) → SomeIsOn ps s → SomeMeet (segments_of_points ps) (segments s) ⊎ SomeIsIn ps s.polygons
some_on_met [] s h = absurd h
some_on_met (p ∷ ps) s (inl (inl h)) = inl (inl h)
some_on_met (p ∷ ps) s (inl (inr h)) = inr (inl h)
some_on_met (p ∷ ps) s (inr h) = elim (some_on_met ps s h) [ inl k ↦ inl (inr k) | inr k ↦ inr (inr k) ]

pub nothing_in_none : (ps : List Pos) → SomeIsIn ps [] → ⊥
nothing_in_none ps h = (some_one (λ (p : Pos). IsInSome p []) ps h).1

pub points_meet : (u s : Shape) → IsOfPoints u → SomeIsOn u.points s → Meet u s
points_meet u s e h =
    elim (some_on_met u.points s h) [
      | inl k ↦ inl (first_of_three (λ (f : Pos × Pos). MeetsSome f.0 f.1 (segments s)) (segments_of_points u.points) (flat_map edges u.lines) (segments_of_polygons u.polygons) k)
      | inr k ↦ inr (inl (first_of_three (λ (p : Pos). IsInSome p s.polygons) u.points (joined u.lines) (positions_of_polygons u.polygons) k))
    ]

only_first : {X : Type 0} (P : X → Type 0) (xs : List X) → SomeOf P ((xs ++ []) ++ []) → SomeOf P xs
only_first P xs h = subst (SomeOf P) (append-nil (xs ++ []) ∙ append-nil xs) h

segments_only : (u : Shape) (P : Pos × Pos → Type 0) → IsOfPoints u → SomeOf P (segments u) → SomeOf P (segments_of_points u.points)
segments_only u P e h =
    only_first P (segments_of_points u.points)
    (subst (λ (z : List Polygon). SomeOf P ((segments_of_points u.points ++ []) ++ segments_of_polygons z)) e.1
    (subst (λ (z : List (List Pos)). SomeOf P ((segments_of_points u.points ++ flat_map edges z) ++ segments_of_polygons u.polygons)) e.0 h))

positions_only : (u : Shape) (P : Pos → Type 0) → IsOfPoints u → SomeOf P (positions u) → SomeOf P u.points
positions_only u P e h =
    only_first P u.points
    (subst (λ (z : List Polygon). SomeOf P ((u.points ++ []) ++ positions_of_polygons z)) e.1
    (subst (λ (z : List (List Pos)). SomeOf P ((u.points ++ joined z) ++ positions_of_polygons u.polygons)) e.0 h))

pub meet_points : (u s : Shape) → IsOfPoints u → Meet u s → SomeIsOn u.points s
meet_points u s e (inl h) =
    some_map (λ (p : Pos). MeetsSome p p (segments s)) (λ (p : Pos). IsOnShape p s) (λ p k. inl k) u.points
    (some_by (λ (f : Pos × Pos). MeetsSome f.0 f.1 (segments s)) (λ (p : Pos). (p, p)) u.points (segments_only u (λ (f : Pos × Pos). MeetsSome f.0 f.1 (segments s)) e h))
meet_points u s e (inr (inl h)) =
    some_map (λ (p : Pos). IsInSome p s.polygons) (λ (p : Pos). IsOnShape p s) (λ p k. inr k) u.points (positions_only u (λ (p : Pos). IsInSome p s.polygons) e h)
meet_points u s e (inr (inr h)) = absurd (nothing_in_none (positions s) (subst (λ (z : List Polygon). SomeIsIn (positions s) z) e.1 h))

-- ---- rings

pub on_boundary : (p : Pos) (exterior : List Pos) (holes : List (List Pos)) → IsOnRing p exterior → IsOnRings p (exterior ∷ holes)
on_boundary p exterior holes h = inl (some_left (Touching p) (edges exterior) (flat_map edges holes) h)

pub on_holes : (p : Pos) (exterior : List Pos) (holes : List (List Pos)) → SomeOf (IsOnRing p) holes → IsOnRings p (exterior ∷ holes)
on_holes p exterior holes h = inl (some_right (Touching p) (edges exterior) (flat_map edges holes) (some_flat (Touching p) holes h))

pub inside_out : (p : Pos) (exterior : List Pos) (holes : List (List Pos)) → ¬ IsOnRing p exterior → ¬ SomeOf (IsOnRing p) holes → IsOnRings p (exterior ∷ holes) → AllByRecursion (IsNotInHole p) holes
inside_out p exterior holes f g (inr h) = h.1
inside_out p exterior holes f g (inl h) = elim (some_of_parts (Touching p) (edges exterior) (flat_map edges holes) h) [ inl k ↦ absurd (f k) | inr k ↦ absurd (g (flat_some (Touching p) holes k)) ]

pub outside_out : (p : Pos) (exterior : List Pos) (holes : List (List Pos)) → ¬ IsOnRing p exterior → IsTrue (not (is_odd_for p exterior)) → IsOnRings p (exterior ∷ holes) → SomeOf (IsOnRing p) holes
outside_out p exterior holes f g (inr (inl h, k)) = absurd (f h)
outside_out p exterior holes f g (inr (inr h, k)) = absurd (false≢true (sym (not-true (is_odd_for p exterior) g) ∙ h))
outside_out p exterior holes f g (inl h) = elim (some_of_parts (Touching p) (edges exterior) (flat_map edges holes) h) [ inl k ↦ absurd (f k) | inr k ↦ flat_some (Touching p) holes k ]

-- ---- a position off the box

pub only_in : (x : Extent) (p : Pos) (s : Shape) → extent_of (positions s) ≡ Some x → ¬ TouchesBox x p p → IsOnShape p s → IsInSome p s.polygons
only_in x p s e f (inl h) = absurd (f (touches x p p s e h))
only_in x p s e f (inr h) = h
