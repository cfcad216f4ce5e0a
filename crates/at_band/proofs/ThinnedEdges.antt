-- A thinned path has the same edges that reach into the heights: two kept edges that don't follow one another are
-- joined by an edge beside the heights, since the path doesn't pass them between the two.
-- For `copy`, `meets` and `new`.
use Rattle.std.proofs.Common.{◌≡◌, ℤ, ◌≤ℤ◌, ◌<ℤ◌, ◌⊎◌, inl, inr, Bool, true, false, List, [], ◌∷◌, ◌++◌, arith, refl, sym, ap, subst, ◌∙◌}
use Rattle.std.specs.Prelude.{int_le, flat_map}
use Rattle.std.specs.Int.{int_min, int_max}
use Rattle.std.specs.List.{filter}
use Rattle.std.proofs.lemmas.Int.{ints, clamps, by_lt_z}
use Rattle.std.proofs.lemmas.Bool.{false≢true, and_left, and_right, cond_both}
use Rattle.std.proofs.lemmas.List.Elements.{filter-append}
use Rattle.at_geom.specs.declared.positions.Pos.{Pos}
use Rattle.at_geom.specs.declared.shapes.Polygon.{Polygon}
use Rattle.at_geom.specs.declared.shapes.Shape.{Shape}
use Rattle.at_geom.specs.Segments.{edges}
use Rattle.at_geom.specs.Shapes.{segments, segments_of_points, segments_of_polygons}
use Rattle.at_geom.proofs.Comparisons.{le_true, le_false}
use Rattle.at_geom.proofs.Found.{both_true}
use Rattle.at_band.specs.Thinned.{spans, edge_ends, thinned_from, thinned, thinned_points, path_if_some, thinned_paths, polygon_if_some, thinned_rings, thinned_polygons, thinned_shape}
use Rattle.at_band.proofs.Filtered.{drop_head, same_head}

-- both lie above the heights, or both below
abbrev pub AreBeside : ℤ → ℤ → Pos → Pos → Type 0
AreBeside low high a b = ((high <ℤ a.y) × (high <ℤ b.y)) ⊎ ((a.y <ℤ low) × (b.y <ℤ low))

pub beside_out : (low high : ℤ) (a b : Pos) → AreBeside low high a b → spans low high (a, b) ≡ false
beside_out low high a b (inl h) = and_left (int_le (int_min a.y b.y) high) (int_le low (int_max a.y b.y)) (le_false (int_min a.y b.y) high (omega (arith, ints, clamps, h.0, h.1)))
beside_out low high a b (inr h) = and_right (int_le (int_min a.y b.y) high) (int_le low (int_max a.y b.y)) (le_false low (int_max a.y b.y) (omega (arith, ints, clamps, h.0, h.1)))

pub spans_true : (low high : ℤ) (a b : Pos) → int_min a.y b.y ≤ℤ high → low ≤ℤ int_max a.y b.y → spans low high (a, b) ≡ true
spans_true low high a b h k = both_true (int_le (int_min a.y b.y) high) (int_le low (int_max a.y b.y)) (le_true (int_min a.y b.y) high h) (le_true low (int_max a.y b.y) k)

pub out_beside : (low high : ℤ) (a b : Pos) → spans low high (a, b) ≡ false → AreBeside low high a b
out_beside low high a b e =
    by_lt_z high (int_min a.y b.y)
    (λ h. inl (omega (arith, ints, clamps), omega (arith, ints, clamps)))
    (λ h. by_lt_z (int_max a.y b.y) low
    (λ k. inr (omega (arith, ints, clamps), omega (arith, ints, clamps)))
    (λ k. absurd (false≢true (sym e ∙ spans_true low high a b h k))))

beside_on : (low high : ℤ) (l a b : Pos) → low ≤ℤ high → AreBeside low high l a → AreBeside low high a b → AreBeside low high l b
beside_on low high l a b o (inl h) (inl k) = inl (h.0, k.1)
beside_on low high l a b o (inl h) (inr k) = absurd (omega (arith, ints, h.1, k.0))
beside_on low high l a b o (inr h) (inl k) = absurd (omega (arith, ints, h.1, k.0))
beside_on low high l a b o (inr h) (inr k) = inr (h.0, k.1)

-- what is known of the last position that was kept, at the position a of the path
abbrev pub Follows : ℤ → ℤ → Bool → Pos → Pos → Type 0
Follows low high true l a = l ≡ a
Follows low high false l a = AreBeside low high l a

follows_out : (low high : ℤ) (j : Bool) (l a b : Pos) → low ≤ℤ high → Follows low high j l a → AreBeside low high a b → AreBeside low high l b
follows_out low high true l a b o k h = subst (λ z. AreBeside low high z b) (sym k) h
follows_out low high false l a b o k h = beside_on low high l a b o k h

abbrev pub SameFrom : ℤ → ℤ → Pos → List Pos → Type 0
SameFrom low high a rest = (j : Bool) (l : Pos) → Follows low high j l a → filter (spans low high) (edges (l ∷ thinned_from low high j a rest)) ≡ filter (spans low high) (edges (a ∷ rest))

one_on : (low high : ℤ) (a b : Pos) (rest : List Pos) (s j : Bool) (l : Pos) → low ≤ℤ high → spans low high (a, b) ≡ s → Follows low high j l a → SameFrom low high b rest
    → filter (spans low high) (edges (l ∷ (edge_ends s j a b ++ thinned_from low high s b rest))) ≡ filter (spans low high) (edges (a ∷ b ∷ rest))
one_on low high a b rest true true l o e k f =
    subst (λ z. filter (spans low high) (edges (z ∷ b ∷ thinned_from low high true b rest)) ≡ filter (spans low high) (edges (a ∷ b ∷ rest))) (sym k)
    (same_head (spans low high) (a, b) (edges (b ∷ thinned_from low high true b rest)) (edges (b ∷ rest)) (f true b refl))
one_on low high a b rest true false l o e k f =
    drop_head (spans low high) (l, a) (edges (a ∷ b ∷ thinned_from low high true b rest)) (beside_out low high l a k)
    ∙ same_head (spans low high) (a, b) (edges (b ∷ thinned_from low high true b rest)) (edges (b ∷ rest)) (f true b refl)
one_on low high a b rest false j l o e k f =
    f false l (follows_out low high j l a b o k (out_beside low high a b e)) ∙ sym (drop_head (spans low high) (a, b) (edges (b ∷ rest)) e)

same_from : (low high : ℤ) → low ≤ℤ high → (a : Pos) (rest : List Pos) → SameFrom low high a rest
same_from low high o a [] j l k = refl
same_from low high o a (b ∷ rest) j l k = one_on low high a b rest (spans low high (a, b)) j l o refl k (same_from low high o b rest)

first_on : (low high : ℤ) (a b : Pos) (rest : List Pos) (s : Bool) → spans low high (a, b) ≡ s → SameFrom low high b rest
    → filter (spans low high) (edges (thinned_from low high false b rest)) ≡ filter (spans low high) (edges (b ∷ rest))
    → filter (spans low high) (edges (edge_ends s false a b ++ thinned_from low high s b rest)) ≡ filter (spans low high) (edges (a ∷ b ∷ rest))
first_on low high a b rest true e f g = same_head (spans low high) (a, b) (edges (b ∷ thinned_from low high true b rest)) (edges (b ∷ rest)) (f true b refl)
first_on low high a b rest false e f g = g ∙ sym (drop_head (spans low high) (a, b) (edges (b ∷ rest)) e)

first_from : (low high : ℤ) → low ≤ℤ high → (a : Pos) (rest : List Pos) → filter (spans low high) (edges (thinned_from low high false a rest)) ≡ filter (spans low high) (edges (a ∷ rest))
first_from low high o a [] = refl
first_from low high o a (b ∷ rest) = first_on low high a b rest (spans low high (a, b)) refl (same_from low high o b rest) (first_from low high o b rest)

pub thinned_edges : (low high : ℤ) → low ≤ℤ high → (path : List Pos) → filter (spans low high) (edges (thinned low high path)) ≡ filter (spans low high) (edges path)
thinned_edges low high o [] = refl
thinned_edges low high o (a ∷ rest) = first_from low high o a rest

-- ---- lists of paths, polygons, shapes

some_path : (path : List Pos) (rest : List (List Pos)) → flat_map edges (path_if_some path ++ rest) ≡ edges path ++ flat_map edges rest
some_path [] rest = refl
some_path (p ∷ ps) rest = refl

two_parts : (t : Pos × Pos → Bool) (xs ys us vs : List (Pos × Pos)) → filter t xs ≡ filter t us → filter t ys ≡ filter t vs → filter t (xs ++ ys) ≡ filter t (us ++ vs)
two_parts t xs ys us vs e f = filter-append t xs ys ∙ (ap (λ z. z ++ filter t ys) e ∙ (ap (λ z. filter t us ++ z) f ∙ sym (filter-append t us vs)))

thinned_paths_edges : (low high : ℤ) → low ≤ℤ high → (paths : List (List Pos)) → filter (spans low high) (flat_map edges (thinned_paths low high paths)) ≡ filter (spans low high) (flat_map edges paths)
thinned_paths_edges low high o [] = refl
thinned_paths_edges low high o (path ∷ paths) =
    ap (filter (spans low high)) (some_path (thinned low high path) (thinned_paths low high paths))
    ∙ two_parts (spans low high) (edges (thinned low high path)) (flat_map edges (thinned_paths low high paths)) (edges path) (flat_map edges paths) (thinned_edges low high o path) (thinned_paths_edges low high o paths)

some_polygon : (exterior : List Pos) (holes : List (List Pos)) (rest : List Polygon) → segments_of_polygons (polygon_if_some exterior holes ++ rest) ≡ (edges exterior ++ flat_map edges holes) ++ segments_of_polygons rest
some_polygon [] (hole ∷ holes) rest = refl
some_polygon _ _ rest = refl

rings_edges : (low high : ℤ) → low ≤ℤ high → (rings : List (List Pos)) (rest others : List Polygon) → filter (spans low high) (segments_of_polygons rest) ≡ filter (spans low high) (segments_of_polygons others)
    → filter (spans low high) (segments_of_polygons (thinned_rings low high rings ++ rest)) ≡ filter (spans low high) (flat_map edges rings ++ segments_of_polygons others)
rings_edges low high o [] rest others e = e
rings_edges low high o (exterior ∷ holes) rest others e =
    ap (filter (spans low high)) (some_polygon (thinned low high exterior) (thinned_paths low high holes) rest)
    ∙ two_parts (spans low high) (edges (thinned low high exterior) ++ flat_map edges (thinned_paths low high holes)) (segments_of_polygons rest) (edges exterior ++ flat_map edges holes) (segments_of_polygons others)
    (two_parts (spans low high) (edges (thinned low high exterior)) (flat_map edges (thinned_paths low high holes)) (edges exterior) (flat_map edges holes) (thinned_edges low high o exterior) (thinned_paths_edges low high o holes)) e

thinned_polygons_edges : (low high : ℤ) → low ≤ℤ high → (polygons : List Polygon) → filter (spans low high) (segments_of_polygons (thinned_polygons low high polygons)) ≡ filter (spans low high) (segments_of_polygons polygons)
thinned_polygons_edges low high o [] = refl
thinned_polygons_edges low high o (polygon ∷ polygons) = rings_edges low high o polygon.rings (thinned_polygons low high polygons) polygons (thinned_polygons_edges low high o polygons)

thinned_points_edges : (low high : ℤ) (points : List Pos) → filter (spans low high) (segments_of_points (thinned_points low high points)) ≡ filter (spans low high) (segments_of_points points)
thinned_points_edges low high [] = refl
thinned_points_edges low high (p ∷ ps) =
    cond_both (spans low high (p, p)) (p ∷ thinned_points low high ps) (thinned_points low high ps) (λ (zs : List Pos). filter (spans low high) (segments_of_points zs) ≡ filter (spans low high) (segments_of_points (p ∷ ps)))
    (λ _. same_head (spans low high) (p, p) (segments_of_points (thinned_points low high ps)) (segments_of_points ps) (thinned_points_edges low high ps))
    (λ e. thinned_points_edges low high ps ∙ sym (drop_head (spans low high) (p, p) (segments_of_points ps) e))

-- the segments that reach into the heights are those of the thinned shape that do
pub thinned_segments : (low high : ℤ) → low ≤ℤ high → (s : Shape) → filter (spans low high) (segments (thinned_shape low high s)) ≡ filter (spans low high) (segments s)
thinned_segments low high o s =
    two_parts (spans low high) (segments_of_points (thinned_points low high s.points) ++ flat_map edges (thinned_paths low high s.lines)) (segments_of_polygons (thinned_polygons low high s.polygons)) (segments_of_points s.points ++ flat_map edges s.lines) (segments_of_polygons s.polygons)
    (two_parts (spans low high) (segments_of_points (thinned_points low high s.points)) (flat_map edges (thinned_paths low high s.lines)) (segments_of_points s.points) (flat_map edges s.lines) (thinned_points_edges low high s.points) (thinned_paths_edges low high o s.lines))
    (thinned_polygons_edges low high o s.polygons)
