-- At a height, a position is in the same polygons of a shape and of what is kept of the shape for heights round it.
-- For `copy`, `meets` and `new`.
use Rattle.std.proofs.Common.{◌≡◌, ℤ, ◌≤ℤ◌, ◌⊎◌, inl, inr, Bool, true, not, List, [], ◌∷◌, ◌++◌, arith, refl, sym, ap, subst, ◌∙◌}
use Rattle.std.specs.Prelude.{IsTrue, ◌%◌, ◌==◌}
use Rattle.std.specs.List.{filter, AllByRecursion}
use Rattle.std.proofs.lemmas.Int.{ints, clamps}
use Rattle.std.proofs.lemmas.Bool.{false≢true, true_from_ne_false}
use Rattle.at_geom.specs.declared.positions.Pos.{Pos}
use Rattle.at_geom.specs.declared.shapes.Polygon.{Polygon}
use Rattle.at_geom.specs.Segments.{IsOn, edges}
use Rattle.at_geom.specs.Regions.{IsOnRing, is_crossed, is_odd_for, IsNotInHole, IsInRings}
use Rattle.at_geom.specs.Shapes.{IsInSome}
use Rattle.at_geom.proofs.CommonPoint.{Between, on_out}
use Rattle.at_geom.proofs.Crossings.{not_level}
use Rattle.at_band.specs.Thinned.{spans, thinned, path_if_some, thinned_paths, polygon_if_some, thinned_rings, thinned_polygons}
use Rattle.at_band.proofs.Filtered.{same_some, same_count}
use Rattle.at_band.proofs.ThinnedEdges.{AreBeside, spans_true, out_beside, thinned_edges}

-- the height of p is one of the heights
pub record IsLevel (low high : ℤ) (p : Pos) : Type 0 where
  pub above : low ≤ℤ p.y
  pub below : p.y ≤ℤ high

ordered : (low high : ℤ) (p : Pos) → IsLevel low high p → low ≤ℤ high
ordered low high p v = omega (arith, ints, v.above, v.below)

pub on_spans : (low high : ℤ) (p : Pos) → IsLevel low high p → (e : Pos × Pos) → IsOn p e.0 e.1 → spans low high e ≡ true
on_spans low high p v e h =
    let o = on_out p e.0 e.1 h in
    spans_true low high e.0 e.1 (omega (arith, ints, v.below, o.between_y.0)) (omega (arith, ints, v.above, o.between_y.1))

beside_not_between : (low high : ℤ) (p a b : Pos) → IsLevel low high p → AreBeside low high a b → ¬ Between a.y b.y p.y
beside_not_between low high p a b v (inl h) t = omega (arith, ints, clamps, v.below, t.0, h.0, h.1)
beside_not_between low high p a b v (inr h) t = omega (arith, ints, clamps, v.above, t.1, h.0, h.1)

crossed_spans : (low high : ℤ) (p : Pos) → IsLevel low high p → (e : Pos × Pos) → is_crossed p e ≡ true → spans low high e ≡ true
crossed_spans low high p v (a, b) h =
    true_from_ne_false (spans low high (a, b)) (λ f. false≢true (sym (not_level p a b (beside_not_between low high p a b v (out_beside low high a b f))).1 ∙ h))

-- ---- rings

-- what is told by the edges or the crossings, of two rings with the same edges that reach into the heights
same_ring : (low high : ℤ) (p : Pos) → IsLevel low high p → (f : Bool → Bool) (ring other : List Pos) → filter (spans low high) (edges ring) ≡ filter (spans low high) (edges other)
    → IsOnRing p ring ⊎ IsTrue (f (is_odd_for p ring)) → IsOnRing p other ⊎ IsTrue (f (is_odd_for p other))
same_ring low high p v f ring other e (inl h) = inl (same_some (λ (d : Pos × Pos). IsOn p d.0 d.1) (spans low high) (on_spans low high p v) (edges ring) (edges other) e h)
same_ring low high p v f ring other e (inr h) =
    inr (subst (λ b. IsTrue (f b)) (ap (λ n. n % 2 == 1) (same_count (is_crossed p) (spans low high) (crossed_spans low high p v) (edges ring) (edges other) e)) h)

by_ring : (low high : ℤ) (p : Pos) → IsLevel low high p → (f : Bool → Bool) (ring : List Pos) → IsOnRing p ring ⊎ IsTrue (f (is_odd_for p ring)) → IsOnRing p (thinned low high ring) ⊎ IsTrue (f (is_odd_for p (thinned low high ring)))
by_ring low high p v f ring h = same_ring low high p v f ring (thinned low high ring) (sym (thinned_edges low high (ordered low high p v) ring)) h

of_ring : (low high : ℤ) (p : Pos) → IsLevel low high p → (f : Bool → Bool) (ring : List Pos) → IsOnRing p (thinned low high ring) ⊎ IsTrue (f (is_odd_for p (thinned low high ring))) → IsOnRing p ring ⊎ IsTrue (f (is_odd_for p ring))
of_ring low high p v f ring h = same_ring low high p v f (thinned low high ring) ring (thinned_edges low high (ordered low high p v) ring) h

-- ---- holes

hole_in : (p : Pos) (ring : List Pos) (rest : List (List Pos)) → IsNotInHole p ring → AllByRecursion (IsNotInHole p) rest → AllByRecursion (IsNotInHole p) (path_if_some ring ++ rest)
hole_in p [] rest h k = k
hole_in p (a ∷ ring) rest h k = (h, k)

hole_out : (p : Pos) (ring : List Pos) (rest : List (List Pos)) → AllByRecursion (IsNotInHole p) (path_if_some ring ++ rest) → IsNotInHole p ring × AllByRecursion (IsNotInHole p) rest
hole_out p [] rest h = (inr refl, h)
hole_out p (a ∷ ring) rest h = h

holes_thinned : (low high : ℤ) (p : Pos) → IsLevel low high p → (holes : List (List Pos)) → AllByRecursion (IsNotInHole p) holes → AllByRecursion (IsNotInHole p) (thinned_paths low high holes)
holes_thinned low high p v [] h = tt
holes_thinned low high p v (hole ∷ holes) h = hole_in p (thinned low high hole) (thinned_paths low high holes) (by_ring low high p v not hole h.0) (holes_thinned low high p v holes h.1)

holes_whole : (low high : ℤ) (p : Pos) → IsLevel low high p → (holes : List (List Pos)) → AllByRecursion (IsNotInHole p) (thinned_paths low high holes) → AllByRecursion (IsNotInHole p) holes
holes_whole low high p v [] h = tt
holes_whole low high p v (hole ∷ holes) h =
    let k = hole_out p (thinned low high hole) (thinned_paths low high holes) h in
    (of_ring low high p v not hole k.0, holes_whole low high p v holes k.1)

-- ---- polygons

abbrev same_bool : Bool → Bool
same_bool b = b

polygon_in : (p : Pos) (exterior : List Pos) (holes : List (List Pos)) (rest : List Polygon) → IsInRings p (exterior ∷ holes) ⊎ IsInSome p rest → IsInSome p (polygon_if_some exterior holes ++ rest)
polygon_in p [] [] rest (inl h) = absurd (elim h.0 [ inl k ↦ k | inr k ↦ false≢true k ])
polygon_in p [] [] rest (inr h) = h
polygon_in p [] (hole ∷ holes) rest h = h
polygon_in p (a ∷ ring) holes rest h = h

polygon_out : (p : Pos) (exterior : List Pos) (holes : List (List Pos)) (rest : List Polygon) → IsInSome p (polygon_if_some exterior holes ++ rest) → IsInRings p (exterior ∷ holes) ⊎ IsInSome p rest
polygon_out p [] [] rest h = inr h
polygon_out p _ _ rest h = h

rings_in : (low high : ℤ) (p : Pos) → IsLevel low high p → (rings : List (List Pos)) (rest : List Polygon) → IsInRings p rings ⊎ IsInSome p rest → IsInSome p (thinned_rings low high rings ++ rest)
rings_in low high p v [] rest (inl h) = absurd h
rings_in low high p v [] rest (inr h) = h
rings_in low high p v (exterior ∷ holes) rest (inl h) =
    polygon_in p (thinned low high exterior) (thinned_paths low high holes) rest (inl (by_ring low high p v same_bool exterior h.0, holes_thinned low high p v holes h.1))
rings_in low high p v (exterior ∷ holes) rest (inr h) = polygon_in p (thinned low high exterior) (thinned_paths low high holes) rest (inr h)

rings_out : (low high : ℤ) (p : Pos) → IsLevel low high p → (rings : List (List Pos)) (rest : List Polygon) → IsInSome p (thinned_rings low high rings ++ rest) → IsInRings p rings ⊎ IsInSome p rest
rings_out low high p v [] rest h = inr h
rings_out low high p v (exterior ∷ holes) rest h =
    elim (polygon_out p (thinned low high exterior) (thinned_paths low high holes) rest h) [
      | inl k ↦ inl (of_ring low high p v same_bool exterior k.0, holes_whole low high p v holes k.1)
      | inr k ↦ inr k
    ]

-- a position is in the same polygons
pub in_thinned : (low high : ℤ) (p : Pos) → IsLevel low high p → (polygons : List Polygon) → IsInSome p polygons → IsInSome p (thinned_polygons low high polygons)
in_thinned low high p v [] h = absurd h
in_thinned low high p v (polygon ∷ polygons) (inl h) = rings_in low high p v polygon.rings (thinned_polygons low high polygons) (inl h)
in_thinned low high p v (polygon ∷ polygons) (inr h) = rings_in low high p v polygon.rings (thinned_polygons low high polygons) (inr (in_thinned low high p v polygons h))

pub in_whole : (low high : ℤ) (p : Pos) → IsLevel low high p → (polygons : List Polygon) → IsInSome p (thinned_polygons low high polygons) → IsInSome p polygons
in_whole low high p v [] h = absurd h
in_whole low high p v (polygon ∷ polygons) h =
    elim (rings_out low high p v polygon.rings (thinned_polygons low high polygons) h) [
      | inl k ↦ inl k
      | inr k ↦ inr (in_whole low high p v polygons k)
    ]
