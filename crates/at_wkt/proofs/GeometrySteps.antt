-- Geometries, collections of them, and what stands behind them.
-- For `read_line`, `read_geometry` and `Room::check_line`: the grammar of geometries, read on.
use Rattle.std.proofs.Common.{◌≡◌, ℕ, ◌+◌, true, List, [], ◌++◌, length, codes, refl, sym, ◌∙◌, ap, subst, arith, append-nil, append_assoc, lit≤}
use Rattle.at_wkt.proofs.Names.{Many, Exactly, AnyCase, ◌▸◌, Coords, Dimension, Open, Kind, Point, LineString, Polygon, MultiPoint, MultiLineString, MultiPolygon, GeometryCollection, Geometry, point, line_string, polygon, multi_point, multi_line_string, multi_polygon, collection, Geometries, no_geometries, geometry_and, is_blank, Letter, SpellsGeometry, SpellsFurtherGeometries, Spelt, Stuck, Delimiter, HasCount, word_of, Meaning, joined, no_meaning, Body, FurtherThen, meaning_of, After, Expected}
use Rattle.at_wkt.proofs.Steps.{Then, Same}
use Rattle.at_wkt.proofs.Lists.{to_left, to_right, five_left, five_right}
use Rattle.at_wkt.proofs.WordSteps.{KindWord}
use Rattle.at_wkt.proofs.LetterSteps.{Lettered}

-- ---- meanings

pub joined-assoc : (a b c : Meaning) → joined (joined a b) c ≡ joined a (joined b c)
joined-assoc a b c = simp append_assoc

pub joined-none : (m : Meaning) → joined m no_meaning ≡ m
joined-none m = simp append-nil

-- ---- parts in which the counts of numbers bind nothing

pub free_spelt : {X : Type 0} (P : X → ℕ → List ℕ → Type 0) (base : ℕ) (w : List ℕ) (i j : ℕ) (c c' : Dimension) (x : X) → HasCount c' → Spelt (λ d. P) base w i c j c x → Spelt (λ d. P) base w i c' j c' x
free_spelt P base w i j c c' x some h = record {
  order = h.order;
  within = h.within;
  some = some;
  narrows = λ d a. a;
  sound = λ d a. let (e, b) = h.some in h.sound e b;
  only = λ d y v r s a p f. let (e, b) = h.some in let (ey, ev, a') = h.only e y v r s b p f in (ey, ev, a);
}

pub free_stuck : {X : Type 0} (P : X → ℕ → List ℕ → Type 0) (base : ℕ) (w : List ℕ) (i n : ℕ) (c c' : Dimension) → HasCount c → HasCount c' → Stuck (λ d. P) base w i c n → Stuck (λ d. P) base w i c' n
free_stuck P base w i n c c' (d0, a0) (d1, a1) h = record {
  order = h.order;
  within = h.within;
  viable = (let (d, x, more, a, p) = h.viable in (d1, x, more, a1, p));
  dead = λ d y v r s a p f. h.dead d0 y v r s a0 p f;
}

pub open_count : HasCount Open
open_count = (2, (lit≤ tt, lit≤ tt))

-- ---- the geometry's parts

pub geometry_parts : (g : Geometry) (at : ℕ) (w : List ℕ) → SpellsGeometry at w g → (k : Kind) × (d : ℕ) × (AnyCase (word_of k) ▸ (Many is_blank ▸ (Letter d ▸ (Many is_blank ▸ Body k d g)))) at w
geometry_parts (point p) at w (d, (a, b, e, h, (x, y, f, k, (l, m, o, q, (r, s, t, u, z))))) = (Point, d, (a, b, e, h, (x, y, f, k, (l, m, o, q, (r, s, t, u, (p, refl, z))))))
geometry_parts (line_string p) at w (d, (a, b, e, h, (x, y, f, k, (l, m, o, q, (r, s, t, u, z))))) = (LineString, d, (a, b, e, h, (x, y, f, k, (l, m, o, q, (r, s, t, u, (p, refl, z))))))
geometry_parts (polygon p) at w (d, (a, b, e, h, (x, y, f, k, (l, m, o, q, (r, s, t, u, z))))) = (Polygon, d, (a, b, e, h, (x, y, f, k, (l, m, o, q, (r, s, t, u, (p, refl, z))))))
geometry_parts (multi_point p) at w (d, (a, b, e, h, (x, y, f, k, (l, m, o, q, (r, s, t, u, z))))) = (MultiPoint, d, (a, b, e, h, (x, y, f, k, (l, m, o, q, (r, s, t, u, (p, refl, z))))))
geometry_parts (multi_line_string p) at w (d, (a, b, e, h, (x, y, f, k, (l, m, o, q, (r, s, t, u, z))))) = (MultiLineString, d, (a, b, e, h, (x, y, f, k, (l, m, o, q, (r, s, t, u, (p, refl, z))))))
geometry_parts (multi_polygon p) at w (d, (a, b, e, h, (x, y, f, k, (l, m, o, q, (r, s, t, u, z))))) = (MultiPolygon, d, (a, b, e, h, (x, y, f, k, (l, m, o, q, (r, s, t, u, (p, refl, z))))))
geometry_parts (collection p) at w (d, (a, b, e, h, (x, y, f, k, (l, m, o, q, (r, s, t, u, z))))) = (GeometryCollection, d, (a, b, e, h, (x, y, f, k, (l, m, o, q, (r, s, t, u, (p, refl, z))))))

parts_geometry : (k : Kind) (d : ℕ) (g : Geometry) (at : ℕ) (w : List ℕ) → (AnyCase (word_of k) ▸ (Many is_blank ▸ (Letter d ▸ (Many is_blank ▸ Body k d g)))) at w → SpellsGeometry at w g
parts_geometry Point d g at w (a, b, e, h, (x, y, f, k, (l, m, o, q, (r, s, t, u, (p, eg, z))))) = subst (SpellsGeometry at w) (sym eg) (d, (a, b, e, h, (x, y, f, k, (l, m, o, q, (r, s, t, u, z)))))
parts_geometry _ d g at w (a, b, e, h, (x, y, f, k, (l, m, o, q, (r, s, t, u, (p, eg, z))))) = subst (SpellsGeometry at w) (sym eg) (d, (a, b, e, h, (x, y, f, k, (l, m, o, q, (r, s, t, u, z)))))

abbrev pub Spelling : Geometry → ℕ → List ℕ → Type 0
Spelling g i v = SpellsGeometry i v g

-- ---- the members of a collection

pub further_split : (gs : Geometries) (K : ℕ → List ℕ → Type 0) (at : ℕ) (w : List ℕ) → FurtherThen gs K at w → ((λ i v. SpellsFurtherGeometries i v gs) ▸ (Delimiter 0 true ▸ K)) at w
further_split no_geometries K at w h = ([], w, refl, refl, subst (λ o. (Delimiter 0 true ▸ K) o w) (let same : at ≡ at + 0 = omega arith in same) h)
further_split (geometry_and g gs) K at w (a, b, e, hd, (c, d, f, hm, (x, y, i, hg, q))) =
    let M = Many is_blank in let C = Exactly (codes ",") in let G = Spelling g in let F : ℕ → List ℕ → Type 0 = (λ i v. SpellsFurtherGeometries i v gs) in let T = Delimiter 0 true ▸ K in
    five_left M C M G F T at w (to_right M C (M ▸ (G ▸ (F ▸ T))) at w (a, b, e, hd, (c, d, f, hm, (x, y, i, hg, further_split gs K _ y q))))

pub further_join : (gs : Geometries) (K : ℕ → List ℕ → Type 0) (at : ℕ) (w : List ℕ) → ((λ i v. SpellsFurtherGeometries i v gs) ▸ (Delimiter 0 true ▸ K)) at w → FurtherThen gs K at w
further_join no_geometries K at w (a, b, e, none, q) =
    let same : at + length a ≡ at = omega (arith, ap length none) in
    let text : b ≡ w = sym (e ∙ ap (λ z. z ++ b) none) in
    subst (λ z. (Delimiter 0 true ▸ K) at z) text (subst (λ o. (Delimiter 0 true ▸ K) o b) same q)
further_join (geometry_and g gs) K at w h =
    let M = Many is_blank in let C = Exactly (codes ",") in let G = Spelling g in let F : ℕ → List ℕ → Type 0 = (λ i v. SpellsFurtherGeometries i v gs) in let T = Delimiter 0 true ▸ K in
    let (a, b, e, hd, (c, d, f, hm, (x, y, i, hg, q))) = to_left M C (M ▸ (G ▸ (F ▸ T))) at w (five_right M C M G F T at w h) in
    (a, b, e, hd, (c, d, f, hm, (x, y, i, hg, further_join gs K _ y q)))

module _ (digits : ℕ) (how : Coords) where
  abbrev pub Behind : ℕ → ℕ → Meaning → ℕ → List ℕ → Type 0
  Behind k d = After digits how k

  abbrev pub Awaited : ℕ → ℕ → Meaning → ℕ → List ℕ → Type 0
  Awaited k d = Expected digits how k

  -- what stands behind a head within so many open collections
  abbrev pub BodyAfter : Kind → ℕ → ℕ → Meaning → ℕ → List ℕ → Type 0
  BodyAfter kind k d m at w = (g : Geometry) × (n : Meaning) × (m ≡ joined (meaning_of digits how g) n) × (Body kind d g ▸ After digits how k n) at w

  pub expected_same : (k : ℕ) → Same (Awaited k) (Then KindWord (λ kind. Lettered (BodyAfter kind k))) (λ at p. p.1)
  expected_same k = record {
    to = λ d0 p at v (a, b, e, h, (d, (x, y, f, q, (l, m, o, t, (r, s, u, z, (g, n, em, rest)))))).
        let (c1, c2, c3, c4, c5) = five_left (AnyCase (word_of p.0)) (Many is_blank) (Letter d) (Many is_blank) (Body p.0 d g) (After digits how k n) at v (a, b, e, h, (x, y, f, q, (l, m, o, t, (r, s, u, z, rest)))) in
        (g, n, em, (c1, c2, c3, parts_geometry p.0 d g at c1 c4, c5));
    from = λ d0 m at v (g, n, em, (c1, c2, c3, c4, c5)).
        let (kind, d, parts) = geometry_parts g at c1 c4 in
        let (a, b, e, h, (x, y, f, q, (l, z, o, t, (r, s, u, w2, rest)))) = five_right (AnyCase (word_of kind)) (Many is_blank) (Letter d) (Many is_blank) (Body kind d g) (After digits how k n) at v (c1, c2, c3, parts, c5) in
        ((kind, m), refl, (a, b, e, h, (d, (x, y, f, q, (l, z, o, t, (r, s, u, w2, (g, n, em, rest)))))));
  }
