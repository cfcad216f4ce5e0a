-- No position outside the extent of a closed ring is in the ring: beside it no edge is crossed, and to the left of it
-- the ray crosses each edge that passes the position's height, of which a closed ring has an even number.
-- For `are_closed`, `reach` and `shapes_meet`.
use Rattle.std.proofs.Common.{◌≡◌, ℕ, suc, ℤ, pos, negsuc, ◌+◌, ◌-ℤ◌, ◌+ℤ◌, ◌≤ℤ◌, ◌<ℤ◌, inl, inr, Bool, true, false, ◌&&◌, int_eq, List, [], ◌∷◌, length, get_or, ◌-◌, arith, refl, sym, ap, ◌∙◌}
use Rattle.std.specs.Prelude.{int_le, IsTrue}
use Rattle.std.specs.List.{AllByRecursion}
use Rattle.std.proofs.lemmas.Bool.Decides.{Decides-int_eq}
use Rattle.std.proofs.lemmas.Int.{ints, clamps, by_lt_z}
use Rattle.at_geom.specs.declared.positions.Pos.{Pos}
use Rattle.at_geom.specs.declared.shapes.Polygon.{Polygon}
use Rattle.at_geom.specs.declared.rectangles.Extent.{Extent}
use Rattle.at_geom.specs.Closed.{last_of, IsClosed, HasClosedFirst, HasClosedExterior}
use Rattle.at_geom.specs.Segments.{IsOn}
use Rattle.at_geom.specs.Regions.{is_crossed, is_odd_for, IsInRings}
use Rattle.at_geom.specs.Shapes.{joined, is_within, positions_of_polygons, IsInSome}
use Rattle.at_geom.proofs.CommonPoint.{Between, on_out, above_by}
use Rattle.at_geom.proofs.Crossings.{flip, odd_step, not_level, not_crossed, by_heights}
use Rattle.at_geom.proofs.EdgePoints.{run_of_edge, run_to_point, crossed_up, crossed_back}
use Rattle.at_geom.proofs.Found.{left_true, right_true, AreWithin, sides, from_sides, found_edges, first_within, second_within}
use Rattle.at_geom.proofs.RingLaws.{expand}
use Rattle.at_geom.proofs.Comparisons.{le_true, le_false, lt_true, lt_false}

-- ---- an edge, both of whose ends are on one side of the position, by how far apart things are

left_rising : (p a b : Pos) (m n t r : ℕ) → p.x -ℤ a.x ≡ negsuc m → b.x -ℤ a.x ≡ pos (suc n) -ℤ pos (suc m) → p.y -ℤ a.y ≡ pos t → b.y -ℤ a.y ≡ pos (t + suc r) → run_to_point p a b <ℤ run_of_edge p a b
left_rising p a b m n t r e f g h = rw (e, f, g, h) (simp expand (omega (arith, ints)))

right_rising : (p a b : Pos) (m n t r : ℕ) → p.x -ℤ a.x ≡ pos (suc m) → b.x -ℤ a.x ≡ pos m -ℤ pos n → p.y -ℤ a.y ≡ pos t → b.y -ℤ a.y ≡ pos (t + suc r) → run_of_edge p a b ≤ℤ run_to_point p a b
right_rising p a b m n t r e f g h = rw (e, f, g, h) (simp expand (omega (arith, ints)))

left_up : (p a b : Pos) → p.x <ℤ a.x → p.x <ℤ b.x → a.y ≤ℤ p.y → p.y <ℤ b.y → is_crossed p (a, b) ≡ true
left_up p a b h k u v =
    let (m, em) = above_by (p.x +ℤ pos 1) a.x (omega (arith, ints)) in
    let (n, en) = above_by (p.x +ℤ pos 1) b.x (omega (arith, ints)) in
    let (t, et) = above_by a.y p.y u in
    let (r, er) = above_by (p.y +ℤ pos 1) b.y (omega (arith, ints)) in
    crossed_up p a b u v ∙ lt_true _ _ (left_rising p a b m n t r (omega (arith, ints, em)) (omega (arith, ints, em, en)) (omega (arith, ints, et)) (omega (arith, ints, et, er)))

right_up : (p a b : Pos) → a.x <ℤ p.x → b.x <ℤ p.x → a.y ≤ℤ p.y → p.y <ℤ b.y → is_crossed p (a, b) ≡ false
right_up p a b h k u v =
    let (m, em) = above_by (a.x +ℤ pos 1) p.x (omega (arith, ints)) in
    let (n, en) = above_by (b.x +ℤ pos 1) p.x (omega (arith, ints)) in
    let (t, et) = above_by a.y p.y u in
    let (r, er) = above_by (p.y +ℤ pos 1) b.y (omega (arith, ints)) in
    crossed_up p a b u v ∙ lt_false _ _ (right_rising p a b m n t r (omega (arith, ints, em)) (omega (arith, ints, em, en)) (omega (arith, ints, et)) (omega (arith, ints, et, er)))

flip_same : (u v : Bool) → u ≡ v → flip u v ≡ false
flip_same true true e = refl
flip_same true false e = absurd (cc)
flip_same false v e = sym e

flip_of : (u v s t : Bool) → u ≡ s → v ≡ t → flip u v ≡ flip s t
flip_of u v s t e f = rw (e, f) refl

crossed_left : (p a b : Pos) → p.x <ℤ a.x → p.x <ℤ b.x → is_crossed p (a, b) ≡ flip (int_le a.y p.y) (int_le b.y p.y)
crossed_left p a b h k =
    by_heights p a b
    (λ u v. left_up p a b h k u v ∙ sym (flip_of _ _ true false (le_true a.y p.y u) (le_false b.y p.y v)))
    (λ u v. (crossed_back p a b ∙ left_up p b a k h v u) ∙ sym (flip_of _ _ false true (le_false a.y p.y u) (le_true b.y p.y v)))
    (λ e. not_crossed p a b e ∙ sym (flip_same _ _ e))

crossed_right : (p a b : Pos) → a.x <ℤ p.x → b.x <ℤ p.x → is_crossed p (a, b) ≡ false
crossed_right p a b h k = by_heights p a b (λ u v. right_up p a b h k u v) (λ u v. crossed_back p a b ∙ right_up p b a k h v u) (not_crossed p a b)

-- ---- a ring

pub clash : (b : Bool) → b ≡ true → b ≡ false → ⊥
clash b e f = cc

before : (p : Pos) (x : Extent) (a : Pos) → p.x <ℤ x.low.x → IsTrue (is_within x a) → p.x <ℤ a.x
before p x a h s = let u = sides x a s in omega (arith, ints, u.left)

after : (p : Pos) (x : Extent) (a : Pos) → x.high.x <ℤ p.x → IsTrue (is_within x a) → a.x <ℤ p.x
after p x a h s = let u = sides x a s in omega (arith, ints, u.right)

under : (p : Pos) (x : Extent) (a b : Pos) → p.y <ℤ x.low.y → IsTrue (is_within x a) → IsTrue (is_within x b) → ¬ Between a.y b.y p.y
under p x a b h s t k = let u = sides x a s in let v = sides x b t in omega (arith, ints, clamps, u.below, v.below, k)

over : (p : Pos) (x : Extent) (a b : Pos) → x.high.y <ℤ p.y → IsTrue (is_within x a) → IsTrue (is_within x b) → ¬ Between a.y b.y p.y
over p x a b h s t k = let u = sides x a s in let v = sides x b t in omega (arith, ints, clamps, u.above, v.above, k)

even_beside : (p : Pos) (x : Extent) → ((a b : Pos) → IsTrue (is_within x a) → IsTrue (is_within x b) → is_crossed p (a, b) ≡ false) → (ring : List Pos) → AreWithin x ring → is_odd_for p ring ≡ false
even_beside p x f (a ∷ b ∷ rest) w =
    odd_step p a b rest ∙ (ap (λ c. flip c (is_odd_for p (b ∷ rest))) (f a b w.0 w.1.0) ∙ even_beside p x f (b ∷ rest) w.1)
even_beside p x f _ w = refl

flip_between : (u v w : Bool) → flip (flip u v) (flip v w) ≡ flip u w
flip_between true true true = refl
flip_between true false true = refl
flip_between false true true = refl
flip_between _ _ _ = refl

odd_left : (p : Pos) (x : Extent) → p.x <ℤ x.low.x → (a : Pos) (rest : List Pos) → AreWithin x (a ∷ rest) → is_odd_for p (a ∷ rest) ≡ flip (int_le a.y p.y) (int_le (last_of a rest).y p.y)
odd_left p x h a [] w = sym (flip_same (int_le a.y p.y) (int_le a.y p.y) refl)
odd_left p x h a (b ∷ rest) w =
    odd_step p a b rest
    ∙ (ap (λ c. flip c (is_odd_for p (b ∷ rest))) (crossed_left p a b (before p x a h w.0) (before p x b h w.1.0))
    ∙ (ap (λ c. flip (flip (int_le a.y p.y) (int_le b.y p.y)) c) (odd_left p x h b rest w.1)
    ∙ flip_between (int_le a.y p.y) (int_le b.y p.y) (int_le (last_of b rest).y p.y)))

even_left : (p : Pos) (x : Extent) → p.x <ℤ x.low.x → (ring : List Pos) → AreWithin x ring → IsClosed ring → is_odd_for p ring ≡ false
even_left p x h [] w c = refl
even_left p x h (a ∷ rest) w c = odd_left p x h a rest w ∙ flip_same (int_le a.y p.y) (int_le (last_of a rest).y p.y) (ap (λ (q : Pos). int_le q.y p.y) (sym c))

-- where the ring is crossed an odd number of times
in_if_odd : (p : Pos) (x : Extent) (ring : List Pos) → AreWithin x ring → IsClosed ring → IsTrue (is_odd_for p ring) → IsTrue (is_within x p)
in_if_odd p x ring w c odd =
    by_lt_z p.x x.low.x (λ h. absurd (clash _ odd (even_left p x h ring w c)))
    (λ left. by_lt_z x.high.x p.x (λ h. absurd (clash _ odd (even_beside p x (λ a b s t. crossed_right p a b (after p x a h s) (after p x b h t)) ring w)))
    (λ right. by_lt_z p.y x.low.y (λ h. absurd (clash _ odd (even_beside p x (λ a b s t. (not_level p a b (under p x a b h s t)).1) ring w)))
    (λ below. by_lt_z x.high.y p.y (λ h. absurd (clash _ odd (even_beside p x (λ a b s t. (not_level p a b (over p x a b h s t)).1) ring w)))
    (λ above. from_sides x p (record { left = left; right = right; below = below; above = above })))))

on_if_between : (p : Pos) (x : Extent) (a b : Pos) → IsOn p a b → IsTrue (is_within x a) → IsTrue (is_within x b) → IsTrue (is_within x p)
on_if_between p x a b h s t =
    let o = on_out p a b h in let u = sides x a s in let v = sides x b t in
    from_sides x p (record {
      left = omega (arith, ints, clamps, o.between_x, u.left, v.left);
      right = omega (arith, ints, clamps, o.between_x, u.right, v.right);
      below = omega (arith, ints, clamps, o.between_y, u.below, v.below);
      above = omega (arith, ints, clamps, o.between_y, u.above, v.above);
    })

in_rings : (p : Pos) (x : Extent) (rings : List (List Pos)) → AreWithin x (joined rings) → HasClosedFirst rings → IsInRings p rings → IsTrue (is_within x p)
in_rings p x [] w c h = absurd h
in_rings p x (exterior ∷ holes) w c h =
    let v = first_within x exterior (joined holes) w in
    elim h.0 [
      | inl on ↦ (let (e, found) = found_edges x (λ (e : Pos × Pos). IsOn p e.0 e.1) exterior v on in on_if_between p x e.0 e.1 found.0 found.1 found.2)
      | inr odd ↦ in_if_odd p x exterior v c odd
    ]

-- a position in one of the polygons of closed rings lies in any extent round the polygons
pub in_some_closed : (x : Extent) (p : Pos) (polygons : List Polygon) → AreWithin x (positions_of_polygons polygons) → AllByRecursion HasClosedExterior polygons → IsInSome p polygons → IsTrue (is_within x p)
in_some_closed x p [] w c h = absurd h
in_some_closed x p (polygon ∷ polygons) w c (inl h) = in_rings p x polygon.rings (first_within x (joined polygon.rings) (positions_of_polygons polygons) w) c.0 h
in_some_closed x p (polygon ∷ polygons) w c (inr h) = in_some_closed x p polygons (second_within x (joined polygon.rings) (positions_of_polygons polygons) w) c.1 h

last_of-get : (a : Pos) (rest : List Pos) (d : Pos) → last_of a rest ≡ get_or (a ∷ rest) (length rest) d
last_of-get a [] d = refl
last_of-get a (b ∷ rest) d = last_of-get b rest d

pub closed_by : (ring : List Pos) (d : Pos) → get_or ring 0 d ≡ get_or ring (length ring - 1) d → IsClosed ring
closed_by [] d h = tt
closed_by (a ∷ rest) d h = let e : suc (length rest) - 1 ≡ length rest = omega arith in last_of-get a rest d ∙ sym (h ∙ ap (λ (n : ℕ). get_or (a ∷ rest) n d) e)

same_coordinates : (a b c d : ℤ) → a ≡ b → c ≡ d → ◌≡◌ {A = Pos} (record { x = a; y = c }) (record { x = b; y = d })
same_coordinates a b c d e f = rw (e, f) refl

pub same_position : (a b : Pos) → (int_eq a.x b.x && int_eq a.y b.y) ≡ true → a ≡ b
same_position a b h =
    let x = (Decides-int_eq a.x b.x).0 (left_true (int_eq a.x b.x) (int_eq a.y b.y) h) in
    let y = (Decides-int_eq a.y b.y).0 (right_true (int_eq a.x b.x) (int_eq a.y b.y) h) in
    same_coordinates a.x b.x a.y b.y x y
