-- Sums round a ring, wrapped and unwrapped, and how large they get.
-- For `doubled_area`.
use Rattle.std.proofs.Common.{◌≡◌, ℕ, suc, ℤ, pos, ◌+◌, ◌*◌, ◌≤◌, ◌<◌, ◌+ℤ◌, ◌-ℤ◌, ◌*ℤ◌, neg_ℤ, nat_abs, List, [], ◌∷◌, length, length-append, get_or, drop, map, arith, refl, ap, ◌∙◌}
use Rattle.std.specs.Prelude.{fold, All, FitsSigned, ◌^◌}
use Rattle.std.specs.Int.{w128, int_wrap, cast_signed}
use Rattle.std.proofs.Math.IntN.{+ℤ_assoc}
use Rattle.std.proofs.lemmas.Int.{ints, int_wrap-add_left, int_wrap_fits, fits_signed_from_abs}
use Rattle.std.proofs.lemmas.List.{drop_more}
use Rattle.at_geom.specs.declared.positions.Pos.{Pos}
use Rattle.at_geom.specs.Segments.{IsInRange, edges}
use Rattle.at_geom.specs.Regions.{sum_of, shoelace, ring_size, wrapped_ring_size, wrapped_area_of_rings, doubled_area_of_rings}
use Rattle.at_geom.specs.Shapes.{joined}
use Rattle.at_geom.proofs.Bounds.{coordinates_bound}
use Rattle.std.proofs.Math.Nat.{mod-eq_of_lt}

fold-sum_of : (a : ℤ) (xs : List ℤ) → fold ◌+ℤ◌ a xs ≡ a +ℤ sum_of xs
fold-sum_of a [] = omega (arith, ints)
fold-sum_of a (x ∷ xs) = omega (arith, ints, fold-sum_of (a +ℤ x) xs, fold-sum_of (pos 0 +ℤ x) xs)

pub sum_of-cons : (x : ℤ) (xs : List ℤ) → sum_of (x ∷ xs) ≡ x +ℤ sum_of xs
sum_of-cons x xs = omega (arith, ints, fold-sum_of (pos 0 +ℤ x) xs)

abbrev pub term : Pos → Pos → ℤ
term a b = (a.x *ℤ b.y) -ℤ (b.x *ℤ a.y)

pub shoelace-cons : (a b : Pos) (r : List Pos) → shoelace (a ∷ b ∷ r) ≡ term a b +ℤ shoelace (b ∷ r)
shoelace-cons a b r = sum_of-cons (term a b) (map (λ (e : Pos × Pos). term e.0 e.1) (edges (b ∷ r)))

wrapped_step : (s t rest : ℤ) → int_wrap w128 (int_wrap w128 (s +ℤ t) +ℤ rest) ≡ int_wrap w128 (s +ℤ (t +ℤ rest))
wrapped_step s t rest = int_wrap-add_left w128 (s +ℤ t) rest ∙ ap (int_wrap w128) (+ℤ_assoc s t rest)

-- what an edge adds, and what is left of the ring
pub shoelace_step : (s s' : ℤ) (a : Pos) (rest : List Pos) (i : ℕ) (d : Pos) → i < length rest → s' ≡ int_wrap w128 (s +ℤ term a (get_or rest i d))
    → int_wrap w128 (s' +ℤ shoelace (get_or rest i d ∷ drop (i + 1) rest)) ≡ int_wrap w128 (s +ℤ shoelace (a ∷ drop i rest))
shoelace_step s s' a rest i d lt e =
    rw (e, drop_more rest i d lt, shoelace-cons a (get_or rest i d) (drop (i + 1) rest)) (wrapped_step s (term a (get_or rest i d)) (shoelace (get_or rest i d ∷ drop (i + 1) rest)))

pub holes_step : (s s' : ℤ) (holes : List (List Pos)) (i : ℕ) (d : List Pos) → i < length holes → s' ≡ int_wrap w128 (s -ℤ wrapped_ring_size (get_or holes i d))
    → int_wrap w128 (s' -ℤ sum_of (map wrapped_ring_size (drop (i + 1) holes))) ≡ int_wrap w128 (s -ℤ sum_of (map wrapped_ring_size (drop i holes)))
holes_step s s' holes i d lt e =
    let t = wrapped_ring_size (get_or holes i d) in
    rw (e, drop_more holes i d lt, sum_of-cons (wrapped_ring_size (get_or holes i d)) (map wrapped_ring_size (drop (i + 1) holes)))
    (wrapped_step s (neg_ℤ (wrapped_ring_size (get_or holes i d))) (neg_ℤ (sum_of (map wrapped_ring_size (drop (i + 1) holes)))) ∙ ap (int_wrap w128) (omega (arith, ints)))

pub wrap_natural : (n : ℕ) → n < 2 ^ 128 → int_wrap w128 (pos n) ≡ cast_signed w128 n
unfolding int_wrap
wrap_natural n h = ap (cast_signed w128) (mod-eq_of_lt h)

-- ---- how large they get

-- the bound of what one edge adds
abbrev pub most : ℕ
most = 180000000000000000000000000000

term_bound : (a b : Pos) → IsInRange a → IsInRange b → nat_abs (term a b) ≤ most
term_bound a b h k = omega (arith, ints, coordinates_bound a.x b.y h.0 k.1, coordinates_bound b.x a.y k.0 h.1)

shoelace_bound : (a : Pos) (r : List Pos) → All IsInRange (a ∷ r) → nat_abs (shoelace (a ∷ r)) ≤ length r * most
shoelace_bound a [] h = omega arith
shoelace_bound a (b ∷ r) h =
    omega (arith, ints, shoelace-cons a b r, term_bound a b (h 0 a (omega arith)) (h 1 a (omega arith)), shoelace_bound b r (λ k d lt. h (suc k) d (omega arith)))

pub ring_bound : (ring : List Pos) → All IsInRange ring → nat_abs (shoelace ring) ≤ length ring * most
ring_bound [] h = omega arith
ring_bound (a ∷ r) h = omega (arith, shoelace_bound a r h)

wrapped-ring_size : (ring : List Pos) → All IsInRange ring → length ring < 2 ^ 26 → wrapped_ring_size ring ≡ ring_size ring
wrapped-ring_size ring h few =
    let b = ring_bound ring h in
    let f : FitsSigned w128 (shoelace ring) = fits_signed_from_abs w128 (shoelace ring) (omega (arith, b)) in
    let g : FitsSigned w128 (pos (nat_abs (shoelace ring))) = fits_signed_from_abs w128 (pos (nat_abs (shoelace ring))) (omega (arith, b)) in
    ap (λ z. int_wrap w128 (pos (nat_abs z))) (int_wrap_fits w128 (shoelace ring) f) ∙ int_wrap_fits w128 (pos (nat_abs (shoelace ring))) g

record AreExact (rings : List (List Pos)) : Type 0 where
  total : ℕ
  wrapped_sum : sum_of (map wrapped_ring_size rings) ≡ pos total
  plain_sum : sum_of (map ring_size rings) ≡ pos total
  bounded : total ≤ length (joined rings) * most

are_exact : (rings : List (List Pos)) → All (All IsInRange) rings → length (joined rings) < 2 ^ 26 → AreExact rings
are_exact [] h few = record { total = 0; wrapped_sum = refl; plain_sum = refl; bounded = omega arith }
are_exact (ring ∷ rings) h few =
    let split = length-append ring (joined rings) in
    let r = are_exact rings (λ k d lt. h (suc k) d (omega arith)) (omega (arith, split)) in
    let b = ring_bound ring (h 0 ring (omega arith)) in
    let e = wrapped-ring_size ring (h 0 ring (omega arith)) (omega (arith, split)) in
    record {
      total = nat_abs (shoelace ring) + r.total;
      wrapped_sum = sum_of-cons (wrapped_ring_size ring) (map wrapped_ring_size rings) ∙ rw (e, r.wrapped_sum) refl;
      plain_sum = sum_of-cons (ring_size ring) (map ring_size rings) ∙ rw r.plain_sum refl;
      bounded = omega (arith, split, b, r.bounded);
    }

pub wrapped-area_of_rings : (rings : List (List Pos)) → All (All IsInRange) rings → length (joined rings) < 2 ^ 26 → wrapped_area_of_rings rings ≡ doubled_area_of_rings rings
wrapped-area_of_rings [] h few = refl
wrapped-area_of_rings (exterior ∷ holes) h few =
    let split = length-append exterior (joined holes) in
    let r = are_exact holes (λ k d lt. h (suc k) d (omega arith)) (omega (arith, split)) in
    let b = ring_bound exterior (h 0 exterior (omega arith)) in
    let e = wrapped-ring_size exterior (h 0 exterior (omega arith)) (omega (arith, split)) in
    let f : FitsSigned w128 (ring_size exterior -ℤ pos r.total) = fits_signed_from_abs w128 (ring_size exterior -ℤ pos r.total) (omega (arith, ints, split, b, r.bounded)) in
    rw (e, r.wrapped_sum, r.plain_sum) (int_wrap_fits w128 (ring_size exterior -ℤ pos r.total) f)
