-- Worked hulls.
use Rattle.std.proofs.Common.{◌≡◌, ℕ, pos, suc, ◌≤ℤ◌, ◌<ℤ◌, inl, inr, List, [], ◌∷◌, Contains, refl, arith, sym, subst}
use Rattle.std.proofs.lemmas.Int.{ints}
use Rattle.std.proofs.lemmas.List.Elements.{All-contains, All-from_recursion}
use Rattle.at_geom.specs.declared.positions.Pos.{Pos}
use Rattle.at_geom.specs.Segments.{turn}
use Rattle.at_hull.specs.Hulls.{IsBelow, IsAtMost, IsHull}
use Rattle.at_hull.proofs.Members.{first_or_later, in_none, only_one}
use Rattle.at_hull.proofs.Ways.{not_below_self}

abbrev at : ℕ → ℕ → Pos
at x y = record { x = pos x; y = pos y }

not_here : (p q : Pos) (ps : List Pos) → IsBelow p q → (Contains ps p → ⊥) → Contains (q ∷ ps) p → ⊥
not_here p q ps h f m =
    elim (first_or_later p q ps m) [
      | inl e ↦ not_below_self p (subst (λ (z : Pos). IsBelow p z) (sym e) h)
      | inr n ↦ f n
    ]

above : (n : ℕ) → pos 0 <ℤ pos (suc n)
above n = omega (arith, ints)

higher : (x y n : ℕ) → IsBelow (at x n) (at y (suc n))
higher x y n = inl (omega (arith, ints))

farther : (x y : ℕ) → IsBelow (at x y) (at (suc x) y)
farther x y = inr (refl, omega (arith, ints))

of_nothing : IsHull [] []
of_nothing = refl

of_equal : IsHull (at 2 2 ∷ at 2 2 ∷ []) (at 2 2 ∷ [])
of_equal = ((0, omega arith, refl), All-from_recursion (λ p. p ≡ at 2 2) (at 2 2 ∷ at 2 2 ∷ []) (refl, (refl, tt)))

of_line : IsHull (at 1 1 ∷ at 2 2 ∷ []) (at 1 1 ∷ at 2 2 ∷ [])
of_line = record {
  lower = (0, omega arith, refl);
  upper = (1, omega arith, refl);
  apart = higher 1 2 1;
  on_line = All-from_recursion (λ p. turn (at 1 1) (at 2 2) p ≡ pos 0) (at 1 1 ∷ at 2 2 ∷ []) (refl, (refl, tt));
  from_lower = All-from_recursion (IsAtMost (at 1 1)) (at 1 1 ∷ at 2 2 ∷ []) (inl refl, (inr (higher 1 2 1), tt));
  to_upper = All-from_recursion (λ p. IsAtMost p (at 2 2)) (at 1 1 ∷ at 2 2 ∷ []) (inr (higher 1 2 1), (inl refl, tt));
}

abbrev four : List Pos
four = at 0 1 ∷ at 0 0 ∷ at 1 0 ∷ at 1 1 ∷ []

side : (a b : Pos) (i j k l : ℕ) → turn a b (at 0 1) ≡ pos i → turn a b (at 0 0) ≡ pos j → turn a b (at 1 0) ≡ pos k → turn a b (at 1 1) ≡ pos l → (p : Pos) → Contains four p → pos 0 ≤ℤ turn a b p
side a b i j k l e f g h p m =
    All-contains (λ q. pos 0 ≤ℤ turn a b q) four p
    (All-from_recursion (λ q. pos 0 ≤ℤ turn a b q) four (omega (arith, ints, e), (omega (arith, ints, f), (omega (arith, ints, g), (omega (arith, ints, h), tt))))) m

other : Contains (at 0 1 ∷ []) (at 1 1) → ⊥
other m = not_below_self (at 0 1) (subst (λ (z : Pos). IsBelow (at 0 1) z) (only_one (at 0 1) (at 1 1) m) (farther 0 1))

-- a square, from the lowest round to the left
pub of_square : IsHull four (at 0 0 ∷ at 1 0 ∷ at 1 1 ∷ at 0 1 ∷ [])
of_square = record {
  of_list = All-from_recursion (Contains four) (at 0 0 ∷ at 1 0 ∷ at 1 1 ∷ at 0 1 ∷ []) ((1, omega arith, refl), ((2, omega arith, refl), ((3, omega arith, refl), ((0, omega arith, refl), tt))));
  different = (
    not_here (at 0 0) (at 1 0) (at 1 1 ∷ at 0 1 ∷ []) (farther 0 0) (not_here (at 0 0) (at 1 1) (at 0 1 ∷ []) (higher 0 1 0) (not_here (at 0 0) (at 0 1) [] (higher 0 0 0) (in_none (at 0 0)))),
    (not_here (at 1 0) (at 1 1) (at 0 1 ∷ []) (higher 1 1 0) (not_here (at 1 0) (at 0 1) [] (higher 1 0 0) (in_none (at 1 0))), (other, (in_none (at 0 1), tt))),
  );
  lowest = ((1, omega arith, refl), All-from_recursion (IsAtMost (at 0 0)) four (inr (higher 0 0 0), (inl refl, (inr (farther 0 0), (inr (higher 0 1 0), tt)))));
  left = (above 0, (above 0, (above 0, (above 0, tt))));
  none_right = (
    side (at 0 0) (at 1 0) 1 0 0 1 refl refl refl refl,
    (side (at 1 0) (at 1 1) 1 1 0 0 refl refl refl refl, (side (at 1 1) (at 0 1) 0 1 1 0 refl refl refl refl, (side (at 0 1) (at 0 0) 0 0 1 1 refl refl refl refl, (side (at 0 0) (at 1 0) 1 0 0 1 refl refl refl refl, tt)))),
  );
}

-- not the other way round
not_clockwise : IsHull four (at 0 0 ∷ at 0 1 ∷ at 1 1 ∷ at 1 0 ∷ []) → ⊥
not_clockwise h = let l : pos 0 <ℤ turn (at 0 0) (at 0 1) (at 1 1) = h.left.0 in omega (arith, ints, l)
