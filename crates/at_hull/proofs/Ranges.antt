-- The lesser and the greater of two numbers are in the range of both.
-- For `add`, `covers`, `hull`, `hull_join`, `into_hull` and `join`.
use Rattle.std.proofs.Common.{◌≡◌, ℕ, ◌≤◌, ℤ, FitsSigned, to_z, of_z, w64, nat_abs, arith}
use Rattle.std.specs.Int.{int_min, int_max}
use Rattle.std.proofs.lemmas.Int.{ints, clamps, to_z-of_z}

pub lesser : (n : ℕ) (x y : ℤ) → nat_abs x ≤ n → nat_abs y ≤ n → nat_abs (int_min x y) ≤ n
lesser n x y h k = omega (arith, ints, clamps, h, k)

pub greater : (n : ℕ) (x y : ℤ) → nat_abs x ≤ n → nat_abs y ≤ n → nat_abs (int_max x y) ≤ n
greater n x y h k = omega (arith, ints, clamps, h, k)

-- f is the lesser, or the greater
pub chosen_in_range : (n : ℕ) (f : ℤ → ℤ → ℤ) → ((x y : ℤ) → nat_abs x ≤ n → nat_abs y ≤ n → nat_abs (f x y) ≤ n) → (r x y : ℤ) → FitsSigned w64 r → FitsSigned w64 x → FitsSigned w64 y
    → r ≡ f (to_z w64 (of_z w64 x)) (to_z w64 (of_z w64 y)) → nat_abs x ≤ n → nat_abs y ≤ n → nat_abs (to_z w64 (of_z w64 r)) ≤ n
chosen_in_range n f w r x y p g i e h k = rw (to_z-of_z w64 r p, e, to_z-of_z w64 x g, to_z-of_z w64 y i) (w x y h k)
