-- How large products of coordinates get.
-- For most public calls of the crate, `doubled_area`, `in_polygon`, `is_in_any` among them.
use Rattle.std.proofs.Common.{ℤ, ◌≤◌, ◌*ℤ◌, nat_abs, arith}
use Rattle.std.proofs.Math.Nat.{mul-le-mul}
use Rattle.std.proofs.lemmas.Int.{unsigned_abs-mul}

pub product_bound : (a b : ℤ) → nat_abs a ≤ 600000000000000 → nat_abs b ≤ 600000000000000 → nat_abs (a *ℤ b) ≤ 360000000000000000000000000000
product_bound a b h k = omega (arith, unsigned_abs-mul a b, mul-le-mul h k)

pub coordinates_bound : (a b : ℤ) → nat_abs a ≤ 300000000000000 → nat_abs b ≤ 300000000000000 → nat_abs (a *ℤ b) ≤ 90000000000000000000000000000
coordinates_bound a b h k = omega (arith, unsigned_abs-mul a b, mul-le-mul h k)
