-- Segments in the plane, and what two of them share. All numbers are whole and without bound.
use Rattle.std.specs.Prelude.{◌≡◌, ℕ, zero, suc, ◌-◌, ◌≤◌, ℤ, pos, negsuc, nat_abs, ◌+ℤ◌, ◌-ℤ◌, ◌*ℤ◌, List, [], ◌∷◌}
use Rattle.at_geom.specs.declared.positions.Pos.{Pos}

-- the coordinates are at most 3 * 10^14 in size: 30,000,000 at seven decimal digits
abbrev pub IsInRange : Pos → Type 0
IsInRange p = (nat_abs p.x ≤ 300000000000000) × (nat_abs p.y ≤ 300000000000000)

-- n times the coordinate of the point that lies j of n equal parts of the way from a to b
abbrev pub part_way : ℕ → ℕ → ℤ → ℤ → ℤ
part_way n j a b = (pos (n - j) *ℤ a) +ℤ (pos j *ℤ b)

-- the closed segments ab and cd have a common point: it lies j of n parts of the way along the one, and k of n along
-- the other
pub record HaveCommonPoint (a b c d : Pos) : Type 0 where
  pub n : ℕ
  pub j : ℕ
  pub k : ℕ
  pub some_parts : 1 ≤ n
  pub on_first : j ≤ n
  pub on_second : k ≤ n
  pub same_x : part_way n j a.x b.x ≡ part_way n k c.x d.x
  pub same_y : part_way n j a.y b.y ≡ part_way n k c.y d.y

-- the position p is on the closed segment ab
abbrev pub IsOn : Pos → Pos → Pos → Type 0
IsOn p a b = HaveCommonPoint p p a b

-- the segments that join consecutive positions
abbrev pub edges : List Pos → List (Pos × Pos)
edges [] = []
edges (a ∷ []) = []
edges (a ∷ b ∷ rest) = (a, b) ∷ edges (b ∷ rest)

-- twice the signed area of the triangle abc, positive where it turns counterclockwise
abbrev pub turn : Pos → Pos → Pos → ℤ
turn a b c = ((b.x -ℤ a.x) *ℤ (c.y -ℤ a.y)) -ℤ ((b.y -ℤ a.y) *ℤ (c.x -ℤ a.x))

-- 1, 0 or -1
abbrev pub sign_of : ℤ → ℤ
sign_of (pos zero) = pos 0
sign_of (pos (suc n)) = pos 1
sign_of (negsuc n) = negsuc 0
