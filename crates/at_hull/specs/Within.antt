-- Where a position adds nothing to a hull. Only contracts of private functions cite this.
use Rattle.std.specs.Prelude.{pos, List, [], ◌∷◌, Contains}
use Rattle.std.specs.Int.Signed.{◌≤ℤ◌, ◌<ℤ◌}
use Rattle.at_geom.specs.declared.positions.Pos.{Pos}
use Rattle.at_geom.specs.Segments.{turn}
use Rattle.at_hull.specs.Hulls.{IsAtMost}

-- p isn't outside the triangle xyz, which turns left
pub record IsInTriangle (p x y z : Pos) : Type 0 where
  pub turns : pos 0 <ℤ turn x y z
  pub first : pos 0 ≤ℤ turn x y p
  pub second : pos 0 ≤ℤ turn y z p
  pub third : pos 0 ≤ℤ turn z x p

-- p isn't outside a triangle of three of the positions
pub record IsInOneOf (ps : List Pos) (p : Pos) : Type 0 where
  pub x : Pos
  pub y : Pos
  pub z : Pos
  pub has_x : Contains ps x
  pub has_y : Contains ps y
  pub has_z : Contains ps z
  pub inside : IsInTriangle p x y z

-- p isn't outside a ring, nor below its first position
abbrev pub IsWithin : List Pos → Pos → Type 0
IsWithin [] p = ⊥
IsWithin (a ∷ []) p = ⊥
IsWithin (a ∷ b ∷ []) p = ⊥
IsWithin (a ∷ b ∷ c ∷ rest) p = IsAtMost a p × IsInOneOf (a ∷ b ∷ c ∷ rest) p
