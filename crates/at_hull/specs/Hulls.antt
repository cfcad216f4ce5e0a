-- The hull of a list of positions: the extreme ones, counterclockwise from the lowest.
use Rattle.std.specs.Prelude.{◌≡◌, pos, ◌⊎◌, List, [], ◌∷◌, ◌++◌, All, Contains}
use Rattle.std.specs.Int.Signed.{◌≤ℤ◌, ◌<ℤ◌}
use Rattle.at_geom.specs.declared.positions.Pos.{Pos}
use Rattle.at_geom.specs.Segments.{turn}

-- p is lower than q: the lesser y, or the same y and the lesser x
abbrev pub IsBelow : Pos → Pos → Type 0
IsBelow p q = (p.y <ℤ q.y) ⊎ ((p.y ≡ q.y) × (p.x <ℤ q.x))

abbrev pub IsAtMost : Pos → Pos → Type 0
IsAtMost p q = (p ≡ q) ⊎ IsBelow p q

-- the two lists have the same positions
abbrev pub HasSame : List Pos → List Pos → Type 0
HasSame ps qs = All (Contains qs) ps × All (Contains ps) qs

-- no position is there twice
abbrev pub AreDifferent : List Pos → Type 0
AreDifferent [] = Unit {0}
AreDifferent (p ∷ rest) = (¬ Contains rest p) × AreDifferent rest

-- each is below the next
abbrev pub IsAscending : List Pos → Type 0
IsAscending [] = Unit {0}
IsAscending (p ∷ []) = Unit {0}
IsAscending (p ∷ q ∷ rest) = IsBelow p q × IsAscending (q ∷ rest)

-- every three neighbours turn left
abbrev pub TurnsLeft : List Pos → Type 0
TurnsLeft [] = Unit {0}
TurnsLeft (a ∷ []) = Unit {0}
TurnsLeft (a ∷ b ∷ []) = Unit {0}
TurnsLeft (a ∷ b ∷ c ∷ rest) = (pos 0 <ℤ turn a b c) × TurnsLeft (b ∷ c ∷ rest)

-- no position with S is to the right of the way from a neighbour to the next
abbrev pub NoneRight : (Pos → Type 0) → List Pos → Type 0
NoneRight S [] = Unit {0}
NoneRight S (a ∷ []) = Unit {0}
NoneRight S (a ∷ b ∷ rest) = ((p : Pos) → S p → pos 0 ≤ℤ turn a b p) × NoneRight S (b ∷ rest)

-- a position is the lowest of a list
abbrev pub IsLowest : Pos → List Pos → Type 0
IsLowest a ps = Contains ps a × All (IsAtMost a) ps

-- the whole list, round to its second position again
abbrev pub round : Pos → Pos → List Pos → List Pos
round a b rest = (a ∷ b ∷ rest) ++ (a ∷ b ∷ [])

-- a and b, and behind them at least one more, are positions of ps, all different, the lowest first; every three
-- neighbours, taken round, turn left; and no position of ps is to the right of the way from one to the next, taken
-- round
pub record IsRing (ps : List Pos) (a b : Pos) (rest : List Pos) : Type 0 where
  pub of_list : All (Contains ps) (a ∷ b ∷ rest)
  pub different : AreDifferent (a ∷ b ∷ rest)
  pub lowest : IsLowest a ps
  pub left : TurnsLeft (round a b rest)
  pub none_right : NoneRight (Contains ps) (round a b rest)

-- a and b are the ends of a list on one line, a the lower one: all lie on the line, not below a and not above b
pub record AreEnds (ps : List Pos) (a b : Pos) : Type 0 where
  pub lower : Contains ps a
  pub upper : Contains ps b
  pub apart : IsBelow a b
  pub on_line : All (λ p. turn a b p ≡ pos 0) ps
  pub from_lower : All (IsAtMost a) ps
  pub to_upper : All (λ p. IsAtMost p b) ps

-- h is the hull of ps: nothing for the empty list, the one position where all are equal, the two ends where all lie on
-- one line, and else a ring
abbrev pub IsHull : List Pos → List Pos → Type 0
IsHull ps [] = ps ≡ []
IsHull ps (a ∷ []) = Contains ps a × All (λ p. p ≡ a) ps
IsHull ps (a ∷ b ∷ []) = AreEnds ps a b
IsHull ps (a ∷ b ∷ c ∷ rest) = IsRing ps a b (c ∷ rest)
