-- The answer to a query over the features of two parts, from the answers over each.
use Rattle.std.specs.Prelude.{◌≡◌, ℕ, ◌+◌, ◌+ℤ◌, List, ◌++◌, map, Option, Some, None}
use Rattle.std.specs.Int.{int_min, int_max}
use Rattle.at_geom.specs.declared.positions.Pos.{Pos}
use Rattle.at_geom.specs.declared.rectangles.Extent.{Extent}
use Rattle.at_hull.specs.Hulls.{IsHull}
use Rattle.at_query.specs.declared.query.queries.Query.{Query}
use Rattle.at_query.specs.declared.features.Feature.{Feature}
use Rattle.at_query.specs.declared.answer.answers.Answer.{Answer}
use Rattle.at_query.specs.declared.answer.answers.Answer.TheVariants.{Offsets, Number, Spread, Hull}
use Rattle.at_query.specs.Results.{IsResult}
use Rattle.at_parts.specs.Moved.{AreMoved}

-- the least extent round both
abbrev pub extent_of_both : Option Extent → Option Extent → Option Extent
extent_of_both None e = e
extent_of_both (Some d) None = Some d
extent_of_both (Some d) (Some e) = Some (record {
  low = record { x = int_min d.low.x e.low.x; y = int_min d.low.y e.low.y };
  high = record { x = int_max d.high.x e.high.x; y = int_max d.high.y e.high.y };
})

-- the answer over both: offsets one behind another, the sum of counts or areas, the least extent round both, the hull
-- of the corners of both hulls
abbrev pub IsOfBoth : Answer → Answer → Answer → Type 0
IsOfBoth (Offsets a) (Offsets b) both = both ≡ Offsets (a ++ b)
IsOfBoth (Number m) (Number n) both = both ≡ Number (m +ℤ n)
IsOfBoth (Spread d) (Spread e) both = both ≡ Spread (extent_of_both d e)
IsOfBoth (Hull h) (Hull k) both = (l : List Pos) × (both ≡ Hull l) × IsHull (h ++ k) l
IsOfBoth _ _ both = ⊥

-- the answer with its offsets moved from the one place to the other; whatever else is answered stays
abbrev pub IsAnswerMoved : ℕ → ℕ → Answer → Answer → Type 0
IsAnswerMoved from to (Offsets a) moved = (alone : List ℕ) × (a ≡ map (λ n. from + n) alone)
    × (moved ≡ Offsets (map (λ n. to + n) alone))
IsAnswerMoved from to answer moved = moved ≡ answer

-- what answers over two lists of features say is the answer over both
abbrev pub AnswersSumUp : Type 0
AnswersSumUp = (query : Query) (fs gs : List Feature) (a b both : Answer) → IsResult query fs a → IsResult query gs b
    → IsOfBoth a b both → IsResult query (fs ++ gs) both

-- the answer over moved features is the answer, moved
abbrev pub AnswersMove : Type 0
AnswersMove = (query : Query) (from to : ℕ) (fs gs : List Feature) (a : Answer) → AreMoved from to fs gs
    → IsResult query fs a → (b : Answer) × IsAnswerMoved from to a b × IsResult query gs b
