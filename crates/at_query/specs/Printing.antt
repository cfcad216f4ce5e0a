-- The text of an answer (docs/QUERY.md, "What is printed").
use Rattle.std.specs.Prelude.{ℕ, ℤ, pos, negsuc, suc, List, [], ◌∷◌, ◌++◌, flat_map, decimal, codes, Option, Some, None}
use Rattle.at_fixed.specs.Fixed.{written}
use Rattle.at_geom.specs.declared.positions.Pos.{Pos}
use Rattle.at_geom.specs.declared.rectangles.Extent.{Extent}
use Rattle.at_query.specs.declared.answer.answers.Pair.{Pair}
use Rattle.at_query.specs.declared.answer.answers.Answer.{Answer}
use Rattle.at_query.specs.declared.answer.answers.Answer.TheVariants.{Offsets, Number, Spread, Pairs, Hull}

-- a line with its end
abbrev pub ended : List ℕ → List ℕ
ended text = text ++ 0x0A ∷ []

-- a whole number, for numbers of at most 64 digits (std's decimal)
abbrev pub whole_text : ℤ → List ℕ
whole_text (pos n) = decimal n
whole_text (negsuc n) = 0x2D ∷ decimal (suc n)

abbrev pub pos_text : ℕ → Pos → List ℕ
pos_text digits p = written p.x digits ++ (0x20 ∷ written p.y digits)

abbrev pub spread_text : ℕ → Option Extent → List ℕ
spread_text digits None = codes "empty"
spread_text digits (Some e) = pos_text digits e.low ++ (0x20 ∷ pos_text digits e.high)

abbrev pub pair_text : Pair → List ℕ
pair_text p = decimal p.first ++ (0x20 ∷ decimal p.second)

-- one offset a line
abbrev pub offsets_text : List ℕ → List ℕ
offsets_text ats = flat_map (λ (at : ℕ). ended (decimal at)) ats

-- one pair of offsets a line
abbrev pub pairs_text : List Pair → List ℕ
pairs_text ps = flat_map (λ (p : Pair). ended (pair_text p)) ps

-- one position a line
abbrev pub positions_text : ℕ → List Pos → List ℕ
positions_text digits ps = flat_map (λ (p : Pos). ended (pos_text digits p)) ps

-- the extreme positions, where there are any
abbrev pub hull_text : ℕ → List Pos → List ℕ
hull_text digits [] = ended (codes "empty")
hull_text digits (p ∷ ps) = positions_text digits (p ∷ ps)

abbrev pub printed : ℕ → Answer → List ℕ
printed digits (Offsets ats) = offsets_text ats
printed digits (Number z) = ended (whole_text z)
printed digits (Spread e) = ended (spread_text digits e)
printed digits (Pairs ps) = pairs_text ps
printed digits (Hull ps) = hull_text digits ps
