use Rattle.at_join.proofs.Covering.{IsRound}
use Rattle.at_join.proofs.covers.cover_of.Given as goal

-- the outlines so far lie in the extent
abbrev pub invariant-loop-outline : goal.invariant-loop-outline
invariant-loop-outline l = IsRound l.cover l.outlines l.outline-index
