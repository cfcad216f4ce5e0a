use Rattle.std.proofs.Common.{◌-◌, length}
use Rattle.at_lex.proofs.UnitLemmas.{HasUnits}
use Rattle.at_lex.proofs.decoding.units.Given as goal

abbrev pub invariant-loop-at : goal.invariant-loop-at
invariant-loop-at l = HasUnits l.text l.at l.items

abbrev pub decreases-loop-at : goal.decreases-loop-at
decreases-loop-at l = length l.text - l.at
