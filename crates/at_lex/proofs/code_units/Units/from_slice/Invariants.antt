use Rattle.std.proofs.Common.{◌≡◌, take}
use Rattle.at_lex.proofs.code_units.Units.from_slice.Given as goal

abbrev pub invariant-loop-item : goal.invariant-loop-item
invariant-loop-item l = l.units ≡ take l.item-index l.items
