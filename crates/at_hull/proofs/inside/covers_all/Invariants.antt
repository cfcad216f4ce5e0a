use Rattle.std.proofs.Common.{All, take}
use Rattle.at_hull.specs.Within.{IsWithin}
use Rattle.at_hull.proofs.inside.covers_all.Given as goal

abbrev pub invariant-loop-p : goal.invariant-loop-p
invariant-loop-p l = All (IsWithin l.hull) (take l.p-index l.others)
