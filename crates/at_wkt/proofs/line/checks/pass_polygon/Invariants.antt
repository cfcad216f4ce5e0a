use Rattle.std.proofs.Common.{[], ◌≡◌, ◌+◌, ◌-◌, None, length}
use Rattle.at_wkt.proofs.Names.{faults_of_ring, SpellsRing, ItemsSoFar, none_kept}
use Rattle.at_wkt.proofs.line.checks.pass_polygon.Given as goal

abbrev pub invariant-rings : goal.invariant-rings
invariant-rings l = (l.last.fault ≡ None) × ItemsSoFar SpellsRing (faults_of_ring l.source.rules.digits l.source.rules.how) none_kept [] [] l.source.rules.base l.source.text.now (l.fn.from.at + 1) l.fn.from.dimension l.last

abbrev pub decreases-rings : goal.decreases-rings
decreases-rings l = length l.source.text.now - l.last.behind.at
