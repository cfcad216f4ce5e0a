use Rattle.std.proofs.Common.{subst}
use Rattle.at_query.specs.Parts.{AreProper}
use Rattle.at_join.specs.Cells.{Lists}
use Rattle.at_join.proofs.grid.Grid.are_proper.Goals as goal

pub returns : goal.returns
returns c = subst (λ (v : Lists). AreProper v.first × AreProper v.second) c.self.view_is (c.self.invariant.first, c.self.invariant.second)
