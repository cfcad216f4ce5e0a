-- What has been read stands in a form; each token is shorter than what is left.
use Rattle.std.proofs.Common.{length}
use Rattle.at_nest.specs.Shown.{shown}
use Rattle.at_nest.specs.KeptItems.{OwnAtom}
use Rattle.at_nest.proofs.Items.{Consumed}
use Rattle.at_nest.proofs.variants.read_items.Given as goal

abbrev pub invariant-loop-token : goal.invariant-loop-token
invariant-loop-token g l = Consumed (OwnAtom (g.A.Algebra.is_own l.source.algebra.now) (g.A.Algebra.is_fold l.source.algebra.now) (g.A.Algebra.is_run l.source.algebra.now)) l.base l.source.bytes.now l.fn.lexer.at l.fn.lexer.rest (shown l.body) l.lexer

abbrev pub decreases-loop-token : goal.decreases-loop-token
decreases-loop-token g l = length l.lexer.rest
