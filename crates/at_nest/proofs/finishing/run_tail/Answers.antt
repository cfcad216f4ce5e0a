-- A run that is nothing whole either stops at a byte, or can go on.
use Rattle.std.proofs.Common.{sym, subst, arith}
use Rattle.at_nest.specs.declared.pieces.SpanStop.{SpanStop}
use Rattle.at_nest.specs.KeptItems.{free, halt_of}
use Rattle.at_nest.specs.Stops.{IsStop}
use Rattle.at_nest.specs.Unions.{empty_form}
use Rattle.at_nest.proofs.LastBytes.{run_open, run_stops}
use Rattle.at_nest.proofs.finishing.run_tail.Goals as goal

pub returns-then-len-text : goal.returns-then-len-text
returns-then-len-text c = run_open c.args.text.now c.in-BadAt.len c.requires.run c.in-BadAt.ensures.0 c.in-BadAt.ensures.1 (omega arith)

pub returns-else-len-text : goal.returns-else-len-text
returns-else-len-text c = subst (λ (h : SpanStop). IsStop free c.args.from c.args.text.now empty_form (halt_of h)) (sym c.stop_in.ensures)
    (run_stops c.args.from c.args.text.now c.in-BadAt.len c.requires.pending c.requires.run c.in-BadAt.ensures.1 (omega (arith, c.in-BadAt.ensures.1.fits)))
