-- A string without its closing quote either stops at a byte, or can go on.
use Rattle.std.proofs.Common.{sym, subst, arith}
use Rattle.at_nest.specs.declared.pieces.SpanStop.{SpanStop}
use Rattle.at_nest.specs.KeptItems.{free, halt_of}
use Rattle.at_nest.specs.Stops.{IsStop}
use Rattle.at_nest.specs.Unions.{empty_form}
use Rattle.at_nest.proofs.LastBytes.{text_open, text_stops}
use Rattle.at_nest.proofs.finishing.text_tail.Goals as goal

pub returns-then-taken-text : goal.returns-then-taken-text
returns-then-taken-text c = text_open c.args.text.now c.take_text-taken.result.len c.requires.pending c.requires.quote c.take_text-taken.ensures.longest (omega arith)

pub returns-else-taken-text : goal.returns-else-taken-text
returns-else-taken-text c = subst (λ (h : SpanStop). IsStop free c.args.from c.args.text.now empty_form (halt_of h)) (sym c.stop_in.ensures)
    (text_stops c.args.from c.args.text.now c.take_text-taken.result.len c.requires.pending c.requires.quote c.take_text-taken.ensures.longest (omega (arith, c.take_text-taken.ensures.longest.fits)))
