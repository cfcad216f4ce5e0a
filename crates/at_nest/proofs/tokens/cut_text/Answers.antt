-- A closed string that is viable to its end is one; else it stops before its end.
use Rattle.std.proofs.Common.{sym, subst, arith, Some}
use Rattle.std.proofs.lemmas.Result.{IfOk-weaker}
use Rattle.at_nest.specs.declared.pieces.SpanStop.{SpanStop}
use Rattle.at_nest.specs.Shown.{shown}
use Rattle.at_nest.specs.KeptItems.{OwnAtom}
use Rattle.at_nest.specs.Reading.{Reads}
use Rattle.at_nest.proofs.TokenReads.{text_whole, cut_reads_text, cut_stops_text}
use Rattle.at_nest.proofs.tokens.cut_text.Goals as goal

pub read_text-requires-clause-whole : goal.read_text-requires-clause-whole
read_text-requires-clause-whole g c κs within = text_whole c.args.text.now c.requires.closed.0 c.take_text-taken.result.len c.requires.closed.1 c.requires.closed.2 c.take_text-taken.ensures.longest (omega arith)

pub returns-then-taken-text : goal.returns-then-taken-text
returns-then-taken-text g c = let own = g.A.Algebra.is_own c.args.algebra.now in let fold = g.A.Algebra.is_fold c.args.algebra.now in let run = g.A.Algebra.is_run c.args.algebra.now in
    let whole = text_whole c.args.text.now c.requires.closed.0 c.take_text-taken.result.len c.requires.closed.1 c.requires.closed.2 c.take_text-taken.ensures.longest (omega arith) in
    IfOk-weaker c.read_text.result _ _ (λ r d. cut_reads_text (OwnAtom own fold run) (shown c.args.body.now) (shown c.read_text.new.body) r c.args.at c.args.text.now whole d) c.read_text.ensures

pub returns-else-taken-text : goal.returns-else-taken-text
returns-else-taken-text g c = let own = g.A.Algebra.is_own c.args.algebra.now in let fold = g.A.Algebra.is_fold c.args.algebra.now in let run = g.A.Algebra.is_run c.args.algebra.now in
    subst (λ (z : SpanStop). Reads (OwnAtom own fold run) (shown c.args.body.now) (shown c.args.body.now) (Some z) c.args.at c.args.text.now) (sym c.stop_in.ensures)
    (cut_stops_text (OwnAtom own fold run) (shown c.args.body.now) c.args.at c.args.text.now c.take_text-taken.result.len c.requires.closed c.take_text-taken.ensures.longest (omega (arith, c.take_text-taken.ensures.longest.fits)))
