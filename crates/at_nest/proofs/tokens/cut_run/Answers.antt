-- A run that is no literal and no number stops; any other is a value.
use Rattle.std.proofs.Common.{sym, subst, Some}
use Rattle.std.proofs.lemmas.Result.{IfOk-weaker}
use Rattle.at_nest.specs.declared.pieces.SpanStop.{SpanStop}
use Rattle.at_nest.specs.Shown.{shown}
use Rattle.at_nest.specs.KeptItems.{OwnAtom}
use Rattle.at_nest.specs.Reading.{Reads}
use Rattle.at_nest.proofs.TokenReads.{run_end_is, cut_reads_run, cut_stops_run}
use Rattle.at_nest.proofs.tokens.cut_run.Goals as goal

pub returns-in-BadAt : goal.returns-in-BadAt
returns-in-BadAt g c = let own = g.A.Algebra.is_own c.args.algebra.now in let fold = g.A.Algebra.is_fold c.args.algebra.now in let run = g.A.Algebra.is_run c.args.algebra.now in
    subst (λ (z : SpanStop). Reads (OwnAtom own fold run) (shown c.args.body.now) (shown c.args.body.now) (Some z) c.args.at c.args.text.now) (sym c.stop_in.ensures)
    (cut_stops_run (OwnAtom own fold run) (shown c.args.body.now) c.args.at c.args.text.now c.in-BadAt.len c.requires.begins c.in-BadAt.ensures.0 c.in-BadAt.ensures.1)

pub returns-in_default : goal.returns-in_default
returns-in_default g c = let own = g.A.Algebra.is_own c.args.algebra.now in let fold = g.A.Algebra.is_fold c.args.algebra.now in let run = g.A.Algebra.is_run c.args.algebra.now in
    IfOk-weaker c.read_run.result _ _ (λ r d. cut_reads_run (OwnAtom own fold run) (shown c.args.body.now) (shown c.read_run.new.body) r c.args.at c.args.text.now (run_end_is c.args.text.now c.check_run.result c.check_run.ensures c.in_default.not-BadAt) d) c.read_run.ensures
