-- Each kind of token goes its own way.
use Rattle.std.proofs.Common.{sym, ◌∙◌, ap, subst, Some, ◌-◌}
use Rattle.std.proofs.lemmas.Result.{IfOk-weaker}
use Rattle.at_nest.specs.declared.pieces.SpanStop.{SpanStop}
use Rattle.at_nest.specs.Shown.{shown}
use Rattle.at_nest.specs.KeptItems.{IsAtomOf, OwnAtom}
use Rattle.at_nest.specs.Reading.{ReadsToken, stop_within}
use Rattle.at_nest.proofs.TokenReads.{lexed_text, lexed_run, broken_reads}
use Rattle.at_nest.proofs.TokenMarks.{lexed_open, lexed_close, lexed_comma, lexed_colon, text_of_lexed, run_of_lexed}
use Rattle.at_nest.proofs.tokens.read_token.Goals as goal

pub returns-in_ok-open-in-Opens-clause-reads : goal.returns-in_ok-open-in-Opens-clause-reads
returns-in_ok-open-in-Opens-clause-reads g c =
    lexed_open (IsAtomOf g.A.Algebra c.args.algebra.now) (shown c.args.body.now) (shown c.open.new.self) c.in-Opens.bracket c.args.text.now c.args.token c.in-Opens.is c.in_ok-open-in-Opens.ensures

pub returns-in-Closes-clause-reads : goal.returns-in-Closes-clause-reads
returns-in-Closes-clause-reads g c = let own = g.A.Algebra.is_own c.args.algebra.now in let fold = g.A.Algebra.is_fold c.args.algebra.now in let run = g.A.Algebra.is_run c.args.algebra.now in
    IfOk-weaker c.close.result _ _ (λ r d. lexed_close (OwnAtom own fold run) (shown c.args.body.now) (shown c.close.new.body) r c.in-Closes.bracket c.args.text.now c.args.token c.in-Closes.is d) c.close.ensures

pub returns-in-Comma-clause-reads : goal.returns-in-Comma-clause-reads
returns-in-Comma-clause-reads g c = let own = g.A.Algebra.is_own c.args.algebra.now in let fold = g.A.Algebra.is_fold c.args.algebra.now in let run = g.A.Algebra.is_run c.args.algebra.now in
    IfOk-weaker c.comma.result _ _ (λ r d. lexed_comma (OwnAtom own fold run) (shown c.args.body.now) (shown c.comma.new.self) r c.args.text.now c.args.token c.in-Comma.is d) c.comma.ensures

pub returns-in-Colon-clause-reads : goal.returns-in-Colon-clause-reads
returns-in-Colon-clause-reads g c = let own = g.A.Algebra.is_own c.args.algebra.now in let fold = g.A.Algebra.is_fold c.args.algebra.now in let run = g.A.Algebra.is_run c.args.algebra.now in
    IfOk-weaker c.colon.result _ _ (λ r d. lexed_colon (OwnAtom own fold run) (shown c.args.body.now) (shown c.colon.new.self) r c.args.text.now c.args.token c.in-Colon.is d) c.colon.ensures

pub returns-in-Text-clause-reads : goal.returns-in-Text-clause-reads
returns-in-Text-clause-reads g c = let own = g.A.Algebra.is_own c.args.algebra.now in let fold = g.A.Algebra.is_fold c.args.algebra.now in let run = g.A.Algebra.is_run c.args.algebra.now in
    IfOk-weaker c.read_text.result _ _ (λ r d. lexed_text (OwnAtom own fold run) (shown c.args.body.now) (shown c.read_text.new.body) r c.args.text.now c.args.token (text_of_lexed c.args.token c.args.text.now c.in-Text.is c.requires.token) d) c.read_text.ensures

pub returns-in-Run-clause-reads : goal.returns-in-Run-clause-reads
returns-in-Run-clause-reads g c = let own = g.A.Algebra.is_own c.args.algebra.now in let fold = g.A.Algebra.is_fold c.args.algebra.now in let run = g.A.Algebra.is_run c.args.algebra.now in
    IfOk-weaker c.read_run.result _ _ (λ r d. lexed_run (OwnAtom own fold run) (shown c.args.body.now) (shown c.read_run.new.body) r c.args.text.now c.args.token (run_of_lexed c.args.token c.args.text.now c.in-Run.is c.requires.token) d) c.read_run.ensures

pub returns-in-Broken-clause-reads : goal.returns-in-Broken-clause-reads
returns-in-Broken-clause-reads g c =
    subst (λ (z : SpanStop). ReadsToken (IsAtomOf g.A.Algebra c.args.algebra.now) (shown c.args.body.now) (shown c.args.body.now) (Some z) c.args.text.now c.args.token)
    (sym (c.stop_in.ensures ∙ ap (λ z. stop_within z c.args.token.from (c.in-Broken.place - c.args.token.from)) c.within_of.ensures))
    (broken_reads (IsAtomOf g.A.Algebra c.args.algebra.now) (shown c.args.body.now) c.args.text.now c.args.token c.in-Broken.place c.in-Broken.is)
