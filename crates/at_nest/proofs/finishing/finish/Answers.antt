-- The bytes up to the end are all that stand behind the base.
use Rattle.at_nest.specs.KeptItems.{OwnAtom}
use Rattle.at_nest.proofs.WholeTexts.{answers_all}
use Rattle.at_text.specs.Texts.{base_of as base_in}
use Rattle.at_nest.proofs.finishing.finish.Goals as goal

pub returns-clause-answers : goal.returns-clause-answers
returns-clause-answers g c = let own = g.A.Algebra.is_own c.args.algebra.now in let fold = g.A.Algebra.is_fold c.args.algebra.now in let run = g.A.Algebra.is_run c.args.algebra.now in
    answers_all (OwnAtom own fold run) c.args.bytes.now c.base_of.result (base_in c.args.bytes.now) c.finish_span.result c.base_of.ensures c.finish_span.ensures.answers
