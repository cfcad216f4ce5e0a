-- The second file is read where the first has entries, and both are joined where the second has entries too.
use Rattle.std.proofs.Common.{List, Result, Some, MatchResult, subst}
use Rattle.at_query.specs.declared.answer.parts.Entry.{Entry}
use Rattle.at_query.specs.declared.answer.parts.Part.TheVariants.{Entries}
use Rattle.at_text.specs.declared.refusals.Refusal.{Refusal}
use Rattle.at_run.specs.Files.{HasFileFaultIn}
use Rattle.at_text.specs.Refusals.{IfFound}
use Rattle.at_run.specs.Answers.{IsFilePart, IsJoinAnswer, IsJoinFault}
use Rattle.at_run.proofs.JoinEnds.{joins_by}
use Rattle.at_run.proofs.JoinedFiles.{files_joined}
use Rattle.at_run.proofs.OneAnswer.{only_join_fault, only_first_fault}
use Rattle.at_run.proofs.joins.answer_join.Goals as goal

pub returns-clause-answer : goal.returns-clause-answer
returns-clause-answer g c =
    let digits = c.args.digits in let how = c.args.how in let a = c.args.a.now in let b = c.args.b.now in let all = c.of_all-all.result in
    let M : Result (List Entry) Refusal → Type 0 = λ z. MatchResult z (λ entries. IsFilePart c.args.form_b digits how all b (Entries entries)) (λ end. IfFound end (λ fault. HasFileFaultIn c.args.form_b digits how b (Some fault))) in
    joins_by c.in-Ok.entries c.entries-second.result c.join_with.result (IsJoinAnswer c.args.form_a c.args.form_b digits how c.args.query.now a b) (IsJoinFault c.args.form_a c.args.form_b digits how a b) c.join_with.ensures.answer
    (λ entries pairs e met. files_joined digits how c.args.form_a c.args.form_b c.args.query.now all a b c.in-Ok.entries entries pairs c.requires.join c.of_all-all.ensures.verb c.of_all-all.ensures.tests c.in-Ok.ensures.part (subst M e c.entries-second.ensures.part) met)
    (λ fault e. (c.in-Ok.ensures.part.faultless, subst M e c.entries-second.ensures.part)) tt

pub returns-clause-only : goal.returns-clause-only
returns-clause-only g c =
    only_join_fault c.args.form_a c.args.form_b c.args.digits c.args.how c.args.query.now c.args.a.now c.args.b.now c.join_with.result (returns-clause-answer g c)

pub returns-in-Err-clause-only : goal.returns-in-Err-clause-only
returns-in-Err-clause-only g c =
    only_first_fault c.args.form_a c.args.form_b c.args.digits c.args.how c.args.query.now c.args.a.now c.args.b.now c.in-Err.end c.of_first.result c.of_first.ensures c.in-Err.ensures.part
