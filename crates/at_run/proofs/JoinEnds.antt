-- What two files' entries make of a join, said of the files.
-- For `answer_join`.
use Rattle.std.proofs.Common.{◌≡◌, List, Result, Ok, Err, sym, subst}
use Rattle.std.specs.Result.{MatchResult}
use Rattle.at_text.specs.declared.faults.Fault.{Fault}
use Rattle.at_query.specs.declared.answer.answers.Answer.{Answer}
use Rattle.at_query.specs.declared.answer.answers.Answer.TheVariants.{Pairs}
use Rattle.at_query.specs.declared.answer.answers.Pair.{Pair}
use Rattle.at_query.specs.declared.answer.parts.Entry.{Entry}
use Rattle.at_join.specs.Meetings.{IsAllPairs}
use Rattle.at_text.specs.declared.refusals.Refusal.{Refusal}
use Rattle.at_text.specs.declared.refusals.Refusal.TheVariants.{Found}
use Rattle.at_run.specs.declared.faults.JoinFault.{JoinFault}
use Rattle.at_run.specs.declared.faults.JoinFault.TheVariants.{First, Second, Memory}
use Rattle.at_run.specs.Joins.{PairsWith, EndsSecond}

pub joins_by : (first : List Entry) (second : Result (List Entry) Refusal) (r : Result Answer JoinFault) (P : Answer → Type 0) (Q : JoinFault → Type 0) → MatchResult r (PairsWith first second) (EndsSecond second)
    → ((entries : List Entry) (pairs : List Pair) → second ≡ Ok entries → IsAllPairs first entries pairs → P (Pairs pairs)) → ((fault : Fault) → second ≡ Err (Found fault) → Q (Second fault)) → Q Memory → MatchResult r P Q
joins_by first second (Ok answer) P Q (entries, pairs, e, is_pairs, all) paired failed m = subst P (sym is_pairs) (paired entries pairs e all)
joins_by first second (Err (First fault)) P Q h paired failed m = absurd h
joins_by first second (Err (Second fault)) P Q h paired failed m = failed fault h
joins_by first second (Err Memory) P Q h paired failed m = m
