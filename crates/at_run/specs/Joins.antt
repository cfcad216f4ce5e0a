-- The last step of a join: the entries of both files are paired.
use Rattle.std.specs.Prelude.{◌≡◌, List, Result, Ok, Err}
use Rattle.at_text.specs.declared.faults.Fault.{Fault}
use Rattle.at_query.specs.declared.answer.answers.Answer.{Answer}
use Rattle.at_query.specs.declared.answer.answers.Answer.TheVariants.{Pairs}
use Rattle.at_query.specs.declared.answer.answers.Pair.{Pair}
use Rattle.at_query.specs.declared.answer.parts.Entry.{Entry}
use Rattle.at_join.specs.Meetings.{IsAllPairs}
use Rattle.at_text.specs.declared.refusals.Refusal.{Refusal}
use Rattle.at_text.specs.declared.refusals.Refusal.TheVariants as run
use Rattle.at_run.specs.declared.faults.JoinFault.{JoinFault}
use Rattle.at_run.specs.declared.faults.JoinFault.TheVariants as join

-- why two files have no join, where this is why the first has no entries
abbrev pub first_end : Refusal → JoinFault
first_end (run.Found fault) = join.First fault
first_end run.Memory = join.Memory

-- the second file has entries, and the answer is their pairs with those of the first
abbrev pub PairsWith : List Entry → Result (List Entry) Refusal → Answer → Type 0
PairsWith first second answer = (entries : List Entry) × (pairs : List Pair) × (second ≡ Ok entries)
    × (answer ≡ Pairs pairs) × IsAllPairs first entries pairs

-- the second file has this fault; want of memory has no cause in it
abbrev pub EndsSecond : Result (List Entry) Refusal → JoinFault → Type 0
EndsSecond second (join.First fault) = ⊥
EndsSecond second (join.Second fault) = second ≡ Err (run.Found fault)
EndsSecond second join.Memory = Unit {0}
