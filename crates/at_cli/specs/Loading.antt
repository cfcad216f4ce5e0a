-- What is loaded before anything is answered, and to which ends it may lead. Private contracts alone cite it.
use Rattle.std.specs.Prelude.{◌≡◌, ◌≢◌, ◌≤◌, ◌⊎◌, ◌^◌, ℕ, List, length, Option, Some, None, IsSome, Result, Ok, Err}
use Rattle.at_query.specs.declared.query.queries.Verb.TheVariants.{Join}
use Rattle.at_query.specs.declared.answer.answers.Answer.{Answer}
use Rattle.at_query.specs.Printing.{printed}
use Rattle.at_query.specs.Ranges.{IsQueryInRange}
use Rattle.at_text.specs.declared.refusals.Refusal.{Refusal}
use Rattle.at_text.specs.declared.refusals.Refusal.TheVariants as faults
use Rattle.at_run.specs.declared.faults.JoinFault.{JoinFault}
use Rattle.at_run.specs.declared.faults.JoinFault.TheVariants as joins
use Rattle.at_cli.specs.declared.words.line.Line.{Line}
use Rattle.at_cli.specs.declared.outcome.ending.Ending.{Ending}
use Rattle.at_cli.specs.declared.outcome.loading.OneFile.{OneFile}
use Rattle.at_cli.specs.declared.outcome.loading.TwoFiles.{TwoFiles}
use Rattle.at_cli.specs.declared.outcome.loading.Loaded.{Loaded}
use Rattle.at_cli.specs.declared.outcome.loading.Loaded.TheVariants.{Ended, One, Two}
use Rattle.at_cli.specs.LineOf.{KeepsLimits}
use Rattle.at_cli.specs.Gates.{PassesGate}
use Rattle.at_cli.specs.Outcomes.{answered, stopped}
use Rattle.at_cli.specs.Texts.{fault_line}
use Rattle.at_cli.specs.Endings.{status_of, outcome_by, EndsBytes, EndsPair}

-- the end comes of bytes that were read: nothing was refused before, and no file was too large
abbrev pub IsLate : Ending → Type 0
IsLate e = (status_of e ≢ 2) × (status_of e ≢ 3) × (status_of e ≢ 6)

-- the end is right over the bytes of the file
abbrev pub EndsOne : OneFile → Ending → Type 0
EndsOne file e = EndsBytes file.line file.query file.bytes.items e × IsLate e

-- the end is right over the bytes of both files
abbrev pub EndsTwo : TwoFiles → Ending → Type 0
EndsTwo files e = ((second : List ℕ) → files.line.second ≡ Some second
    → EndsPair files.line files.query second files.first.items files.second.items e) × IsLate e

-- the run may end so
abbrev pub Leads : Loaded → Ending → Type 0
Leads (Ended end) e = e ≡ end
Leads (One file) e = EndsOne file e
Leads (Two files) e = EndsTwo files e

-- each end to which it may lead has the property
abbrev pub OnEnd : Loaded → (Ending → Type 0) → Type 0
OnEnd (Ended end) P = P end
OnEnd (One file) P = (e : Ending) → EndsOne file e → P e
OnEnd (Two files) P = (e : Ending) → EndsTwo files e → P e

-- where files are there, the line has the property
abbrev pub IfLoaded : Loaded → (Line → Type 0) → Type 0
IfLoaded (Ended end) P = Unit {0}
IfLoaded (One file) P = P file.line
IfLoaded (Two files) P = P files.line

-- the size of the chunks that the line asks for, where files are there
abbrev pub chunk_size : Loaded → Option ℕ
chunk_size (Ended end) = None
chunk_size (One file) = file.line.feed
chunk_size (Two files) = files.line.feed

-- the file is within the limit, and is no join's
pub record IsOneReady (file : OneFile) : Type 0 where
  pub limit : length file.bytes.items ≤ 2 ^ 28
  pub line : KeepsLimits file.line
  pub in_range : IsQueryInRange file.query
  pub verb : file.query.verb ≢ Join
  pub second : file.line.second ≡ None

-- both files are within the limit, and are a join's
pub record IsTwoReady (files : TwoFiles) : Type 0 where
  pub limit_first : length files.first.items ≤ 2 ^ 28
  pub limit_second : length files.second.items ≤ 2 ^ 28
  pub line : KeepsLimits files.line
  pub second : IsSome files.line.second
  pub in_range : IsQueryInRange files.query
  pub verb : files.query.verb ≡ Join

-- the files can be answered, and an end that is there already has no answer
abbrev pub IsReady : Loaded → Type 0
IsReady (Ended end) = status_of end ≢ 0
IsReady (One file) = IsOneReady file
IsReady (Two files) = IsTwoReady files

-- the gate gave up nothing of what the line of the files asks for
abbrev pub PassesLoaded : List ℕ → Loaded → Type 0
PassesLoaded given_up (Ended end) = ⊥
PassesLoaded given_up (One file) = PassesGate given_up file.line
PassesLoaded given_up (Two files) = PassesGate given_up files.line

-- ---- the end that is made of an answer

-- the text of the answer was made, or there was no memory for it
abbrev pub TellsAnswer : Line → Answer → Ending → Type 0
TellsAnswer line answer e = (status_of e ≡ 5) ⊎ (outcome_by e ≡ answered (printed line.digits answer))

abbrev pub IsEndOf : Line → Result Answer Refusal → Ending → Type 0
IsEndOf line (Ok answer) e = TellsAnswer line answer e
IsEndOf line (Err (faults.Found fault)) e = outcome_by e ≡ stopped 1 (fault_line line.first fault)
IsEndOf line (Err faults.Memory) e = status_of e ≡ 5

abbrev pub IsEndOfJoin : Line → Result Answer JoinFault → Ending → Type 0
IsEndOfJoin line (Ok answer) e = TellsAnswer line answer e
IsEndOfJoin line (Err (joins.First fault)) e = outcome_by e ≡ stopped 1 (fault_line line.first fault)
IsEndOfJoin line (Err (joins.Second fault)) e = (second : List ℕ) → line.second ≡ Some second
    → outcome_by e ≡ stopped 1 (fault_line second fault)
IsEndOfJoin line (Err joins.Memory) e = status_of e ≡ 5
