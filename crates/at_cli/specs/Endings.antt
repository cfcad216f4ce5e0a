-- The ends that a run can come to before anything is written.
use Rattle.std.specs.Prelude.{◌≡◌, ◌⊎◌, ℕ, List, [], Option, IfSome, string_bytes}
use Rattle.at_io.specs.Files.{Files}
use Rattle.at_query.specs.declared.query.queries.Query.{Query}
use Rattle.at_cli.specs.declared.words.line.Line.{Line}
use Rattle.at_cli.specs.Outcomes.{Outcome, HasBytesOutcome, HasPairOutcome}
use Rattle.at_cli.specs.Texts.{usage_line, query_line, files_line, fault_line, unread_line, size_line, memory_line}
use Rattle.at_cli.specs.declared.outcome.ending.Ending.{Ending}
use Rattle.at_cli.specs.declared.outcome.ending.Ending.TheVariants.{Usage, QueryFault, Names, Faulty, ReadFailed, TooLarge}
use Rattle.at_cli.specs.declared.outcome.ending.Ending.TheVariants.{NoMemory, Answered}

-- the status of the end, if an answer can be written
abbrev pub status_of : Ending → ℕ
status_of (Answered text) = 0
status_of (Faulty name fault) = 1
status_of Usage = 2
status_of (QueryFault at) = 2
status_of Names = 2
status_of (ReadFailed name) = 3
status_of NoMemory = 5
status_of (TooLarge name) = 6

-- what goes to the output
abbrev pub text_of : Ending → List ℕ
text_of (Answered text) = string_bytes text
text_of _ = []

-- what goes to the error output
abbrev pub line_of : Ending → List ℕ
line_of (Answered text) = []
line_of (Faulty name fault) = fault_line name fault
line_of Usage = usage_line
line_of (QueryFault at) = query_line at
line_of Names = files_line
line_of (ReadFailed name) = unread_line name
line_of NoMemory = memory_line
line_of (TooLarge name) = size_line name

-- the outcome that the end stands for
abbrev pub outcome_by : Ending → Outcome
outcome_by e = record { status = status_of e; out = text_of e; err = line_of e }

-- the end is the outcome over the bytes of the line's file, but for want of memory
abbrev pub EndsBytes : Line → Query → List ℕ → Ending → Type 0
EndsBytes line query bytes e = (status_of e ≡ 5) ⊎ HasBytesOutcome line query bytes (outcome_by e)

-- the same over two files
abbrev pub EndsPair : Line → Query → List ℕ → List ℕ → List ℕ → Ending → Type 0
EndsPair line query second a b e = (status_of e ≡ 5) ⊎ HasPairOutcome line query second a b (outcome_by e)

-- but for a failed shelf and want of memory, and where the files are told, the end has the property over them
abbrev pub Ends : (Files → Outcome → Type 0) → Option Files → Ending → Type 0
Ends Has files e = (status_of e ≡ 3) ⊎ ((status_of e ≡ 5) ⊎ IfSome files (λ told. Has told (outcome_by e)))
