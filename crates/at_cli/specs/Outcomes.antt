-- What the program writes and how it ends, by its words and the files. It knows nothing of how these are read: of
-- blocks, workers and chunks it asks only whether the words spell them rightly.
use Rattle.std.specs.Prelude.{◌≡◌, ◌⊎◌, ℕ, ◌^◌, ◌<◌, ◌≤◌, Bool, true, false, List, [], length, Option, Some, None}
use Rattle.at_text.specs.declared.faults.Fault.{Fault}
use Rattle.at_io.specs.Files.{Files, bytes_named}
use Rattle.at_query.specs.declared.query.queries.Verb.{Verb}
use Rattle.at_query.specs.declared.query.queries.Verb.TheVariants as verbs
use Rattle.at_query.specs.declared.query.queries.Query.{Query}
use Rattle.at_query.specs.declared.answer.answers.Answer.{Answer}
use Rattle.at_query.specs.Queries.{IsQueryOf, HasQueryFault}
use Rattle.at_query.specs.Printing.{printed}
use Rattle.at_cli.specs.declared.words.line.Line.{Line}
use Rattle.at_cli.specs.LineOf.{SaysLine, form_of}
use Rattle.at_run.specs.Files.{HasFileFaultIn}
use Rattle.at_run.specs.Answers.{IsFileAnswer, IsJoinAnswer, SecondFails}
use Rattle.at_cli.specs.Made.{is_made, IsMadeText}
use Rattle.at_cli.specs.Texts.{usage_line, query_line, files_line, size_line, fault_line}

-- the status, and what is written to the output and to the error output
pub record Outcome : Type 0 where
  pub status : ℕ
  pub out : List ℕ
  pub err : List ℕ

-- nothing but the line, which goes to the error output
abbrev pub stopped : ℕ → List ℕ → Outcome
stopped status line = record { status = status; out = []; err = line }

-- the text, which goes to the output
abbrev pub answered : List ℕ → Outcome
answered text = record { status = 0; out = text; err = [] }

-- two names for a join, and one for every other verb
abbrev pub has_right_count : Verb → Option (List ℕ) → Bool
has_right_count verbs.Join None = false
has_right_count verbs.Join (Some second) = true
has_right_count _ None = true
has_right_count _ (Some second) = false

-- ---- the first case that applies

-- the bytes of a name: a made file's text, or those that the files have under it
abbrev pub HasBytesBy : Bool → Files → List ℕ → List ℕ → Type 0
HasBytesBy true files name bytes = IsMadeText name bytes
HasBytesBy false files name bytes = bytes_named files name ≡ Some bytes

abbrev pub HasBytes : Files → List ℕ → List ℕ → Type 0
HasBytes files name bytes = HasBytesBy (is_made name) files name bytes

-- the name has bytes; where they are too many, that is the outcome, and else what is said of them
abbrev pub Sized : Files → List ℕ → (List ℕ → Outcome → Type 0) → Outcome → Type 0
Sized files name Rest outcome = (bytes : List ℕ) × HasBytes files name bytes
    × (((2 ^ 28 < length bytes) × (outcome ≡ stopped 6 (size_line name)))
    ⊎ ((length bytes ≤ 2 ^ 28) × Rest bytes outcome))

-- the outcome over a file within the limit: its first fault, or else the answer to the query
abbrev pub HasBytesOutcome : Line → Query → List ℕ → Outcome → Type 0
HasBytesOutcome line query bytes outcome =
    ((fault : Fault) × HasFileFaultIn (form_of line line.first) line.digits line.how bytes (Some fault)
    × (outcome ≡ stopped 1 (fault_line line.first fault)))
    ⊎ ((answer : Answer) × IsFileAnswer (form_of line line.first) line.digits line.how query bytes answer
    × (outcome ≡ answered (printed line.digits answer)))

-- the outcome over two files within the limit: the first fault of the first that has one, or else the answer to the
-- join
abbrev pub HasPairOutcome : Line → Query → List ℕ → List ℕ → List ℕ → Outcome → Type 0
HasPairOutcome line query second a b outcome =
    ((fault : Fault) × HasFileFaultIn (form_of line line.first) line.digits line.how a (Some fault)
    × (outcome ≡ stopped 1 (fault_line line.first fault)))
    ⊎ (((fault : Fault) × SecondFails (form_of line line.first) (form_of line second) line.digits line.how a b fault
    × (outcome ≡ stopped 1 (fault_line second fault)))
    ⊎ ((answer : Answer) × IsJoinAnswer (form_of line line.first) (form_of line second) line.digits line.how query a b
    answer × (outcome ≡ answered (printed line.digits answer))))

-- the names have bytes in their turn, and the files have the outcome
abbrev pub HasFilesOutcome : Option (List ℕ) → Line → Query → Files → Outcome → Type 0
HasFilesOutcome None line query files outcome = Sized files line.first (HasBytesOutcome line query) outcome
HasFilesOutcome (Some second) line query files outcome =
    Sized files line.first (λ a. Sized files second (HasPairOutcome line query second a)) outcome

abbrev pub HasCountedOutcome : Bool → Line → Query → Files → Outcome → Type 0
HasCountedOutcome false line query files outcome = outcome ≡ stopped 2 files_line
HasCountedOutcome true line query files outcome = HasFilesOutcome line.second line query files outcome

abbrev pub HasLineOutcome : Line → Files → Outcome → Type 0
HasLineOutcome line files outcome = ((at : ℕ) × HasQueryFault line.digits line.how line.query at
    × (outcome ≡ stopped 2 (query_line at)))
    ⊎ ((query : Query) × IsQueryOf line.digits line.how line.query query
    × HasCountedOutcome (has_right_count query.verb line.second) line query files outcome)

-- the words say no line
abbrev pub SayNoLine : List (List ℕ) → Type 0
SayNoLine words = (line : Line) → SaysLine words line → ⊥

-- how the program ends over the words and files; it has no such end where it asks the files for a name that they lack
abbrev pub HasOutcome : List (List ℕ) → Files → Outcome → Type 0
HasOutcome words files outcome = (SayNoLine words × (outcome ≡ stopped 2 usage_line))
    ⊎ ((line : Line) × SaysLine words line × HasLineOutcome line files outcome)

-- the words and files have the outcome, and no other
pub record TheOutcome (words : List (List ℕ)) (files : Files) (outcome : Outcome) : Type 0 where
  pub has : HasOutcome words files outcome
  pub only : (other : Outcome) → HasOutcome words files other → other ≡ outcome

-- ---- what is refused before a file is read

abbrev pub IsQueryRefused : Line → Query → List ℕ → Type 0
IsQueryRefused line query refusal = (has_right_count query.verb line.second ≡ false) × (refusal ≡ files_line)

abbrev pub IsLineRefused : Line → List ℕ → Type 0
IsLineRefused line refusal = ((at : ℕ) × HasQueryFault line.digits line.how line.query at × (refusal ≡ query_line at))
    ⊎ ((query : Query) × IsQueryOf line.digits line.how line.query query × IsQueryRefused line query refusal)

-- the words, the query or the count of names are refused with this line
abbrev pub AreRefused : List (List ℕ) → List ℕ → Type 0
AreRefused words refusal = (SayNoLine words × (refusal ≡ usage_line))
    ⊎ ((line : Line) × SaysLine words line × IsLineRefused line refusal)

abbrev pub IsQueryAccepted : Line → Query → Type 0
IsQueryAccepted line query = has_right_count query.verb line.second ≡ true

abbrev pub IsLineAccepted : Line → Type 0
IsLineAccepted line = (query : Query) × IsQueryOf line.digits line.how line.query query × IsQueryAccepted line query

-- the words say the line, and its query and its count of names are accepted
abbrev pub AreAccepted : List (List ℕ) → Line → Type 0
AreAccepted words line = SaysLine words line × IsLineAccepted line
