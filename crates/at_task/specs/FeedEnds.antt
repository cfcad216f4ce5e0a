-- What a feed gives of its bytes, and what is answered of them. Nothing here knows of chunks or of polls.
use Rattle.std.specs.Prelude.{◌≡◌, ℕ, ◌≤◌, ◌<◌, ◌^◌, List, ◌++◌, length, Option, Some, None, option_map, Result, Ok, Err}
use Rattle.at_text.specs.declared.faults.Fault.{Fault}
use Rattle.at_query.specs.declared.answer.parts.Part.{Part}
use Rattle.at_query.specs.declared.answer.answers.Answer.{Answer}
use Rattle.at_run.specs.Files.{HasFileFaultIn, TheFileFaultIn}
use Rattle.at_run.specs.Answers.{IsFilePart, IsFileAnswer}
use Rattle.at_run.specs.Readers.{Asks}
use Rattle.at_task.specs.declared.ends.FeedEnd.{FeedEnd}
use Rattle.at_task.specs.declared.ends.FeedEnd.TheVariants.{Found, TooLarge, Memory}

-- the most bytes that are read
abbrev pub most_bytes : ℕ
most_bytes = 2 ^ 28

-- the bytes of which these were taken and this is the rest, where that is told
abbrev pub told_bytes : List ℕ → Option (List ℕ) → Option (List ℕ)
told_bytes taken rest = option_map (λ more. taken ++ more) rest

-- the bytes are what was taken and the rest, or, where the rest isn't told, begin with what was taken
abbrev pub AreFeedBytes : List ℕ → Option (List ℕ) → List ℕ → Type 0
AreFeedBytes taken (Some rest) bytes = bytes ≡ taken ++ rest
AreFeedBytes taken None bytes = (rest : List ℕ) × (bytes ≡ taken ++ rest)

-- what a query is asked of some bytes, and gets
module _ (asks : Asks) (bytes : List ℕ) where
  -- the bytes are no more than are read, and their first fault is this one
  abbrev pub HasFound : Option Fault → Type 0
  HasFound first = (length bytes ≤ most_bytes) × HasFileFaultIn asks.form asks.digits asks.how bytes first

  -- why they have no part: they are too many, or have this first fault; want of memory has no cause in them
  abbrev pub IsFeedEnd : FeedEnd → Type 0
  IsFeedEnd (Found fault) = HasFound (Some fault)
  IsFeedEnd TooLarge = most_bytes < length bytes
  IsFeedEnd Memory = Unit {0}

  -- they are few enough and without a fault, and the part is that of their features
  abbrev pub IsBytesPart : Part → Type 0
  IsBytesPart part = (length bytes ≤ most_bytes) × IsFilePart asks.form asks.digits asks.how asks.query bytes part

  abbrev pub IsBytesAnswer : Answer → Type 0
  IsBytesAnswer answer = (length bytes ≤ most_bytes)
      × IsFileAnswer asks.form asks.digits asks.how asks.query bytes answer

-- what a feed may give
abbrev pub IsFed : Asks → List ℕ → Result Part FeedEnd → Type 0
IsFed asks bytes (Ok part) = IsBytesPart asks bytes part
IsFed asks bytes (Err end) = IsFeedEnd asks bytes end

-- what may be answered
abbrev pub IsAnswered : Asks → List ℕ → Result Answer FeedEnd → Type 0
IsAnswered asks bytes (Ok answer) = IsBytesAnswer asks bytes answer
IsAnswered asks bytes (Err end) = IsFeedEnd asks bytes end

-- no other fault is the first one of the bytes, and where they are answered none is
abbrev pub IsOnlyEnd : Asks → List ℕ → Result Answer FeedEnd → Type 0
IsOnlyEnd asks bytes (Ok answer) = TheFileFaultIn asks.form asks.digits asks.how bytes None
IsOnlyEnd asks bytes (Err (Found fault)) = TheFileFaultIn asks.form asks.digits asks.how bytes (Some fault)
IsOnlyEnd asks bytes (Err _) = Unit {0}
