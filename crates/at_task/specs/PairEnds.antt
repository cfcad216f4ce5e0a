-- What two feeds give together of their bytes, and what is answered of them. Nothing here knows of chunks or of polls.
use Rattle.std.specs.Prelude.{◌≡◌, ℕ, ◌≤◌, ◌<◌, List, length, Some, None, Result, Ok, Err}
use Rattle.at_query.specs.declared.features.Feature.{Feature}
use Rattle.at_query.specs.declared.answer.parts.Part.TheVariants.{Entries}
use Rattle.at_query.specs.declared.answer.answers.Answer.{Answer}
use Rattle.at_query.specs.declared.answer.answers.Answer.TheVariants.{Pairs}
use Rattle.at_query.specs.declared.answer.answers.Pair.{Pair}
use Rattle.at_query.specs.Results.{IsJoined}
use Rattle.at_join.specs.Meetings.{IsAllPairs}
use Rattle.at_run.specs.Files.{AreFileFeaturesIn}
use Rattle.at_run.specs.Readers.{Asks}
use Rattle.at_task.specs.declared.ends.PairEnd.{PairEnd}
use Rattle.at_task.specs.declared.ends.PairEnd.TheVariants.{First, Second, FirstTooLarge, SecondTooLarge, Memory}
use Rattle.at_task.specs.declared.join_feeds.Both.{Both}
use Rattle.at_task.specs.FeedEnds.{most_bytes, HasFound, IsBytesPart}

-- the answer is the pairs of the entries that meet
abbrev pub ArePairsOf : Both → Answer → Type 0
ArePairsOf both answer = (pairs : List Pair) × (answer ≡ Pairs pairs) × IsAllPairs both.first both.second pairs

-- what is asked of each, and the bytes of each
module _ (asks_a asks_b : Asks) (a b : List ℕ) where
  -- why they have no join: the first that are too many, or else the first fault of the first, or else that of the
  -- second; want of memory has no cause in them
  abbrev pub IsPairEnd : PairEnd → Type 0
  IsPairEnd (First fault) = HasFound asks_a a (Some fault) × (length b ≤ most_bytes)
  IsPairEnd (Second fault) = HasFound asks_a a None × HasFound asks_b b (Some fault)
  IsPairEnd FirstTooLarge = most_bytes < length a
  IsPairEnd SecondTooLarge = most_bytes < length b
  IsPairEnd Memory = Unit {0}

  -- the entries of both, which have no fault
  abbrev pub AreEntries : Both → Type 0
  AreEntries both = IsBytesPart asks_a a (Entries both.first) × IsBytesPart asks_b b (Entries both.second)

  -- neither has a fault, and the answer is that of the join over their features; the tests are of the first's
  pub record IsPairsAnswer (answer : Answer) : Type 0 where
    pub first_faultless : HasFound asks_a a None
    pub second_faultless : HasFound asks_b b None
    pub first : List Feature
    pub are_first : AreFileFeaturesIn asks_a.form asks_a.digits asks_a.how a first
    pub second : List Feature
    pub are_second : AreFileFeaturesIn asks_b.form asks_b.digits asks_b.how b second
    pub is_joined : IsJoined asks_a.query first second answer

-- what two feeds may give
abbrev pub IsPaired : Asks → Asks → List ℕ → List ℕ → Result Both PairEnd → Type 0
IsPaired asks_a asks_b a b (Ok both) = AreEntries asks_a asks_b a b both
IsPaired asks_a asks_b a b (Err end) = IsPairEnd asks_a asks_b a b end

-- what may be answered
abbrev pub IsPairAnswered : Asks → Asks → List ℕ → List ℕ → Result Answer PairEnd → Type 0
IsPairAnswered asks_a asks_b a b (Ok answer) = IsPairsAnswer asks_a asks_b a b answer
IsPairAnswered asks_a asks_b a b (Err end) = IsPairEnd asks_a asks_b a b end
