-- What is made of two feeds that were polled, and of what is kept of both.
use Rattle.std.specs.Prelude.{◌≡◌, ◌⊎◌, List, Result, Ok, Err}
use Rattle.at_query.specs.declared.answer.parts.Entry.{Entry}
use Rattle.at_task.specs.declared.ends.PairEnd.{PairEnd}
use Rattle.at_task.specs.declared.ends.PairEnd.TheVariants as ends
use Rattle.at_task.specs.declared.kept.Kept.{Kept}
use Rattle.at_task.specs.declared.kept.Kept.TheVariants.{Nothing, Found, Failed}
use Rattle.at_task.specs.declared.kept.Told.{Told}
use Rattle.at_task.specs.declared.kept.Told.TheVariants as told
use Rattle.at_task.specs.declared.join_feeds.Both.{Both}
use Rattle.at_task.specs.declared.join_feeds.Stage.{Stage}
use Rattle.at_task.specs.declared.join_feeds.Stage.TheVariants as stages

-- what is made of both
abbrev pub IsStage : Told → Told → Stage → Type 0
IsStage first second stages.FirstTooLarge = first ≡ told.TooLarge
IsStage first second stages.SecondTooLarge = (¬ (first ≡ told.TooLarge)) × (second ≡ told.TooLarge)
IsStage first second stages.Lacks = (¬ (first ≡ told.TooLarge)) × (¬ (second ≡ told.TooLarge))
IsStage first second stages.FirstWaits = (first ≡ told.Waits)
    × ((second ≡ told.Waits) ⊎ (second ≡ told.Done))
IsStage first second stages.SecondWaits = (first ≡ told.Done) × (second ≡ told.Waits)
IsStage first second stages.Done = (first ≡ told.Done) × (second ≡ told.Done)

-- what two feeds that are done give together
abbrev pub IsMade : Kept → Kept → Result Both PairEnd → Type 0
IsMade first second (Ok both) = (first ≡ Found both.first) × (second ≡ Found both.second)
IsMade first second (Err (ends.First fault)) = first ≡ Failed fault
IsMade first second (Err (ends.Second fault)) = ((entries : List Entry) × (first ≡ Found entries))
    × (second ≡ Failed fault)
IsMade first second (Err ends.FirstTooLarge) = ⊥
IsMade first second (Err ends.SecondTooLarge) = ⊥
IsMade first second (Err ends.Memory) = (first ≡ Nothing) ⊎ (second ≡ Nothing)
