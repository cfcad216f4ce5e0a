-- What is kept of bytes, and what is made of two feeds.
use Rattle.std.specs.Prelude.{ℕ, Bool, true, false, List, Some}
use Rattle.at_query.specs.declared.answer.parts.Part.TheVariants.{Entries}
use Rattle.at_run.specs.Readers.{Asks}
use Rattle.at_task.specs.declared.kept.Kept.{Kept}
use Rattle.at_task.specs.declared.kept.Kept.TheVariants.{Nothing, Found, Failed}
use Rattle.at_task.specs.FeedEnds.{HasFound, IsBytesPart}

-- something is kept
abbrev pub keeps_any : Kept → Bool
keeps_any Nothing = false
keeps_any (Found entries) = true
keeps_any (Failed fault) = true

-- what is kept is what is said of the bytes
abbrev pub IsKept : Asks → List ℕ → Kept → Type 0
IsKept asks bytes Nothing = Unit {0}
IsKept asks bytes (Found entries) = IsBytesPart asks bytes (Entries entries)
IsKept asks bytes (Failed fault) = HasFound asks bytes (Some fault)
