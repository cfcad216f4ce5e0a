-- Why a feed is pending.
use Rattle.std.specs.Prelude.{◌≡◌, ◌⊎◌, ◌+◌, ◌≤◌, false, length}
use Rattle.at_io.specs.Counts.{Rose}
use Rattle.at_task.specs.declared.chunks.Chunks.{Ghosts}
use Rattle.at_task.specs.declared.feeds.Feed.{Feed}
use Rattle.at_task.specs.Feeds.{source_of, turn_of, taken_of, has_given}

-- a feed that wasn't done was pending: its source was, or as many bytes as a turn has came
abbrev pub HasWaited : {T : Type 0} {g : Ghosts T} → Feed T g → Feed T g → Type 0
HasWaited {T} {g} old new = (has_given old ≡ false) × (Rose (g.waits (source_of old)) (g.waits (source_of new))
    ⊎ (length (taken_of old) + turn_of old ≤ length (taken_of new)))
