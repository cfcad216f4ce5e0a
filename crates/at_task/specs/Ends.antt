-- How a source tells its end.
use Rattle.std.specs.Prelude.{◌≡◌, ℕ, ◌<◌}
use Rattle.futures.specs.declared.task.Poll.{Poll}
use Rattle.futures.specs.declared.task.Poll.TheVariants.{Ready}

-- the answer to a call with a room of that length is the end: no byte, though there was room for one
abbrev pub IsEnd : Poll ℕ → ℕ → Type 0
IsEnd answer room = (answer ≡ Ready 0) × (0 < room)
