-- How a sink is told a line: all of it, or a prefix of it where its count of faults rose.
use Rattle.std.specs.Prelude.{◌⊎◌, ℕ, List, Option}
use Rattle.at_io.specs.Counts.{Rose}
use Rattle.at_io.specs.Sinks.{Grows, GrowsByPrefix}
use Rattle.at_io.specs.declared.sink.Sink.{Ghosts}

-- the sink's faults and content before and after, and the line
abbrev pub Tells : ℕ → ℕ → Option (List ℕ) → Option (List ℕ) → List ℕ → Type 0
Tells faults faults' written written' line = Grows written written' line
    ⊎ (Rose faults faults' × GrowsByPrefix written written' line)

-- of a sink before and after, by all that it tells of itself
module _ {E : Type 0} (sinks : Ghosts E) where
  -- its count of faults rose
  abbrev pub HasFailed : E → E → Type 0
  HasFailed before after = Rose (sinks.faults before) (sinks.faults after)

  -- its content grew by the text
  abbrev pub HasGrown : E → E → List ℕ → Type 0
  HasGrown before after text = Grows (sinks.written before) (sinks.written after) text

  -- its content grew by a prefix of the text
  abbrev pub HasGrownByPrefix : E → E → List ℕ → Type 0
  HasGrownByPrefix before after text = GrowsByPrefix (sinks.written before) (sinks.written after) text

  -- it was told the line
  abbrev pub WasTold : E → E → List ℕ → Type 0
  WasTold before after line = Tells (sinks.faults before) (sinks.faults after) (sinks.written before)
      (sinks.written after) line
