-- What contracts see of a feed.
use Rattle.std.specs.Prelude.{◌≡◌, ℕ, true, Bool, List, [], Option, IfSome, Result}
use Rattle.at_query.specs.declared.answer.parts.Part.{Part}
use Rattle.at_run.specs.Readers.{Asks}
use Rattle.at_task.specs.declared.ends.FeedEnd.{FeedEnd}
use Rattle.at_task.specs.declared.chunks.Chunks.{Ghosts}
use Rattle.at_task.specs.declared.feeds.Feed.{Feed}
use Rattle.at_task.specs.FeedEnds.{told_bytes, AreFeedBytes, IsFed}

module _ {T : Type 0} {g : Ghosts T} where
  -- where its bytes come from
  abbrev pub source_of : Feed T g → T
  source_of f = f.source

  -- what is asked of them
  abbrev pub asks_of : Feed T g → Asks
  asks_of f = f.intake.asks

  -- after how many bytes a poll may end, though there are more
  abbrev pub turn_of : Feed T g → ℕ
  turn_of f = f.turn

  -- the bytes taken so far
  abbrev pub taken_of : Feed T g → List ℕ
  taken_of f = f.intake.taken

  -- it was ready
  abbrev pub has_given : Feed T g → Bool
  has_given f = f.given

  -- what it gave is kept in it
  abbrev pub keeps_of : Feed T g → Bool
  keeps_of f = f.intake.kept

  -- its bytes, where its source tells what is to come
  abbrev pub bytes_of : Feed T g → Option (List ℕ)
  bytes_of f = told_bytes (taken_of f) (g.rest (source_of f))

  -- these may be its bytes
  abbrev pub HasBytes : Feed T g → List ℕ → Type 0
  HasBytes f bytes = AreFeedBytes (taken_of f) (g.rest (source_of f)) bytes

  -- nothing is left, where that is told
  abbrev pub IsEmptied : Feed T g → Type 0
  IsEmptied f = IfSome (g.rest (source_of f)) (λ told. told ≡ [])

  -- its source told the end, and nothing is left where that is told: its bytes are those taken
  abbrev pub IsWhole : Feed T g → Type 0
  IsWhole f = (g.ended (source_of f) ≡ true) × IsEmptied f

  -- it may give this
  abbrev pub MayGive : Feed T g → Result Part FeedEnd → Type 0
  MayGive f out = (bytes : List ℕ) × HasBytes f bytes × IsFed (asks_of f) bytes out
