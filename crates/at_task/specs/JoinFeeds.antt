-- What contracts see of two feeds that are taken side by side.
use Rattle.std.specs.Prelude.{◌≡◌, ℕ, ◌≤◌, Bool, true, List, length, Result}
use Rattle.at_task.specs.declared.ends.PairEnd.{PairEnd}
use Rattle.at_task.specs.declared.chunks.Chunks.{Ghosts}
use Rattle.at_task.specs.declared.feeds.Feed.{Feed}
use Rattle.at_task.specs.declared.join_feeds.Both.{Both}
use Rattle.at_task.specs.declared.join_feeds.JoinFeed.{JoinFeed}
use Rattle.at_task.specs.FeedEnds.{most_bytes}
use Rattle.at_task.specs.Feeds.{asks_of, taken_of, has_given, HasBytes}
use Rattle.at_task.specs.PairEnds.{IsPaired}

module _ {T U : Type 0} {g : Ghosts T} {h : Ghosts U} where
  -- the two feeds
  abbrev pub first_of : JoinFeed T U g h → Feed T g
  first_of j = j.first

  abbrev pub second_of : JoinFeed T U g h → Feed U h
  second_of j = j.second

  -- it was ready
  abbrev pub has_answered : JoinFeed T U g h → Bool
  has_answered j = j.given

  -- both are done, and neither took more bytes than are read
  abbrev pub HasCome : Feed T g → Feed U h → Type 0
  HasCome first second = (has_given first ≡ true) × (has_given second ≡ true)
      × (length (taken_of first) ≤ most_bytes) × (length (taken_of second) ≤ most_bytes)

  -- it may give this
  abbrev pub MayPair : JoinFeed T U g h → Result Both PairEnd → Type 0
  MayPair j out = (a b : List ℕ) × HasBytes (first_of j) a × HasBytes (second_of j) b
      × IsPaired (asks_of (first_of j)) (asks_of (second_of j)) a b out
