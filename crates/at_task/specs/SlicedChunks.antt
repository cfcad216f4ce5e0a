-- What a source over bytes that are there has left, and when its calls are pending.
use Rattle.std.specs.Prelude.{ℕ, min, Contains, Bool, List, length, drop}
use Rattle.at_task.specs.declared.sliced.Sliced.{Sliced}

-- the bytes still to be given
abbrev pub rest_of : Sliced → List ℕ
rest_of s = drop s.at s.bytes.items

-- the end was told
abbrev pub has_ended : Sliced → Bool
has_ended s = s.ended

-- how often it was pending, how many calls there were, and how many bytes one gives
abbrev pub waits_of : Sliced → ℕ
waits_of s = s.waits

abbrev pub calls_of : Sliced → ℕ
calls_of s = s.calls

abbrev pub size_of : Sliced → ℕ
size_of s = s.size

-- the numbers of the calls that are pending
abbrev pub listed_of : Sliced → List ℕ
listed_of s = s.listed.items

-- the next call is pending
abbrev pub IsListed : Sliced → Type 0
IsListed s = Contains (listed_of s) (calls_of s)

-- how many bytes the next call gives into a room of that length, if it isn't pending
abbrev pub given_of : Sliced → ℕ → ℕ
given_of s room = min (length (rest_of s)) (min room (size_of s))
