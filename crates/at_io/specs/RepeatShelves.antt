-- What a shelf of equal bytes holds, and when its calls fail.
use Rattle.std.specs.Prelude.{◌≡◌, ℕ, ◌+◌, ◌<◌, min, List, [], ◌∷◌, length, replicate, string_bytes, Option, Some, None}
use Rattle.std.specs.Prelude.{if◌then◌else◌}
use Rattle.at_io.specs.Counts.{last_count}
use Rattle.at_io.specs.Files.{Files, bytes_named}
use Rattle.at_io.specs.declared.repeat_shelf.RepeatShelf.{RepeatShelf}

-- the name of its one file
abbrev pub name_of : RepeatShelf → List ℕ
name_of s = string_bytes s.name

-- the bytes of its one file
abbrev pub bytes_of : RepeatShelf → List ℕ
bytes_of s = replicate s.len s.byte

-- the files of the shelf
abbrev pub files_of : RepeatShelf → Files
files_of s = (name_of s, bytes_of s) ∷ []

-- the name begun last, where it is that of the file
abbrev pub named_of : RepeatShelf → Option (List ℕ)
named_of s = if s.is_begun then Some (name_of s) else None

-- the bytes not yet read of the file begun last
abbrev pub left_of : RepeatShelf → List ℕ
left_of s = replicate s.left s.byte

-- how many bytes the next read gives into a room of that length, if it doesn't fail
abbrev pub given_of : RepeatShelf → ℕ → ℕ
given_of s room = min room (length (left_of s))

-- a begin of that name fails: the shelf has no such file
abbrev pub BeginFails : RepeatShelf → List ℕ → Type 0
BeginFails s name = bytes_named (files_of s) name ≡ None

-- a read into a room of that length fails: the count of bytes would pass its end
abbrev pub ReadFails : RepeatShelf → ℕ → Type 0
ReadFails s room = last_count < s.counts.taken + given_of s room

-- its counts: of bytes given, of begins, of the begins at the last failure, of failures
abbrev pub taken_of : RepeatShelf → ℕ
taken_of s = s.counts.taken

abbrev pub begins_of : RepeatShelf → ℕ
begins_of s = s.counts.begins

abbrev pub broken_of : RepeatShelf → ℕ
broken_of s = s.counts.broken

abbrev pub faults_of : RepeatShelf → ℕ
faults_of s = s.counts.faults
