-- What a shelf in memory holds, and when its calls fail.
use Rattle.std.specs.Prelude.{◌≡◌, ◌⊎◌, ℕ, ◌+◌, ◌<◌, min, Contains, List, [], length, drop, slice_get, Option, Some}
use Rattle.std.specs.Prelude.{None, option_map, option_and_then, if◌then◌else◌}
use Rattle.at_io.specs.Counts.{last_count}
use Rattle.at_io.specs.Files.{Files, bytes_named}
use Rattle.at_io.specs.declared.mem_shelf.NamedFile.{NamedFile}
use Rattle.at_io.specs.declared.mem_shelf.MemShelf.{MemShelf}
use Rattle.at_io.specs.NamedFiles.{entries_of}

-- the files of the shelf
abbrev pub files_of : MemShelf → Files
files_of s = entries_of s.files.items

-- the numbers of the calls that fail
abbrev pub failing_calls : MemShelf → List ℕ
failing_calls s = s.fails.items

-- the file begun last, where the shelf has it
abbrev pub file_begun : MemShelf → Option NamedFile
file_begun s = option_and_then (λ i. slice_get s.files.items i) s.begun

abbrev pub named_of : MemShelf → Option (List ℕ)
named_of s = option_map (λ (f : NamedFile). f.name) (file_begun s)

abbrev pub bytes_begun : Option NamedFile → List ℕ
bytes_begun None = []
bytes_begun (Some f) = f.bytes

-- the bytes not yet read of the file begun last
abbrev pub left_of : MemShelf → List ℕ
left_of s = if s.is_open then drop s.at (bytes_begun (file_begun s)) else []

-- how many bytes the next read gives into a room of that length, if it doesn't fail
abbrev pub given_of : MemShelf → ℕ → ℕ
given_of s room = min s.piece (min room (length (left_of s)))

-- a begin of that name fails: its number is listed, or it names no file
abbrev pub BeginFails : MemShelf → List ℕ → Type 0
BeginFails s name = Contains (failing_calls s) s.calls ⊎ (bytes_named (files_of s) name ≡ None)

-- a read into a room of that length fails: its number is listed, or the count of bytes would pass its end
abbrev pub ReadFails : MemShelf → ℕ → Type 0
ReadFails s room = Contains (failing_calls s) s.calls ⊎ (last_count < s.counts.taken + given_of s room)

-- how many calls of begin and read there were
abbrev pub calls_of : MemShelf → ℕ
calls_of s = s.calls

-- the most bytes that one read gives
abbrev pub piece_of : MemShelf → ℕ
piece_of s = s.piece

-- its counts: of bytes given, of begins, of the begins at the last failure, of failures
abbrev pub taken_of : MemShelf → ℕ
taken_of s = s.counts.taken

abbrev pub begins_of : MemShelf → ℕ
begins_of s = s.counts.begins

abbrev pub broken_of : MemShelf → ℕ
broken_of s = s.counts.broken

abbrev pub faults_of : MemShelf → ℕ
faults_of s = s.counts.faults
