-- Named files as the entries of a shelf's files.
use Rattle.std.specs.Prelude.{ℕ, List, map}
use Rattle.at_io.specs.Files.{Files}
use Rattle.at_io.specs.declared.mem_shelf.NamedFile.{NamedFile}

-- the file as an entry of the shelf's files
abbrev pub entry_of : NamedFile → List ℕ × List ℕ
entry_of f = (f.name, f.bytes)

abbrev pub entries_of : List NamedFile → Files
entries_of fs = map entry_of fs
