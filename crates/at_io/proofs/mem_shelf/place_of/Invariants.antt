use Rattle.std.proofs.Common.{◌≡◌, drop}
use Rattle.at_io.specs.Files.{bytes_named}
use Rattle.at_io.specs.NamedFiles.{entries_of}
use Rattle.at_io.proofs.mem_shelf.place_of.Given as goal

-- what is left of the files has under the name what all of them have
abbrev pub invariant-loop-i : goal.invariant-loop-i
invariant-loop-i l = bytes_named (entries_of (drop l.i l.files)) l.name ≡ bytes_named (entries_of l.files) l.name
