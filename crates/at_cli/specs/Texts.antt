-- The lines that the program writes to its error output (docs/FORMATS.md, "Refusals").
use Rattle.std.specs.Prelude.{ℕ, codes, decimal, List, ◌++◌}
use Rattle.at_text.specs.declared.faults.Fault.{Fault}
use Rattle.at_text.specs.declared.faults.FaultKind.{FaultKind}
use Rattle.at_text.specs.declared.faults.FaultKind.TheVariants.{NotUtf8, Syntax, Ended, Twin, Form, Short, Ring, Scale}
use Rattle.at_text.specs.declared.faults.FaultKind.TheVariants.{Range}

abbrev pub kind_name : FaultKind → List ℕ
kind_name NotUtf8 = codes "NotUtf8"
kind_name Syntax = codes "Syntax"
kind_name Ended = codes "Ended"
kind_name Twin = codes "Twin"
kind_name Form = codes "Form"
kind_name Short = codes "Short"
kind_name Ring = codes "Ring"
kind_name Scale = codes "Scale"
kind_name Range = codes "Range"

abbrev pub usage_line : List ℕ
usage_line = codes "usage: atgis [--form geojson|wkt|seq] [--coords exact|round] [--digits 7|9] [--blocks 1..4096] [--workers 1..64] [--feed 1..1048576] QUERY FILE [SECOND]\n"

-- the offset of a query's fault
abbrev pub query_line : ℕ → List ℕ
query_line at = codes "query: at " ++ decimal at ++ codes "\n"

abbrev pub files_line : List ℕ
files_line = codes "files: join takes two, every other verb one\n"

abbrev pub fault_line : List ℕ → Fault → List ℕ
fault_line name fault = name ++ codes ": " ++ kind_name fault.kind ++ codes " at " ++ decimal fault.at ++ codes "\n"

abbrev pub unread_line : List ℕ → List ℕ
unread_line name = name ++ codes ": read failed\n"

abbrev pub size_line : List ℕ → List ℕ
size_line name = name ++ codes ": more than 268435456 bytes\n"

abbrev pub write_line : List ℕ
write_line = codes "output: write failed\n"

abbrev pub memory_line : List ℕ
memory_line = codes "out of memory\n"
