-- JSON texts as a language, and a file's tree (RFC 8259 section 2).
use Rattle.std.specs.Prelude.{ℕ, List, drop, Option}
use Rattle.at_text.specs.Syntax.{HasSyntaxFault}
use Rattle.at_text.specs.Texts.{base_of}
use Rattle.at_text.specs.declared.faults.Fault.{Fault}
use Rattle.at_nest.specs.Tree.{Tree, IsTextOf}

-- the bytes, which begin at the offset, are a JSON text
abbrev pub JsonText : ℕ → List ℕ → Type 0
JsonText at w = (t : Tree) × IsTextOf at w t

-- the file's bytes after a byte order mark, if one stands there, spell the tree
abbrev pub IsFileOf : List ℕ → Tree → Type 0
IsFileOf bytes t = IsTextOf (base_of bytes) (drop (base_of bytes) bytes) t

-- the JSON syntax fault of a file, where it has one
abbrev pub HasJsonFault : List ℕ → Option Fault → Type 0
HasJsonFault bytes fault = HasSyntaxFault (JsonText (base_of bytes)) (base_of bytes) (drop (base_of bytes) bytes) fault
