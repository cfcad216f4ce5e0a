-- The gate that the blocks of a file pass, and the cells of a join: where an answer is written, it gave up none of them.
use Rattle.std.specs.Prelude.{◌≡◌, ℕ, List, Option, Some, None}
use Rattle.at_blocks.specs.Places.{IsLeastCount}
use Rattle.at_blocks.specs.Blocks.{NoneGivenUp}
use Rattle.at_cli.specs.declared.words.line.Line.{Line}
use Rattle.at_cli.specs.LineOf.{SaysLine}

-- nor any cell of a join of two files
abbrev pub PassesCells : List ℕ → Option (List ℕ) → Type 0
PassesCells given_up None = Unit {0}
PassesCells given_up (Some second) = NoneGivenUp given_up 0 64

-- the gate gives up no block of a file that is cut as the line asks
abbrev pub PassesBlocks : List ℕ → Line → Type 0
PassesBlocks given_up line = (count : ℕ) × IsLeastCount line.blocks count × NoneGivenUp given_up 0 count

-- no block where files are cut into blocks and not read in chunks, and no cell of the join of two
abbrev pub PassesGate : List ℕ → Line → Type 0
PassesGate given_up line = (line.feed ≡ None → PassesBlocks given_up line) × PassesCells given_up line.second

-- the same of the line that the words say
abbrev pub PassesSaid : List ℕ → List (List ℕ) → Type 0
PassesSaid given_up words = (line : Line) × SaysLine words line × PassesGate given_up line
