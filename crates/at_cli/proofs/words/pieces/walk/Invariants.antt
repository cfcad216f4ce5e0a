use Rattle.std.proofs.Common.{◌≡◌, map, drop, string_bytes}
use Rattle.at_cli.specs.Steps.{shown, walk}
use Rattle.at_cli.proofs.words.pieces.walk.Given as goal

-- what is left to read from here gives what all words give
abbrev pub invariant-loop-word : goal.invariant-loop-word
invariant-loop-word l = walk (shown l.fn.pieces) (map string_bytes l.words) ≡ walk (shown l.pieces) (map string_bytes (drop l.word-index l.words))
