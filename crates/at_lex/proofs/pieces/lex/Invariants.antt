use Rattle.std.proofs.Common.{List, ◌++◌, length}
use Rattle.at_lex.specs.declared.tokens.Token.{Token}
use Rattle.at_lex.specs.declared.tokens.Pend.{Pend}
use Rattle.at_lex.specs.declared.tokens.Start.{Start}
use Rattle.at_lex.specs.Stream.{HasLeft}
use Rattle.at_lex.proofs.pieces.lex.Given as goal

abbrev pub invariant-loop-token : goal.invariant-loop-token
invariant-loop-token l = (ts : List Token) (pend : Pend) (end : Start) → HasLeft l.lexer ts pend end → HasLeft l.initial.lexer (l.tokens.items ++ ts) pend end

abbrev pub decreases-loop-token : goal.decreases-loop-token
decreases-loop-token l = length l.lexer.rest
