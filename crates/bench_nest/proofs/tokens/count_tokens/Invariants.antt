use Rattle.std.proofs.Common.{◌≡◌, List, length}
use Rattle.at_lex.specs.declared.tokens.Token.{Token}
use Rattle.at_lex.specs.declared.tokens.Pend.{Pend}
use Rattle.at_lex.specs.declared.tokens.Start.{Start}
use Rattle.at_lex.specs.Stream.{HasLeft}
use Rattle.bench_nest.specs.Values.{values_in}
use Rattle.bench_nest.proofs.tokens.count_tokens.Given as goal

abbrev pub invariant-loop-token : goal.invariant-loop-token
invariant-loop-token l = (ts : List Token) (pend : Pend) (end : Start) → HasLeft l.lexer ts pend end
    → (all : List Token) × HasLeft l.initial.lexer all pend end × (values_in 0 all ≡ values_in l.count ts)

abbrev pub decreases-loop-token : goal.decreases-loop-token
decreases-loop-token l = length l.lexer.rest
