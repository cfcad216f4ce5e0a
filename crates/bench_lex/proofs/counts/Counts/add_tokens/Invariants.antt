use Rattle.std.proofs.Common.{length}
use Rattle.bench_lex.proofs.counts.Counts.add_tokens.Given as goal

abbrev pub decreases-loop-token : goal.decreases-loop-token
decreases-loop-token l = length l.lexer.rest
