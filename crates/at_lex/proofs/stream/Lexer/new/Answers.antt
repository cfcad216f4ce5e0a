use Rattle.std.proofs.Common.{sym, subst}
use Rattle.at_lex.specs.declared.tokens.Start.{Start}
use Rattle.at_lex.specs.Stream.{IsBegun}
use Rattle.at_lex.proofs.Unique.{begun_one}
use Rattle.at_lex.proofs.stream.Lexer.new.Goals as goal

pub returns-in-Out-clause-only : goal.returns-in-Out-clause-only
returns-in-Out-clause-only c =
    let P : Start → Type 0 = λ s. IsBegun s c.args.base c.args.piece.now c.behind_run.result.0 c.behind_run.result.1 in
    λ other others h. begun_one c.args.start c.args.base c.args.piece.now other c.behind_run.result.0 others c.behind_run.result.1 h (subst P (sym c.in-Out.is) c.behind_run.ensures)

pub returns-in_default : goal.returns-in_default
returns-in_default c = record {
  begun = c.behind_text.ensures;
  only = λ other others h. begun_one c.args.start c.args.base c.args.piece.now other c.behind_text.result.0 others c.behind_text.result.1 h c.behind_text.ensures;
}
