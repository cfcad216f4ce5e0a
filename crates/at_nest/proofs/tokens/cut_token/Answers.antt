-- No byte is no token.
use Rattle.std.proofs.Common.{sym, ◌∙◌}
use Rattle.at_nest.specs.Shown.{shown}
use Rattle.at_nest.specs.KeptItems.{IsAtomOf}
use Rattle.at_nest.proofs.TokenReads.{cut_nothing}
use Rattle.at_nest.proofs.TokenMarks.{empty_is, other_is_run}
use Rattle.at_nest.proofs.tokens.cut_token.Goals as goal

pub returns-then-is_empty : goal.returns-then-is_empty
returns-then-is_empty g c =
    cut_nothing (IsAtomOf g.A.Algebra c.args.algebra.now) (shown c.args.body.now) c.args.at c.args.text.now (empty_is c.args.text.now (sym c.is_empty.ensures ∙ c.if-is_empty.true))

pub cut_run-requires-clause-begins : goal.cut_run-requires-clause-begins
cut_run-requires-clause-begins g c κs within = other_is_run c.args.text.now c.requires.token (sym c.is_empty.ensures ∙ c.if-is_empty.false) c.if-text-eq34.false
