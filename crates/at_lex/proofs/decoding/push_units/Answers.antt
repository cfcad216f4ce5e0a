use Rattle.std.proofs.Common.{[], ◌∷◌, ◌++◌, ap, ◌∙◌, arith}
use Rattle.at_lex.proofs.UnitLemmas.{ascii_steps}
use Rattle.at_lex.proofs.decoding.push_units.Goals as goal

pub returns : goal.returns
returns c =
    let (cs, content) = c.requires.content in
    (_, ascii_steps cs c.args.text.now content c.requires.some c.if-first-eq92.false (omega (arith, c.if-first-ge128.false)), c.in_ok-push.ensures ∙ ap (λ u. c.args.items.now ++ u ∷ []) c.from.ensures)
