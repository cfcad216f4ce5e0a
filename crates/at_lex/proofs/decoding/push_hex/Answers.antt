use Rattle.std.proofs.Common.{[], ◌∷◌, ◌++◌, ap, ◌∙◌}
use Rattle.at_lex.proofs.UnitLemmas.{hex_steps}
use Rattle.at_lex.proofs.decoding.push_hex.Goals as goal

pub returns : goal.returns
returns c =
    let (cs, content) = c.requires.content in
    (_, hex_steps cs c.args.text.now content c.requires.escape c.requires.u, c.in_ok-push.ensures ∙ ap (λ u. c.args.items.now ++ u ∷ []) c.hex_unit.ensures)
