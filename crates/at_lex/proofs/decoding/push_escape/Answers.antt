use Rattle.std.proofs.Common.{[], ◌∷◌, ◌++◌, ap, ◌∙◌}
use Rattle.at_lex.proofs.UnitLemmas.{hex_digits, short_steps}
use Rattle.at_lex.proofs.decoding.push_escape.Goals as goal

pub push_hex-requires-clause-digits : goal.push_hex-requires-clause-digits
push_hex-requires-clause-digits c = let (cs, content) = c.requires.content in hex_digits cs c.args.text.now content c.requires.escape c.if-text-eq117.true

pub returns : goal.returns
returns c =
    let (cs, content) = c.requires.content in
    (_, short_steps cs c.args.text.now content c.requires.escape c.if-text-eq117.false, c.in_ok-push.ensures ∙ ap (λ u. c.args.items.now ++ u ∷ []) c.escape_unit.ensures)
