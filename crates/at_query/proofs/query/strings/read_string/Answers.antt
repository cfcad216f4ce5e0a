use Rattle.std.proofs.Common.{subst}
use Rattle.std.proofs.lemmas.Bool.{not-false, not-true}
use Rattle.at_lex.specs.Strings.{AreUnitsOf}
use Rattle.at_query.proofs.StringParts.{slice_part, text_ends, text_stops}
use Rattle.at_query.proofs.query.strings.read_string.Goals as goal

pub returns-then-not-taken : goal.returns-then-not-taken
returns-then-not-taken c = text_stops c.args.text.now c.args.at c.take_text-taken.result.len c.requires.inside c.take_text-taken.result.whole c.take_text-taken.ensures (not-true c.take_text-taken.result.whole c.if-not-taken.true)

pub returns : goal.returns
returns c =
    text_ends c.args.text.now c.args.at c.take_text-taken.result.len c.requires.inside c.take_text-taken.result.whole c.take_text-taken.ensures (not-false c.take_text-taken.result.whole c.if-not-taken.false) c.in_ok-found.found
    (subst (λ z. AreUnitsOf z c.in_ok-found.found) (slice_part c.args.text.now c.args.at c.take_text-taken.result.len) c.in_ok-found.ensures)
