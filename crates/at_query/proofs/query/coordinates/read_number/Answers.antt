use Rattle.std.proofs.Common.{◌+◌, ◌∷◌, [], is_some, sym, ap, subst}
use Rattle.at_wkt.proofs.NumberSteps.{number_stands, number_breaks}
use Rattle.at_query.specs.Readers.{Ends, Number, number_in, WordBreaks}
use Rattle.at_query.proofs.NumberParts.{number_stops, delimiter_stops, number_ends_there, number_is}
use Rattle.at_text.proofs.Exits.{exits}
use Rattle.at_query.proofs.query.coordinates.read_number.Goals as goal

pub returns-in_default : goal.returns-in_default
returns-in_default c = number_stops c.args.rules.digits c.args.rules.how c.args.delimiter c.requires.delimits c.args.text.now c.args.at (c.args.at + c.leading_number-number.result.len)
    (number_breaks c.args.text.now c.args.at c.leading_number-number.result.len c.requires.inside (is_some c.leading_number-number.result.value) c.leading_number-number.ensures.taken (ap is_some c.in_default.is))

pub returns-in_err-behind : goal.returns-in_err-behind
returns-in_err-behind c =
    let (n, stands, e) = number_stands c.args.text.now c.args.at c.leading_number-number.result.len c.requires.inside c.args.rules.digits c.args.rules.how
    c.leading_number-number.result.value c.in-Some.value c.in-Some.is c.leading_number-number.ensures.taken c.leading_number-number.ensures.value in
    exits c.from_residual.result c.in_err-behind.field-0.0 _ (λ k. WordBreaks c.args.text.now (c.args.at + c.leading_number-number.result.len) k (c.args.delimiter ∷ [])) _ c.from_residual.ensures.1
    (λ k b. delimiter_stops c.args.rules.digits c.args.rules.how c.args.delimiter c.requires.delimits c.args.text.now c.args.at (c.args.at + c.leading_number-number.result.len) n stands k b) c.in_err-behind.ensures

pub returns : goal.returns
returns c =
    let (n, stands, e) = number_stands c.args.text.now c.args.at c.leading_number-number.result.len c.requires.inside c.args.rules.digits c.args.rules.how
    c.leading_number-number.result.value c.in-Some.value c.in-Some.is c.leading_number-number.ensures.taken c.leading_number-number.ensures.value in
    let there = number_ends_there c.args.rules.digits c.args.rules.how c.args.delimiter c.requires.delimits c.args.text.now c.args.at (c.args.at + c.leading_number-number.result.len) n stands c.in_ok-behind.behind c.in_ok-behind.ensures in
    let same = number_is c.args.rules.digits c.args.rules.how n c.args.at c.in-Some.value c.number_of.result e c.number_of.ensures.value c.number_of.ensures.fault in
    subst (λ k. Ends (Number c.args.rules.digits c.args.rules.how c.args.delimiter) c.args.text.now c.args.at k (number_in c.number_of.result)) (sym c.number_of.ensures.end)
    (subst (Ends (Number c.args.rules.digits c.args.rules.how c.args.delimiter) c.args.text.now c.args.at c.in_ok-behind.behind) same there)
