use Rattle.std.specs.Prelude.{FitsSigned}
use Rattle.std.specs.Int.{w64}
use Rattle.std.proofs.Common.{rules, ◌+◌, Some, Ok, refl, ap, ◌∙◌}
use Rattle.std.proofs.lemmas.Int.{to_z-of_z}
use Rattle.at_wkt.proofs.Names.{value_in, faults_in, first_of}
use Rattle.at_wkt.proofs.NumberSteps.{number_stands}
use Rattle.at_wkt.proofs.line.numbers.read_plain_number.Goals as goal

pub returns : goal.returns
returns c =
    let number = c.in_ok-number.number in
    let fits : FitsSigned w64 number.value = search rules in
    let (n, stands, e) = number_stands c.args.source.now.text.now c.args.at number.len c.requires.inside c.args.source.now.rules.digits c.args.source.now.rules.how
    (Some (Ok number.value)) (Ok number.value) refl c.in_ok-number.ensures.taken c.in_ok-number.ensures.value in
    (refl, (n, stands, record { value = to_z-of_z w64 number.value fits ∙ ap value_in e; fault = ap (λ r. first_of (faults_in r (c.args.source.now.rules.base + c.args.at))) e }))
