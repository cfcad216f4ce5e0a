use Rattle.std.proofs.Common.{◌+◌, Some, None, Ok, refl, ap}
use Rattle.at_wkt.proofs.Names.{value_in, faults_in, first_of}
use Rattle.at_wkt.proofs.NumberSteps.{number_stands}
use Rattle.at_wkt.proofs.line.numbers.pass_plain_number.Goals as goal

pub returns-in-Some : goal.returns-in-Some
returns-in-Some c =
    let len = c.in-Some.len in
    let (v, is) = c.in-Some.ensures.value in
    let (n, stands, e) = number_stands c.args.source.now.text.now c.args.at len c.requires.inside c.args.source.now.rules.digits c.args.source.now.rules.how (Some (Ok v)) (Ok v) refl c.in-Some.ensures.taken is in
    (record { value = v; fault = None; end = c.args.at + len }, refl, (n, stands, record { value = ap value_in e; fault = ap (λ r. first_of (faults_in r (c.args.source.now.rules.base + c.args.at))) e }))
