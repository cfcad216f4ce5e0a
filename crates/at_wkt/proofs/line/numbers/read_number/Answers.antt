use Rattle.std.proofs.Common.{◌≡◌, ◌+◌, Option, None, Result, ℤ, false, is_some, sym, ◌∙◌, ap, subst}
use Rattle.at_wkt.proofs.Names.{FixedFault, value_in, faults_in, NumberStands, first_of}
use Rattle.at_wkt.proofs.NumberSteps.{number_stands, number_breaks}
use Rattle.at_wkt.proofs.line.numbers.read_number.Goals as goal

none_whole : (o : Option (Result ℤ FixedFault)) → o ≡ None → is_some o ≡ false
none_whole o e = ap is_some e

pub returns-in-None : goal.returns-in-None
returns-in-None c = number_breaks c.args.source.now.text.now c.args.at c.leading_number-number.result.len c.requires.inside (is_some c.leading_number-number.result.value)
    c.leading_number-number.ensures.taken (none_whole c.leading_number-number.result.value c.in-None.is)

pub returns-in-Some : goal.returns-in-Some
returns-in-Some c =
    let (n, stands, e) = number_stands c.args.source.now.text.now c.args.at c.leading_number-number.result.len c.requires.inside c.args.source.now.rules.digits c.args.source.now.rules.how
    c.leading_number-number.result.value c.in-Some.value c.in-Some.is c.leading_number-number.ensures.taken c.leading_number-number.ensures.value in (
      n,
      subst (λ j. NumberStands c.args.source.now.text.now c.args.at j n) (sym c.coordinate_of.ensures.end) stands,
      record {
        value = c.coordinate_of.ensures.value ∙ ap value_in e;
        fault = c.coordinate_of.ensures.fault ∙ ap (λ r. first_of (faults_in r (c.args.source.now.rules.base + c.args.at))) e;
      },
    )
