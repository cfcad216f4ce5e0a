-- A number that is written plainly.
use Rattle.std.proofs.Common.{rules, w64, true, refl, ◌+◌}
use Rattle.std.specs.Prelude.{FitsSigned}
use Rattle.std.proofs.lemmas.Int.{to_z-of_z}
use Rattle.at_scan.proofs.Taken.{number_taken}
use Rattle.at_geojson.proofs.ValueParts.{value_taken, number_read}
use Rattle.at_geojson.proofs.at_once.values.read_number.Goals as goal

pub returns-in-Some : goal.returns-in-Some
returns-in-Some c =
    let w = c.args.text.now.bytes.now in let number = c.in-Some.number in
    let fits : FitsSigned w64 c.in-Some.number.value = search rules in
    number_read c.args.text.now.algebra.now c.args.text.now.base w c.args.at (c.args.at + number.len) _ number.value (to_z-of_z w64 number.value fits)
    (number_taken w c.args.at (record { len = number.len; whole = true }) c.requires.inside c.in-Some.ensures.taken refl)
    (value_taken w c.args.at number.len c.digits.result c.how.result c.args.text.now.algebra.now number.value c.digits.ensures c.how.ensures c.in-Some.ensures.value)
