-- A number behind white space.
use Rattle.std.proofs.Common.{true, refl}
use Rattle.at_scan.proofs.Taken.{number_taken}
use Rattle.at_geojson.proofs.ValueParts.{value_taken}
use Rattle.at_geojson.proofs.coordinates.pairs.read_plain.Goals as goal

pub returns : goal.returns
returns c =
    let w = c.args.text.now.bytes.now in let first = c.skip_alike-first.result in let number = c.in_ok-number.number in
    let t = number_taken w first (record { len = number.len; whole = true }) c.skip_alike-first.ensures.within c.in_ok-number.ensures.taken refl in
    record {
      before = c.skip_alike-first.ensures.order;
      spaces = c.skip_alike-first.ensures.spaces;
      order = t.order;
      within = t.within;
      number = t.word;
      value = value_taken w first number.len c.digits.result c.how.result c.args.text.now.algebra.now number.value c.digits.ensures c.how.ensures c.in_ok-number.ensures.value;
    }
