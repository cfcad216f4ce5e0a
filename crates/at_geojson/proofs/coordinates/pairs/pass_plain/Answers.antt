-- A number behind white space: its value is there, and isn't computed.
use Rattle.std.proofs.Common.{true, refl}
use Rattle.at_scan.proofs.Taken.{number_taken}
use Rattle.at_geojson.proofs.ValueParts.{value_taken}
use Rattle.at_geojson.proofs.coordinates.pairs.pass_plain.Goals as goal

pub returns : goal.returns
returns c =
    let w = c.args.text.now.bytes.now in let first = c.skip_alike-first.result in let len = c.in_ok-len.len in
    let (v, f) = c.in_ok-len.ensures.value in
    let t = number_taken w first (record { len = len; whole = true }) c.skip_alike-first.ensures.within c.in_ok-len.ensures.taken refl in (
      v,
      record {
        before = c.skip_alike-first.ensures.order;
        spaces = c.skip_alike-first.ensures.spaces;
        order = t.order;
        within = t.within;
        number = t.word;
        value = value_taken w first len c.digits.result c.how.result c.args.text.now.algebra.now v c.digits.ensures c.how.ensures f;
      },
    )
