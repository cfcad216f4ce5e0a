-- The bracket where it is expected.
use Rattle.std.proofs.Common.{[], refl, arith}
use Rattle.at_scan.proofs.numbers.position_end.Goals as goal

pub returns-in-Some : goal.returns-in-Some
returns-in-Some c =
    let n = c.in-Some.ensures in
    record {
      first = c.in-Some.place;
      before = n.order;
      spaces = n.spaces;
      places = [];
      place = c.in-Some.place;
      further = refl;
      order = omega arith;
      inside = n.inside;
      closes = n.byte;
      behind = refl;
    }
