-- A position with white space round it.
use Rattle.std.proofs.Common.{arith}
use Rattle.at_geojson.proofs.coordinates.pairs.pass_pair.Goals as goal

pub returns : goal.returns
returns c =
    let (vx, px) = c.in_ok-x.ensures in
    let (vy, py) = c.in_ok-y.ensures in
    let bracket = c.in_ok-bracket.ensures in let comma = c.in_ok-comma.ensures in let ends = c.in_ok-close.ensures in (
      record { x = vx; y = vy },
      record {
        before = bracket.order;
        spaces = bracket.spaces;
        inside = bracket.inside;
        opens = bracket.byte;
        x = px;
        middle = comma.order;
        middle_spaces = comma.spaces;
        comma = comma.byte;
        y = py;
        last = omega (arith, ends.before, ends.order, ends.behind);
        closes = ends;
        behind = c.skip_spaces-end.ensures.order;
        more_spaces = c.skip_spaces-end.ensures.spaces;
        within = c.skip_spaces-end.ensures.within;
      },
    )
