use Rattle.std.proofs.Common.{◌<◌, arith}
use Rattle.at_fixed.proofs.GapMasks.{first_is_set}
use Rattle.at_fixed.proofs.gaps.first_two.Goals as goal

pub returns-else-rest-eq0 : goal.returns-else-rest-eq0
returns-else-rest-eq0 c =
    let rest = c.without_first-rest.result in
    let less = c.without_first-rest.ensures.less in
    let some : 0 < rest = omega (arith, c.if-rest-eq0.false) in
    let first = first_is_set c.args.mask (omega (arith, some, less)) c.ranges.mask.fits in
    record {
      rest = rest;
      first = first;
      cleared = c.without_first-rest.ensures.bits _ first;
      less = less;
      second = first_is_set rest some (omega (arith, less, c.ranges.mask.fits));
    }
