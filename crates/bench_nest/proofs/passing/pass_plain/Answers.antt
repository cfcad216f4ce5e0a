-- A number behind white space.
use Rattle.std.proofs.Common.{true, refl, ◌+◌}
use Rattle.at_fixed.specs.Numerals.{JsonNumber}
use Rattle.bench_nest.proofs.PassedParts.{number_passed, item_ended}
use Rattle.bench_nest.proofs.passing.pass_plain.Goals as goal
use Rattle.at_scan.proofs.Taken.{taken_whole}

pub returns : goal.returns
returns c =
    let w = c.args.text.now in let first = c.skip_spaces-first.result in let n = c.in_ok-len.len in
    let (fits, number) = taken_whole JsonNumber w first (record { len = n; whole = true }) c.in_ok-len.ensures.taken refl in
    item_ended w c.args.at first (first + n) 1 c.skip_spaces-first.ensures.order c.skip_spaces-first.ensures.spaces (number_passed w first n c.skip_spaces-first.ensures.within fits number)
