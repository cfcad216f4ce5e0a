-- A number that is written plainly.
use Rattle.std.proofs.Common.{true, refl}
use Rattle.at_fixed.specs.Numerals.{JsonNumber}
use Rattle.bench_nest.proofs.PassedParts.{number_passed}
use Rattle.bench_nest.proofs.passing.pass_number.Goals as goal
use Rattle.at_scan.proofs.Taken.{taken_whole}

pub returns-in-Some : goal.returns-in-Some
returns-in-Some c = let (fits, number) = taken_whole JsonNumber c.args.text.now c.args.at (record { len = c.in-Some.len; whole = true }) c.in-Some.ensures.taken refl in
    number_passed c.args.text.now c.args.at c.in-Some.len c.requires.inside fits number
