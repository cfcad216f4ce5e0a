-- A string is a value.
use Rattle.bench_nest.proofs.PassedParts.{string_passed}
use Rattle.bench_nest.proofs.passing.pass_string.Goals as goal

pub returns : goal.returns
returns c = string_passed c.args.text.now c.args.at c.in_ok-end.end c.in_ok-end.ensures
