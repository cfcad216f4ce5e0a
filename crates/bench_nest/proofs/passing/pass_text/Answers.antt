-- A whole string.
use Rattle.at_lex.specs.Strings.{JsonString}
use Rattle.bench_nest.proofs.PassedParts.{text_passed}
use Rattle.bench_nest.proofs.passing.pass_text.Goals as goal
use Rattle.at_scan.proofs.Taken.{taken_whole}

pub returns-then-taken : goal.returns-then-taken
returns-then-taken c = let (fits, string) = taken_whole JsonString c.args.text.now c.args.at c.take_text-taken.result c.take_text-taken.ensures c.if-taken.true in
    text_passed c.args.text.now c.args.at c.take_text-taken.result.len c.requires.inside fits string
