-- A name with its colon.
use Rattle.bench_nest.proofs.PassedParts.{name_passed}
use Rattle.bench_nest.proofs.passing.pass_name.Goals as goal

pub returns-then-stands : goal.returns-then-stands
returns-then-stands c = name_passed c.args.text.now c.args.at c.skip_spaces-first.result c.in_ok-end.end c.skip_spaces-colon.result c.skip_spaces-first.ensures.order c.skip_spaces-first.ensures.spaces c.in_ok-end.ensures
    c.skip_spaces-colon.ensures.order c.skip_spaces-colon.ensures.spaces (c.stands.ensures.inside c.if-stands.true) (c.stands.ensures.byte c.if-stands.true)
