use Rattle.std.proofs.Common.{◌+◌, take, get_or, arith}
use Rattle.std.proofs.lemmas.List.{take_more}
use Rattle.at_wkt.specs.declared.line.kinds.Kind.TheVariants.{Point}
use Rattle.at_wkt.proofs.KindAnswers.{kinds, tried_none, tried_more, tried_end}
use Rattle.at_wkt.proofs.line.kinds.read_kind.Goals as goal

pub loop-kind-init : goal.loop-kind-init
loop-kind-init c = tried_none c.args.text.now c.args.at c.requires

pub loop-kind-preserved : goal.loop-kind-preserved
loop-kind-preserved c =
    let i = c.loop-kind.kind-index in
    tried_more c.args.text.now c.args.at c.loop-kind.longest c.larger-longest.result c.matching-count.result (take i kinds) (take (i + 1) kinds) (get_or kinds i Point) c.word-word.result.now
    c.loop-kind.invariant c.word-word.ensures c.matching-count.ensures c.if-count-word.false (c.larger-longest.ensures.first, c.larger-longest.ensures.second, c.larger-longest.ensures.either)
    (take_more kinds i Point c.loop-kind-test.true)

pub returns : goal.returns
returns c = tried_end c.args.text.now c.args.at c.loop-kind.longest c.loop-kind.kind-index (omega arith) c.loop-kind.invariant
