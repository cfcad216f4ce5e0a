use Rattle.std.proofs.lemmas.Bool.{not-false, not-true}
use Rattle.at_wkt.proofs.CheckAnswers.{row_start, passed_more, passed_end}
use Rattle.at_wkt.proofs.line.checks.pass_row.Goals as goal

pub positions-init : goal.positions-init
positions-init c = let (first, so_far) = row_start c.args.source.now.rules c.args.source.now.text.now c.args.from.at c.args.from.dimension c.in_ok-last.last c.in_ok-last.ensures in (first, first, so_far)

pub positions-preserved : goal.positions-preserved
positions-preserved c =
    let (first, last, so_far) = c.positions.invariant in
    let (next, more) = passed_more c.args.source.now.rules c.args.source.now.text.now c.args.from.at c.args.from.dimension first last _ _ _ so_far (not-true c.positions.last.is_last c.positions-test.true) c.in_ok-last-2.last c.in_ok-last-2.ensures in
    (first, next, more)

pub returns : goal.returns
returns c =
    let (first, last, so_far) = c.positions.invariant in
    (_, passed_end c.args.source.now.rules c.args.source.now.text.now c.args.from.at c.args.from.dimension first last _ _ _ so_far (not-false c.positions.last.is_last c.positions-test.false))
