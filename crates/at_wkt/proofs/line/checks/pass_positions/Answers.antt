use Rattle.std.proofs.Common.{◌+◌, refl, sym, subst}
use Rattle.at_wkt.proofs.CheckAnswers.{PassedSoFar, passed_start, passed_next, passed_more, passed_end}
use Rattle.at_wkt.specs.Readers.{IsPassedList}
use Rattle.at_wkt.proofs.line.checks.pass_positions.Goals as goal

pub returns-then-first : goal.returns-then-first
returns-then-first c =
    let start = passed_start c.args.source.now.rules c.args.source.now.text.now c.args.from.at c.args.from.dimension c.in_ok-first.first c.in_ok-first.ensures.stands c.in_ok-first.ensures.faultless in
    subst (IsPassedList c.args.source.now.rules c.args.source.now.text.now c.args.from.at c.args.from.dimension) (sym c.list_passed.ensures) (passed_end c.args.source.now.rules c.args.source.now.text.now c.args.from.at c.args.from.dimension _ _ _ _ _ start c.if-first.true)

pub positions-init : goal.positions-init
positions-init c =
    let first = c.in_ok-first.first in
    (first, subst (λ z. PassedSoFar c.args.source.now.rules c.args.source.now.text.now c.args.from.at c.args.from.dimension first first z first.behind 1) c.if-first.false (passed_start c.args.source.now.rules c.args.source.now.text.now c.args.from.at c.args.from.dimension first c.in_ok-first.ensures.stands c.in_ok-first.ensures.faultless))

pub returns-then-passed : goal.returns-then-passed
returns-then-passed c =
    let (last, stands, none, ended, same) = c.in_ok-list.ensures in
    let all = passed_next c.args.source.now.rules c.args.source.now.text.now c.args.from.at c.args.from.dimension _ _ _ _ _ c.positions.invariant.1 refl last stands none in
    subst (IsPassedList c.args.source.now.rules c.args.source.now.text.now c.args.from.at c.args.from.dimension) (sym same) (passed_end c.args.source.now.rules c.args.source.now.text.now c.args.from.at c.args.from.dimension _ _ _ _ _ all ended)

pub positions-preserved : goal.positions-preserved
positions-preserved c =
    let passed = c.in_ok-passed.passed in
    let (last, so_far) = passed_more c.args.source.now.rules c.args.source.now.text.now c.args.from.at c.args.from.dimension _ _ _ _ _ c.positions.invariant.1 refl passed c.in_ok-passed.ensures in
    (last, subst (λ z. PassedSoFar c.args.source.now.rules c.args.source.now.text.now c.args.from.at c.args.from.dimension c.in_ok-first.first last z passed.behind (c.positions.count + 1)) c.if-passed.false so_far)
