use Rattle.std.proofs.Common.{ℕ, sym, subst}
use Rattle.at_wkt.proofs.Names.{SpellsPosition, Item, Stuck, FurtherNumbers, NumberBreaks, SkipsBlanks}
use Rattle.at_wkt.proofs.PositionAnswers.{position_stands, apart}
use Rattle.at_wkt.proofs.ListSteps.{position_broken_first, position_joined, position_broken_second, position_further}
use Rattle.at_text.proofs.Exits.{exits}
use Rattle.at_wkt.proofs.line.positions.any_position.Goals as goal

pub returns-in_err-x : goal.returns-in_err-x
returns-in_err-x c = exits c.from_residual.result c.in_err-x.field-0.0 _ (NumberBreaks c.args.source.now.text.now c.skip_blanks-start.result) _ c.from_residual.ensures.1
    (λ n h. position_broken_first c.args.source.now.rules.base c.args.source.now.text.now c.args.from.at c.skip_blanks-start.result c.args.from.dimension c.skip_blanks-start.ensures n c.requires.count h) c.in_err-x.ensures

pub returns-then-gap-x : goal.returns-then-gap-x
returns-then-gap-x c =
    let (n, stands, is) = c.in_ok-x.ensures in
    let none : SkipsBlanks c.args.source.now.text.now c.in_ok-x.x.end c.in_ok-x.x.end = subst (SkipsBlanks c.args.source.now.text.now c.in_ok-x.x.end) c.if-gap-x.true c.skip_blanks-gap.ensures in
    subst (Stuck (Item SpellsPosition) c.args.source.now.rules.base c.args.source.now.text.now c.args.from.at c.args.from.dimension) (sym c.if-gap-x.true)
    (position_joined c.args.source.now.rules.base c.args.source.now.text.now c.args.from.at c.skip_blanks-start.result c.args.from.dimension c.skip_blanks-start.ensures c.in_ok-x.x.end n stands c.requires.count none)

pub returns-in_err-y : goal.returns-in_err-y
returns-in_err-y c =
    let (n, stands, is) = c.in_ok-x.ensures in
    exits c.from_residual-in_err-y.result c.in_err-y.field-0.0 _ (NumberBreaks c.args.source.now.text.now c.skip_blanks-gap.result) _ c.from_residual-in_err-y.ensures.1
    (λ k h. position_broken_second c.args.source.now.rules.base c.args.source.now.text.now c.args.from.at c.skip_blanks-start.result c.args.from.dimension c.skip_blanks-start.ensures c.in_ok-x.x.end n stands
    c.skip_blanks-gap.result c.skip_blanks-gap.ensures (apart c.in_ok-x.x.end c.skip_blanks-gap.result c.skip_blanks-gap.ensures.order c.if-gap-x.false) k c.requires.count h) c.in_err-y.ensures

pub returns-in_err-numbers : goal.returns-in_err-numbers
returns-in_err-numbers c =
    let (n, stands, is) = c.in_ok-x.ensures in
    let (m, stands2, is2) = c.in_ok-y.ensures in
    exits c.from_residual-in_err-numbers.result c.in_err-numbers.field-0.0 _ (λ k. (base : ℕ) → Stuck (FurtherNumbers 2) base c.args.source.now.text.now c.in_ok-y.y.end c.args.from.dimension k) _ c.from_residual-in_err-numbers.ensures.1
    (λ k h. (position_further c.args.source.now.rules.base c.args.source.now.text.now c.args.from.at c.skip_blanks-start.result c.args.from.dimension c.skip_blanks-start.ensures c.in_ok-x.x.end n stands
    c.skip_blanks-gap.result c.skip_blanks-gap.ensures (apart c.in_ok-x.x.end c.skip_blanks-gap.result c.skip_blanks-gap.ensures.order c.if-gap-x.false) c.in_ok-y.y.end m stands2).stuck k (h c.args.source.now.rules.base)) c.in_err-numbers.ensures

pub returns : goal.returns
returns c =
    let (n, stands, is) = c.in_ok-x.ensures in
    let (m, stands2, is2) = c.in_ok-y.ensures in
    position_stands c.args.source.now.rules c.args.source.now.text.now c.args.from.at c.skip_blanks-start.result c.in_ok-x.x.end c.skip_blanks-gap.result c.in_ok-y.y.end c.args.from.dimension n m c.in_ok-x.x c.in_ok-y.y c.in_ok-numbers.numbers
    c.pos_at.result c.first_fault.result c.skip_blanks-start.ensures stands c.skip_blanks-gap.ensures (apart c.in_ok-x.x.end c.skip_blanks-gap.result c.skip_blanks-gap.ensures.order c.if-gap-x.false) stands2 is is2
    (c.in_ok-numbers.ensures c.args.source.now.rules.base) c.pos_at.ensures c.first_fault.ensures
