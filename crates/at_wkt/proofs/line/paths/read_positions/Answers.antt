use Rattle.std.proofs.Common.{◌≡◌, [], ◌∷◌, ◌++◌, refl, sym, ◌∙◌, ap, subst}
use Rattle.std.proofs.lemmas.Bool.{not-false, not-true}
use Rattle.at_wkt.proofs.Names.{SpellsPosition, Item, Stuck, PositionsSoFar}
use Rattle.at_wkt.proofs.PathAnswers.{positions_start, positions_more, positions_stuck, positions_stuck_first, positions_end}
use Rattle.at_text.proofs.Exits.{exits}
use Rattle.at_wkt.proofs.line.paths.read_positions.Goals as goal

pub returns-in_err-first : goal.returns-in_err-first
returns-in_err-first c = exits c.from_residual.result c.in_err-first.field-0.0 _ (Stuck (Item SpellsPosition) c.args.source.now.rules.base c.args.source.now.text.now c.args.from.at c.args.from.dimension) _ c.from_residual.ensures.1
    (positions_stuck_first c.args.source.now.rules c.args.source.now.text.now c.args.from.at c.args.from.dimension) c.in_err-first.ensures

pub positions-init : goal.positions-init
positions-init c =
    let first = c.in_ok-first.first in
    let e : c.push.new.self.items ≡ first.pos ∷ [] = c.in_ok-push.ensures.items ∙ ap (λ z. z ++ (first.pos ∷ [])) c.requires.none in
    subst (λ z. PositionsSoFar c.args.source.now.rules c.args.source.now.text.now c.args.from.at c.args.from.dimension first first z first.fault) (sym e)
    (positions_start c.args.source.now.rules c.args.source.now.text.now c.args.from.at c.args.from.dimension first c.in_ok-first.ensures)

pub positions-preserved : goal.positions-preserved
positions-preserved c = positions_more c.args.source.now.rules c.args.source.now.text.now c.args.from.at c.args.from.dimension c.in_ok-first.first c.positions.last c.in_ok-last.last c.positions.path.items c.push-in-positions.new.self.items
    c.positions.fault c.add_fault-fault.result c.positions.invariant (not-true c.positions.last.is_last c.positions-test.true) c.in_ok-last.ensures c.in_ok-push-2.ensures.items c.add_fault-fault.ensures

pub returns-in_err-last : goal.returns-in_err-last
returns-in_err-last c = exits c.from_residual-in_err-last.result c.in_err-last.field-0.0 _ (Stuck (Item SpellsPosition) c.args.source.now.rules.base c.args.source.now.text.now c.positions.last.behind.at c.positions.last.behind.dimension) _ c.from_residual-in_err-last.ensures.1
    (λ n h. positions_stuck c.args.source.now.rules c.args.source.now.text.now c.args.from.at c.args.from.dimension c.in_ok-first.first c.positions.last c.positions.path.items c.positions.fault n c.positions.invariant (not-true c.positions.last.is_last c.positions-test.true) h) c.in_err-last.ensures

pub returns : goal.returns
returns c = positions_end c.args.source.now.rules c.args.source.now.text.now c.args.from.at c.args.from.dimension c.in_ok-first.first c.positions.last c.positions.path.items c.positions.fault _ c.positions.invariant (not-false c.positions.last.is_last c.positions-test.false)
    refl c.closes_with.ensures refl refl
