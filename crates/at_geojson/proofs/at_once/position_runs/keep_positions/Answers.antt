-- Each position is read behind those before it, and its values are kept.
use Rattle.std.proofs.Common.{◌++◌, ◌∷◌, [], All, true, refl, sym, ◌∙◌, ap, subst}
use Rattle.std.proofs.lemmas.List.Elements.{All-nil, All-cons}
use Rattle.at_geom.specs.Segments.{IsInRange}
use Rattle.at_geojson.proofs.PositionReads.{ArePositionsSoFar, first_seen, next_seen, range_more, positions_told}
use Rattle.at_geojson.proofs.at_once.position_runs.keep_positions.Goals as goal

pub positions-init : goal.positions-init
positions-init c =
    let first = c.args.first in
    record {
      within = c.requires.first.within;
      range = subst (All IsInRange) (sym (c.in_ok-push.ensures.items ∙ ap (λ xs. xs ++ first.pair.pos ∷ []) c.in_ok-path.ensures.items)) (All-cons IsInRange first.pair.pos [] c.requires.first.own (All-nil IsInRange));
      read = subst (ArePositionsSoFar c.args.text.now.algebra.now c.args.text.now.base c.args.text.now.bytes.now first.end first _ 1) (sym (c.in_ok-push.ensures.items ∙ ap (λ xs. xs ++ first.pair.pos ∷ []) c.in_ok-path.ensures.items))
          (first_seen c.args.text.now.algebra.now c.args.text.now.base c.args.text.now.bytes.now true c.requires.needed first c.requires.first);
    }

pub positions-preserved : goal.positions-preserved
positions-preserved c =
    let next = c.in-Some.next in
    record {
      within = c.in-Some.ensures.pair.within;
      range = subst (All IsInRange) (sym c.in_ok-push-2.ensures.items) (range_more c.args.text.now.algebra.now c.args.text.now.base c.args.text.now.bytes.now c.positions.path.items c.positions.last.end next c.positions.invariant.range c.in-Some.ensures);
      read = subst (ArePositionsSoFar c.args.text.now.algebra.now c.args.text.now.base c.args.text.now.bytes.now next.end c.args.first _ c.one_more-count.result) (sym c.in_ok-push-2.ensures.items)
          (next_seen c.args.text.now.algebra.now c.args.text.now.base c.args.text.now.bytes.now true c.requires.needed c.positions.last.end c.positions.count c.one_more-count.result c.positions.path.items c.args.first next _ c.positions.invariant.read c.in-Some.ensures c.one_more-count.ensures);
    }

pub returns : goal.returns
returns c = positions_told c.args.text.now.algebra.now c.args.text.now.base c.args.text.now.bytes.now c.positions.last.end c.positions.count c.args.first c.positions.last c.positions.path.items refl c.positions.invariant.range c.positions.invariant.read c.track_read.result c.track_read.ensures
