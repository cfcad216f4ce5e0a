-- Each position is passed over behind those before it, and the last one is read.
use Rattle.std.proofs.Common.{[], IfOk, false, refl, subst}
use Rattle.std.proofs.lemmas.List.Elements.{All-nil}
use Rattle.at_geom.specs.Segments.{IsInRange}
use Rattle.at_geojson.specs.PositionRuns.{IsTrackRead}
use Rattle.at_geojson.proofs.PositionReads.{position_alone, first_seen, next_seen, passing_on, positions_told, ahead_within}
use Rattle.at_geojson.proofs.at_once.position_runs.pass_positions.Goals as goal

pub returns-in_default : goal.returns-in_default
returns-in_default c = position_alone c.args.text.now.algebra.now c.args.text.now.base c.args.text.now.bytes.now c.args.first c.requires.first

pub positions-init : goal.positions-init
positions-init c = record {
  within = ahead_within c.args.text.now.algebra.now c.args.text.now.base c.args.text.now.bytes.now c.args.first.end c.in-Some.ahead c.in-Some.ensures;
  passed = (_, first_seen c.args.text.now.algebra.now c.args.text.now.base c.args.text.now.bytes.now false c.requires.unneeded c.args.first c.requires.first);
  next = c.in-Some.ensures;
}

pub positions-preserved : goal.positions-preserved
positions-preserved c = record {
  within = ahead_within c.args.text.now.algebra.now c.args.text.now.base c.args.text.now.bytes.now c.positions.ahead c.in-Some-pass_next.next c.in-Some-pass_next.ensures;
  passed = passing_on c.args.text.now.algebra.now c.args.text.now.base c.args.text.now.bytes.now c.positions.end c.positions.ahead c.positions.count c.one_more-count.result c.args.first c.requires.unneeded c.positions.invariant.passed c.positions.invariant.next c.one_more-count.ensures;
  next = c.in-Some-pass_next.ensures;
}

pub returns-in-Some-next_pair : goal.returns-in-Some-next_pair
returns-in-Some-next_pair c =
    let asked = c.args.text.now.algebra.now in let base = c.args.text.now.base in let w = c.args.text.now.bytes.now in
    let last = c.in-Some-next_pair.last in let (before, r) = c.positions.invariant.passed in
    positions_told asked base w last.end c.one_more.result c.args.first last [] refl (All-nil IsInRange) (next_seen asked base w false c.requires.unneeded c.positions.end c.positions.count c.one_more.result [] c.args.first last before r c.in-Some-next_pair.ensures c.one_more.ensures)
    c.track_read.result (subst (λ path. IfOk c.track_read.result (IsTrackRead c.args.first c.one_more.result last path)) c.new.ensures.items c.track_read.ensures)
