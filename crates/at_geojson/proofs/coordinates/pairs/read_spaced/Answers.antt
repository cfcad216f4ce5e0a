-- A position with white space round it.
use Rattle.at_geojson.proofs.ValueParts.{pair_spaced}
use Rattle.at_geojson.proofs.coordinates.pairs.read_spaced.Goals as goal

pub returns : goal.returns
returns c = pair_spaced c.args.text.now.algebra.now c.args.text.now.base c.args.text.now.bytes.now c.args.at c.in_ok-first.first c.skip_spaces-end.result c.in_ok-end.field-0 c.in_ok-first.ensures.order c.in_ok-first.ensures.spaces c.in_ok-end.ensures
    c.skip_spaces-end.ensures.order c.skip_spaces-end.ensures.within c.skip_spaces-end.ensures.spaces
