-- A scalar with white space round it.
use Rattle.at_geojson.proofs.ValueParts.{item_passed}
use Rattle.at_geojson.proofs.at_once.passing.pass_item.Goals as goal

pub returns : goal.returns
returns c base = item_passed c.args.text.now.algebra.now base c.args.text.now.bytes.now c.args.at c.skip_spaces-first.result c.in_ok-end.end c.skip_spaces.result c.skip_spaces-first.ensures.order c.skip_spaces-first.ensures.spaces c.in_ok-end.ensures
    c.skip_spaces.ensures.order c.skip_spaces.ensures.within c.skip_spaces.ensures.spaces
