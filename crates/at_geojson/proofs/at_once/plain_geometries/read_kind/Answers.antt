-- The name that was looked at as a whole word is that of the kind.
use Rattle.at_geojson.proofs.KindReads.{kind_named}
use Rattle.at_geojson.proofs.at_once.plain_geometries.read_kind.Goals as goal

pub returns : goal.returns
returns c = kind_named c.args.text.now.algebra.now c.args.text.now.base c.args.text.now.bytes.now c.args.at c.skip_spaces-first.result c.in-Some.field-0 c.skip_spaces-end.result c.skip_spaces-first.ensures.order c.skip_spaces-first.ensures.spaces
    c.in-Some.ensures c.skip_spaces-end.ensures.order c.skip_spaces-end.ensures.within c.skip_spaces-end.ensures.spaces
