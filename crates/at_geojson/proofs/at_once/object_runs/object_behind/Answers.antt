-- The object stands behind the comma.
use Rattle.std.proofs.Common.{◌+◌, sym, arith}
use Rattle.at_geojson.proofs.ValueParts.{item_read}
use Rattle.at_geojson.proofs.at_once.object_runs.object_behind.Goals as goal

pub returns : goal.returns
returns c =
    let whole = c.in_ok-end.ensures in
    let next = c.in-Some.ensures in
    let item = item_read c.args.text.now.algebra.now c.args.text.now.base c.args.text.now.bytes.now (c.args.at + 1) c.in-Some.first c.skip_spaces-end.result c.in_ok-end.field-0 (omega (arith, next.order)) next.spaces whole c.skip_spaces-end.ensures.order c.skip_spaces-end.ensures.within c.skip_spaces-end.ensures.spaces in
    record { comma = next.comma; order = omega (arith, item.order); item = item; object = sym c.if-not-is_any_object.ensures }
