-- A short name of a kind.
use Rattle.std.proofs.Common.{sym, ◌∙◌}
use Rattle.at_geojson.proofs.KindReads.{simple_read}
use Rattle.at_geojson.proofs.at_once.plain_geometries.any_kind.Goals as goal

pub returns-in-Some-kind_of : goal.returns-in-Some-kind_of
returns-in-Some-kind_of c asked base =
    let (a, item, none, kind, text) = simple_read asked base c.args.text.now c.args.at _ c.in-Some.ensures in
    record { atom = a; item = item; no_twin = none; kind = kind ∙ sym c.in-Some-kind_of.ensures }
