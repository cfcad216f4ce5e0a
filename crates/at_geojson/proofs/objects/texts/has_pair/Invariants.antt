use Rattle.std.proofs.Common.{◌≡◌, drop}
use Rattle.at_query.specs.Holding.{has_text}
use Rattle.at_geojson.proofs.objects.texts.has_pair.Given as goal

abbrev pub invariant-loop-text : goal.invariant-loop-text
invariant-loop-text l = has_text (drop l.text-index l.texts) l.name l.value ≡ has_text l.texts l.name l.value
