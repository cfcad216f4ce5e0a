use Rattle.std.proofs.Common.{◌≡◌, take}
use Rattle.at_geojson.proofs.objects.texts.copy_texts.Given as goal

abbrev pub invariant-loop-pair : goal.invariant-loop-pair
invariant-loop-pair l = l.items.items ≡ take l.pair-index l.pairs
