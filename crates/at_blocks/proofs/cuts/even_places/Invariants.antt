use Rattle.at_blocks.proofs.EvenPlaces.{PlacesSoFar}
use Rattle.at_blocks.proofs.cuts.even_places.Given as goal

abbrev pub invariant-loop-index : goal.invariant-loop-index
invariant-loop-index l = PlacesSoFar l.base l.len l.count l.index l.places.items
