use Rattle.std.proofs.Common.{◌≡◌, ◌≤◌, ◌-◌, length}
use Rattle.at_blocks.specs.Places.{AreCuts, first_place, last_place}
use Rattle.at_blocks.proofs.cuts.Cuts.near_features.Given as goal

abbrev pub invariant-loop-index : goal.invariant-loop-index
invariant-loop-index l = (AreCuts l.places.items) × (first_place l.places.items ≡ first_place l.initial.places.items)
    × (last_place l.places.items ≡ last_place l.initial.places.items) × (length l.places.items ≡ length l.initial.places.items)
    × (last_place l.initial.places.items ≤ length l.bytes) × (l.last ≡ length l.initial.places.items - 1)
