-- Positions one behind another in an array that are read at once. Only contracts of private functions cite this.
use Rattle.std.specs.Prelude.{◌≡◌, ℕ, ◌+◌, ◌<◌, List, ◌∷◌, length, slice_index, Some, None}
use Rattle.at_nest.specs.Tree.{Tree}
use Rattle.at_geom.specs.declared.positions.Pos.{Pos}
use Rattle.at_query.specs.Keeping.{Asked}
use Rattle.at_geojson.specs.declared.atoms.atom.GeoAtom.TheVariants as atoms
use Rattle.at_geojson.specs.declared.atoms.atom.TrackAtom.{TrackAtom}
use Rattle.at_geojson.specs.declared.coordinates.pairs.PairRead.{PairRead}
use Rattle.at_geojson.specs.declared.coordinates.pairs.Whole.{Whole}
use Rattle.at_geojson.specs.Atoms.{TrackView, track_view, AreTracked}
use Rattle.at_geojson.specs.FeatureRuns.{AreItemsAt}
use Rattle.at_geojson.specs.Passing.{PassesTo}
use Rattle.at_geojson.specs.Values.{IsSpacedPair}

-- a comma at the place, and behind it a position with white space round it
pub record IsNextPair (asked : Asked) (base : ℕ) (w : List ℕ) (at : ℕ) (p : PairRead) : Type 0 where
  pub inside : at < length w
  pub comma : slice_index w at ≡ 0x2C
  pub pair : IsSpacedPair asked base w (at + 1) p

-- the same of a position that is passed over up to the place
pub record PassesNext (asked : Asked) (w : List ℕ) (at end : ℕ) : Type 0 where
  pub inside : at < length w
  pub comma : slice_index w at ≡ 0x2C
  pub passed : PassesTo asked w (at + 1) end

-- from the text's front up to the place stand positions one behind another, the first at the offset, and this is what a
-- track keeps of them
pub record ArePositionsRead (asked : Asked) (base : ℕ) (w : List ℕ) (end at : ℕ) (v : TrackView) : Type 0 where
  pub before : at < base + end
  pub first : Tree
  pub others : List Tree
  pub there : AreItemsAt base w 0 end first others
  pub tracked : AreTracked asked at v (first ∷ others)

-- the track of so many positions, up to four, and of these values
pub record IsTrackRead (first : PairRead) (count : ℕ) (last : PairRead) (path : List Pos) (p : Whole) : Type 0 where
  pub track : TrackAtom
  pub atom : p.atom ≡ atoms.Track track
  pub behind : p.end ≡ last.end
  pub at_is : track.at ≡ first.pair.at
  pub view : track_view track.track.value ≡ record { first = Some first.pair.pos; last = Some last.pair.pos; count = count; fault = None; path = path }
