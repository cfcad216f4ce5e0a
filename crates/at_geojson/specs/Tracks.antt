-- Positions one behind another in an array, joined as they come. Only contracts of private functions cite this.
use Rattle.std.specs.Prelude.{◌≡◌, ℕ, ◌+◌, ◌==◌, min, Bool, true, ◌&&◌, if◌then◌else◌, List, [], ◌∷◌, ◌++◌, All}
use Rattle.std.specs.Prelude.{Option, Some, None, is_none}
use Rattle.std.specs.Bool.{⊤}
use Rattle.std.specs.List.{list_all}
use Rattle.std.specs.Ordering.{int_eq}
use Rattle.at_text.specs.Faults.{first_fault}
use Rattle.at_text.specs.declared.faults.Fault.{Fault}
use Rattle.at_geom.specs.declared.positions.Pos.{Pos}
use Rattle.at_geom.specs.Segments.{IsInRange}
use Rattle.at_geom.specs.Shapes.{line_fault, ring_fault}
use Rattle.at_nest.specs.Tree.{Tree}
use Rattle.at_nest.specs.Folds.{AreItemFolds}
use Rattle.at_query.specs.Keeping.{Asked, kept}
use Rattle.at_geojson.specs.declared.atoms.atom.GeoAtom.{GeoAtom}
use Rattle.at_geojson.specs.declared.atoms.atom.GeoAtom.TheVariants as atoms
use Rattle.at_geojson.specs.declared.atoms.atom.Points.{Points}
use Rattle.at_geojson.specs.declared.atoms.atom.PointsAtom.{PointsAtom}
use Rattle.at_geojson.specs.declared.atoms.atom.Track.{Track}
use Rattle.at_geojson.specs.declared.atoms.atom.TrackAtom.{TrackAtom}
use Rattle.at_geojson.specs.Atoms.{at_of, PositionView, TrackView, track_view, to_four, as_position, IsFold, IsRun}
use Rattle.at_geojson.specs.Atoms.{AreTracked}
use Rattle.at_geojson.specs.Gathering.{seen, rank, sort_of, position_fault, position_value}

-- a position, or several
abbrev pub is_position : GeoAtom → Bool
is_position a = rank (sort_of a) == 2

abbrev pub as_track : GeoAtom → Option TrackAtom
as_track (atoms.Track t) = Some t
as_track _ = None

-- ---- what is kept of the positions for which an atom stands

-- where a position is, if it has no fault
abbrev pub place_in : GeoAtom → Option Pos
place_in a = seen None (λ (v : PositionView). if is_none v.fault then Some v.pos else None) (as_position a)

abbrev pub first_in : GeoAtom → Option Pos
first_in a = seen (place_in a) (λ (t : TrackAtom). t.track.value.first) (as_track a)

abbrev pub last_in : GeoAtom → Option Pos
last_in a = seen (place_in a) (λ (t : TrackAtom). t.track.value.last) (as_track a)

abbrev pub count_in : GeoAtom → ℕ
count_in a = seen 1 (λ (t : TrackAtom). t.track.value.count) (as_track a)

abbrev pub fault_in : GeoAtom → Option Fault
fault_in a = seen (position_fault a) (λ (t : TrackAtom). t.track.value.fault) (as_track a)

abbrev pub path_in : Bool → GeoAtom → List Pos
path_in needs a = seen (kept needs (position_value a ∷ [])) (λ (t : TrackAtom). t.track.value.path.items) (as_track a)

abbrev pub view_of : Bool → GeoAtom → TrackView
view_of needs a = record {
  first = first_in a;
  last = last_in a;
  count = count_in a;
  fault = fault_in a;
  path = path_in needs a;
}

-- the positions, and those behind them
abbrev pub both_tracks : TrackView → TrackView → TrackView
both_tracks v w = record {
  first = v.first;
  last = w.last;
  count = to_four (v.count + w.count);
  fault = first_fault v.fault w.fault;
  path = v.path ++ w.path;
}

abbrev pub Lengthens : Bool → Track → GeoAtom → Track → Type 0
Lengthens needs old a new = track_view new ≡ both_tracks (track_view old) (view_of needs a)

-- the track of the positions for which the atom stands
abbrev pub Begins : Bool → GeoAtom → TrackAtom → Type 0
Begins needs a new = (new.at ≡ at_of a) × (track_view new.track.value ≡ view_of needs a)

-- the track, and the positions of the atom behind it
abbrev pub Joins : Bool → TrackAtom → GeoAtom → TrackAtom → Type 0
Joins needs old a new = (new.at ≡ min old.at (at_of a)) × Lengthens needs old.track.value a new.track.value

abbrev pub JoinsIf : Bool → Option TrackAtom → GeoAtom → TrackAtom → Type 0
JoinsIf needs (Some old) a new = Joins needs old a new
JoinsIf needs None a new = Begins needs a new

-- ---- all positions of an array

abbrev pub IfOwnTrack : Asked → Option TrackAtom → Type 0
IfOwnTrack asked (Some t) = All IsInRange t.track.value.path.items
IfOwnTrack asked None = ⊤

-- the track stands for these trees, or there are none
abbrev pub HasTrack : Asked → Option TrackAtom → List Tree → Type 0
HasTrack asked (Some t) ts = AreTracked asked t.at (track_view t.track.value) ts
HasTrack asked None ts = ts ≡ []

-- whatever trees the positions stand for one behind another, the track stands for them
abbrev pub JoinsPositions : Asked → List GeoAtom → Option TrackAtom → Type 0
JoinsPositions asked items o = list_all is_position items ≡ true → (ts : List Tree)
    → AreItemFolds (IsFold asked) (IsRun asked) items ts → HasTrack asked o ts

-- ---- the list of a track's positions

-- the last is the first, or one of the two has a fault, and then this isn't tested
abbrev pub places_close : Option Pos → Option Pos → Bool
places_close (Some p) (Some q) = int_eq p.x q.x && int_eq p.y q.y
places_close _ _ = true

-- what is kept of the list of the positions
pub record ClosesTrack (at : ℕ) (t : Track) (p : Points) : Type 0 where
  pub path : p.path.items ≡ t.path.items
  pub as_points : p.as_points ≡ t.fault
  pub as_line : p.as_line ≡ first_fault (line_fault t.count at) t.fault
  pub as_ring : p.as_ring ≡ first_fault (ring_fault t.count (places_close t.first t.last) at) t.fault

pub record ClosesTrackAtom (at : ℕ) (t : TrackAtom) (m : PointsAtom) : Type 0 where
  pub at_is : m.at ≡ at
  pub least_is : m.least ≡ t.at
  pub points : ClosesTrack at t.track.value m.points.value
