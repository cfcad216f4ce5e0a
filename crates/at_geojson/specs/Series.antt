-- Lists of positions one behind another in an array, joined as they come. Only contracts of private functions cite
-- this.
use Rattle.std.specs.Prelude.{◌≡◌, ◌==◌, min, Bool, true, ◌||◌, List, [], ◌∷◌, ◌++◌, Option, Some, None, is_none}
use Rattle.std.specs.Bool.{⊤}
use Rattle.std.specs.List.{list_all}
use Rattle.at_text.specs.Faults.{first_fault}
use Rattle.at_text.specs.declared.faults.Fault.{Fault}
use Rattle.at_geom.specs.declared.positions.Pos.{Pos}
use Rattle.at_geom.specs.Shapes.{ArePathsInRange}
use Rattle.at_nest.specs.Tree.{Tree}
use Rattle.at_nest.specs.Folds.{AreItemFolds}
use Rattle.at_query.specs.Keeping.{Asked, kept}
use Rattle.at_geojson.specs.declared.atoms.atom.GeoAtom.{GeoAtom}
use Rattle.at_geojson.specs.declared.atoms.atom.GeoAtom.TheVariants as atoms
use Rattle.at_geojson.specs.declared.atoms.atom.Lists.{Lists}
use Rattle.at_geojson.specs.declared.atoms.atom.SeriesAtom.{SeriesAtom}
use Rattle.at_geojson.specs.Atoms.{at_of, lists_view, IsFold, IsRun, AreSeries}
use Rattle.at_geojson.specs.Gathering.{seen, rank, sort_of, fault_as_line, fault_as_ring, path_in}

-- a list of positions, or several
abbrev pub is_list : GeoAtom → Bool
is_list a = rank (sort_of a) == 3

abbrev pub as_series : GeoAtom → Option SeriesAtom
as_series (atoms.Series s) = Some s
as_series _ = None

-- ---- what is kept of the lists for which an atom stands

abbrev pub lines_of : GeoAtom → Option Fault
lines_of a = seen (fault_as_line a) (λ (s : SeriesAtom). s.lists.value.as_lines) (as_series a)

abbrev pub rings_of : GeoAtom → Option Fault
rings_of a = seen (fault_as_ring a) (λ (s : SeriesAtom). s.lists.value.as_rings) (as_series a)

abbrev pub paths_of : Bool → GeoAtom → List (List Pos)
paths_of needs a = seen (kept needs (path_in a ∷ [])) (λ (s : SeriesAtom). s.lists.value.paths.items) (as_series a)

-- the lists, and those of the atom behind them: their paths are kept while they have no fault as lines, or none as
-- rings
pub record Lengthens (needs : Bool) (old : Lists) (a : GeoAtom) (new : Lists) : Type 0 where
  pub as_lines : new.as_lines ≡ first_fault old.as_lines (lines_of a)
  pub as_rings : new.as_rings ≡ first_fault old.as_rings (rings_of a)
  pub paths : new.paths.items ≡ kept (is_none new.as_lines || is_none new.as_rings) (old.paths.items
      ++ paths_of needs a)

-- the series of the lists for which the atom stands
pub record Begins (needs : Bool) (a : GeoAtom) (new : SeriesAtom) : Type 0 where
  pub at : new.at ≡ at_of a
  pub as_lines : new.lists.value.as_lines ≡ lines_of a
  pub as_rings : new.lists.value.as_rings ≡ rings_of a
  pub paths : new.lists.value.paths.items ≡ paths_of needs a

-- the series, and the lists of the atom behind it
pub record Joins (needs : Bool) (old : SeriesAtom) (a : GeoAtom) (new : SeriesAtom) : Type 0 where
  pub at : new.at ≡ min old.at (at_of a)
  pub lists : Lengthens needs old.lists.value a new.lists.value

abbrev pub JoinsIf : Bool → Option SeriesAtom → GeoAtom → SeriesAtom → Type 0
JoinsIf needs (Some old) a new = Joins needs old a new
JoinsIf needs None a new = Begins needs a new

-- ---- all lists of an array

abbrev pub IfOwnSeries : Asked → Option SeriesAtom → Type 0
IfOwnSeries asked (Some s) = ArePathsInRange s.lists.value.paths.items
IfOwnSeries asked None = ⊤

-- the series stands for these trees, or there are none
abbrev pub HasSeries : Asked → Option SeriesAtom → List Tree → Type 0
HasSeries asked (Some s) ts = AreSeries asked s.at (lists_view s.lists.value) ts
HasSeries asked None ts = ts ≡ []

-- whatever trees the lists stand for one behind another, the series stands for them
abbrev pub JoinsLists : Asked → List GeoAtom → Option SeriesAtom → Type 0
JoinsLists asked items o = list_all is_list items ≡ true → (ts : List Tree)
    → AreItemFolds (IsFold asked) (IsRun asked) items ts → HasSeries asked o ts
