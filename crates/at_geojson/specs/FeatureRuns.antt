-- Features one behind another in an array that are read at once, and what else begins a text there. Only contracts of
-- private functions cite this.
use Rattle.std.specs.Prelude.{◌≡◌, true, ℕ, ◌+◌, ◌<◌, ◌≤◌, List, ◌∷◌, length, slice_index, All, Result, Ok}
use Rattle.std.specs.Bool.{⊤}
use Rattle.at_text.specs.declared.halts.Halt.{Halt}
use Rattle.at_fixed.specs.NumberSoFar.{between}
use Rattle.at_lex.specs.Spans.{AreSpaces}
use Rattle.at_nest.specs.declared.algebra.Attempt.{Attempt}
use Rattle.at_nest.specs.declared.algebra.Attempt.TheVariants as attempts
use Rattle.at_nest.specs.Tree.{Tree, SpellsItems}
use Rattle.at_nest.specs.Folds.{trees, Covers, HasBrackets}
use Rattle.at_query.specs.Keeping.{Asked}
use Rattle.at_geojson.specs.declared.atoms.atom.GeoAtom.{GeoAtom}
use Rattle.at_geojson.specs.declared.atoms.atom.Items.{Items}
use Rattle.at_geojson.specs.declared.coordinates.pairs.Whole.{Whole}
use Rattle.at_geojson.specs.Gathering.{is_any_object}
use Rattle.at_geojson.specs.Values.{IsItem}
use Rattle.at_geojson.specs.Atoms.{both_forms, IsOwn, IsFold, IsRun, AreOwnItems, AreJoined}

-- a comma at the place, white space, and then the bracket of an object
pub record IsNextObject (w : List ℕ) (at first : ℕ) : Type 0 where
  pub comma : slice_index w at ≡ 0x2C
  pub order : at < first
  pub spaces : AreSpaces (between w (at + 1) first)
  pub inside : first < length w
  pub opens : slice_index w first ≡ 0x7B

-- from the one place to the other there are items of an array, each an array or an object, with white space round them
pub record AreItemsAt (base : ℕ) (w : List ℕ) (at end : ℕ) (t : Tree) (ts : List Tree) : Type 0 where
  pub order : at < end
  pub within : end ≤ length w
  pub spells : SpellsItems (base + at) (between w at end) (trees (t ∷ ts))
  pub brackets : All HasBrackets (t ∷ ts)

-- the same of features, for which the items of a run stand
pub record AreFeaturesRead (asked : Asked) (base : ℕ) (w : List ℕ) (at end : ℕ) (items : Items) : Type 0 where
  pub own : AreOwnItems asked items
  pub geometries : items.geometries ≡ both_forms (base + at)
  pub first : Tree
  pub others : List Tree
  pub there : AreItemsAt base w at end first others
  pub joined : AreJoined asked items (first ∷ others)

-- the same of items for which the atom stands
pub record AreItemsWhole (asked : Asked) (base : ℕ) (w : List ℕ) (at : ℕ) (p : Whole) : Type 0 where
  pub own : IsOwn asked p.atom
  pub first : Tree
  pub others : List Tree
  pub there : AreItemsAt base w at p.end first others
  pub covers : Covers (IsFold asked) (IsRun asked) p.atom (first ∷ others)

-- a comma at the place, and behind it an object with white space round it
pub record IsObjectBehind (asked : Asked) (base : ℕ) (w : List ℕ) (at : ℕ) (p : Whole) : Type 0 where
  pub comma : slice_index w at ≡ 0x2C
  pub order : at < p.end
  pub item : IsItem asked base w (at + 1) p
  pub object : is_any_object p.atom ≡ true

-- what was found is told, or nothing is said
abbrev pub IsAttemptOf : Result Whole Halt → Attempt GeoAtom → Type 0
IsAttemptOf found (attempts.Whole len atom) = found ≡ Ok (record { end = len; atom = atom })
IsAttemptOf found (attempts.Unsaid looked) = ⊤
