-- What is made of an array whose items are of no one sort of coordinates. Only contracts of private functions cite
-- this.
use Rattle.std.specs.Prelude.{◌≡◌, ℕ, ◌⊎◌, false, List, [], ◌∷◌, ◌++◌, Option, Some, None}
use Rattle.std.specs.declared.alloc.Global.{Global}
use Rattle.std.specs.declared.boxed.Box.{Box}
use Rattle.std.specs.List.{list_any}
use Rattle.at_nest.specs.Tree.{Tree, array}
use Rattle.at_nest.specs.Folds.{trees, Covers, AreItemFolds}
use Rattle.at_query.specs.Keeping.{Asked}
use Rattle.at_geojson.specs.declared.atoms.atom.GeoAtom.{GeoAtom}
use Rattle.at_geojson.specs.declared.atoms.atom.GeoAtom.TheVariants as atoms
use Rattle.at_geojson.specs.declared.atoms.atom.Items.{Items}
use Rattle.at_geojson.specs.declared.atoms.atom.ItemsAtom.{ItemsAtom}
use Rattle.at_geojson.specs.Atoms.{IsRead, IsFold, IsRun, HaveItems}
use Rattle.at_geojson.specs.Gathering.{is_object, least_of, pair_atom}

-- whatever trees the atoms stand for one behind another, the items are what those are in both roles
abbrev pub JoinsItems : Asked → List GeoAtom → Items → Type 0
JoinsItems asked aa items = (ts : List Tree) → AreItemFolds (IsRead asked) (IsRun asked) aa ts
    → HaveItems asked items (trees ts)

-- no item is an object; or what they are in both roles
abbrev pub MakesItems : Asked → ℕ → List GeoAtom → GeoAtom → Type 0
MakesItems asked at items r =
    ((list_any is_object items ≡ false) × (r ≡ atoms.Other (record { at = at; least = least_of items })))
    ⊎ ((m : ItemsAtom) × (r ≡ atoms.Items m) × (m.at ≡ at) × JoinsItems asked items m.items.value)

-- a position, or one number alone
abbrev pub MakesNumbers : Asked → ℕ → List GeoAtom → GeoAtom → Type 0
MakesNumbers asked at items r = (pair_atom at (least_of items) items ≡ Some r)
    ⊎ ((pair_atom at (least_of items) items ≡ None) × MakesItems asked at items r)

-- ---- items as they come

-- whatever trees the atoms and the further atom stand for, the new atoms stand for all of them
abbrev pub Adds : Asked → List GeoAtom → GeoAtom → List GeoAtom → Type 0
Adds asked old a new = (ts us : List Tree) → AreItemFolds (IsFold asked) (IsRun asked) old ts
    → Covers (IsFold asked) (IsRun asked) a us → AreItemFolds (IsFold asked) (IsRun asked) new (ts ++ us)

-- whatever trees the atoms stand for, the new atoms stand for them
abbrev pub Settles : Asked → List GeoAtom → List GeoAtom → Type 0
Settles asked old new = (ts : List Tree) → AreItemFolds (IsFold asked) (IsRun asked) old ts
    → AreItemFolds (IsFold asked) (IsRun asked) new ts

-- the last atom, a run, is taken off; or none is
abbrev pub TakesRun : List GeoAtom → List GeoAtom → Option (Box Items Global) → Type 0
TakesRun old new (Some run) = old ≡ new ++ atoms.Run run ∷ []
TakesRun old new None = old ≡ new

-- whatever trees the items stand for, the atom is that of the array of these trees
abbrev pub ClosesItems : Asked → ℕ → List GeoAtom → GeoAtom → Type 0
ClosesItems asked at items r = (ts : List Tree) → AreItemFolds (IsFold asked) (IsRun asked) items ts
    → IsFold asked r (array at (trees ts))
