-- Whole values that are read of a text w from place to place; the text stands at the offset `base`. Only contracts of
-- private functions cite this.
use Rattle.std.specs.Prelude.{◌≡◌, ℕ, ◌+◌, ◌<◌, ◌≤◌, List, length, All, Ok}
use Rattle.at_fixed.specs.NumberSoFar.{between}
use Rattle.at_fixed.specs.Numerals.{JsonNumber}
use Rattle.at_fixed.specs.Fixed.{IsFixedOf}
use Rattle.at_lex.specs.Spans.{AreSpaces}
use Rattle.at_nest.specs.declared.algebra.Member.{Member}
use Rattle.at_nest.specs.Tree.{Tree, Trees, Members, array, object, Spells}
use Rattle.at_nest.specs.Folds.{AreFolds, AreMemberFolds}
use Rattle.at_nest.specs.Passing.{IsPadded, ItemsBefore, Named, MembersBefore, items_of, members_of}
use Rattle.at_query.specs.Keeping.{Asked}
use Rattle.at_geojson.specs.declared.atoms.atom.GeoAtom.{GeoAtom}
use Rattle.at_geojson.specs.declared.atoms.atom.GeoAtom.TheVariants as atoms
use Rattle.at_geojson.specs.declared.coordinates.pairs.Whole.{Whole}
use Rattle.at_geojson.specs.declared.coordinates.pairs.Plain.{Plain}
use Rattle.at_geojson.specs.declared.coordinates.pairs.PairRead.{PairRead}
use Rattle.at_geojson.specs.Atoms.{IsOwn, IsFold}

-- white space, and a number that has a value
pub record IsPlain (asked : Asked) (w : List ℕ) (at : ℕ) (p : Plain) : Type 0 where
  pub before : at ≤ p.first
  pub spaces : AreSpaces (between w at p.first)
  pub order : p.first < p.last
  pub within : p.last ≤ length w
  pub number : JsonNumber (between w p.first p.last)
  pub value : IsFixedOf (between w p.first p.last) asked.digits asked.how (Ok p.number.value)

-- a value from the place on: the bytes spell a tree for which the atom stands
pub record IsWhole (asked : Asked) (base : ℕ) (w : List ℕ) (at : ℕ) (p : Whole) : Type 0 where
  pub order : at < p.end
  pub within : p.end ≤ length w
  pub own : IsOwn asked p.atom
  pub tree : Tree
  pub spells : Spells (base + at) (between w at p.end) tree
  pub fold : IsFold asked p.atom tree

-- a position from the place on
pub record IsPair (asked : Asked) (base : ℕ) (w : List ℕ) (at : ℕ) (p : PairRead) : Type 0 where
  pub order : at < p.end
  pub within : p.end ≤ length w
  pub at_is : p.pair.at ≡ base + at
  pub own : IsOwn asked (atoms.Position p.pair)
  pub tree : Tree
  pub spells : Spells (base + at) (between w at p.end) tree
  pub fold : IsFold asked (atoms.Position p.pair) tree

-- white space, a position, white space
pub record IsSpacedPair (asked : Asked) (base : ℕ) (w : List ℕ) (at : ℕ) (p : PairRead) : Type 0 where
  pub order : at < p.end
  pub within : p.end ≤ length w
  pub begins : base + at ≤ p.pair.at
  pub ends : p.pair.at < base + p.end
  pub own : IsOwn asked (atoms.Position p.pair)
  pub tree : Tree
  pub spells : IsPadded (λ j v. Spells j v tree) base w at p.end
  pub fold : IsFold asked (atoms.Position p.pair) tree

-- white space, a value, white space
pub record IsItem (asked : Asked) (base : ℕ) (w : List ℕ) (at : ℕ) (p : Whole) : Type 0 where
  pub order : at < p.end
  pub within : p.end ≤ length w
  pub own : IsOwn asked p.atom
  pub tree : Tree
  pub spells : IsPadded (λ j v. Spells j v tree) base w at p.end
  pub fold : IsFold asked p.atom tree

-- between the items of an array: those before the place were read
pub record AreItemsRead (asked : Asked) (base : ℕ) (w : List ℕ) (at place : ℕ) (items : List GeoAtom) : Type 0 where
  pub own : All (IsOwn asked) items
  pub done : List Tree
  pub before : ItemsBefore base w at place done
  pub folds : AreFolds (IsFold asked) items (items_of done)

-- the same of an object's members
pub record AreMembersRead (asked : Asked) (base : ℕ) (w : List ℕ) (at place : ℕ) (members : List (Member GeoAtom))
    : Type 0 where
  pub own : All (λ (m : Member GeoAtom). IsOwn asked m.value) members
  pub done : List Named
  pub before : MembersBefore base w at place done
  pub folds : AreMemberFolds (IsFold asked) members (members_of done)

-- the atom of the items, and the place behind the bracket
pub record EndsArray (asked : Asked) (at end : ℕ) (items : List GeoAtom) (p : Whole) : Type 0 where
  pub behind : p.end ≡ end
  pub own : IsOwn asked p.atom
  pub fold : (ts : Trees) → AreFolds (IsFold asked) items ts → IsFold asked p.atom (array at ts)

pub record EndsObject (asked : Asked) (at end : ℕ) (members : List (Member GeoAtom)) (p : Whole) : Type 0 where
  pub behind : p.end ≡ end
  pub own : IsOwn asked p.atom
  pub fold : (ms : Members) → AreMemberFolds (IsFold asked) members ms → IsFold asked p.atom (object at ms)
