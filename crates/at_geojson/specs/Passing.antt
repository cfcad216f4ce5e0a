-- Positions that are passed over: where their numbers stand, of which each has a value. Only contracts of private
-- functions cite this.
use Rattle.std.specs.Prelude.{◌≡◌, ℕ, ◌+◌, ◌<◌, ◌≤◌, Bool, ◌&&◌, List, length, slice_index, ℤ}
use Rattle.std.specs.Ordering.{int_eq}
use Rattle.at_fixed.specs.NumberSoFar.{between}
use Rattle.at_geom.specs.declared.positions.Pos.{Pos}
use Rattle.at_lex.specs.Spans.{AreSpaces}
use Rattle.at_scan.specs.Numbers.{EndsPosition}
use Rattle.at_query.specs.Keeping.{Asked}
use Rattle.at_geojson.specs.declared.atoms.atom.PositionAtom.{PositionAtom}
use Rattle.at_geojson.specs.declared.coordinates.pairs.NumberPlace.{NumberPlace}
use Rattle.at_geojson.specs.declared.coordinates.pairs.PairPlace.{PairPlace}
use Rattle.at_geojson.specs.declared.coordinates.pairs.Plain.{Plain}
use Rattle.at_geojson.specs.Values.{IsPlain}

-- the number that stands there, with this value
abbrev pub plain_at : NumberPlace → ℤ → Plain
plain_at n v = record { first = n.first; last = n.last; number = record { len = 0; value = v } }

-- a number with some value stands there
abbrev pub PassesNumber : Asked → List ℕ → ℕ → NumberPlace → Type 0
PassesNumber asked w at n = (v : ℤ) × IsPlain asked w at (plain_at n v)

-- white space, a position with this value, which stands there, and white space
pub record IsPairAt (asked : Asked) (w : List ℕ) (at : ℕ) (p : PairPlace) (pos : Pos) : Type 0 where
  pub before : at ≤ p.bracket
  pub spaces : AreSpaces (between w at p.bracket)
  pub inside : p.bracket < length w
  pub opens : slice_index w p.bracket ≡ 0x5B
  pub x : IsPlain asked w (p.bracket + 1) (plain_at p.x pos.x)
  pub middle : p.x.last ≤ p.comma
  pub middle_spaces : AreSpaces (between w p.x.last p.comma)
  pub comma : slice_index w p.comma ≡ 0x2C
  pub y : IsPlain asked w (p.comma + 1) (plain_at p.y pos.y)
  pub last : p.y.last < p.close
  pub closes : EndsPosition w p.y.last p.close
  pub behind : p.close ≤ p.end
  pub more_spaces : AreSpaces (between w p.close p.end)
  pub within : p.end ≤ length w

-- the same with some value
abbrev pub PassesPair : Asked → List ℕ → ℕ → PairPlace → Type 0
PassesPair asked w at p = (pos : Pos) × IsPairAt asked w at p pos

-- the same up to the place
abbrev pub PassesTo : Asked → List ℕ → ℕ → ℕ → Type 0
PassesTo asked w at end = (place : PairPlace) × (place.end ≡ end) × PassesPair asked w at place

abbrev pub same_values : Pos → Pos → Bool
same_values p q = int_eq p.x q.x && int_eq p.y q.y

-- the position that stands there, as an atom
abbrev pub pair_of : ℕ → PairPlace → Pos → PositionAtom
pair_of base p pos = record { at = base + p.bracket; least = base + p.x.first; pos = pos }
