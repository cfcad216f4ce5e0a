-- Positions that are passed over are positions with white space round them, and the same bytes elsewhere are the same position.
-- For `value`.
use Rattle.std.proofs.Common.{◌≡◌, ℕ, ◌+◌, ◌≤◌, List, length, ℤ, true, Ok, refl, sym, subst, arith}
use Rattle.std.specs.Ordering.{int_eq}
use Rattle.std.proofs.lemmas.Bool.{and_from}
use Rattle.std.proofs.lemmas.Bool.Decides.{Decides-int_eq}
use Rattle.at_fixed.specs.NumberSoFar.{between}
use Rattle.at_fixed.specs.Numerals.{JsonNumber}
use Rattle.at_fixed.specs.Fixed.{IsFixedOf}
use Rattle.at_geom.specs.declared.positions.Pos.{Pos}
use Rattle.at_lex.specs.Spans.{AreSpaces}
use Rattle.at_scan.proofs.Moved.{part_moved, byte_moved, ends_moved}
use Rattle.at_query.specs.Keeping.{Asked}
use Rattle.at_geojson.specs.declared.coordinates.pairs.NumberPlace.{NumberPlace}
use Rattle.at_geojson.specs.declared.coordinates.pairs.PairPlace.{PairPlace}
use Rattle.at_geojson.specs.Values.{IsPlain, IsSpacedPair}
use Rattle.at_geojson.specs.Passing.{plain_at, IsPairAt, pair_of, same_values}
use Rattle.at_geojson.proofs.ValueParts.{pair_read, pair_spaced}

pub placed_pair : (asked : Asked) (base : ℕ) (w : List ℕ) (at : ℕ) (p : PairPlace) (pos : Pos) → IsPairAt asked w at p pos → IsSpacedPair asked base w at (record { end = p.end; pair = pair_of base p pos })
placed_pair asked base w at p pos h =
    pair_spaced asked base w at p.bracket p.end (record { end = p.close; pair = pair_of base p pos }) h.before h.spaces
    (pair_read asked base w p.bracket (plain_at p.x pos.x) (plain_at p.y pos.y) pos.x pos.y refl refl h.inside h.opens h.x p.comma h.middle h.middle_spaces h.comma h.y p.close h.closes)
    h.behind h.within h.more_spaces

-- ---- the same bytes further on

module _ (asked : Asked) (w : List ℕ) (from to far : ℕ) (fits : far + to ≤ length w) (same : between w from to ≡ between w (far + from) (far + to)) where
  abbrev moved_number : NumberPlace → NumberPlace
  moved_number n = record { first = far + n.first; last = far + n.last }

  number_moved : (at there : ℕ) (n : NumberPlace) (v : ℤ) → from ≤ at → n.last ≤ to → there ≡ far + at → IsPlain asked w at (plain_at n v) → IsPlain asked w there (plain_at (moved_number n) v)
  number_moved at there n v h k e p = record {
    before = omega (arith, p.before, e);
    spaces = subst (λ z. AreSpaces (between w z (far + n.first))) (sym e) (subst AreSpaces (part_moved w from to far fits same at n.first h p.before (omega (arith, p.order))) p.spaces);
    order = omega (arith, p.order);
    within = omega arith;
    number = subst JsonNumber (part_moved w from to far fits same n.first n.last (omega (arith, p.before)) (omega (arith, p.order)) k) p.number;
    value = subst (λ z. IsFixedOf z asked.digits asked.how (Ok v)) (part_moved w from to far fits same n.first n.last (omega (arith, p.before)) (omega (arith, p.order)) k) p.value;
  }

  abbrev pub moved_pair : PairPlace → PairPlace
  moved_pair p = record { bracket = far + p.bracket; x = moved_number p.x; comma = far + p.comma; y = moved_number p.y; close = far + p.close; end = far + p.end }

  pub pair_moved : (p : PairPlace) (pos : Pos) → p.end ≡ to → IsPairAt asked w from p pos → IsPairAt asked w (far + from) (moved_pair p) pos
  pair_moved p pos e h = record {
    before = omega (arith, h.before);
    spaces = subst AreSpaces (part_moved w from to far fits same from p.bracket (omega arith) h.before (omega (arith, h.x.before, h.x.order, h.middle, h.y.before, h.y.order, h.last, h.behind))) h.spaces;
    inside = omega (arith, h.x.before, h.x.order, h.middle, h.y.before, h.y.order, h.last, h.behind);
    opens = byte_moved w from to far fits same p.bracket 0x5B h.before (omega (arith, h.x.before, h.x.order, h.middle, h.y.before, h.y.order, h.last, h.behind)) h.opens;
    x = number_moved (p.bracket + 1) (far + p.bracket + 1) p.x pos.x (omega (arith, h.before)) (omega (arith, h.middle, h.y.before, h.y.order, h.last, h.behind)) (omega arith) h.x;
    middle = omega (arith, h.middle);
    middle_spaces = subst AreSpaces (part_moved w from to far fits same p.x.last p.comma (omega (arith, h.before, h.x.before, h.x.order)) h.middle (omega (arith, h.y.before, h.y.order, h.last, h.behind))) h.middle_spaces;
    comma = byte_moved w from to far fits same p.comma 0x2C (omega (arith, h.before, h.x.before, h.x.order, h.middle)) (omega (arith, h.y.before, h.y.order, h.last, h.behind)) h.comma;
    y = number_moved (p.comma + 1) (far + p.comma + 1) p.y pos.y (omega (arith, h.before, h.x.before, h.x.order, h.middle)) (omega (arith, h.last, h.behind)) (omega arith) h.y;
    last = omega (arith, h.last);
    closes = ends_moved w from to far fits same p.y.last p.close (omega (arith, h.before, h.x.before, h.x.order, h.middle, h.y.before, h.y.order)) (omega (arith, h.behind)) h.closes;
    behind = omega (arith, h.behind);
    more_spaces = subst AreSpaces (part_moved w from to far fits same p.close p.end (omega (arith, h.before, h.x.before, h.x.order, h.middle, h.y.before, h.y.order, h.last)) h.behind (omega arith)) h.more_spaces;
    within = omega arith;
  }

pub same_as_itself : (p : Pos) → same_values p p ≡ true
same_as_itself p = and_from (int_eq p.x p.x) (int_eq p.y p.y) ((Decides-int_eq p.x p.x).1 refl) ((Decides-int_eq p.y p.y).1 refl)
