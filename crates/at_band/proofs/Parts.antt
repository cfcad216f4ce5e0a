-- What is kept of a shape for some heights, and of that for some of these, is kept of the shape.
-- For `copy`, `meets` and `new`.
use Rattle.std.proofs.Common.{◌≡◌, ℤ, inl, inr, true, List, [], ◌∷◌, arith, sym, subst, ◌∙◌}
use Rattle.std.specs.Prelude.{All, map}
use Rattle.std.proofs.lemmas.Int.{ints}
use Rattle.std.proofs.lemmas.Bool.{false≢true, true_from_ne_false}
use Rattle.std.proofs.lemmas.List.Elements.{All-nil, All-cons, All-head, All-tail}
use Rattle.at_text.specs.Lists.{SomeOf}
use Rattle.at_geom.specs.declared.positions.Pos.{Pos}
use Rattle.at_geom.specs.declared.shapes.Shape.{Shape}
use Rattle.at_geom.specs.Shapes.{segments}
use Rattle.at_band.specs.declared.thinning.Heights.{Heights}
use Rattle.at_band.specs.declared.zones.Band.{Band}
use Rattle.at_band.specs.declared.zones.Zone.{Zone}
use Rattle.at_band.specs.Thinned.{spans, thinned_shape}
use Rattle.at_band.specs.Banded.{IsAt, IsOrdered, IsWithin, AreCovering, IsPartOf, IsBandOf, heights_of_band, IsZoneOf}
use Rattle.at_band.proofs.Filtered.{same_filtered}
use Rattle.at_band.proofs.ThinnedEdges.{AreBeside, beside_out, out_beside, thinned_segments}
use Rattle.at_band.proofs.ThinnedRegions.{in_thinned, in_whole}
use Rattle.at_band.proofs.ThinnedRanges.{thinned_ranged}

-- ---- heights within others

beside_within : (whole heights : Heights) (a b : Pos) → IsWithin whole heights → AreBeside whole.low whole.high a b → AreBeside heights.low heights.high a b
beside_within whole heights a b v (inl h) = inl (omega (arith, ints, v.below, h.0), omega (arith, ints, v.below, h.1))
beside_within whole heights a b v (inr h) = inr (omega (arith, ints, v.above, h.0), omega (arith, ints, v.above, h.1))

spans_whole : (whole heights : Heights) → IsWithin whole heights → (e : Pos × Pos) → spans heights.low heights.high e ≡ true → spans whole.low whole.high e ≡ true
spans_whole whole heights v (a, b) h =
    true_from_ne_false (spans whole.low whole.high (a, b)) (λ f. false≢true (sym (beside_out heights.low heights.high a b (beside_within whole heights a b v (out_beside whole.low whole.high a b f))) ∙ h))

at_whole : (whole heights : Heights) (y : ℤ) → IsWithin whole heights → IsAt y heights → IsAt y whole
at_whole whole heights y v h = (omega (arith, ints, v.above, h.0), omega (arith, ints, v.below, h.1))

-- ---- parts

pub thinned_part : (s : Shape) (heights : Heights) → IsOrdered heights → IsPartOf s heights (thinned_shape heights.low heights.high s)
thinned_part s heights o = record {
  ranged = thinned_ranged heights.low heights.high s;
  same_edges = thinned_segments heights.low heights.high o s;
  in_part = λ p k. in_thinned heights.low heights.high p (record { above = k.0; below = k.1 }) s.polygons;
  in_whole = λ p k. in_whole heights.low heights.high p (record { above = k.0; below = k.1 }) s.polygons;
}

pub part_of_part : (s : Shape) (whole : Heights) (part : Shape) (heights : Heights) (inner : Shape) → IsPartOf s whole part → IsWithin whole heights → IsPartOf part heights inner → IsPartOf s heights inner
part_of_part s whole part heights inner outer v h = record {
  ranged = λ k. h.ranged (outer.ranged k);
  same_edges = h.same_edges ∙ same_filtered (spans heights.low heights.high) (spans whole.low whole.high) (spans_whole whole heights v) (segments part) (segments s) outer.same_edges;
  in_part = λ p k m. h.in_part p k (outer.in_part p (at_whole whole heights p.y v k) m);
  in_whole = λ p k m. outer.in_whole p (at_whole whole heights p.y v k) (h.in_whole p k m);
}

pub bands_of_part : (s : Shape) (whole : Heights) (part : Shape) → IsPartOf s whole part → (bands : List Band) → All (IsBandOf part) bands → All (IsWithin whole) (map heights_of_band bands) → All (IsBandOf s) bands
bands_of_part s whole part outer [] h k = All-nil (IsBandOf s)
bands_of_part s whole part outer (band ∷ bands) h k =
    All-cons (IsBandOf s) band bands
    (part_of_part s whole part band.heights band.part outer (All-head (IsWithin whole) band.heights (map heights_of_band bands) k) (All-head (IsBandOf part) band bands h))
    (bands_of_part s whole part outer bands (All-tail (IsBandOf part) band bands h) (All-tail (IsWithin whole) band.heights (map heights_of_band bands) k))

pub zone_by_part : (s : Shape) (part : Shape) (zone : Zone) (cuts : List Heights) → IsPartOf s zone.heights part → All (IsBandOf part) zone.bands.items → map heights_of_band zone.bands.items ≡ cuts
    → All (IsWithin zone.heights) cuts → AreCovering zone.heights.low zone.heights.high cuts → IsZoneOf s zone
zone_by_part s part zone cuts outer h e w v = record {
  kept = bands_of_part s zone.heights part outer zone.bands.items h (subst (All (IsWithin zone.heights)) (sym e) w);
  covering = λ y k m. subst (SomeOf (IsAt y)) (sym e) (v y k m);
}
