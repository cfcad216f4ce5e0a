-- What the bands of a shape decide of the shape.
-- For `meets`.
use Rattle.std.proofs.Common.{◌≡◌, ℕ, ℤ, ◌+◌, ◌<◌, length, drop, get_or, inl, inr, List, [], ◌∷◌, arith, sym, subst}
use Rattle.std.specs.Prelude.{All, IsTrue, map}
use Rattle.std.specs.List.{filter}
use Rattle.std.specs.Int.{int_min, int_max}
use Rattle.std.proofs.lemmas.Int.{ints, clamps}
use Rattle.std.proofs.lemmas.List.{drop_more}
use Rattle.std.proofs.lemmas.List.Elements.{All-head, All-tail}
use Rattle.at_text.specs.Lists.{SomeOf}
use Rattle.at_geom.specs.declared.positions.Pos.{Pos}
use Rattle.at_geom.specs.declared.shapes.Shape.{Shape}
use Rattle.at_geom.specs.Segments.{HaveCommonPoint}
use Rattle.at_geom.specs.Shapes.{MeetsSome, segments, positions}
use Rattle.at_geom.proofs.CommonPoint.{common_point_out}
use Rattle.at_geom.proofs.Found.{found_segment, extent_covers, sides}
use Rattle.at_geom.proofs.Elements.{not_first, some_one}
use Rattle.at_band.specs.declared.zones.Band.{Band}
use Rattle.at_band.specs.declared.zones.Zone.{Zone}
use Rattle.at_band.specs.declared.bands.Frame.{Frame}
use Rattle.at_band.specs.declared.thinning.Heights.{Heights}
use Rattle.at_band.specs.Thinned.{spans}
use Rattle.at_band.specs.Banded.{IsAt, heights_of_band, IsZoneOf, heights_of_zone, AreZonesOf, MeetsWithin, MeetsSomeWithin, IsMetIn, IsMetInZone}
use Rattle.at_band.proofs.Filtered.{same_some}
use Rattle.at_band.proofs.ThinnedEdges.{spans_true}

pub some_map : {X : Type 0} (P Q : X → Type 0) → ((x : X) → P x → Q x) → (xs : List X) → SomeOf P xs → SomeOf Q xs
some_map P Q f [] h = absurd h
some_map P Q f (x ∷ xs) (inl h) = inl (f x h)
some_map P Q f (x ∷ xs) (inr h) = inr (some_map P Q f xs h)

pub some_by : {X Y : Type 0} (P : Y → Type 0) (f : X → Y) (xs : List X) → SomeOf P (map f xs) → SomeOf (λ x. P (f x)) xs
some_by P f [] h = absurd h
some_by P f (x ∷ xs) (inl h) = inl h
some_by P f (x ∷ xs) (inr h) = inr (some_by P f xs h)

some_kept_map : {X : Type 0} (K P Q : X → Type 0) → ((x : X) → K x → P x → Q x) → (xs : List X) → All K xs → SomeOf P xs → SomeOf Q xs
some_kept_map K P Q f [] k h = absurd h
some_kept_map K P Q f (x ∷ xs) k (inl h) = inl (f x (All-head K x xs k) h)
some_kept_map K P Q f (x ∷ xs) k (inr h) = inr (some_kept_map K P Q f xs (All-tail K x xs k) h)

-- ---- a segment and one band

-- of two lists with the same segments that reach into the heights
pub met_same : (low high : ℤ) (a b : Pos) (xs ys : List (Pos × Pos)) → filter (spans low high) xs ≡ filter (spans low high) ys → MeetsSomeWithin low high a b xs → MeetsSomeWithin low high a b ys
met_same low high a b xs ys e h = same_some (MeetsWithin low high a b) (spans low high) (λ f k. k.0) xs ys e h

pub met_somewhere : (low high : ℤ) (a b : Pos) (others : List (Pos × Pos)) → MeetsSomeWithin low high a b others → MeetsSome a b others
met_somewhere low high a b others h = some_map (MeetsWithin low high a b) (λ (f : Pos × Pos). HaveCommonPoint a b f.0 f.1) (λ f k. k.1) others h

-- a segment whose ends are at heights of the band meets what it meets there
met_here : (band : Band) (a b : Pos) → IsAt a.y band.heights → IsAt b.y band.heights → (f : Pos × Pos) → HaveCommonPoint a b f.0 f.1 → MeetsWithin band.heights.low band.heights.high a b f
met_here band a b h k f m =
    let o = (common_point_out a b f.0 f.1 m).overlap_y in
    (spans_true band.heights.low band.heights.high f.0 f.1 (omega (arith, ints, clamps, o, h.1, k.1)) (omega (arith, ints, clamps, o, h.0, k.0)), m)

pub met_in_band : (band : Band) (a b : Pos) (others : List (Pos × Pos)) → IsAt a.y band.heights → IsAt b.y band.heights → MeetsSome a b others → MeetsSomeWithin band.heights.low band.heights.high a b others
met_in_band band a b others h k m = some_map (λ (f : Pos × Pos). HaveCommonPoint a b f.0 f.1) (MeetsWithin band.heights.low band.heights.high a b) (met_here band a b h k) others m

-- ---- a segment and all zones

abbrev IsMemberMet : Pos → Pos → List (Pos × Pos) → Pos × Pos → Type 0
IsMemberMet a b others f = HaveCommonPoint a b f.0 f.1 × ((low high : ℤ) → MeetsWithin low high a b f → MeetsSomeWithin low high a b others)

members_met : (a b : Pos) (others : List (Pos × Pos)) → MeetsSome a b others → SomeOf (IsMemberMet a b others) others
members_met a b [] h = absurd h
members_met a b (e ∷ others) (inl h) = inl (h, λ low high k. inl k)
members_met a b (e ∷ others) (inr h) = inr (some_map (IsMemberMet a b others) (IsMemberMet a b (e ∷ others)) (λ f k. (k.0, λ low high l. inr (k.1 low high l))) others (members_met a b others h))

-- the lowest height that both segments have
abbrev shared_height : Pos → Pos → Pos × Pos → ℤ
shared_height a b f = int_max (int_min a.y b.y) (int_min f.0.y f.1.y)

heights_met : (a b : Pos) (f : Pos × Pos) → HaveCommonPoint a b f.0 f.1 → (heights : Heights) → IsAt (shared_height a b f) heights → IsTrue (spans heights.low heights.high (a, b)) × IsTrue (spans heights.low heights.high f)
heights_met a b f h heights k =
    let o = (common_point_out a b f.0 f.1 h).overlap_y in (
      spans_true heights.low heights.high a b (omega (arith, ints, clamps, o, k.1)) (omega (arith, ints, clamps, o, k.0)),
      spans_true heights.low heights.high f.0 f.1 (omega (arith, ints, clamps, o, k.1)) (omega (arith, ints, clamps, o, k.0)),
    )

met_at : (s : Shape) (a b : Pos) (f : Pos × Pos) → IsMemberMet a b (segments s) f → (band : Band) → IsAt (shared_height a b f) band.heights → IsMetIn a b s band
met_at s a b f h band k =
    let m = heights_met a b f h.0 band.heights k in (m.0, h.1 band.heights.low band.heights.high (m.1, h.0))

zone_met_at : (s : Shape) (a b : Pos) (f : Pos × Pos) → IsMemberMet a b (segments s) f → (zone : Zone) → IsZoneOf s zone → IsAt (shared_height a b f) zone.heights → IsMetInZone a b s zone
zone_met_at s a b f h zone v k = (
  (heights_met a b f h.0 zone.heights k).0,
  some_map (λ (band : Band). IsAt (shared_height a b f) band.heights) (IsMetIn a b s) (met_at s a b f h) zone.bands.items
      (some_by (IsAt (shared_height a b f)) heights_of_band zone.bands.items (v.covering (shared_height a b f) k.0 k.1)),
)

-- a segment whose ends are at heights of the zone meets what it meets in one of its bands
pub met_in_zone : (s : Shape) (zone : Zone) (a b : Pos) → IsZoneOf s zone → IsAt a.y zone.heights → IsAt b.y zone.heights → MeetsSome a b (segments s) → SomeOf (IsMetIn a b s) zone.bands.items
met_in_zone s zone a b v h k m =
    let (f, found) = some_one (IsMemberMet a b (segments s)) (segments s) (members_met a b (segments s) m) in
    let o = (common_point_out a b f.0 f.1 found.0).overlap_y in
    (zone_met_at s a b f found zone v (omega (arith, ints, clamps, o, h.0, k.0), omega (arith, ints, clamps, o, h.1, k.1))).1

pub met_zones : (s : Shape) (frame : Frame) (zones : List Zone) (a b : Pos) → AreZonesOf s frame zones → MeetsSome a b (segments s) → SomeOf (IsMetInZone a b s) zones
met_zones s frame zones a b kept h =
    let (f, found) = found_segment frame.around (IsMemberMet a b (segments s)) s (extent_covers frame.around (positions s) kept.framed.extent_is) (members_met a b (segments s) h) in
    let o = (common_point_out a b f.0 f.1 found.0.0).overlap_y in
    let u = sides frame.around f.0 found.1 in
    let v = sides frame.around f.1 found.2 in
    some_kept_map (IsZoneOf s) (λ (zone : Zone). IsAt (shared_height a b f) zone.heights) (IsMetInZone a b s) (zone_met_at s a b f found.0) zones kept.kept
    (some_by (IsAt (shared_height a b f)) heights_of_zone zones (kept.covering (shared_height a b f) (omega (arith, ints, clamps, o, u.below, v.below)) (omega (arith, ints, clamps, o, u.above, v.above))))

pub met_by_some : (s : Shape) (a b : Pos) (bands : List Band) → SomeOf (IsMetIn a b s) bands → MeetsSome a b (segments s)
met_by_some s a b bands h =
    let (band, k) = some_one (IsMetIn a b s) bands h in
    met_somewhere band.heights.low band.heights.high a b (segments s) k.1

-- ---- one more element of a list is passed

pub some_next : {X : Type 0} (Q : X → Type 0) (xs : List X) (i : ℕ) (d y : X) → i < length xs → y ≡ get_or xs i d → ¬ Q y → SomeOf Q (drop i xs) → SomeOf Q (drop (i + 1) xs)
some_next {X} Q xs i d y lt e f h = not_first Q (get_or xs i d) (drop (i + 1) xs) (λ k. f (subst Q (sym e) k)) (subst (SomeOf Q) (drop_more xs i d lt) h)
