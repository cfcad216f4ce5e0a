-- Positions one behind another that begin a text, read at once: a track stands for them. For `items`.
use Rattle.std.proofs.Common.{◌≡◌, inl, inr, ℕ, ◌+◌, ◌≤◌, min, Bool, false, List, [], ◌∷◌, ◌++◌, All, length, Option, Some, None, Result, Ok, Err, IfOk, refl, sym, ◌∙◌, ap, subst, arith}
use Rattle.std.proofs.lemmas.Option.{none-some}
use Rattle.std.proofs.lemmas.List.Elements.{All-nil, All-cons, All-append}
use Rattle.std.proofs.Math.Nat.{min-eq_left}
use Rattle.at_geom.specs.declared.positions.Pos.{Pos}
use Rattle.at_geom.specs.Segments.{IsInRange}
use Rattle.at_text.specs.declared.halts.Halt.{Halt}
use Rattle.at_wkt.specs.Positions.{Position}
use Rattle.at_nest.specs.Tree.{Tree, array, object}
use Rattle.at_nest.specs.Folds.{HasBrackets}
use Rattle.at_query.specs.Keeping.{Asked, kept, needs_shapes}
use Rattle.at_geojson.specs.declared.atoms.atom.GeoAtom.{GeoAtom}
use Rattle.at_geojson.specs.declared.atoms.atom.GeoAtom.TheVariants as atoms
use Rattle.at_geojson.specs.declared.atoms.atom.TrackAtom.{TrackAtom}
use Rattle.at_geojson.specs.declared.coordinates.pairs.PairRead.{PairRead}
use Rattle.at_geojson.specs.declared.coordinates.pairs.Whole.{Whole}
use Rattle.at_geojson.specs.Coordinates.{each, position_of}
use Rattle.at_geojson.specs.Atoms.{to_four, TrackView, track_view, AreTracked, IsOwn}
use Rattle.at_geojson.specs.Tracks.{view_of, both_tracks}
use Rattle.at_geojson.specs.Passing.{pair_of}
use Rattle.at_geojson.specs.Values.{IsSpacedPair}
use Rattle.at_geojson.specs.FeatureRuns.{AreItemsWhole}
use Rattle.at_geojson.specs.PositionRuns.{IsNextPair, PassesNext, ArePositionsRead, IsTrackRead}
use Rattle.at_geojson.proofs.FeatureJoins.{one_there, more_there}
use Rattle.at_geojson.proofs.PassedPairs.{placed_pair}
use Rattle.at_geojson.proofs.TrackFolds.{position_covers, tracked_append, to_four_both}

-- a tree that is a position is an array
has_brackets : (t : Tree) (p : Position) (ps : List Position) → each position_of (t ∷ []) ≡ Some (p ∷ ps) → HasBrackets t
has_brackets (array at ts) p ps e = tt
has_brackets (object at ms) p ps e = tt
has_brackets _ p ps e = absurd (none-some (p ∷ ps) e)

module _ (asked : Asked) (base : ℕ) (w : List ℕ) where
  abbrev needs : Bool
  needs = needs_shapes asked.query

  module _ (p : PairRead) where
    abbrev atom : GeoAtom
    atom = atoms.Position p.pair

    one_tracked : (at : ℕ) (h : IsSpacedPair asked base w at p) → AreTracked asked p.pair.at (view_of needs atom) (h.tree ∷ [])
    one_tracked at h = position_covers asked atom (h.tree ∷ []) refl (inl (h.tree, refl, h.fold))

    bracketed : (at : ℕ) (h : IsSpacedPair asked base w at p) → HasBrackets h.tree
    bracketed at h = let k = one_tracked at h in has_brackets h.tree k.first k.rest k.are

    pub positions_begin : IsSpacedPair asked base w 0 p → ArePositionsRead asked base w p.end p.pair.at (view_of needs atom)
    positions_begin h = record {
      before = h.ends;
      first = h.tree;
      others = [];
      there = one_there base w h.tree 0 p.end h.order h.within h.spells (bracketed 0 h);
      tracked = one_tracked 0 h;
    }

    pub positions_go_on : (end at : ℕ) (v : TrackView) → ArePositionsRead asked base w end at v → IsNextPair asked base w end p → ArePositionsRead asked base w p.end at (both_tracks v (view_of needs atom))
    positions_go_on end at v r next =
        let h = next.pair in
        let behind : at ≤ p.pair.at = omega (arith, r.before, h.begins) in
        record {
          before = omega (arith, r.before, h.order);
          first = r.first;
          others = r.others ++ h.tree ∷ [];
          there = more_there base w r.first r.others 0 end p.end h.tree r.there next.comma (omega (arith, h.order)) h.within h.spells (bracketed (end + 1) h);
          tracked = subst (λ n. AreTracked asked n (both_tracks v (view_of needs atom)) ((r.first ∷ r.others) ++ h.tree ∷ [])) (min-eq_left behind)
              (tracked_append asked at p.pair.at v (view_of needs atom) (r.first ∷ r.others) (h.tree ∷ []) r.tracked (one_tracked (end + 1) h));
        }

  -- what a track stands for, as the items of a text
  pub positions_end : (p : Whole) (t : TrackAtom) → p.atom ≡ atoms.Track t → All IsInRange t.track.value.path.items → ArePositionsRead asked base w p.end t.at (track_view t.track.value) → AreItemsWhole asked base w 0 p
  positions_end p t e range r = record {
    own = subst (IsOwn asked) (sym e) range;
    first = r.first;
    others = r.others;
    there = r.there;
    covers = inr (inr (inr (t, e, r.tracked)));
  }

  pub position_alone : (p : PairRead) → IsSpacedPair asked base w 0 p → AreItemsWhole asked base w 0 (record { end = p.end; atom = atoms.Position p.pair })
  unfolding positions_begin
  position_alone p h = record {
    own = h.own;
    first = h.tree;
    others = [];
    there = (positions_begin p h).there;
    covers = inl (h.tree, refl, h.fold);
  }

  -- ---- so many positions, with the values that are kept

  abbrev pub seen : PairRead → Option Pos → ℕ → List Pos → TrackView
  seen first last count path = record { first = Some first.pair.pos; last = last; count = count; fault = None; path = path }

  -- the positions so far, of which the last is anywhere
  abbrev pub ArePositionsSoFar : ℕ → PairRead → Option Pos → ℕ → List Pos → Type 0
  ArePositionsSoFar end first last count path = ArePositionsRead asked base w end first.pair.at (seen first last count path)

  module _ (b : Bool) (same : needs ≡ b) where
    pub first_seen : (p : PairRead) → IsSpacedPair asked base w 0 p → ArePositionsSoFar p.end p (Some p.pair.pos) 1 (kept b (p.pair.pos ∷ []))
    first_seen p h = subst (λ c. ArePositionsRead asked base w p.end p.pair.at (view_of c (atoms.Position p.pair))) same (positions_begin p h)

    pub next_seen : (end count more : ℕ) (path : List Pos) (first p : PairRead) (last : Option Pos) → ArePositionsSoFar end first last count path → IsNextPair asked base w end p → ((n : ℕ) → count ≡ to_four n → more ≡ to_four (n + 1))
        → ArePositionsSoFar p.end first (Some p.pair.pos) more (path ++ kept b (p.pair.pos ∷ []))
    next_seen end count more path first p last r next step =
        let n : ℕ = length (r.tracked.first ∷ r.tracked.rest) in
        let here : count ≡ to_four n = r.tracked.track.count in
        let there : to_four (count + 1) ≡ more = to_four_both count 1 n 1 here refl ∙ sym (step n here) in
        subst (λ k. ArePositionsSoFar p.end first (Some p.pair.pos) k (path ++ kept b (p.pair.pos ∷ []))) there
        (subst (λ c. ArePositionsRead asked base w p.end first.pair.at (both_tracks (seen first last count path) (view_of c (atoms.Position p.pair)))) same
        (positions_go_on p end first.pair.at (seen first last count path) r next))

  pub positions_told : (end count : ℕ) (first last : PairRead) (path : List Pos) → end ≡ last.end → All IsInRange path → ArePositionsSoFar end first (Some last.pair.pos) count path
      → (found : Result Whole Halt) → IfOk found (IsTrackRead first count last path) → IfOk found (AreItemsWhole asked base w 0)
  positions_told end count first last path e range r (Ok p) made =
      positions_end p made.track made.atom (subst (λ (v : TrackView). All IsInRange v.path) (sym made.view) range)
      (subst (λ n. ArePositionsRead asked base w n made.track.at (track_view made.track.track.value)) (e ∙ sym made.behind)
      (subst (λ n. ArePositionsRead asked base w end n (track_view made.track.track.value)) (sym made.at_is)
      (subst (ArePositionsRead asked base w end first.pair.at) (sym made.view) r)))
  positions_told end count first last path e range r (Err halt) made = tt

  pub range_more : (path : List Pos) (end : ℕ) (p : PairRead) → All IsInRange path → IsNextPair asked base w end p → All IsInRange (path ++ p.pair.pos ∷ [])
  range_more path end p range next = All-append IsInRange path (p.pair.pos ∷ []) range (All-cons IsInRange p.pair.pos [] next.pair.own (All-nil IsInRange))

  -- ---- positions that are passed over

  -- so many positions were passed over, of which the last is anywhere
  abbrev pub ArePassedSoFar : ℕ → PairRead → ℕ → Type 0
  ArePassedSoFar end first count = (last : Option Pos) × ArePositionsSoFar end first last count []

  -- a position that is passed over is one that might be read
  pub passed_next : (at end : ℕ) → PassesNext asked w at end → (p : PairRead) × (p.end ≡ end) × IsNextPair asked base w at p
  passed_next at end h =
      let (place, e, (q, k)) = h.passed in
      (record { end = place.end; pair = pair_of base place q }, e, record { inside = h.inside; comma = h.comma; pair = placed_pair asked base w (at + 1) place q k })

  pub ahead_within : (at end : ℕ) → PassesNext asked w at end → end ≤ length w
  ahead_within at end h = let (p, e, next) = passed_next at end h in subst (λ n. n ≤ length w) e next.pair.within

  pub passing_on : (end ahead count more : ℕ) (first : PairRead) → needs ≡ false → ArePassedSoFar end first count → PassesNext asked w end ahead → ((n : ℕ) → count ≡ to_four n → more ≡ to_four (n + 1)) → ArePassedSoFar ahead first more
  passing_on end ahead count more first none r h step =
      let (p, e, next) = passed_next end ahead h in
      subst (λ n. ArePassedSoFar n first more) e (Some p.pair.pos, next_seen false none end count more [] first p r.0 r.1 next step)
